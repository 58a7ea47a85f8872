use Rattle.std.proofs.Common.{◌≡◌, drop}
use Rattle.type_rules.specs.Asks.{Reads}
use Rattle.type_rules.specs.Scenes.{WhereTold, scene_of}
use Rattle.expr_sem.specs.Codings.{with_types}
use Rattle.expr_sem.specs.Selections.{with_number}
use Rattle.expr_sem.proofs.record_fields.field_of_withs.Given as goal

-- the field is that of the WITHs that are left
abbrev pub invariant-loop-number : goal.invariant-loop-number
invariant-loop-number g l =
    let state = g.S.Scopes.state in
    let f = (state l.fn.scopes).frame in
    record {
      reads : Reads (state l.fn.scopes) (state l.scopes);
      left : WhereTold f (λ made. with_number (scene_of f made l.around) l.number (with_types (drop l.number l.withs)) l.name ≡ with_number (scene_of f made l.around) 0 (with_types l.withs) l.name);
    }

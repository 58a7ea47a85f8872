use Rattle.std.proofs.Common.{◌≡◌}
use Rattle.type_rules.specs.Asks.{Reads}
use Rattle.type_rules.specs.Forms.{parameters_from}
use Rattle.type_rules.specs.Scenes.{WhereTold, scene_of}
use Rattle.type_rules.proofs.forms.next_parameter.Given as goal

-- the parameters are those among the rows that are left
abbrev pub invariant-loop-ordinal : goal.invariant-loop-ordinal
invariant-loop-ordinal g l =
    let state = g.S.Scopes.state in
    let f = (state l.fn.scopes).frame in
    record {
      reads : Reads (state l.fn.scopes) (state l.scopes);
      left : WhereTold f (λ made. parameters_from (scene_of f made l.around) l.of l.start ≡ parameters_from (scene_of f made l.around) l.of l.ordinal);
    }

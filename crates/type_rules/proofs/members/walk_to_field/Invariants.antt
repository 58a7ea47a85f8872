use Rattle.std.proofs.Common.{◌≡◌}
use Rattle.std.specs.Prelude.{find}
use Rattle.m2_base.specs.Statics.TypeParts.{is_field, rows_between}
use Rattle.type_rules.specs.Asks.{Reads}
use Rattle.type_rules.specs.Scenes.{WhereTold, scene_of}
use Rattle.type_rules.proofs.members.walk_to_field.Given as goal

-- the field is that among the rows that are left
abbrev pub invariant-loop-ordinal : goal.invariant-loop-ordinal
invariant-loop-ordinal g l =
    let state = g.S.Scopes.state in
    let f = (state l.fn.scopes).frame in
    record {
      reads : Reads (state l.fn.scopes) (state l.scopes);
      left : WhereTold f (λ made.
          find (is_field l.of.ordinal l.name) (rows_between (scene_of f made l.around) l.of.scope l.ordinal l.of.ordinal)
          ≡ find (is_field l.of.ordinal l.name) (rows_between (scene_of f made l.around) l.of.scope l.first l.of.ordinal));
    }

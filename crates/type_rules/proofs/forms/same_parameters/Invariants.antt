use Rattle.std.proofs.Common.{◌≡◌, ◌≤◌, ◌-◌}
use Rattle.m2_base.specs.Statics.SameForm.{are_same_parameters}
use Rattle.type_rules.specs.Asks.{Reads}
use Rattle.type_rules.specs.Forms.{parameters_from}
use Rattle.type_rules.specs.Scenes.{WhereTold, scene_of}
use Rattle.type_rules.proofs.forms.same_parameters.Given as goal

-- the lists are the same where what is left of them is
abbrev pub invariant-parameters : goal.invariant-parameters
invariant-parameters g l =
    let state = g.S.Scopes.state in
    let f = (state l.fn.scopes).frame in
    record {
      reads : Reads (state l.fn.scopes) (state l.scopes);
      within : l.left ≤ l.x.of.ordinal;
      left : WhereTold f (λ made.
          are_same_parameters (scene_of f made l.around) (parameters_from (scene_of f made l.around) l.x.of l.x.first) (parameters_from (scene_of f made l.around) l.y.of l.y.first)
          ≡ are_same_parameters (scene_of f made l.around) (parameters_from (scene_of f made l.around) l.x.of l.left) (parameters_from (scene_of f made l.around) l.y.of l.right));
    }

abbrev pub decreases-parameters : goal.decreases-parameters
decreases-parameters g l = l.x.of.ordinal - l.left

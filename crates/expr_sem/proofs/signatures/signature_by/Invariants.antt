use Rattle.std.proofs.Common.{◌≡◌, ◌≤◌, ◌-◌, ◌++◌, map}
use Rattle.m2_base.specs.Lists.{Each}
use Rattle.type_rules.specs.Asks.{Reads}
use Rattle.type_rules.specs.Forms.{parameters_from}
use Rattle.type_rules.specs.Scenes.{IsThere, WhereTold, scene_of}
use Rattle.expr_sem.specs.ArgumentCodes.{parameter_view}
use Rattle.expr_sem.proofs.signatures.signature_by.Given as goal

-- the parameters so far and those that are left are all
abbrev pub invariant-parameters : goal.invariant-parameters
invariant-parameters g l =
    let state = g.S.Scopes.state in
    let f = (state l.fn.scopes).frame in
    record {
      reads : Reads (state l.fn.scopes) (state l.scopes);
      within : l.start ≤ l.form.of.ordinal;
      there : Each (λ p. IsThere f p.of) l.params.items;
      left : WhereTold f (λ made. map parameter_view l.params.items ++ parameters_from (scene_of f made l.site.around.now) l.form.of l.start ≡ parameters_from (scene_of f made l.site.around.now) l.form.of l.form.first);
    }

abbrev pub decreases-parameters : goal.decreases-parameters
decreases-parameters g l = l.form.of.ordinal - l.start

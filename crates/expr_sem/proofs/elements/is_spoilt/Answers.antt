use Rattle.std.specs.Prelude.{Bool, ◌≡◌, ◌||◌}
use Rattle.std.proofs.Common.{◌∙◌, subst, sym}
use Rattle.m2_base.specs.Statics.Types.{is_broken}
use Rattle.type_rules.specs.Asks.{WhereKnown}
use Rattle.type_rules.specs.Scenes.{scene_of}
use Rattle.expr_sem.proofs.elements.is_spoilt.Goals as goal

pub returns-clause-told : goal.returns-clause-told
returns-clause-told g c made in_hand told =
    let scene = scene_of (g.S.Scopes.state c.args.scopes.now).frame made c.args.around.now in
    subst (λ (b : Bool). WhereKnown c.is_broken.result (λ holds. holds ≡ (b || is_broken scene c.args.of))) (sym c.if-is_bad.false ∙ c.is_bad.ensures)
    (c.is_broken.ensures.told made in_hand told)

use Rattle.std.specs.Prelude.{Some, option_map}
use Rattle.std.proofs.Common.{◌∙◌, ap, sym}
use Rattle.m2_base.specs.Statics.Types.{stands_for}
use Rattle.type_rules.specs.Scenes.{scene_of}
use Rattle.decl_sem.proofs.subranges.base_in.Goals as goal

pub returns-in-Known-clause-there : goal.returns-in-Known-clause-there
returns-in-Known-clause-there g c = c.in-Known.ensures.there

pub returns-in-Known-clause-told : goal.returns-in-Known-clause-told
returns-in-Known-clause-told g c made in_hand told =
    let scene = scene_of (g.S.Scopes.state c.args.scopes.now).frame made c.args.site.now.around.now in
    ap (λ p. Some p) (c.in-Known.ensures.told made in_hand told) ∙ ap (option_map (stands_for scene)) (sym c.in-Some.is)

pub returns-in-None-clause-told : goal.returns-in-None-clause-told
returns-in-None-clause-told g c made in_hand told =
    ap (option_map (stands_for (scene_of (g.S.Scopes.state c.args.scopes.now).frame made c.args.site.now.around.now))) (sym c.in-None.is)

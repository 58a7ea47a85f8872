use Rattle.m2_base.specs.Rows.{is_same_place}
use Rattle.m2_base.specs.Statics.Types.{stands_for}
use Rattle.m2_base.specs.declared.rows.Place.{Place}
use Rattle.std.proofs.Common.{◌≡◌, subst}
use Rattle.type_rules.specs.Asks.{WhereKnown}
use Rattle.type_rules.specs.Scenes.{scene_of}
use Rattle.const_eval.proofs.Standard.{broken_stands}
use Rattle.const_eval.proofs.structures.is_broken.Goals as goal

pub returns-clause-told : goal.returns-clause-told
returns-clause-told g c made in_hand told =
    let f = (g.S.Scopes.state c.args.scopes.now).frame in
    let a = c.args.around.now in
    subst (λ (t : Place). WhereKnown c.same.result (λ holds. holds ≡ is_same_place (stands_for (scene_of f made a) c.args.of) t)) (broken_stands f made a c.requires.suits told) (c.same.ensures.told made in_hand told)

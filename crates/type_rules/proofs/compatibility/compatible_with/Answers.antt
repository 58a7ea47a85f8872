use Rattle.std.proofs.Common.{◌≡◌, ◌∙◌, sym}
use Rattle.m2_base.specs.Statics.Operands.{operand_type}
use Rattle.m2_base.specs.Statics.Types.{base_of}
use Rattle.type_rules.specs.Scenes.{scene_of}
use Rattle.type_rules.proofs.Compatibles.{compatible_beside, compatible_bases as by_bases, told_under}
use Rattle.type_rules.proofs.compatibility.compatible_with.Goals as goal

pub returns-then-is_char_beside-clause-told : goal.returns-then-is_char_beside-clause-told
returns-then-is_char_beside-clause-told g c made in_hand told left right =
    compatible_beside (scene_of (g.S.Scopes.state c.args.scopes.now).frame made c.args.around.now) c.args.x.now c.args.y.now c.args.left c.args.right left right
    (sym c.is_char_beside.ensures ∙ c.if-is_char_beside.true)

pub returns-clause-told : goal.returns-clause-told
returns-clause-told g c made in_hand told =
    let scene = scene_of (g.S.Scopes.state c.args.scopes.now).frame made c.args.around.now in
    told_under c.compatible_bases.result (c.args.left ≡ base_of scene (operand_type c.args.x.now)) (c.args.right ≡ base_of scene (operand_type c.args.y.now)) _ _ (c.compatible_bases.ensures.told made in_hand told)
    (λ left right. by_bases scene c.args.x.now c.args.y.now c.args.left c.args.right left right (sym c.is_char_beside.ensures ∙ c.if-is_char_beside.false))

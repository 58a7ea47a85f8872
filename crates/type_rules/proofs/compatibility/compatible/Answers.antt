use Rattle.std.proofs.Common.{◌≡◌, ◌∙◌, ap}
use Rattle.m2_base.specs.Statics.Compatible.{is_compatible}
use Rattle.m2_base.specs.Statics.Operands.{operand_type}
use Rattle.m2_base.specs.Statics.Types.{base_of}
use Rattle.type_rules.specs.Scenes.{scene_of}
use Rattle.type_rules.proofs.Compatibles.{told_met}
use Rattle.type_rules.proofs.Later.{IsThere_read, Suits_read, Waits_asked}
use Rattle.type_rules.proofs.Reading.{Reads-trans}
use Rattle.type_rules.proofs.compatibility.compatible.Goals as goal

pub compatible_with-requires-clause-suits : goal.compatible_with-requires-clause-suits
compatible_with-requires-clause-suits g c = Suits_read c.in-Known.ensures.reads c.requires.suits

pub compatible_with-requires-clause-left : goal.compatible_with-requires-clause-left
compatible_with-requires-clause-left g c = IsThere_read c.in-Known.ensures.reads c.in-Known.ensures.there.0

pub compatible_with-requires-clause-right : goal.compatible_with-requires-clause-right
compatible_with-requires-clause-right g c = IsThere_read c.in-Known.ensures.reads c.in-Known.ensures.there.1

pub returns-clause-reads : goal.returns-clause-reads
returns-clause-reads g c = Reads-trans c.in-Known.ensures.reads c.compatible_with.ensures.reads

pub returns-clause-waits : goal.returns-clause-waits
returns-clause-waits g c = Waits_asked c.compatible_with.result (g.S.Scopes.state c.compatible_with.new.scopes) c.in-Known.ensures.reads c.compatible_with.ensures.waits

pub returns-clause-told : goal.returns-clause-told
returns-clause-told g c =
    let f = (g.S.Scopes.state c.args.scopes.now).frame in
    let a = c.args.around.now in
    told_met c.compatible_with.result f _ (λ h rows. c.in-Known.value.0 ≡ base_of (scene_of h rows a) (operand_type c.args.x.now)) (λ h rows. c.in-Known.value.1 ≡ base_of (scene_of h rows a) (operand_type c.args.y.now))
    (λ h rows. is_compatible (scene_of h rows a) c.args.x.now c.args.y.now) c.in-Known.ensures.reads.keeps.frame c.compatible_with.ensures.told
    (λ made in_hand told. c.in-Known.ensures.left made in_hand told ∙ ap (base_of (scene_of f made a)) c.operand_type.ensures)
    (λ made in_hand told. c.in-Known.ensures.right made in_hand told ∙ ap (base_of (scene_of f made a)) c.operand_type-2.ensures)

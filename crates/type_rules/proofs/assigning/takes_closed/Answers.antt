use Rattle.std.proofs.Common.{◌∙◌, sym, ap}
use Rattle.std.specs.Prelude.{Bool, not, ◌&&◌}
use Rattle.m2_base.specs.Statics.Assignable.{is_open_array as spec_open_array}
use Rattle.type_rules.specs.Assigning.{takes_closed as spec_takes_closed, takes_value as spec_takes_value}
use Rattle.type_rules.specs.Scenes.{scene_of}
use Rattle.type_rules.proofs.Compatibles.{told_as}
use Rattle.type_rules.proofs.Procedures.{takes_if_closed}
use Rattle.type_rules.proofs.Later.{IsThere_read, Suits_read, Waits_asked}
use Rattle.type_rules.proofs.Reading.{Reads-trans}
use Rattle.type_rules.proofs.assigning.takes_closed.Goals as goal

pub takes_value-requires-clause-suits : goal.takes_value-requires-clause-suits
takes_value-requires-clause-suits g c = Suits_read c.in-Known.ensures.reads c.requires.suits

pub takes_value-requires-clause-to : goal.takes_value-requires-clause-to
takes_value-requires-clause-to g c = IsThere_read c.in-Known.ensures.reads c.requires.to

pub returns-clause-reads : goal.returns-clause-reads
returns-clause-reads g c = Reads-trans c.in-Known.ensures.reads c.takes_value.ensures.reads

pub returns-clause-waits : goal.returns-clause-waits
returns-clause-waits g c = Waits_asked c.takes_value.result (g.S.Scopes.state c.takes_value.new.scopes) c.in-Known.ensures.reads c.takes_value.ensures.waits

pub returns-clause-told : goal.returns-clause-told
returns-clause-told g c =
    let f = (g.S.Scopes.state c.args.scopes.now).frame in
    told_as c.takes_value.result f (g.S.Scopes.state c.is_open_array.new.scopes).frame (λ h made. spec_takes_value (scene_of h made c.args.around.now) c.args.to c.args.operand.now)
    (λ made. spec_takes_closed (scene_of f made c.args.around.now) c.args.to c.args.operand.now) c.in-Known.ensures.reads.keeps.frame c.takes_value.ensures.told
    (λ made in_hand told. takes_if_closed (scene_of f made c.args.around.now) c.args.to c.args.operand.now
    (ap (spec_open_array (scene_of f made c.args.around.now)) (sym c.operand_type.ensures) ∙ sym (c.in-Known.ensures.told made in_hand told) ∙ c.if-value.false))

pub returns-then-value-clause-told : goal.returns-then-value-clause-told
returns-then-value-clause-told g c made in_hand told =
    let scene = scene_of (g.S.Scopes.state c.args.scopes.now).frame made c.args.around.now in
    sym (ap (λ (b : Bool). not b && spec_takes_value scene c.args.to c.args.operand.now)
    (ap (spec_open_array scene) (sym c.operand_type.ensures) ∙ sym (c.in-Known.ensures.told made in_hand told) ∙ c.if-value.true))

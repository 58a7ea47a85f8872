use Rattle.std.proofs.Common.{◌∙◌, ◌||◌, ap, sym}
use Rattle.m2_base.specs.Statics.Operands.{operand_type as spec_type}
use Rattle.type_rules.specs.Assigning.{takes_other as spec_takes_other, takes_value as spec_takes_value}
use Rattle.type_rules.specs.Scenes.{scene_of}
use Rattle.type_rules.proofs.Compatibles.{told_as}
use Rattle.type_rules.proofs.Later.{IsThere_read, Suits_read, Waits_asked}
use Rattle.type_rules.proofs.Reading.{Reads-trans}
use Rattle.type_rules.proofs.assigning.takes_value.Goals as goal

pub takes_other-requires-clause-suits : goal.takes_other-requires-clause-suits
takes_other-requires-clause-suits g c = Suits_read c.in-Known.ensures.reads c.requires.suits

pub takes_other-requires-clause-to : goal.takes_other-requires-clause-to
takes_other-requires-clause-to g c = IsThere_read c.in-Known.ensures.reads c.requires.to

pub returns-clause-reads : goal.returns-clause-reads
returns-clause-reads g c = Reads-trans c.in-Known.ensures.reads c.takes_other.ensures.reads

pub returns-clause-waits : goal.returns-clause-waits
returns-clause-waits g c = Waits_asked c.takes_other.result (g.S.Scopes.state c.takes_other.new.scopes) c.in-Known.ensures.reads c.takes_other.ensures.waits

pub returns-clause-told : goal.returns-clause-told
returns-clause-told g c =
    let f = (g.S.Scopes.state c.args.scopes.now).frame in
    told_as c.takes_other.result f _ (λ h made. spec_takes_other (scene_of h made c.args.around.now) c.args.to c.operand_type.result)
    (λ made. spec_takes_value (scene_of f made c.args.around.now) c.args.to c.args.operand.now)
    c.in-Known.ensures.reads.keeps.frame c.takes_other.ensures.told
    (λ made in_hand told. let scene = scene_of f made c.args.around.now in
    ap (spec_takes_other scene c.args.to) c.operand_type.ensures
    ∙ ap (λ b. b || spec_takes_other scene c.args.to (spec_type c.args.operand.now)) (sym c.if-value.false ∙ c.in-Known.ensures.told made in_hand told))

pub compatible-requires-clause-x : goal.compatible-requires-clause-x
compatible-requires-clause-x g c = c.requires.operand

pub compatible-requires-clause-y : goal.compatible-requires-clause-y
compatible-requires-clause-y g c = c.requires.to

pub compatible-requires-clause-suits : goal.compatible-requires-clause-suits
compatible-requires-clause-suits g c = c.requires.suits

pub operand_type-requires : goal.operand_type-requires
operand_type-requires g c = tt

pub returns-in-DontKnowYet : goal.returns-in-DontKnowYet
returns-in-DontKnowYet g c =
    record {
      reads = c.in-DontKnowYet.ensures.reads;
      waits = c.in-DontKnowYet.ensures.waits;
      told = λ made in_hand told. tt;
    }

pub returns-then-value : goal.returns-then-value
returns-then-value g c =
    record {
      reads = c.in-Known.ensures.reads;
      waits = tt;
      told = λ made in_hand told. (let scene = scene_of (g.S.Scopes.state c.args.scopes.now).frame made c.args.around.now in
          ap (λ b. b || spec_takes_other scene c.args.to (spec_type c.args.operand.now)) (sym c.if-value.true ∙ c.in-Known.ensures.told made in_hand told));
    }

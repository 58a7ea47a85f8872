use Rattle.std.proofs.Common.{◌∙◌, sym}
use Rattle.m2_base.specs.Statics.Types.{kind_of}
use Rattle.type_rules.specs.Scenes.{scene_of}
use Rattle.type_rules.specs.Sites.{context_of}
use Rattle.type_rules.proofs.Later.{IsThere_read, Suits_read}
use Rattle.type_rules.proofs.Reading.{Reads-trans, Waits_read}
use Rattle.const_eval.proofs.Judging.{told_first}
use Rattle.const_eval.proofs.Operating.{compared, scalars_by}
use Rattle.const_eval.proofs.TypesThere.{standard_there}
use Rattle.const_eval.proofs.operators.on_scalars.Goals as goal

pub stand-requires-2-clause-suits : goal.stand-requires-2-clause-suits
stand-requires-2-clause-suits g c = Suits_read c.in-Known.ensures.reads c.requires.suits.around

pub stand-requires-2-clause-there : goal.stand-requires-2-clause-there
stand-requires-2-clause-there g c = IsThere_read c.in-Known.ensures.reads c.requires.y.base

pub returns-then-compares-clause-reads : goal.returns-then-compares-clause-reads
returns-then-compares-clause-reads g c = Reads-trans c.in-Known.ensures.reads c.in-Known-stand.ensures.reads

pub returns-else-compares-clause-reads : goal.returns-else-compares-clause-reads
returns-else-compares-clause-reads g c = Reads-trans c.in-Known.ensures.reads c.in-Known-stand.ensures.reads

pub returns-then-compares-clause-told : goal.returns-then-compares-clause-told
returns-then-compares-clause-told g c made in_hand told left right =
    let f = (g.S.Scopes.state c.args.scopes.now).frame in
    let s = c.args.site.now in
    let now = context_of f made s in
    c.combined.ensures.told now
    ∙ scalars_by now c.args.operator.operator c.args.operator.at c.args.x.operand c.args.y.operand c.args.x.base c.args.y.base left right _
    (sym c.if-compares.true ∙ c.compares.ensures
    ∙ compared now.scene c.args.operator.operator c.args.x.base c.args.y.base c.in-Known.value.1 c.in-Known-stand.value.1 (c.in-Known.ensures.kind made in_hand told)
    (told_first c.in-Known-stand.value.1 f _ (λ h rows. kind_of (scene_of h rows s.around.now) c.args.y.base) c.in-Known.ensures.reads.keeps.frame c.in-Known-stand.ensures.kind made in_hand told))

pub returns-else-compares-clause-told : goal.returns-else-compares-clause-told
returns-else-compares-clause-told g c made in_hand told left right =
    let f = (g.S.Scopes.state c.args.scopes.now).frame in
    let s = c.args.site.now in
    let now = context_of f made s in
    scalars_by now c.args.operator.operator c.args.operator.at c.args.x.operand c.args.y.operand c.args.x.base c.args.y.base left right _
    (sym c.if-compares.false ∙ c.compares.ensures
    ∙ compared now.scene c.args.operator.operator c.args.x.base c.args.y.base c.in-Known.value.1 c.in-Known-stand.value.1 (c.in-Known.ensures.kind made in_hand told)
    (told_first c.in-Known-stand.value.1 f _ (λ h rows. kind_of (scene_of h rows s.around.now) c.args.y.base) c.in-Known.ensures.reads.keeps.frame c.in-Known-stand.ensures.kind made in_hand told))

pub returns-in-DontKnowYet : goal.returns-in-DontKnowYet
returns-in-DontKnowYet g c =
    record {
      reads = c.in-DontKnowYet.ensures.reads;
      waits = c.in-DontKnowYet.ensures.waits;
      told = λ made in_hand told. tt;
      there = tt;
    }

pub returns-in-DontKnowYet-stand : goal.returns-in-DontKnowYet-stand
returns-in-DontKnowYet-stand g c =
    record {
      reads = Reads-trans c.in-Known.ensures.reads c.in-DontKnowYet-stand.ensures.reads;
      waits = Waits_read c.in-Known.ensures.reads c.in-DontKnowYet-stand.ensures.waits;
      told = λ made in_hand told. tt;
      there = tt;
    }

pub returns-else-compares-clause-waits : goal.returns-else-compares-clause-waits
returns-else-compares-clause-waits g c = tt

pub returns-then-compares-clause-waits : goal.returns-then-compares-clause-waits
returns-then-compares-clause-waits g c = tt

pub combined-requires : goal.combined-requires
combined-requires g c = tt

pub compares-requires : goal.compares-requires
compares-requires g c = tt

pub returns-else-compares-clause-there : goal.returns-else-compares-clause-there
returns-else-compares-clause-there g c = tt

pub returns-then-compares-clause-there : goal.returns-then-compares-clause-there
returns-then-compares-clause-there g c = c.combined.ensures.there (g.S.Scopes.state c.args.scopes.now).frame (standard_there c.requires.suits.around 3)

pub stand-requires : goal.stand-requires
stand-requires g c = record { suits = c.requires.suits.around; there = c.requires.x.base }

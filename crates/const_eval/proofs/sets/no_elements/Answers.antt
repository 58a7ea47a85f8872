use Rattle.std.proofs.Common.{◌∙◌, ap, pos, sym, if◌then◌else◌}
use Rattle.m2_base.specs.Statics.Types.{is_broken}
use Rattle.m2_base.specs.declared.operands.Operand.TheVariants.{Constant, InError}
use Rattle.type_rules.specs.Scenes.{scene_of}
use Rattle.type_rules.proofs.Later.{IsThere_read, Suits_read}
use Rattle.type_rules.proofs.Reading.{Reads-trans, Waits_read}
use Rattle.const_eval.proofs.Judging.{told_first}
use Rattle.const_eval.proofs.sets.no_elements.Goals as goal

pub is_broken-requires-clause-suits : goal.is_broken-requires-clause-suits
is_broken-requires-clause-suits g c = Suits_read c.in-Known.ensures.reads c.requires.suits.around

pub is_broken-requires-clause-there : goal.is_broken-requires-clause-there
is_broken-requires-clause-there g c = IsThere_read c.in-Known.ensures.reads c.in-Known.ensures.there

pub returns-then-value-clause-reads : goal.returns-then-value-clause-reads
returns-then-value-clause-reads g c = Reads-trans c.in-Known.ensures.reads c.in-Known-is_broken.ensures.reads

pub returns-else-value-clause-reads : goal.returns-else-value-clause-reads
returns-else-value-clause-reads g c = Reads-trans c.in-Known.ensures.reads c.in-Known-is_broken.ensures.reads

pub returns-then-value-clause-told : goal.returns-then-value-clause-told
returns-then-value-clause-told g c made in_hand told =
    let f = (g.S.Scopes.state c.args.scopes.now).frame in
    let a = c.args.site.now.around.now in
    ap (λ b. if b then InError else Constant c.args.of (pos 0))
    (sym c.if-value.true ∙ told_first _ f _ (λ h rows. is_broken (scene_of h rows a) c.in-Known.value) c.in-Known.ensures.reads.keeps.frame c.in-Known-is_broken.ensures.told made in_hand told
    ∙ ap (is_broken (scene_of f made a)) (c.in-Known.ensures.told made in_hand told))

pub returns-else-value-clause-told : goal.returns-else-value-clause-told
returns-else-value-clause-told g c made in_hand told =
    let f = (g.S.Scopes.state c.args.scopes.now).frame in
    let a = c.args.site.now.around.now in
    ap (λ b. if b then InError else Constant c.args.of (pos 0))
    (sym c.if-value.false ∙ told_first _ f _ (λ h rows. is_broken (scene_of h rows a) c.in-Known.value) c.in-Known.ensures.reads.keeps.frame c.in-Known-is_broken.ensures.told made in_hand told
    ∙ ap (is_broken (scene_of f made a)) (c.in-Known.ensures.told made in_hand told))

pub returns-in-DontKnowYet : goal.returns-in-DontKnowYet
returns-in-DontKnowYet g c =
    record {
      reads = c.in-DontKnowYet.ensures.reads;
      waits = c.in-DontKnowYet.ensures.waits;
      told = λ made in_hand told. tt;
      there = tt;
    }

pub returns-in-DontKnowYet-is_broken : goal.returns-in-DontKnowYet-is_broken
returns-in-DontKnowYet-is_broken g c =
    record {
      reads = Reads-trans c.in-Known.ensures.reads c.in-DontKnowYet-is_broken.ensures.reads;
      waits = Waits_read c.in-Known.ensures.reads c.in-DontKnowYet-is_broken.ensures.waits;
      told = λ made in_hand told. tt;
      there = tt;
    }

pub returns-then-value-clause-waits : goal.returns-then-value-clause-waits
returns-then-value-clause-waits g c = tt

pub returns-else-value-clause-waits : goal.returns-else-value-clause-waits
returns-else-value-clause-waits g c = tt

pub returns-then-value-clause-there : goal.returns-then-value-clause-there
returns-then-value-clause-there g c = tt

pub set_base-requires : goal.set_base-requires
set_base-requires g c = record { suits = c.requires.suits; of = c.requires.of }

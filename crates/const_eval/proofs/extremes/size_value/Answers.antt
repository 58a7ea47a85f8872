use Rattle.std.proofs.Common.{◌∙◌, ap, sym, if◌then◌else◌}
use Rattle.std.specs.Prelude.{pos}
use Rattle.m2_base.specs.Gives.{gives}
use Rattle.m2_base.specs.Standard.{cardinal}
use Rattle.m2_base.specs.Statics.Functions.{size_value, wrong_at}
use Rattle.m2_base.specs.declared.operands.Operand.TheVariants.{Computed, Constant}
use Rattle.type_rules.specs.Sites.{context_of}
use Rattle.type_rules.proofs.Reading.{Reads-refl}
use Rattle.const_eval.proofs.ReadParts.{number_told}
use Rattle.const_eval.proofs.extremes.size_value.Goals as goal

pub returns-in-Known-clause-told : goal.returns-in-Known-clause-told
returns-in-Known-clause-told g c made in_hand told =
    let now = context_of (g.S.Scopes.state c.args.scopes.now).frame made c.args.site.now in
    ap (λ v. gives (Constant cardinal v)) (number_told c.in-Known.value c.in-Known.ensures.small)
    ∙ ap (λ n. gives (Constant cardinal (pos n))) (c.in-Known.ensures.told made in_hand told)
    ∙ ap (size_value now c.args.at) (sym c.in-NamedType.is)

pub returns-else-value-clause-told : goal.returns-else-value-clause-told
returns-else-value-clause-told g c made in_hand told =
    let now = context_of (g.S.Scopes.state c.args.scopes.now).frame made c.args.site.now in
    ap (λ b. if b then wrong_at now c.args.at else gives (Computed cardinal)) (sym c.if-value.false ∙ c.in-Known-is_open_array.ensures.told made in_hand told)
    ∙ ap (size_value now c.args.at) (sym c.in-Variable.is)

pub size_of-requires : goal.size_of-requires
size_of-requires g c = record { suits = c.requires.suits.around; there = rw c.in-NamedType.is at c.requires.x }

pub is_open_array-requires : goal.is_open_array-requires
is_open_array-requires g c = record { suits = c.requires.suits.around; there = rw c.in-Variable.is at c.requires.x }

pub returns-in-DontKnowYet : goal.returns-in-DontKnowYet
returns-in-DontKnowYet g c =
    record {
      reads = c.in-DontKnowYet.ensures.reads;
      waits = c.in-DontKnowYet.ensures.waits;
      told = λ made in_hand told. tt;
      there = tt;
    }

pub returns-in-DontKnowYet-is_open_array : goal.returns-in-DontKnowYet-is_open_array
returns-in-DontKnowYet-is_open_array g c =
    record {
      reads = c.in-DontKnowYet-is_open_array.ensures.reads;
      waits = c.in-DontKnowYet-is_open_array.ensures.waits;
      told = λ made in_hand told. tt;
      there = tt;
    }

pub returns-in-InError-clause-reads : goal.returns-in-InError-clause-reads
returns-in-InError-clause-reads g c = Reads-refl _

pub returns-in-InError-clause-waits : goal.returns-in-InError-clause-waits
returns-in-InError-clause-waits g c = tt

pub returns-in-InError-clause-there : goal.returns-in-InError-clause-there
returns-in-InError-clause-there g c = c.requires.x

pub returns-in-Known-clause-reads : goal.returns-in-Known-clause-reads
returns-in-Known-clause-reads g c = c.in-Known.ensures.reads

pub returns-in-Known-clause-waits : goal.returns-in-Known-clause-waits
returns-in-Known-clause-waits g c = tt

pub returns-then-value : goal.returns-then-value
returns-then-value g c =
    record {
      reads = c.in-Known-is_open_array.ensures.reads;
      waits = tt;
      told = λ made in_hand told. (let now = context_of (g.S.Scopes.state c.args.scopes.now).frame made c.args.site.now in
          ap (λ b. if b then wrong_at now c.args.at else gives (Computed cardinal)) (sym c.if-value.true ∙ c.in-Known-is_open_array.ensures.told made in_hand told)
          ∙ ap (size_value now c.args.at) (sym c.in-Variable.is));
      there = tt;
    }

pub returns-else-value-clause-reads : goal.returns-else-value-clause-reads
returns-else-value-clause-reads g c = c.in-Known-is_open_array.ensures.reads

pub returns-else-value-clause-waits : goal.returns-else-value-clause-waits
returns-else-value-clause-waits g c = tt

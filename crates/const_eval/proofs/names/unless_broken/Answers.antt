use Rattle.std.proofs.Common.{◌∙◌, ap, sym, if◌then◌else◌}
use Rattle.m2_base.specs.declared.operands.Operand.TheVariants.{InError}
use Rattle.const_eval.proofs.names.unless_broken.Goals as goal

pub is_broken-requires : goal.is_broken-requires
is_broken-requires g c = record { suits = c.requires.suits; there = c.requires.there }

pub returns-in-DontKnowYet : goal.returns-in-DontKnowYet
returns-in-DontKnowYet g c =
    record {
      reads = c.in-DontKnowYet.ensures.reads;
      waits = c.in-DontKnowYet.ensures.waits;
      told = λ made in_hand told. tt;
      there = tt;
    }

pub returns-then-value : goal.returns-then-value
returns-then-value g c =
    record {
      reads = c.in-Known.ensures.reads;
      waits = tt;
      told = λ made in_hand told. ap (λ b. if b then InError else c.args.operand) (sym c.if-value.true ∙ c.in-Known.ensures.told made in_hand told);
      there = tt;
    }

pub returns-else-value : goal.returns-else-value
returns-else-value g c =
    record {
      reads = c.in-Known.ensures.reads;
      waits = tt;
      told = λ made in_hand told. ap (λ b. if b then InError else c.args.operand) (sym c.if-value.false ∙ c.in-Known.ensures.told made in_hand told);
      there = c.requires.operand;
    }

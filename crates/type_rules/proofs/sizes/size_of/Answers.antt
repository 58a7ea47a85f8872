use Rattle.std.proofs.Common.{◌∙◌, ap, arith}
use Rattle.m2_base.specs.Statics.Types.{size_by}
use Rattle.type_rules.proofs.Otherwise.{other_size}
use Rattle.type_rules.proofs.sizes.size_of.Goals as goal

pub stand-requires : goal.stand-requires
stand-requires g c = record { suits = c.requires.suits; there = c.requires.there }

pub returns-in-DontKnowYet : goal.returns-in-DontKnowYet
returns-in-DontKnowYet g c =
    record {
      reads = c.in-DontKnowYet.ensures.reads;
      waits = c.in-DontKnowYet.ensures.waits;
      told = λ made in_hand told. tt;
      small = tt;
      stops = c.in-DontKnowYet.ensures.stops;
    }

pub returns-in-Array-clause-reads : goal.returns-in-Array-clause-reads
returns-in-Array-clause-reads g c = c.in-Known.ensures.reads

pub returns-in-Array-clause-waits : goal.returns-in-Array-clause-waits
returns-in-Array-clause-waits g c = tt

pub returns-in-Array-clause-stops : goal.returns-in-Array-clause-stops
returns-in-Array-clause-stops g c = tt

pub returns-in_default : goal.returns-in_default
returns-in_default g c =
    record {
      reads = c.in-Known.ensures.reads;
      waits = tt;
      told = λ made in_hand told. other_size c.in-Known.value.1 c.in_default.not-Array c.in_default.not-Record ∙ ap size_by (c.in-Known.ensures.kind made in_hand told);
      small = omega arith;
      stops = tt;
    }

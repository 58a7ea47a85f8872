use Rattle.std.proofs.Common.{◌∙◌, ap, sym}
use Rattle.m2_base.specs.Statics.Assignable.{is_open_kind}
use Rattle.type_rules.proofs.Otherwise.{other_open}
use Rattle.type_rules.proofs.assigning.is_open_array.Goals as goal

pub stand-requires : goal.stand-requires
stand-requires g c = record { suits = c.requires.suits; there = c.requires.there }

pub returns-in-DontKnowYet : goal.returns-in-DontKnowYet
returns-in-DontKnowYet g c =
    record {
      reads = c.in-DontKnowYet.ensures.reads;
      waits = c.in-DontKnowYet.ensures.waits;
      told = λ made in_hand told. tt;
      stops = c.in-DontKnowYet.ensures.stops;
    }

pub returns-in-OpenArray-clause-reads : goal.returns-in-OpenArray-clause-reads
returns-in-OpenArray-clause-reads g c = c.in-Known.ensures.reads

pub returns-in-OpenArray-clause-waits : goal.returns-in-OpenArray-clause-waits
returns-in-OpenArray-clause-waits g c = tt

pub returns-in-OpenArray-clause-stops : goal.returns-in-OpenArray-clause-stops
returns-in-OpenArray-clause-stops g c = tt

pub returns-in_default : goal.returns-in_default
returns-in_default g c =
    record {
      reads = c.in-Known.ensures.reads;
      waits = tt;
      told = λ made in_hand told. other_open c.in-Known.value.1 c.in_default.not-OpenArray ∙ ap is_open_kind (c.in-Known.ensures.kind made in_hand told);
      stops = tt;
    }

pub returns-in-OpenArray-clause-told : goal.returns-in-OpenArray-clause-told
returns-in-OpenArray-clause-told g c made in_hand told = ap is_open_kind (sym c.in-OpenArray.is ∙ c.in-Known.ensures.kind made in_hand told)

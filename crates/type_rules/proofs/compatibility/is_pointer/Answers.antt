use Rattle.std.proofs.Common.{◌∙◌, ap}
use Rattle.m2_base.specs.Statics.Compatible.{is_pointer_kind}
use Rattle.type_rules.proofs.Otherwise.{other_pointer}
use Rattle.type_rules.proofs.compatibility.is_pointer.Goals as goal

pub stand-requires : goal.stand-requires
stand-requires g c = record { suits = c.requires.suits; there = c.requires.there }

pub returns-in-DontKnowYet : goal.returns-in-DontKnowYet
returns-in-DontKnowYet g c =
    record {
      reads = c.in-DontKnowYet.ensures.reads;
      waits = c.in-DontKnowYet.ensures.waits;
      told = λ made in_hand told. tt;
      stops = c.in-DontKnowYet.ensures.stops;
    }

pub returns-in-Pointer-clause-reads : goal.returns-in-Pointer-clause-reads
returns-in-Pointer-clause-reads g c = c.in-Known.ensures.reads

pub returns-in-Pointer-clause-waits : goal.returns-in-Pointer-clause-waits
returns-in-Pointer-clause-waits g c = tt

pub returns-in-Pointer-clause-stops : goal.returns-in-Pointer-clause-stops
returns-in-Pointer-clause-stops g c = tt

pub returns-in_default : goal.returns-in_default
returns-in_default g c =
    record {
      reads = c.in-Known.ensures.reads;
      waits = tt;
      told = λ made in_hand told. other_pointer c.in-Known.value.1 c.in_default.not-Pointer c.in_default.not-Opaque ∙ ap is_pointer_kind (c.in-Known.ensures.kind made in_hand told);
      stops = tt;
    }

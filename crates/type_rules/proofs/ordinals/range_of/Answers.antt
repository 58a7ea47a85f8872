use Rattle.std.proofs.Common.{◌∙◌, ap}
use Rattle.m2_base.specs.Statics.Types.{range_by as spec_by}
use Rattle.type_rules.proofs.ordinals.range_of.Goals as goal

pub stand-requires : goal.stand-requires
stand-requires g c = record { suits = c.requires.suits; there = c.requires.there }

pub returns-in-DontKnowYet : goal.returns-in-DontKnowYet
returns-in-DontKnowYet g c =
    record {
      reads = c.in-DontKnowYet.ensures.reads;
      waits = c.in-DontKnowYet.ensures.waits;
      told = λ made in_hand told. tt;
      values = tt;
      stops = c.in-DontKnowYet.ensures.stops;
    }

pub range_by-requires : goal.range_by-requires
range_by-requires g c = tt

pub returns : goal.returns
returns g c =
    record {
      reads = c.in-Known.ensures.reads;
      waits = tt;
      told = λ made in_hand told. c.range_by.ensures.ends ∙ ap spec_by (c.in-Known.ensures.kind made in_hand told);
      values = c.range_by.ensures.values _ _ c.in-Known.ensures.said.fits;
      stops = tt;
    }

use Rattle.std.proofs.Common.{inl, inr, ◌≡◌}
use Rattle.m2_base.specs.Statics.Types.{base_of as spec_base}
use Rattle.type_rules.specs.Scenes.{scene_of}
use Rattle.type_rules.proofs.Later.{IsThere_read, Suits_read, IsThere_before_read}
use Rattle.type_rules.proofs.Reading.{Reads-trans, Waits_read}
use Rattle.type_rules.proofs.Compatibles.{told_later}
use Rattle.type_rules.proofs.compatibility.bases_of.Goals as goal

pub base_of-requires-2-clause-suits : goal.base_of-requires-2-clause-suits
base_of-requires-2-clause-suits g c = Suits_read c.in-Known.ensures.reads c.requires.suits

pub base_of-requires-2-clause-there : goal.base_of-requires-2-clause-there
base_of-requires-2-clause-there g c = IsThere_read c.in-Known.ensures.reads c.requires.y

pub base_of-requires : goal.base_of-requires
base_of-requires g c = record { suits = c.requires.suits; there = c.requires.x }

pub returns-in-DontKnowYet : goal.returns-in-DontKnowYet
returns-in-DontKnowYet g c =
    record {
      reads = c.in-DontKnowYet.ensures.reads;
      waits = c.in-DontKnowYet.ensures.waits;
      left = λ made in_hand told. tt;
      right = λ made in_hand told. tt;
      there = tt;
      stops = inl c.in-DontKnowYet.ensures.stops;
    }

pub returns-in-DontKnowYet-base_of : goal.returns-in-DontKnowYet-base_of
returns-in-DontKnowYet-base_of g c =
    record {
      reads = Reads-trans c.in-Known.ensures.reads c.in-DontKnowYet-base_of.ensures.reads;
      waits = Waits_read c.in-Known.ensures.reads c.in-DontKnowYet-base_of.ensures.waits;
      left = λ made in_hand told. tt;
      right = λ made in_hand told. tt;
      there = tt;
      stops = inr c.in-DontKnowYet-base_of.ensures.stops;
    }

pub returns : goal.returns
returns g c =
    record {
      reads = Reads-trans c.in-Known.ensures.reads c.in-Known-base_of.ensures.reads;
      waits = tt;
      left = c.in-Known.ensures.told;
      right = told_later (g.S.Scopes.state c.args.scopes.now).frame (g.S.Scopes.state c.base_of.new.scopes).frame (λ h rows. c.in-Known-base_of.value ≡ spec_base (scene_of h rows c.args.around.now) c.args.y) c.in-Known.ensures.reads.keeps.frame c.in-Known-base_of.ensures.told;
      there = (c.in-Known.ensures.there, IsThere_before_read c.in-Known.ensures.reads c.in-Known-base_of.ensures.there);
      stops = tt;
    }

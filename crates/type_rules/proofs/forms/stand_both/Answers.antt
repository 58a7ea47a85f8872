use Rattle.std.proofs.Common.{◌≡◌, inl, inr}
use Rattle.m2_base.specs.Statics.Types.{kind_of, stands_for as spec_stands}
use Rattle.type_rules.specs.Scenes.{scene_of}
use Rattle.type_rules.proofs.Compatibles.{told_later}
use Rattle.type_rules.proofs.Later.{IsThere_read, Suits_read, IsStoodHere_before}
use Rattle.type_rules.proofs.Reading.{Reads-trans, Waits_read}
use Rattle.type_rules.proofs.forms.stand_both.Goals as goal

pub stand-requires-2-clause-suits : goal.stand-requires-2-clause-suits
stand-requires-2-clause-suits g c = Suits_read c.in-Known.ensures.reads c.requires.suits

pub stand-requires-2-clause-there : goal.stand-requires-2-clause-there
stand-requires-2-clause-there g c = IsThere_read c.in-Known.ensures.reads c.requires.y

pub stand-requires : goal.stand-requires
stand-requires g c = record { suits = c.requires.suits; there = c.requires.x }

pub returns-in-DontKnowYet : goal.returns-in-DontKnowYet
returns-in-DontKnowYet g c =
    record {
      reads = c.in-DontKnowYet.ensures.reads;
      waits = c.in-DontKnowYet.ensures.waits;
      left = λ made in_hand told. tt;
      right = λ made in_hand told. tt;
      here = tt;
      stops = inl c.in-DontKnowYet.ensures.stops;
    }

pub returns-in-DontKnowYet-stand : goal.returns-in-DontKnowYet-stand
returns-in-DontKnowYet-stand g c =
    record {
      reads = Reads-trans c.in-Known.ensures.reads c.in-DontKnowYet-stand.ensures.reads;
      waits = Waits_read c.in-Known.ensures.reads c.in-DontKnowYet-stand.ensures.waits;
      left = λ made in_hand told. tt;
      right = λ made in_hand told. tt;
      here = tt;
      stops = inr c.in-DontKnowYet-stand.ensures.stops;
    }

pub returns : goal.returns
returns g c =
    record {
      reads = Reads-trans c.in-Known.ensures.reads c.in-Known-stand.ensures.reads;
      waits = tt;
      left = λ made in_hand told. record { place = c.in-Known.ensures.told made in_hand told; meaning = c.in-Known.ensures.kind made in_hand told };
      right = λ made in_hand told. (let f = (g.S.Scopes.state c.args.scopes.now).frame in
          let mid = (g.S.Scopes.state c.stand.new.scopes).frame in
          let same = c.in-Known.ensures.reads.keeps.frame in
          let stood = c.in-Known-stand.value in
          record {
            place = told_later f mid (λ h rows. stood.0 ≡ spec_stands (scene_of h rows c.args.around.now) c.args.y) same c.in-Known-stand.ensures.told made in_hand told;
            meaning = told_later f mid (λ h rows. stood.1 ≡ kind_of (scene_of h rows c.args.around.now) c.args.y) same c.in-Known-stand.ensures.kind made in_hand told;
          });
      here = (let second = c.in-Known-stand.ensures in
          (record { there = c.in-Known.ensures.there; said = c.in-Known.ensures.said }, IsStoodHere_before c.in-Known.ensures.reads (record { there = second.there; said = second.said })));
      stops = tt;
    }

use Rattle.std.proofs.Common.{inl, inr, ◌≡◌, ◌∙◌, ap}
use Rattle.m2_base.specs.Rows.{is_same_place}
use Rattle.m2_base.specs.Statics.Types.{stands_for as spec_stands}
use Rattle.type_rules.specs.Scenes.{scene_of}
use Rattle.type_rules.proofs.Later.{IsThere_read, Suits_read}
use Rattle.type_rules.proofs.Reading.{Reads-trans, Waits_read}
use Rattle.type_rules.proofs.Compatibles.{told_later}
use Rattle.type_rules.proofs.sameness.same.Goals as goal

pub stands_for-requires-2-clause-suits : goal.stands_for-requires-2-clause-suits
stands_for-requires-2-clause-suits g c = Suits_read c.in-Known.ensures.reads c.requires.suits

pub stands_for-requires-2-clause-there : goal.stands_for-requires-2-clause-there
stands_for-requires-2-clause-there g c = IsThere_read c.in-Known.ensures.reads c.requires.y

pub stands_for-requires : goal.stands_for-requires
stands_for-requires g c = record { suits = c.requires.suits; there = c.requires.x }

pub returns-in-DontKnowYet : goal.returns-in-DontKnowYet
returns-in-DontKnowYet g c =
    record {
      reads = c.in-DontKnowYet.ensures.reads;
      waits = c.in-DontKnowYet.ensures.waits;
      told = λ made in_hand told. tt;
      stops = inl c.in-DontKnowYet.ensures.stops;
    }

pub returns-in-DontKnowYet-stands_for : goal.returns-in-DontKnowYet-stands_for
returns-in-DontKnowYet-stands_for g c =
    record {
      reads = Reads-trans c.in-Known.ensures.reads c.in-DontKnowYet-stands_for.ensures.reads;
      waits = Waits_read c.in-Known.ensures.reads c.in-DontKnowYet-stands_for.ensures.waits;
      told = λ made in_hand told. tt;
      stops = inr c.in-DontKnowYet-stands_for.ensures.stops;
    }

pub returns : goal.returns
returns g c =
    record {
      reads = Reads-trans c.in-Known.ensures.reads c.in-Known-stands_for.ensures.reads;
      waits = tt;
      told = λ made in_hand told. (let scene = scene_of (g.S.Scopes.state c.args.scopes.now).frame made c.args.around.now in
          let right = c.in-Known-stands_for.value in
          c.eq.ensures ∙ ap (λ p. is_same_place p right) (c.in-Known.ensures.told made in_hand told)
          ∙ ap (is_same_place (spec_stands scene c.args.x)) (told_later (g.S.Scopes.state c.args.scopes.now).frame (g.S.Scopes.state c.stands_for.new.scopes).frame (λ h rows. right ≡ spec_stands (scene_of h rows c.args.around.now) c.args.y) c.in-Known.ensures.reads.keeps.frame c.in-Known-stands_for.ensures.told made in_hand told));
      stops = tt;
    }

pub eq-requires : goal.eq-requires
eq-requires g c = tt

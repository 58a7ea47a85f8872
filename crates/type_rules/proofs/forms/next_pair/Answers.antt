use Rattle.std.proofs.Common.{inl, inr, ◌≡◌, subst}
use Rattle.std.specs.Option.{IfSome}
use Rattle.m2_base.specs.States.{Frame}
use Rattle.type_rules.specs.Forms.{GoesOn, parameters_by, parameters_from}
use Rattle.type_rules.specs.Scenes.{scene_of}
use Rattle.type_rules.proofs.Later.{IsThere_read, Suits_read}
use Rattle.type_rules.proofs.Reading.{Reads-trans, Waits_read}
use Rattle.type_rules.proofs.Compatibles.{told_later}
use Rattle.type_rules.proofs.forms.next_pair.Goals as goal

pub next_parameter-requires-2-clause-suits : goal.next_parameter-requires-2-clause-suits
next_parameter-requires-2-clause-suits g c = Suits_read c.in-Known.ensures.reads c.requires.suits

pub next_parameter-requires-2-clause-there : goal.next_parameter-requires-2-clause-there
next_parameter-requires-2-clause-there g c = IsThere_read c.in-Known.ensures.reads c.requires.y

pub next_parameter-requires : goal.next_parameter-requires
next_parameter-requires g c = record { suits = c.requires.suits; there = c.requires.x }

pub returns-in-DontKnowYet : goal.returns-in-DontKnowYet
returns-in-DontKnowYet g c =
    record {
      reads = c.in-DontKnowYet.ensures.reads;
      waits = c.in-DontKnowYet.ensures.waits;
      left = λ made in_hand told. tt;
      right = λ made in_hand told. tt;
      left_goes_on = tt;
      right_goes_on = tt;
      stops = inl c.in-DontKnowYet.ensures.stops;
    }

pub returns-in-DontKnowYet-next_parameter : goal.returns-in-DontKnowYet-next_parameter
returns-in-DontKnowYet-next_parameter g c =
    record {
      reads = Reads-trans c.in-Known.ensures.reads c.in-DontKnowYet-next_parameter.ensures.reads;
      waits = Waits_read c.in-Known.ensures.reads c.in-DontKnowYet-next_parameter.ensures.waits;
      left = λ made in_hand told. tt;
      right = λ made in_hand told. tt;
      left_goes_on = tt;
      right_goes_on = tt;
      stops = inr c.in-DontKnowYet-next_parameter.ensures.stops;
    }

pub returns : goal.returns
returns g c =
    record {
      reads = Reads-trans c.in-Known.ensures.reads c.in-Known-next_parameter.ensures.reads;
      waits = tt;
      left = c.in-Known.ensures.told;
      right = told_later (g.S.Scopes.state c.args.scopes.now).frame (g.S.Scopes.state c.next_parameter.new.scopes).frame (λ h rows. parameters_from (scene_of h rows c.args.around.now) c.args.y c.args.right ≡ parameters_by (scene_of h rows c.args.around.now) c.args.y c.in-Known-next_parameter.value) c.in-Known.ensures.reads.keeps.frame c.in-Known-next_parameter.ensures.told;
      left_goes_on = c.in-Known.ensures.goes_on;
      right_goes_on = subst (λ (h : Frame). IfSome c.in-Known-next_parameter.value (GoesOn h c.args.y c.args.right)) c.in-Known.ensures.reads.keeps.frame c.in-Known-next_parameter.ensures.goes_on;
      stops = tt;
    }

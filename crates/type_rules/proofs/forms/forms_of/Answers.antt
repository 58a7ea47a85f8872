use Rattle.std.proofs.Common.{inl, inr, subst, ◌≡◌}
use Rattle.std.specs.Option.{IfSome}
use Rattle.m2_base.specs.Statics.Types.{kind_of, stands_for as spec_stands}
use Rattle.m2_base.specs.States.{Frame}
use Rattle.type_rules.specs.Forms.{form_by, IsFormHere}
use Rattle.type_rules.specs.Scenes.{scene_of}
use Rattle.type_rules.proofs.Later.{IsThere_read, Suits_read}
use Rattle.type_rules.proofs.Reading.{Reads-trans, Waits_read}
use Rattle.type_rules.proofs.Compatibles.{told_later}
use Rattle.type_rules.proofs.forms.forms_of.Goals as goal

pub form_of-requires-2-clause-suits : goal.form_of-requires-2-clause-suits
form_of-requires-2-clause-suits g c = Suits_read c.in-Known.ensures.reads c.requires.suits

pub form_of-requires-2-clause-there : goal.form_of-requires-2-clause-there
form_of-requires-2-clause-there g c = IsThere_read c.in-Known.ensures.reads c.requires.y

pub form_of-requires : goal.form_of-requires
form_of-requires g c = record { suits = c.requires.suits; there = c.requires.x }

pub returns-in-DontKnowYet : goal.returns-in-DontKnowYet
returns-in-DontKnowYet g c =
    record {
      reads = c.in-DontKnowYet.ensures.reads;
      waits = c.in-DontKnowYet.ensures.waits;
      left = λ made in_hand told. tt;
      right = λ made in_hand told. tt;
      here = tt;
      stops = inl c.in-DontKnowYet.ensures.stops;
    }

pub returns-in-DontKnowYet-form_of : goal.returns-in-DontKnowYet-form_of
returns-in-DontKnowYet-form_of g c =
    record {
      reads = Reads-trans c.in-Known.ensures.reads c.in-DontKnowYet-form_of.ensures.reads;
      waits = Waits_read c.in-Known.ensures.reads c.in-DontKnowYet-form_of.ensures.waits;
      left = λ made in_hand told. tt;
      right = λ made in_hand told. tt;
      here = tt;
      stops = inr c.in-DontKnowYet-form_of.ensures.stops;
    }

pub returns : goal.returns
returns g c =
    record {
      reads = Reads-trans c.in-Known.ensures.reads c.in-Known-form_of.ensures.reads;
      waits = tt;
      left = c.in-Known.ensures.told;
      right = told_later (g.S.Scopes.state c.args.scopes.now).frame (g.S.Scopes.state c.form_of.new.scopes).frame (λ h rows. c.in-Known-form_of.value ≡ form_by (spec_stands (scene_of h rows c.args.around.now) c.args.y) (kind_of (scene_of h rows c.args.around.now) c.args.y)) c.in-Known.ensures.reads.keeps.frame c.in-Known-form_of.ensures.told;
      here = (c.in-Known.ensures.here, subst (λ (h : Frame). IfSome c.in-Known-form_of.value (IsFormHere h)) c.in-Known.ensures.reads.keeps.frame c.in-Known-form_of.ensures.here);
      stops = tt;
    }

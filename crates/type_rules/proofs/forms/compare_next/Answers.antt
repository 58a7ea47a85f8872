use Rattle.std.proofs.Common.{◌∙◌, [], ap, ℕ, arith}
use Rattle.m2_base.specs.Statics.SameForm.{are_same_parameters}
use Rattle.m2_base.specs.States.{Frame}
use Rattle.m2_base.specs.declared.replies.Ask.{Ask}
use Rattle.m2_base.specs.declared.replies.Ask.TheVariants.{Known, DontKnowYet}
use Rattle.m2_base.specs.declared.rows.Place.{Place}
use Rattle.type_rules.specs.Asks.{WhereKnown}
use Rattle.type_rules.specs.Forms.{GoesLater, GoesOn, Progresses, parameters_by, parameters_from}
use Rattle.type_rules.specs.Scenes.{scene_of}
use Rattle.type_rules.specs.declared.forms.Compared.{Compared}
use Rattle.type_rules.specs.declared.forms.Compared.TheVariants.{Ended, Next}
use Rattle.type_rules.specs.declared.forms.Formal.{Formal}
use Rattle.type_rules.proofs.Procedures.{next_told}
use Rattle.type_rules.proofs.Later.{Suits_read, Waits_asked, IsThere_read}
use Rattle.type_rules.proofs.Reading.{Reads-trans}
use Rattle.type_rules.proofs.forms.compare_next.Goals as goal

-- a step that goes on behind the first parameter is later
goes_later : (answer : Ask Compared) (f : Frame) (p : Place) (left : ℕ) (formal : Formal) → GoesOn f p left formal → WhereKnown answer (λ step. Progresses formal.next step) → WhereKnown answer (λ step. GoesLater left p.ordinal step)
goes_later (Known (Ended same)) f p left formal on next = tt
goes_later (Known (Next l r)) f p left formal on next = let later = on.later in let within = on.within in (omega (arith, later, next), omega (arith, within, next))
goes_later (DontKnowYet h) f p left formal on next = tt

pub next_pair-requires : goal.next_pair-requires
next_pair-requires g c = record { suits = c.requires.suits; x = c.requires.x; y = c.requires.y }

pub returns-in-DontKnowYet : goal.returns-in-DontKnowYet
returns-in-DontKnowYet g c =
    record {
      reads = c.in-DontKnowYet.ensures.reads;
      waits = c.in-DontKnowYet.ensures.waits;
      told = λ made in_hand told. tt;
      later = tt;
    }

pub returns-in_default-clause-reads : goal.returns-in_default-clause-reads
returns-in_default-clause-reads g c = c.in-Known.ensures.reads

pub returns-in_default-clause-waits : goal.returns-in_default-clause-waits
returns-in_default-clause-waits g c = tt

pub returns-in_default-clause-later : goal.returns-in_default-clause-later
returns-in_default-clause-later g c = tt

pub returns-in_default-2-clause-reads : goal.returns-in_default-2-clause-reads
returns-in_default-2-clause-reads g c = c.in-Known.ensures.reads

pub returns-in_default-2-clause-waits : goal.returns-in_default-2-clause-waits
returns-in_default-2-clause-waits g c = tt

pub returns-in_default-2-clause-later : goal.returns-in_default-2-clause-later
returns-in_default-2-clause-later g c = tt

pub compare-requires : goal.compare-requires
compare-requires g c =
    record { suits = Suits_read c.in-Known.ensures.reads c.requires.suits; first = IsThere_read c.in-Known.ensures.reads (rw c.in-Some-Some.is-0 at c.in-Known.ensures.left_goes_on).there; second = IsThere_read c.in-Known.ensures.reads (rw c.in-Some-Some.is-1 at c.in-Known.ensures.right_goes_on).there }

pub returns-in-Some-Some : goal.returns-in-Some-Some
returns-in-Some-Some g c =
    record {
      reads = Reads-trans c.in-Known.ensures.reads c.compare.ensures.reads;
      waits = Waits_asked c.compare.result (g.S.Scopes.state c.compare.new.scopes) c.in-Known.ensures.reads c.compare.ensures.waits;
      told = next_told c.compare.result (g.S.Scopes.state c.args.scopes.now).frame (g.S.Scopes.state c.next_pair.new.scopes).frame c.args.around.now c.args.x c.args.y c.args.left c.args.right
          c.in-Known.value.0 c.in-Known.value.1 c.in-Some-Some.first c.in-Some-Some.second c.in-Known.ensures.reads.keeps.frame c.in-Some-Some.is-0 c.in-Some-Some.is-1
          c.in-Known.ensures.left c.in-Known.ensures.right c.compare.ensures.told;
      later = goes_later c.compare.result (g.S.Scopes.state c.args.scopes.now).frame c.args.x c.args.left c.in-Some-Some.first (rw c.in-Some-Some.is-0 at c.in-Known.ensures.left_goes_on) c.compare.ensures.next;
    }

pub returns-in-None-None : goal.returns-in-None-None
returns-in-None-None g c =
    record {
      reads = c.in-Known.ensures.reads;
      waits = tt;
      told = λ made in_hand told. (let scene = scene_of (g.S.Scopes.state c.args.scopes.now).frame made c.args.around.now in
          ap (λ l. are_same_parameters scene l (parameters_from scene c.args.y c.args.right)) (c.in-Known.ensures.left made in_hand told ∙ ap (parameters_by scene c.args.x) c.in-None-None.is-0)
          ∙ ap (are_same_parameters scene []) (c.in-Known.ensures.right made in_hand told ∙ ap (parameters_by scene c.args.y) c.in-None-None.is-1));
      later = tt;
    }

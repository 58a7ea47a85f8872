use Rattle.std.proofs.Common.{◌≡◌, ◌∙◌, ◌&&◌, ◌||◌, false, ap, sym}
use Rattle.m2_base.specs.Statics.Assignable.{are_both_numbers, takes_procedure as spec_takes_procedure}
use Rattle.m2_base.specs.Statics.Compatible.{is_integer_or_cardinal as is_number}
use Rattle.m2_base.specs.Statics.Types.{base_of}
use Rattle.type_rules.specs.Assigning.{takes_other as spec_takes_other}
use Rattle.type_rules.specs.Scenes.{scene_of}
use Rattle.type_rules.proofs.Later.{IsThere_read, Suits_read, Waits_asked}
use Rattle.type_rules.proofs.Reading.{Reads-trans}
use Rattle.type_rules.proofs.Compatibles.{told_as}
use Rattle.type_rules.proofs.assigning.takes_other.Goals.{else-is_integer_or_cardinal-via-then-is_integer_or_cardinal+else-is_integer_or_cardinal-2, else-is_integer_or_cardinal-via-else-is_integer_or_cardinal}
use Rattle.type_rules.proofs.assigning.takes_other.Goals as goal

pub takes_procedure-requires-clause-suits : goal.takes_procedure-requires-clause-suits
takes_procedure-requires-clause-suits g c = Suits_read c.in-Known.ensures.reads c.requires.suits

pub takes_procedure-requires-clause-to : goal.takes_procedure-requires-clause-to
takes_procedure-requires-clause-to g c = IsThere_read c.in-Known.ensures.reads c.requires.to

pub takes_procedure-requires-clause-of : goal.takes_procedure-requires-clause-of
takes_procedure-requires-clause-of g c = IsThere_read c.in-Known.ensures.reads c.requires.of

pub bases_of-requires : goal.bases_of-requires
bases_of-requires g c = record { suits = c.requires.suits; x = c.requires.to; y = c.requires.of }

pub is_integer_or_cardinal-requires : goal.is_integer_or_cardinal-requires
is_integer_or_cardinal-requires g c = tt

pub is_integer_or_cardinal-requires-then-is_integer_or_cardinal : goal.is_integer_or_cardinal-requires-then-is_integer_or_cardinal
is_integer_or_cardinal-requires-then-is_integer_or_cardinal g c = tt

pub returns-in-DontKnowYet : goal.returns-in-DontKnowYet
returns-in-DontKnowYet g c =
    record {
      reads = c.in-DontKnowYet.ensures.reads;
      waits = c.in-DontKnowYet.ensures.waits;
      told = λ made in_hand told. tt;
    }

pub returns-then-is_integer_or_cardinal-2 : goal.returns-then-is_integer_or_cardinal-2
returns-then-is_integer_or_cardinal-2 g c =
    record {
      reads = c.in-Known.ensures.reads;
      waits = tt;
      told = λ made in_hand told. (let scene = scene_of (g.S.Scopes.state c.args.scopes.now).frame made c.args.around.now in
          let other = spec_takes_procedure scene c.args.to c.args.of in
          let right = base_of scene c.args.of in
          sym (ap (λ b. (b && is_number right) || other) (ap is_number (sym (c.in-Known.ensures.left made in_hand told)) ∙ sym c.is_integer_or_cardinal.ensures ∙ c.if-is_integer_or_cardinal.true)
          ∙ ap (λ b. b || other) (ap is_number (sym (c.in-Known.ensures.right made in_hand told)) ∙ sym c.is_integer_or_cardinal-then-is_integer_or_cardinal.ensures ∙ c.if-is_integer_or_cardinal-2.true)));
    }

pub returns : goal.returns
returns g c =
    record {
      reads = Reads-trans c.in-Known.ensures.reads c.takes_procedure.ensures.reads;
      waits = Waits_asked c.takes_procedure.result (g.S.Scopes.state c.takes_procedure.new.scopes) c.in-Known.ensures.reads c.takes_procedure.ensures.waits;
      told = (let f = (g.S.Scopes.state c.args.scopes.now).frame in
          let l = c.in-Known.value.0 in
          let r = c.in-Known.value.1 in
          let none : are_both_numbers l r ≡ false = elim c.else-is_integer_or_cardinal.branch as (λ _. are_both_numbers l r ≡ false) [
            | else-is_integer_or_cardinal-via-then-is_integer_or_cardinal+else-is_integer_or_cardinal-2 w ↦ ap (λ b. b && is_number r) (sym c.is_integer_or_cardinal.ensures ∙ w.if-is_integer_or_cardinal.true)
                ∙ sym w.is_integer_or_cardinal-then-is_integer_or_cardinal.ensures ∙ w.if-is_integer_or_cardinal-2.false
            | else-is_integer_or_cardinal-via-else-is_integer_or_cardinal w ↦ ap (λ b. b && is_number r) (sym c.is_integer_or_cardinal.ensures ∙ w.if-is_integer_or_cardinal.false)
          ] in
          told_as c.takes_procedure.result f (g.S.Scopes.state c.bases_of.new.scopes).frame (λ h made. spec_takes_procedure (scene_of h made c.args.around.now) c.args.to c.args.of)
          (λ made. spec_takes_other (scene_of f made c.args.around.now) c.args.to c.args.of) c.in-Known.ensures.reads.keeps.frame c.takes_procedure.ensures.told
          (λ made in_hand told. let scene = scene_of f made c.args.around.now in
          sym (ap (λ b. b || spec_takes_procedure scene c.args.to c.args.of)
          (ap (λ p. are_both_numbers p (base_of scene c.args.of)) (sym (c.in-Known.ensures.left made in_hand told)) ∙ ap (are_both_numbers l) (sym (c.in-Known.ensures.right made in_hand told)) ∙ none))));
    }

-- Compiling the module Big over given files has one answer, and prints one text.
use Rattle.std.proofs.Common.{◌≡◌, ◌≢◌, ℕ, List, [], Some, Option, refl, sym, ◌∙◌, ap, subst}
use Rattle.std.specs.Prelude.{codes}
use Rattle.m2_io.specs.Files.{Files}
use Rattle.m2_base.specs.Units.{IsUnit, UnitTexts}
use Rattle.m2_base.specs.declared.notes.Diag.{Diag}
use Rattle.def_import.specs.Answers.{IsWhole}
use Rattle.def_import.specs.Outcomes as gathering
use Rattle.def_import.specs.Outcomes.{ComesOf, of_all, of_limit}
use Rattle.module_gen.specs.BigModule.{text_of}
use Rattle.unit_merge.specs.Outcome as units
use Rattle.unit_outcome.specs.Outcomes.{ComesTo}
use Rattle.module_outcome.specs.Big.{HasBigUnit, Summarizes, TellsBig, TellsUnit, as_told, has_wrong_imports, of_unit, passes_texts}
use Rattle.module_outcome.specs.Counts.{Tells, answer_by, diagnostic_counts, import_counts, object_counts, of_diagnostics, of_limit as of_limited, of_object, printed_by}
use Rattle.module_outcome.specs.Limits.{of_texts}
use Rattle.module_outcome.specs.Verdicts.{Decision, limited, listed, no_text, object}
use Rattle.module_outcome.specs.declared.answer.Answer.{Answer}
use Rattle.module_outcome.specs.declared.limit.Limit.TheVariants.{Nesting}
use Rattle.module_outcome.specs.declared.summary.Summary.{Summary}
use Rattle.module_outcome.specs.declared.summary.Summary.TheVariants.{Counted, Limited}
use Rattle.module_outcome.proofs.GatheredUnits.{is_whole}
use Rattle.module_outcome.proofs.OneOutcome.{one_of_unit}

-- ** A unit

-- what is told of a decision; it is never decided of a unit that there is no text
abbrev summary_by : UnitTexts → Decision → Summary
summary_by unit no_text = Limited Nesting
summary_by unit (limited limit) = Limited limit
summary_by unit (listed texts diags) = Counted (diagnostic_counts unit diags)
summary_by unit (object contents) = Counted (object_counts unit contents)

told_by : (unit : UnitTexts) (d : Decision) (s : Summary) → Tells unit d s → s ≡ summary_by unit d
told_by unit _ _ (of_object contents) = refl
told_by unit _ _ (of_diagnostics diags) = refl
told_by unit _ _ (of_limited limit) = refl

-- ** The module

-- what is told where gathering comes to this
data IsOf (holds : Option Files) (n : ℕ) : gathering.Outcome → Summary → Type 0 where
  stopped : {limit : gathering.Limit} {s : Summary} → s ≡ Limited (of_texts limit) → IsOf holds n (gathering.stopped_at limit) s
  wrong : {unit : UnitTexts} {wrongs : List Diag} {s : Summary} → wrongs ≢ [] → s ≡ Counted (import_counts unit wrongs) → IsOf holds n (gathering.unit_with unit wrongs) s
  whole : {unit : UnitTexts} {wrongs : List Diag} {s : Summary} → wrongs ≡ [] → HasBigUnit holds n unit [] → TellsUnit unit s → IsOf holds n (gathering.unit_with unit wrongs) s

record Ground (holds : Option Files) (n : ℕ) (s : Summary) : Type 0 where
  outcome : gathering.Outcome
  comes : ComesOf holds (codes "Big") (text_of n) outcome
  is : IsOf holds n outcome s

ground_of : (holds : Option Files) (n : ℕ) (s : Summary) → TellsBig holds n s → Ground holds n s
ground_of holds n _ (passes_texts limit stops) = record { outcome = gathering.stopped_at limit; comes = of_limit stops; is = stopped refl }
ground_of holds n _ (has_wrong_imports unit wrongs h some) = record { outcome = gathering.unit_with unit wrongs; comes = of_all h.gathered; is = wrong some refl }
ground_of holds n s (of_unit {unit = unit} h tells) = record { outcome = gathering.unit_with unit []; comes = of_all h.gathered; is = whole refl h tells }

module _
    (texts_have_one : (files : Files) (file main : List ℕ) (a b : gathering.Outcome) → ComesOf (Some files) file main a → ComesOf (Some files) file main b → a ≡ b)
    (units_have_one : (unit : UnitTexts) (these those : units.Outcome) → IsUnit unit → IsWhole unit → ComesTo unit these → ComesTo unit those → these ≡ those)
    (files : Files) (n : ℕ) where
  one_of : (o : gathering.Outcome) (s t : Summary) → IsOf (Some files) n o s → IsOf (Some files) n o t → s ≡ t
  one_of _ s t (stopped x) (stopped y) = x ∙ sym y
  one_of _ s t (wrong some x) (wrong more y) = x ∙ sym y
  one_of _ s t (wrong some x) (whole none h tells) = absurd (some none)
  one_of _ s t (whole none h tells) (wrong some y) = absurd (some none)
  one_of _ s t (whole {unit = unit} none h these) (whole also k those) =
      let same = one_of_unit units_have_one unit h.is (is_whole (Some files) (codes "Big") (text_of n) unit h.gathered h.is) these.decision those.decision these.decides those.decides in
      told_by unit these.decision s these.tells ∙ ap (summary_by unit) same ∙ sym (told_by unit those.decision t those.tells)

  one_told : (s t : Summary) → TellsBig (Some files) n s → TellsBig (Some files) n t → s ≡ t
  one_told s t a b =
      let x = ground_of (Some files) n s a in
      let y = ground_of (Some files) n t b in
      one_of y.outcome s t (subst (λ (o : gathering.Outcome). IsOf (Some files) n o s) (texts_have_one files (codes "Big") (text_of n) x.outcome y.outcome x.comes y.comes) x.is) y.is

  pub one_summarized : (this other : Answer) (these those : List ℕ) → Summarizes (Some files) n this these → Summarizes (Some files) n other those → (this ≡ other) × (these ≡ those)
  one_summarized _ _ _ _ (as_told s a) (as_told t b) = let same = one_told s t a b in (ap answer_by same, ap (printed_by n) same)

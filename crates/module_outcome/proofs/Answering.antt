-- Each answer comes exactly where the files say so.
use Rattle.std.proofs.Common.{◌≡◌, ◌↔◌, ℕ, List, Option, Some, None, Result, Ok, Err, refl, sym, ◌∙◌, ap, subst}
use Rattle.std.specs.Prelude.{IfOk, IfSome}
use Rattle.m2_base.specs.Units.{UnitTexts}
use Rattle.m2_io.specs.Files.{Files}
use Rattle.def_import.specs.Shelves.{Has, main_file}
use Rattle.module_outcome.specs.Answers.{Comes}
use Rattle.module_outcome.specs.Decisions.{Decides, DecidesUnit, has_diagnostics, has_no_text, has_wrong_imports, is_compiled, is_nested_too_deep, of_unit, passes_procedures, passes_texts}
use Rattle.module_outcome.specs.Delivery.{Delivers}
use Rattle.module_outcome.specs.Outcome.{Outcome, as_decided, outcome_of}
use Rattle.module_outcome.specs.Verdicts.{Decision, answer_to, limited, listed, no_text, object}
use Rattle.module_outcome.specs.declared.answer.Answer.{Answer}
use Rattle.module_outcome.specs.declared.answer.Answer.TheVariants.{Diagnosed, Done, NoText, OverLimit}
use Rattle.module_outcome.specs.declared.answer.Stop.{Stop}
use Rattle.module_outcome.proofs.Leaving.{IsOne, told_all}

-- of a unit it is never decided that there is no text
unit_has_text : (unit : UnitTexts) (d : Decision) → DecidesUnit unit d → d ≡ no_text → ⊥
unit_has_text unit _ (passes_procedures limit at) e = cc
unit_has_text unit _ (is_nested_too_deep text at h) e = cc
unit_has_text unit _ (has_diagnostics diags h) e = cc
unit_has_text unit _ (is_compiled contents h) e = cc

lacks : (holds : Option Files) (name : List ℕ) (d : Decision) → Decides holds name d → d ≡ no_text → Has holds (main_file name) None
lacks holds name _ (has_no_text has) e = has
lacks holds name _ (passes_texts limit stops) e = absurd cc
lacks holds name _ (has_wrong_imports unit wrongs g some) e = absurd cc
lacks holds name d (of_unit {unit = unit} h decides) e = absurd (unit_has_text unit d decides e)

module _ (files : Files) (name : List ℕ) where
  -- the answer that goes with a decision comes where it is decided
  comes_of : (d : Decision) → Decides (Some files) name d → Comes files name (answer_to d)
  comes_of no_text h = lacks (Some files) name no_text h refl
  comes_of (limited limit) h = (limit, h)
  comes_of (listed unit diags) h = (unit, diags, h)
  comes_of (object contents) h = (contents, h)

  module _ (one : IsOne files name) (d : Decision) (decides : Decides (Some files) name d) where
    same_answer : (e : Decision) → Decides (Some files) name e → answer_to d ≡ answer_to e
    same_answer e h = ap (λ (x : Outcome). x.answer) (one (outcome_of (Some files) name d) (outcome_of (Some files) name e) (as_decided d decides) (as_decided e h))

    -- and no other comes
    only : (a : Answer) → Comes files name a → answer_to d ≡ a
    only NoText h = same_answer no_text (has_no_text h)
    only OverLimit h = same_answer (limited h.0) h.1
    only Diagnosed h = same_answer (listed h.0 h.1) h.2
    only Done h = same_answer (object h.0) h.1

    exactly : (answer : Answer) → answer ≡ answer_to d → (a : Answer) → (answer ≡ a) ↔ Comes files name a
    exactly answer is a = (λ e. subst (Comes files name) (sym is ∙ e) (comes_of d decides), λ h. is ∙ only a h)

pub answers_come : (holds before after : Option Files) (name : List ℕ) (d : Decision) (old new : Option (List ℕ)) → ((files : Files) → IsOne files name) → Decides holds name d
    → (r : Result Answer Stop) → IfOk r (λ answer. Delivers name d answer before after old new)
    → IfOk r (λ answer. IfSome holds (λ files. (a : Answer) → (answer ≡ a) ↔ Comes files name a))
answers_come holds before after name d old new one decides (Err e) h = tt
answers_come holds before after name d old new one decides (Ok answer) h =
    told_all holds (λ files. (a : Answer) → (answer ≡ a) ↔ Comes files name a)
    (λ files has. exactly files name (one files) d (subst (λ (o : Option Files). Decides o name d) has decides) answer h.answer_is)

-- Compiling a module over given files has one outcome.
use Rattle.std.proofs.Common.{◌≡◌, ◌≢◌, ℕ, List, [], Option, Some, None, refl, sym, ◌∙◌, ap, subst}
use Rattle.m2_io.specs.Files.{Files}
use Rattle.m2_base.specs.Finished.{main_tokens}
use Rattle.m2_base.specs.Statics.BlockLimits.{BlockLimit, limit_of}
use Rattle.m2_base.specs.Units.{IsUnit, UnitTexts}
use Rattle.m2_base.specs.declared.notes.Diag.{Diag}
use Rattle.def_import.specs.Answers.{IsWhole}
use Rattle.def_import.specs.Outcomes as gathering
use Rattle.def_import.specs.Outcomes.{ComesFrom, from_nothing, from_text, of_all, of_limit}
use Rattle.unit_merge.specs.Outcome as units
use Rattle.unit_outcome.specs.Outcomes.{ComesTo}
use Rattle.module_outcome.specs.Decisions.{Decides, DecidesUnit, HasUnit, IsCutAnd, has_diagnostics, has_no_text, has_wrong_imports, is_compiled, is_nested_too_deep, of_unit, passes_procedures, passes_texts}
use Rattle.module_outcome.specs.Limits.{of_procedures, of_texts}
use Rattle.module_outcome.specs.Outcome.{Compiles, Outcome, as_decided, outcome_of}
use Rattle.module_outcome.specs.Verdicts.{Decision, limited, listed, no_text, object}
use Rattle.module_outcome.specs.declared.limit.Limit.TheVariants.{Nesting}
use Rattle.module_outcome.proofs.GatheredUnits.{is_whole}

-- ** A unit

-- what a unit comes to, as a decision
abbrev pub decision_by : UnitTexts → units.Outcome → Decision
decision_by unit (units.too_deep text at) = limited Nesting
decision_by unit (units.diagnostics diags) = listed unit diags
decision_by unit (units.object contents) = object contents

pub decided_by : (unit : UnitTexts) (o : units.Outcome) → IsCutAnd unit o → DecidesUnit unit (decision_by unit o)
decided_by unit (units.too_deep text at) h = is_nested_too_deep text at h
decided_by unit (units.diagnostics diags) h = has_diagnostics diags h
decided_by unit (units.object contents) h = is_compiled contents h

-- a limit is passed, or the unit comes to an outcome
data IsWay (unit : UnitTexts) (d : Decision) : Type 0 where
  by_limit : (limit : BlockLimit) → limit_of (main_tokens unit) ≡ Some limit → d ≡ limited (of_procedures limit) → IsWay unit d
  by_outcome : (o : units.Outcome) → IsCutAnd unit o → d ≡ decision_by unit o → IsWay unit d

way_of : (unit : UnitTexts) (d : Decision) → DecidesUnit unit d → IsWay unit d
way_of unit _ (passes_procedures limit e) = by_limit limit e refl
way_of unit _ (is_nested_too_deep text at c) = by_outcome (units.too_deep text at) c refl
way_of unit _ (has_diagnostics diags c) = by_outcome (units.diagnostics diags) c refl
way_of unit _ (is_compiled contents c) = by_outcome (units.object contents) c refl

some_limit : (a b : BlockLimit) → Some a ≡ Some b → a ≡ b
some_limit a b e = cc

no_limit : (o : Option BlockLimit) (a : BlockLimit) → o ≡ Some a → o ≡ None → ⊥
no_limit o a e f = let h : Some a ≡ None = sym e ∙ f in cc

module _
    (units_have_one : (unit : UnitTexts) (these those : units.Outcome) → IsUnit unit → IsWhole unit → ComesTo unit these → ComesTo unit those → these ≡ those)
    (unit : UnitTexts) (is : IsUnit unit) (whole : IsWhole unit) where
  one_way : (d e : Decision) → IsWay unit d → IsWay unit e → d ≡ e
  one_way d e (by_limit l at x) (by_limit m also y) = x ∙ ap (λ k. limited (of_procedures k)) (some_limit l m (sym at ∙ also)) ∙ sym y
  one_way d e (by_limit l at x) (by_outcome o c y) = absurd (no_limit (limit_of (main_tokens unit)) l at c.limits)
  one_way d e (by_outcome o c x) (by_limit m also y) = absurd (no_limit (limit_of (main_tokens unit)) m also c.limits)
  one_way d e (by_outcome o a x) (by_outcome p b y) = x ∙ ap (decision_by unit) (units_have_one unit o p is whole a.comes b.comes) ∙ sym y

  -- of a unit one thing is decided
  pub one_of_unit : (d e : Decision) → DecidesUnit unit d → DecidesUnit unit e → d ≡ e
  one_of_unit d e a b = one_way d e (way_of unit d a) (way_of unit e b)

-- ** A module

-- what is decided where gathering comes to this
data IsOf (holds : Option Files) (name : List ℕ) : gathering.Outcome → Decision → Type 0 where
  without : {d : Decision} → d ≡ no_text → IsOf holds name gathering.nothing d
  stopped : {limit : gathering.Limit} {d : Decision} → d ≡ limited (of_texts limit) → IsOf holds name (gathering.stopped_at limit) d
  wrong : {unit : UnitTexts} {wrongs : List Diag} {d : Decision} → wrongs ≢ [] → d ≡ listed unit wrongs → IsOf holds name (gathering.unit_with unit wrongs) d
  whole : {unit : UnitTexts} {wrongs : List Diag} {d : Decision} → wrongs ≡ [] → HasUnit holds name unit → IsWay unit d → IsOf holds name (gathering.unit_with unit wrongs) d

record Ground (holds : Option Files) (name : List ℕ) (d : Decision) : Type 0 where
  outcome : gathering.Outcome
  comes : ComesFrom holds name outcome
  is : IsOf holds name outcome d

ground_of : (holds : Option Files) (name : List ℕ) (d : Decision) → Decides holds name d → Ground holds name d
ground_of holds name _ (has_no_text has) = record { outcome = gathering.nothing; comes = from_nothing has; is = without refl }
ground_of holds name _ (passes_texts limit s) = record { outcome = gathering.stopped_at limit; comes = from_text s.had (of_limit s.stops); is = stopped refl }
ground_of holds name _ (has_wrong_imports unit wrongs g some) =
    record { outcome = gathering.unit_with unit wrongs; comes = from_text g.had (of_all g.gathered); is = wrong some refl }
ground_of holds name d (of_unit {unit = unit} h decides) =
    record { outcome = gathering.unit_with unit []; comes = from_text h.gathered.had (of_all h.gathered.gathered); is = whole refl h (way_of unit d decides) }

module _
    (files_have_one : (files : Files) (file : List ℕ) (a b : gathering.Outcome) → ComesFrom (Some files) file a → ComesFrom (Some files) file b → a ≡ b)
    (units_have_one : (unit : UnitTexts) (these those : units.Outcome) → IsUnit unit → IsWhole unit → ComesTo unit these → ComesTo unit those → these ≡ those)
    (files : Files) (name : List ℕ) where
  one_of : (o : gathering.Outcome) (d e : Decision) → IsOf (Some files) name o d → IsOf (Some files) name o e → d ≡ e
  one_of _ d e (without x) (without y) = x ∙ sym y
  one_of _ d e (stopped x) (stopped y) = x ∙ sym y
  one_of _ d e (wrong some x) (wrong more y) = x ∙ sym y
  one_of _ d e (wrong some x) (whole none h way) = absurd (some none)
  one_of _ d e (whole none h way) (wrong some y) = absurd (some none)
  one_of _ d e (whole {unit = unit} none h way) (whole also k other) =
      one_way units_have_one unit h.is (is_whole (Some files) name h.gathered.main unit h.gathered.gathered h.is) d e way other

  one_decision : (d e : Decision) → Decides (Some files) name d → Decides (Some files) name e → d ≡ e
  one_decision d e a b =
      let x = ground_of (Some files) name d a in
      let y = ground_of (Some files) name e b in
      one_of y.outcome d e (subst (λ (o : gathering.Outcome). IsOf (Some files) name o d) (files_have_one files name x.outcome y.outcome x.comes y.comes) x.is) y.is

  pub one_compiled : (these those : Outcome) → Compiles (Some files) name these → Compiles (Some files) name those → these ≡ those
  one_compiled _ _ (as_decided d a) (as_decided e b) = ap (outcome_of (Some files) name) (one_decision d e a b)

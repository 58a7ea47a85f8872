-- What is decided of a module whose texts are gathered, or aren't.
use Rattle.std.proofs.Common.{◌≡◌, ℕ, List, [], Option, Some, None, Result, Ok, Err, refl, slice_get, subst}
use Rattle.std.specs.Prelude.{IfOk}
use Rattle.m2_base.specs.Units.{IsUnit, UnitTexts}
use Rattle.m2_io.specs.Files.{Files}
use Rattle.def_import.specs.Answers.{unit_given, wrongs_given}
use Rattle.def_import.specs.Outcomes as gathering
use Rattle.def_import.specs.Outcomes.{IsGatheredFrom, StopsFrom}
use Rattle.def_import.specs.Shelves.{Has, main_file}
use Rattle.def_import.specs.Views.{fault_of}
use Rattle.def_import.specs.declared.faults.GatherFault.{GatherFault}
use Rattle.def_import.specs.declared.faults.GatherFault.TheVariants.{Memory, NoText, ReadFault, TooLong, TooManyTexts, TooManyTokens, TooManyUnitTokens}
use Rattle.def_import.specs.declared.gathering.Gathered.TheVariants.{Whole}
use Rattle.def_import.specs.declared.gathering.Gathered.{Gathered}
use Rattle.unit_merge.specs.Objects.{name_in, spelled}
use Rattle.module_outcome.specs.Decisions.{Decides, DecidesUnit, has_no_text, of_unit, passes_texts}
use Rattle.module_outcome.specs.Delivery.{IsNamed}
use Rattle.module_outcome.specs.Faults.{told}
use Rattle.module_outcome.specs.Verdicts.{Decision, decision_of, limited, no_text}
use Rattle.module_outcome.specs.declared.answer.Stop.{Stop}
use Rattle.module_outcome.specs.declared.limit.Limit.TheVariants.{TextBytes, Texts, Tokens, UnitTokens}
use Rattle.module_outcome.specs.declared.verdict.Verdict.{Verdict}
use Rattle.module_outcome.proofs.GatheredUnits.{has_name}

some_is : (d e : Decision) → Some d ≡ Some e → d ≡ e
some_is d e p = cc

module _ (holds : Option Files) (name : List ℕ) where
  -- ** Where they aren't

  module _ (fault : GatherFault) (none_had : fault ≡ NoText → Has holds (main_file name) None) (stops : (limit : gathering.Limit) → fault ≡ fault_of limit → StopsFrom holds name limit) where
    fault_is : (f : GatherFault) → fault ≡ f → (d : Decision) → told f ≡ Some d → Decides holds name d
    fault_is NoText is d e = subst (Decides holds name) (some_is no_text d e) (has_no_text (none_had is))
    fault_is TooLong is d e = subst (Decides holds name) (some_is (limited TextBytes) d e) (passes_texts gathering.too_long (stops gathering.too_long is))
    fault_is TooManyTexts is d e = subst (Decides holds name) (some_is (limited Texts) d e) (passes_texts gathering.too_many_texts (stops gathering.too_many_texts is))
    fault_is TooManyTokens is d e = subst (Decides holds name) (some_is (limited Tokens) d e) (passes_texts gathering.too_many_tokens (stops gathering.too_many_tokens is))
    fault_is TooManyUnitTokens is d e = subst (Decides holds name) (some_is (limited UnitTokens) d e) (passes_texts gathering.too_many_unit_tokens (stops gathering.too_many_unit_tokens is))
    fault_is ReadFault is d e = absurd cc
    fault_is Memory is d e = absurd cc

    pub fault_decides : (r : Result Verdict Stop) → IfOk r (λ verdict. told fault ≡ Some (decision_of verdict)) → IfOk r (λ verdict. Decides holds name (decision_of verdict))
    fault_decides (Err e) h = tt
    fault_decides (Ok v) h = fault_is fault refl (decision_of v) h

  -- ** Where they are

  module _ (g : Gathered) (gathered : IsGatheredFrom holds name (unit_given g) (wrongs_given g)) where
    of_whole : (unit : UnitTexts) → g ≡ Whole unit → IsGatheredFrom holds name unit []
    of_whole unit is = subst (λ (x : Gathered). IsGatheredFrom holds name (unit_given x) (wrongs_given x)) is gathered

    pub whole_decides : (unit : UnitTexts) (d : Decision) → g ≡ Whole unit → IsUnit unit → DecidesUnit unit d → Decides holds name d
    whole_decides unit d is kept decides = of_unit (record { is = kept; gathered = of_whole unit is }) decides

    pub whole_named : (unit : UnitTexts) (d : Decision) → g ≡ Whole unit → IsNamed (spelled unit.names (name_in (slice_get unit.list 0))) d → IsNamed name d
    whole_named unit d is h = let whole = of_whole unit is in subst (λ (n : List ℕ). IsNamed n d) (has_name holds name whole.main unit whole.gathered) h

-- What the outputs of a unit's streams are merged into is what is decided of the unit, and an object has the name of the main text.
use Rattle.std.proofs.Common.{◌≡◌, List, [], ◌∷◌, Option, Some, None, refl, sym, ◌∙◌, ap, subst, slice_get}
use Rattle.m2_base.specs.Finished.{main_tokens}
use Rattle.m2_base.specs.Statics.BlockLimits.{limit_of}
use Rattle.m2_base.specs.Units.{Front, TextOf, UnitTexts}
use Rattle.m2_base.specs.declared.notes.Diag.{Diag}
use Rattle.m2_base.specs.declared.outputs.Output.{Output}
use Rattle.m2_base.specs.declared.outputs.StreamFault.{StreamFault}
use Rattle.m2_base.specs.declared.outputs.StreamFault.TheVariants.{Syntax, TooDeep}
use Rattle.definition_keys.specs.Keys.{unit_keys}
use Rattle.object_file.specs.Contents.{Contents}
use Rattle.stream_split.specs.Fronts.{AreFronts}
use Rattle.unit_merge.specs.Merging.{IsMerged, of_faults, of_outputs}
use Rattle.unit_merge.specs.Objects.{contents_from, name_in, spelled}
use Rattle.unit_merge.specs.Outcome as units
use Rattle.unit_merge.specs.Outcome.{first_too_deep, or_object, or_refusals, outcome_of_faults, outcome_view, refusals}
use Rattle.unit_merge.specs.Outputs.{output_diags}
use Rattle.unit_merge.specs.declared.merging.Merged.{Merged}
use Rattle.unit_merge.specs.declared.merging.Merged.TheVariants.{Code}
use Rattle.merge_laws.specs.Outcome.{IsOutcome}
use Rattle.module_outcome.specs.Decisions.{DecidesUnit, IsCutAnd}
use Rattle.module_outcome.proofs.OneOutcome.{decided_by, decision_by}

-- ** Faults come to no object

never_deep : (faults : List (Option StreamFault)) (c : Contents) → first_too_deep faults ≡ Some (units.object c) → ⊥
never_deep [] c e = cc
never_deep (None ∷ faults) c e = never_deep faults c e
never_deep (Some (TooDeep text at) ∷ faults) c e = cc
never_deep (Some (Syntax diag) ∷ faults) c e = never_deep faults c e

never_refused : (o : Option units.Outcome) (diags : List Diag) (c : Contents) → (o ≡ Some (units.object c) → ⊥) → or_refusals o diags ≡ Some (units.object c) → ⊥
never_refused (Some o) diags c never e = never e
never_refused None [] c never e = cc
never_refused None (d ∷ diags) c never e = cc

never_faulty : (faults : List (Option StreamFault)) (c : Contents) → outcome_of_faults faults ≡ Some (units.object c) → ⊥
never_faulty faults c e = never_refused (first_too_deep faults) (refusals faults) c (never_deep faults c) e

-- ** The name

object_is : (diags : List Diag) (these c : Contents) → or_object diags these ≡ units.object c → these ≡ c
object_is [] these c e = cc
object_is (d ∷ diags) these c e = absurd cc

module _ (front : TextOf → Front) (unit : UnitTexts) (outputs : List Output) (c : Contents) where
  named : (o : units.Outcome) → IsMerged front unit outputs o → o ≡ units.object c → c.name ≡ spelled unit.names (name_in (slice_get unit.list 0))
  named _ (of_faults faults o h e) same = absurd (never_faulty faults c (e ∙ ap (λ (x : units.Outcome). Some x) same))
  named _ (of_outputs faults h e) same = ap (λ (x : Contents). x.name) (sym (object_is (output_diags outputs) (contents_from (unit_keys front unit) unit outputs) c same))

  object_named : IsMerged front unit outputs (units.object c) → c.name ≡ spelled unit.names (name_in (slice_get unit.list 0))
  object_named h = named (units.object c) h refl

-- ** What merging gives

module _ (unit : UnitTexts) (outputs : List Output) (m : Merged) (merged : (front : TextOf → Front) → AreFronts front unit → IsMerged front unit outputs (outcome_view m)) where
  pub merged_decides : limit_of (main_tokens unit) ≡ None
      → ((front : TextOf → Front) (o : units.Outcome) → AreFronts front unit → IsMerged front unit outputs o → IsOutcome front unit o)
      → (n : Merged) → m ≡ n → DecidesUnit unit (decision_by unit (outcome_view n))
  merged_decides limits gives n is =
      let cut : IsCutAnd unit (outcome_view m) = record { limits = limits; comes = λ front fronts. gives front (outcome_view m) fronts (merged front fronts) } in
      subst (λ (x : Merged). DecidesUnit unit (decision_by unit (outcome_view x))) is (decided_by unit (outcome_view m) cut)

  pub merged_named : (front : TextOf → Front) → AreFronts front unit → (c : Contents) → m ≡ Code c → c.name ≡ spelled unit.names (name_in (slice_get unit.list 0))
  merged_named front fronts c is = object_named front unit outputs c (subst (λ (x : Merged). IsMerged front unit outputs (outcome_view x)) is (merged front fronts))

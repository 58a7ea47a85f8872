-- What a unit comes to: a text that is nested too deep, diagnostics, or an object.
use Rattle.std.specs.Prelude.{ℕ, List, [], ◌∷◌, Option, Some, None}
use Rattle.m2_base.specs.declared.notes.Diag.{Diag}
use Rattle.m2_base.specs.declared.outputs.StreamFault.{StreamFault}
use Rattle.m2_base.specs.declared.outputs.StreamFault.TheVariants.{Syntax, TooDeep}
use Rattle.object_file.specs.Contents.{Contents}
use Rattle.unit_merge.specs.declared.merging.Merged.{Merged}
use Rattle.unit_merge.specs.declared.merging.Merged.TheVariants as merged

pub data Outcome : Type 0 where
  too_deep : (text at : ℕ) → Outcome
  diagnostics : List Diag → Outcome
  object : Contents → Outcome

-- ** Where texts have faults

-- the first text that is nested too deep
abbrev pub first_too_deep : List (Option StreamFault) → Option Outcome
first_too_deep [] = None
first_too_deep (Some (TooDeep text at) ∷ faults) = Some (too_deep text at)
first_too_deep (f ∷ faults) = first_too_deep faults

-- the syntax faults, in the order of the texts
abbrev pub refusals : List (Option StreamFault) → List Diag
refusals [] = []
refusals (Some (Syntax diag) ∷ faults) = diag ∷ refusals faults
refusals (f ∷ faults) = refusals faults

abbrev pub or_refusals : Option Outcome → List Diag → Option Outcome
or_refusals (Some outcome) diags = Some outcome
or_refusals None [] = None
or_refusals None (diag ∷ diags) = Some (diagnostics (diag ∷ diags))

-- What these faults of the texts come to, if there is one:
-- a text that is nested too deep comes before all syntax faults.
abbrev pub outcome_of_faults : List (Option StreamFault) → Option Outcome
outcome_of_faults faults = or_refusals (first_too_deep faults) (refusals faults)

-- ** Where none has one

-- diagnostics, or where there is none the object
abbrev pub or_object : List Diag → Contents → Outcome
or_object [] contents = object contents
or_object (diag ∷ diags) contents = diagnostics (diag ∷ diags)

-- ** What merging gives, as plain data

abbrev pub outcome_view : Merged → Outcome
outcome_view (merged.Code contents) = object contents
outcome_view (merged.Diags diags) = diagnostics diags.items
outcome_view (merged.TooDeep text at) = too_deep text at

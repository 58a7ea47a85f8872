-- What merging gives at each of its ends is what the outputs come to.
use Rattle.std.specs.Prelude.{◌≡◌, ℕ, ◌==◌, true, false, List, [], ◌∷◌, length, option_map, Option, Some, None}
use Rattle.std.proofs.Common.{ap, subst, sym, ◌∙◌, arith}
use Rattle.std.proofs.lemmas.Bool.{eqb-true}
use Rattle.definition_keys.specs.Keys.{unit_keys}
use Rattle.m2_base.specs.Units.{Front, TextOf, UnitTexts}
use Rattle.m2_base.specs.declared.notes.Diag.{Diag}
use Rattle.m2_base.specs.declared.outputs.Output.{Output}
use Rattle.m2_base.specs.declared.outputs.StreamFault.{StreamFault}
use Rattle.object_file.specs.Contents.{Contents}
use Rattle.unit_merge.specs.Merging.{IsMerged}
use Rattle.unit_merge.specs.Merging.IsMerged.{of_faults, of_outputs}
use Rattle.unit_merge.specs.Objects.{contents_from}
use Rattle.unit_merge.specs.Outcome.{Outcome, first_too_deep, object, diagnostics, or_object, or_refusals, outcome_of_faults, refusals, too_deep}
use Rattle.unit_merge.specs.Outputs.{output_diags}
use Rattle.unit_merge.specs.TextFaults.{AreFaults}

-- the first text that is nested too deep, as it is found
abbrev deep : Option (ℕ × ℕ) → Option Outcome
deep r = option_map (λ place. too_deep place.0 place.1) r

pub deep_is : (front : TextOf → Front) (texts : UnitTexts) (outputs : List Output) (faults : List (Option StreamFault)) (r : Option (ℕ × ℕ)) (p : ℕ × ℕ) → AreFaults texts faults → deep r ≡ first_too_deep faults → r ≡ Some p
    → IsMerged front texts outputs (too_deep p.0 p.1)
deep_is front texts outputs faults r p are found e =
    let first : first_too_deep faults ≡ Some (too_deep p.0 p.1) = sym found ∙ ap deep e in
    of_faults faults (too_deep p.0 p.1) are (ap (λ o. or_refusals o (refusals faults)) first)

none_deep : (faults : List (Option StreamFault)) (r : Option (ℕ × ℕ)) → deep r ≡ first_too_deep faults → r ≡ None → first_too_deep faults ≡ None
none_deep faults r found e = sym found ∙ ap deep e

pub refused_is : (front : TextOf → Front) (texts : UnitTexts) (outputs : List Output) (faults : List (Option StreamFault)) (r : Option (ℕ × ℕ)) (diags : List Diag) → AreFaults texts faults → deep r ≡ first_too_deep faults → r ≡ None
    → diags ≡ refusals faults → (length diags == 0) ≡ false → IsMerged front texts outputs (diagnostics diags)
refused_is front texts outputs faults r [] are found e same some = absurd cc
refused_is front texts outputs faults r (d ∷ diags) are found e same some =
    of_faults faults (diagnostics (d ∷ diags)) are (λ i. or_refusals (none_deep faults r found e i) (sym same i))

-- no text has a fault
pub none_at_all : (faults : List (Option StreamFault)) (r : Option (ℕ × ℕ)) (diags : List Diag) → deep r ≡ first_too_deep faults → r ≡ None → diags ≡ refusals faults → (length diags == 0) ≡ true → outcome_of_faults faults ≡ None
none_at_all faults r (d ∷ diags) found e same none = let zero : length (d ∷ diags) ≡ 0 = eqb-true (length (d ∷ diags)) 0 none in absurd (omega (arith, zero))
none_at_all faults r [] found e same none = λ i. or_refusals (none_deep faults r found e i) (sym same i)

pub noted_is : (front : TextOf → Front) (texts : UnitTexts) (outputs : List Output) (faults : List (Option StreamFault)) (diags : List Diag) → AreFaults texts faults → outcome_of_faults faults ≡ None → diags ≡ output_diags outputs
    → (length diags == 0) ≡ false → IsMerged front texts outputs (diagnostics diags)
noted_is front texts outputs faults [] are none same some = absurd cc
noted_is front texts outputs faults (d ∷ diags) are none same some =
    subst (IsMerged front texts outputs) (ap (λ ds. or_object ds (contents_from (unit_keys front texts) texts outputs)) (sym same)) (of_outputs faults are none)

pub none_noted : (outputs : List Output) (diags : List Diag) → diags ≡ output_diags outputs → (length diags == 0) ≡ true → output_diags outputs ≡ []
none_noted outputs (d ∷ diags) same none = let zero : length (d ∷ diags) ≡ 0 = eqb-true (length (d ∷ diags)) 0 none in absurd (omega (arith, zero))
none_noted outputs [] same none = sym same

pub object_is : (front : TextOf → Front) (texts : UnitTexts) (outputs : List Output) (faults : List (Option StreamFault)) (contents : Contents) → AreFaults texts faults → outcome_of_faults faults ≡ None → output_diags outputs ≡ []
    → contents ≡ contents_from (unit_keys front texts) texts outputs → IsMerged front texts outputs (object contents)
object_is front texts outputs faults contents are none empty same =
    subst (IsMerged front texts outputs) (ap (λ ds. or_object ds (contents_from (unit_keys front texts) texts outputs)) empty ∙ ap object (sym same)) (of_outputs faults are none)

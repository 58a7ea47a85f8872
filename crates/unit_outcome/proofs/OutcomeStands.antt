-- The diagnostics that a unit comes to stand at tokens of its texts.
use Rattle.std.specs.Prelude.{◌≡◌, List, [], ◌∷◌, Option, Some, None}
use Rattle.std.proofs.Common.{ap, subst, ◌∙◌}
use Rattle.m2_base.specs.Lists.{Each}
use Rattle.m2_base.specs.Units.{Front, IsUnit, TextOf, UnitTexts}
use Rattle.m2_base.specs.declared.notes.Diag.{Diag}
use Rattle.m2_base.specs.declared.outputs.StreamFault.{StreamFault}
use Rattle.m2_base.specs.declared.outputs.StreamFault.TheVariants.{Syntax, TooDeep}
use Rattle.object_file.specs.Contents.{Contents}
use Rattle.merge_laws.specs.Outcome.{IsOutcome, of_faults, of_trees, unit_diags}
use Rattle.merge_laws.specs.UnitObject.{object_of}
use Rattle.unit_merge.specs.Outcome.{Outcome, diagnostics, first_too_deep, or_object, or_refusals, refusals}
use Rattle.unit_outcome.specs.Tokens.{IsAtToken}
use Rattle.unit_outcome.proofs.BlocksStand.{unit_stands}
use Rattle.unit_outcome.proofs.FaultsStand.{refusals_stand}

-- a text that is nested too deep is no diagnostics
deep_is_none : (faults : List (Option StreamFault)) (diags : List Diag) → first_too_deep faults ≡ Some (diagnostics diags) → ⊥
deep_is_none [] diags e = cc
deep_is_none (Some (TooDeep text at) ∷ faults) diags e = cc
deep_is_none (Some (Syntax diag) ∷ faults) diags e = deep_is_none faults diags e
deep_is_none (None ∷ faults) diags e = deep_is_none faults diags e

-- diagnostics of faults are the refusals
are_refusals : (o : Option Outcome) (ds diags : List Diag) → (o ≡ Some (diagnostics diags) → ⊥) → or_refusals o ds ≡ Some (diagnostics diags) → ds ≡ diags
are_refusals (Some outcome) ds diags never e = absurd (never e)
are_refusals None [] diags never e = absurd cc
are_refusals None (d ∷ ds) diags never e = cc

-- diagnostics of trees are those of the blocks
are_noted : (ds : List Diag) (contents : Contents) (diags : List Diag) → or_object ds contents ≡ diagnostics diags → ds ≡ diags
are_noted [] contents diags e = absurd cc
are_noted (d ∷ ds) contents diags e = cc

pub outcome_stands : (front : TextOf → Front) (texts : UnitTexts) (outcome : Outcome) (diags : List Diag) → IsUnit texts → IsOutcome front texts outcome → outcome ≡ diagnostics diags → Each (IsAtToken texts) diags
outcome_stands front texts _ diags unit (of_faults faults outcome are told) e =
    let same = are_refusals (first_too_deep faults) (refusals faults) diags (deep_is_none faults diags) (told ∙ ap (λ (o : Outcome). Some o) e) in
    subst (λ (ds : List Diag). Each (IsAtToken texts) ds) same (refusals_stand texts faults unit are)
outcome_stands front texts _ diags unit (of_trees u read) e =
    subst (λ (ds : List Diag). Each (IsAtToken texts) ds) (are_noted (unit_diags u) (object_of front texts u) diags e) (unit_stands texts u unit read)

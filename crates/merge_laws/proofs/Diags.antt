-- The diagnostics of a unit's outputs are those of its blocks.
use Rattle.std.specs.Prelude.{◌≡◌, refl, List, [], ◌∷◌, ◌++◌, flat_map, map}
use Rattle.std.proofs.Common.{ap, ◌∙◌, inl}
use Rattle.listings.specs.Ordering.{in_order}
use Rattle.listings.proofs.OneOrder.{ordered_to}
use Rattle.m2_base.specs.Lists.{IsIn}
use Rattle.m2_base.specs.Standard.{standard_rows}
use Rattle.m2_base.specs.Statics.BlockRows.{declare_block}
use Rattle.m2_base.specs.Statics.Blocks.{BlockTree, UnitTrees, blocks_of}
use Rattle.m2_base.specs.Statics.Contexts.{Source}
use Rattle.m2_base.specs.Statics.UnitRows.{unit_rows}
use Rattle.m2_base.specs.declared.notes.Diag.{Diag}
use Rattle.m2_base.specs.declared.outputs.Output.{Output}
use Rattle.m2_base.specs.declared.rows.Row.{Row}
use Rattle.row_laws.specs.RowRanges.{EachBlock}
use Rattle.block_code.specs.BlockCode.{block_diags}
use Rattle.block_laws.specs.Worlds.{over_blocks}
use Rattle.unit_merge.specs.Outputs.{output_diags}
use Rattle.merge_laws.specs.Outcome.{unit_diags}
use Rattle.merge_laws.specs.Outputs.{AreNoted, HasNoDiags, noted_in}
use Rattle.row_laws.proofs.Joined.{none_left}

joined : (outputs : List Output) → flat_map (λ (o : Output). o.diags.items) outputs ≡ flat_map (λ (diags : List Diag). diags) (map (λ (o : Output). o.diags.items) outputs)
joined [] = refl
joined (o ∷ outputs) = ap (λ ds. o.diags.items ++ ds) (joined outputs)

pub same_diags : (u : UnitTrees) (outputs : List Output) → AreNoted u outputs → output_diags outputs ≡ unit_diags u
same_diags u outputs h = ap in_order (joined outputs ∙ ap (flat_map (λ (diags : List Diag). diags)) h)

-- ** None

none_in_order : (ds : List Diag) → in_order ds ≡ [] → ds ≡ []
none_in_order [] e = refl
none_in_order (d ∷ ds) e = absurd (by (in_order (d ∷ ds)) (ordered_to (d ∷ ds) d (inl refl)) e)
  where
    by : (made : List Diag) → IsIn d made → made ≡ [] → ⊥
    by [] i f = i
    by (x ∷ made) i f = cc

none_each : (f : List (List Row) → BlockTree → List Diag) (source : Source) (before : List (List Row)) (blocks : List BlockTree) → flat_map (λ (diags : List Diag). diags) (over_blocks f source before blocks) ≡ []
    → EachBlock (λ ts b. f ts b ≡ []) source before blocks
none_each f source before [] e = tt
none_each f source before (b ∷ blocks) e =
    let made = (declare_block source before b).rows in
    let parts = none_left (f before b) (flat_map (λ (diags : List Diag). diags) (over_blocks f source (before ++ made ∷ []) blocks)) e in
    (parts.0, none_each f source (before ++ made ∷ []) blocks parts.1)

-- where a unit has no diagnostic, no block has one
pub none_noted : (u : UnitTrees) → unit_diags u ≡ [] → HasNoDiags u
none_noted u e =
    none_each (λ before b. block_diags u.source before (unit_rows u) b) u.source (standard_rows ∷ []) (blocks_of u)
    (none_in_order (flat_map (λ (diags : List Diag). diags) (noted_in u)) e)

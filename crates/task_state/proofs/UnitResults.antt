-- What a block's own heading gives as the result is what its statements return.
use Rattle.std.specs.Prelude.{◌≡◌, ℕ, ◌+◌, ◌<◌, List, [], ◌∷◌, None, Option, Some, slice_get, take}
use Rattle.std.proofs.Common.{sym, ap, ◌∙◌, inl, inr}
use Rattle.m2_base.specs.Finished.{AreRead}
use Rattle.m2_base.specs.Standard.{standard_rows}
use Rattle.m2_base.specs.Statics.BlockRows.{at_item, context_of}
use Rattle.m2_base.specs.Statics.Blocks.{BlockTree, UnitTrees, blocks_of, home_of}
use Rattle.m2_base.specs.Statics.Contexts.{Source}
use Rattle.m2_base.specs.Statics.Declarations.{declare}
use Rattle.m2_base.specs.Statics.Items.{heading_item}
use Rattle.m2_base.specs.Statics.Layouts.{layout_of}
use Rattle.m2_base.specs.Statics.UnitNotes.{complete_context}
use Rattle.m2_base.specs.Statics.UnitRows.{rows_from, unit_rows}
use Rattle.m2_base.specs.Trees.{Heading}
use Rattle.m2_base.specs.Units.{Front, IsUnit, IsWholeBy, TextOf, UnitTexts}
use Rattle.m2_base.specs.declared.rows.Row.{Row}
use Rattle.row_laws.specs.Results.{BindsItsResult}
use Rattle.row_laws.specs.RowRanges.{IsSoundUnit}
use Rattle.row_laws.specs.TextTrees.{AreOfTexts, HasTree}
use Rattle.row_laws.proofs.Chains.{IsChained, blocks_chained}
use Rattle.row_laws.proofs.TextBlocks.{trees_read}
use Rattle.row_laws.proofs.Units.{unit_results}
use Rattle.block_code.specs.BlockCode.{bound_result, result_by}
use Rattle.stream_split.specs.Fronts.{AreFronts}
use Rattle.task_state.proofs.Lists.{each_at}
use Rattle.task_state.proofs.UnitRows.{each_block_at}
use Rattle.unit_laws.proofs.ImportedBlocks.{imports_before}
use Rattle.unit_laws.proofs.SoundUnits.{unit_sound}

-- a block with a heading is a procedure's
headed_behind : (home : ℕ) (b : BlockTree) (h : Heading) → HasTree home b → b.tree.heading ≡ Some h → home < b.block.scope
headed_behind home b h (inl k) e = absurd (let bad : Some h ≡ None = sym e ∙ k.1.headless in cc)
headed_behind home b h (inr (inl k)) e = absurd (let bad : Some h ≡ None = sym e ∙ k.1.headless in cc)
headed_behind home b h (inr (inr k)) e = k.0

-- What the block's own heading gives is what its statements return.
abbrev pub ReturnsIts : Source → (before tables : List (List Row)) → BlockTree → Type 0
ReturnsIts source before tables b =
    (h : Heading) (cell : ℕ) → b.tree.heading ≡ Some h
    → (declare (at_item (context_of source before b) 0) b.tree.kind (heading_item h) cell).value.result ≡ result_by (complete_context source tables b.block) b.tree

returns_at : (names : List (List ℕ)) (trees : UnitTrees) → IsSoundUnit names trees → AreOfTexts trees → (n : ℕ) (b : BlockTree) → slice_get (blocks_of trees) n ≡ Some b
    → ReturnsIts trees.source (take (1 + n) (rows_from trees.source (standard_rows ∷ []) (blocks_of trees))) (unit_rows trees) b
returns_at names trees sound forms n b there h cell e =
    let bound = each_block_at (BindsItsResult trees) trees.source (standard_rows ∷ []) (blocks_of trees) n b (unit_results names trees sound) there in
    let chained = each_at (IsChained (home_of trees)) (blocks_of trees) n b (blocks_chained trees forms) there in
    bound (headed_behind (home_of trees) b h chained.tree e) h cell
    ∙ sym (ap (λ (o : Option Heading). bound_result (record (complete_context trees.source (unit_rows trees) b.block) { layout = layout_of b.tree; item = Some 0 }) o) e)

-- in a unit of which nothing is left out
pub unit_returns : (texts : UnitTexts) → IsUnit texts → (front : TextOf → Front) → AreFronts front texts → IsWholeBy front texts → (trees : UnitTrees) → AreRead texts trees
    → (n : ℕ) (b : BlockTree) → slice_get (blocks_of trees) n ≡ Some b
    → ReturnsIts trees.source (take (1 + n) (rows_from trees.source (standard_rows ∷ []) (blocks_of trees))) (unit_rows trees) b
unit_returns texts unit front fronts whole trees read n b there =
    let sound = unit_sound texts trees unit read (imports_before texts unit front fronts whole trees read) in
    returns_at texts.names trees sound (trees_read texts trees read) n b there

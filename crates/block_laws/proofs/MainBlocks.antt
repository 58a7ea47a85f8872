-- Each block of a main text has code and a name, and what each block sees leads to what it sees.
use Rattle.std.specs.Prelude.{ℕ, ◌≤◌, List, [], ◌∷◌}
use Rattle.std.proofs.Common.{ap, subst, sym, ◌∙◌, inl, inr, arith}
use Rattle.m2_base.specs.Lists.{Each}
use Rattle.m2_base.specs.declared.rows.Row.{Row}
use Rattle.m2_base.specs.Standard.{standard_rows}
use Rattle.m2_base.specs.Statics.BlockRows.{declare_block}
use Rattle.m2_base.specs.Statics.Blocks.{BlockTree, UnitTrees, blocks_of, home_of}
use Rattle.m2_base.specs.Statics.Closing.{heading_name}
use Rattle.m2_base.specs.Statics.Contexts.{Scene, Source}
use Rattle.m2_base.specs.Statics.UnitNotes.{complete_context}
use Rattle.m2_base.specs.Statics.UnitRows.{unit_rows}
use Rattle.row_laws.specs.RowRanges.{CellsAreThere, EachBlock, IsCopyBelow, IsSoundUnit}
use Rattle.row_laws.specs.Sight.{LeadsInSight, LeadsTo}
use Rattle.row_laws.specs.TextTrees.{AreOfTexts, HasTree}
use Rattle.row_laws.proofs.Chains.{IsChained, blocks_chained}
use Rattle.row_laws.proofs.SightUnits.{unit_sight}
use Rattle.row_laws.proofs.Units.{unit_cells, each_block_with}
use Rattle.block_code.specs.BlockCode.{first_cell}
use Rattle.block_laws.specs.MainBlocks.{IsMainBlock}
use Rattle.block_laws.specs.Named.{HasCode}
use Rattle.block_laws.specs.Sight.{IsInSight, Sees}
use Rattle.block_laws.proofs.Copies.{without_heading}

-- ** Blocks

is-main : (source : Source) (before : List (List Row)) (home : ℕ) (b : BlockTree) → CellsAreThere (declare_block source before b).rows (declare_block source before b).value → HasTree home b → home ≤ b.block.scope → IsMainBlock source before b
is-main source before home b cells (inl d) low = let x = d.0 in absurd (omega (arith, x, low))
is-main source before home b cells (inr (inl d)) low =
    record {
      coded = subst HasCode (sym d.1.kind_is) tt;
      name = d.1.name;
      named = ap (heading_name b.tree.name) d.1.headless ∙ d.1.named;
      copies = λ few. subst (Each (IsCopyBelow (first_cell b.tree.kind (declare_block source before b).value.cell))) (sym (without_heading source before b d.1.headless)) tt;
    }
is-main source before home b cells (inr (inr d)) low =
    record {
      coded = subst HasCode (sym d.1.kind_is) tt;
      name = d.1.heading.name;
      named = ap (heading_name b.tree.name) d.1.headed;
      copies = λ few. subst (λ k. Each (IsCopyBelow (first_cell k (declare_block source before b).value.cell)) (declare_block source before b).value.prologue) (sym d.1.kind_is) (cells.copies few);
    }

pub main-blocks : (names : List (List ℕ)) (u : UnitTrees) → IsSoundUnit names u → AreOfTexts u
    → EachBlock (λ before b. home_of u ≤ b.block.scope → IsMainBlock u.source before b) u.source (standard_rows ∷ []) (blocks_of u)
main-blocks names u sound trees =
    each_block_with (λ before b. CellsAreThere (declare_block u.source before b).rows (declare_block u.source before b).value) (λ before b. home_of u ≤ b.block.scope → IsMainBlock u.source before b) (IsChained (home_of u))
    (λ before b cells is low. is-main u.source before (home_of u) b cells is.tree low) u.source (standard_rows ∷ []) (blocks_of u) (unit_cells names u sound) (blocks_chained u trees)

-- ** Sight

sees : (scene : Scene) → LeadsInSight scene → Sees (IsInSight scene.block) scene
sees scene is =
    record {
      chain = λ s there. inl there;
      own = inl is.own;
      standard = inr is.positive;
      modules = λ name s d. subst (LeadsTo (IsInSight scene.block)) d.means (is.leads d.place.scope d.place.ordinal d.row d.there);
      aliases = λ name p d. subst (LeadsTo (IsInSight scene.block)) d.means (is.leads d.place.scope d.place.ordinal d.row d.there);
    }

pub blocks-see : (names : List (List ℕ)) (u : UnitTrees) → IsSoundUnit names u → AreOfTexts u
    → EachBlock (λ before b. Sees (IsInSight b.block) (complete_context u.source (unit_rows u) b.block).scene) u.source (standard_rows ∷ []) (blocks_of u)
blocks-see names u sound trees =
    each_block_with (λ before b. LeadsInSight (complete_context u.source (unit_rows u) b.block).scene) (λ before b. Sees (IsInSight b.block) (complete_context u.source (unit_rows u) b.block).scene) (IsChained (home_of u))
    (λ before b h is. sees (complete_context u.source (unit_rows u) b.block).scene h) u.source (standard_rows ∷ []) (blocks_of u) (unit_sight names u sound trees) (blocks_chained u trees)

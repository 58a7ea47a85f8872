-- The rows of a unit's definition modules are as they note them.
use Rattle.std.specs.Prelude.{◌≡◌, ℕ, ◌≤◌, ◌<◌, List, [], ◌∷◌, ◌++◌, Option, Some, None, is_some}
use Rattle.std.proofs.Common.{subst, refl, inl, inr, arith}
use Rattle.m2_base.specs.Lists.{Each}
use Rattle.m2_base.specs.Rows.{row_meaning}
use Rattle.m2_base.specs.declared.rows.Place.{Place}
use Rattle.m2_base.specs.declared.rows.Row.{Row}
use Rattle.m2_base.specs.declared.rows.RowMeaning.{RowMeaning}
use Rattle.m2_base.specs.declared.rows.RowMeaning.TheVariants.{Proc, Var}
use Rattle.m2_base.specs.declared.trees.Qual.{Qual}
use Rattle.m2_base.specs.declared.trees.declarations.StreamKind.TheVariants.{Definition}
use Rattle.m2_base.specs.Standard.{standard_rows}
use Rattle.m2_base.specs.Statics.BlockRows.{declare_block}
use Rattle.m2_base.specs.Statics.Blocks.{BlockTree, UnitTrees, blocks_of, home_of}
use Rattle.m2_base.specs.Statics.Cells.{most_cells}
use Rattle.m2_base.specs.Statics.Effects.{BlockEffects}
use Rattle.m2_base.specs.Statics.Items.{items_of}
use Rattle.m2_base.specs.Statics.Makes.{Makes}
use Rattle.m2_base.specs.Statics.ProcedureRows.{parameter_cells, result_cells}
use Rattle.row_laws.specs.Definitions.{IsAsNoted, cells_of_result}
use Rattle.row_laws.specs.Procedures.{IsDeclared, IsSeenAs, ProceduresAreDeclared}
use Rattle.row_laws.specs.RowRanges.{CellsAreThere, EachBlock, IsBelow, IsSoundUnit}
use Rattle.row_laws.specs.TextTrees.{AreOfTexts, HasTree}
use Rattle.row_laws.proofs.Chains.{IsChained, blocks_chained}
use Rattle.row_laws.proofs.Units.{unit_cells, unit_declared}

result_noted : (o : Option Place) (q : Option Qual) → is_some o ≡ is_some q → cells_of_result o ≡ result_cells q
result_noted None None e = refl
result_noted (Some t) (Some q) e = refl
result_noted None (Some q) e = absurd (cc)
result_noted (Some t) None e = absurd (cc)

-- what holds of a row as that of a procedure of a definition, and as that of a variable
row_noted : (u : UnitTrees) (d : BlockTree) (e : BlockEffects) (m : RowMeaning) → IsDeclared (IsSeenAs u d) Definition d.block e.headings (items_of d.tree) m → (e.cell ≤ most_cells → IsBelow e.cell m) → IsAsNoted u d e m
row_noted u d e (Proc t k s) f below =
    let h = f.0 in (
      record { name = h.name.name; number = k; params = parameter_cells h.sections; result = result_cells h.result },
      f.4,
      f.3,
      f.5,
      λ later there behind. let typ = f.6 later there behind in record { params = typ.cells; result = result_noted _ h.result typ.result },
    )
row_noted u d e (Var t mode o) f below = below
row_noted u d e m f below = tt

rows_noted : (u : UnitTrees) (d : BlockTree) (e : BlockEffects) (rows : List Row) → Each (λ r. IsDeclared (IsSeenAs u d) Definition d.block e.headings (items_of d.tree) (row_meaning r)) rows
    → (e.cell ≤ most_cells → Each (λ r. IsBelow e.cell (row_meaning r)) rows) → Each (λ r. IsAsNoted u d e (row_meaning r)) rows
rows_noted u d e [] f below = tt
rows_noted u d e (r ∷ rows) f below = (row_noted u d e (row_meaning r) f.0 (λ few. (below few).0), rows_noted u d e rows f.1 (λ few. (below few).1))

-- a block of a definition module has its kind
kind_noted : (home : ℕ) (b : BlockTree) → HasTree home b → b.block.scope < home → b.tree.kind ≡ Definition
kind_noted home b (inl d) low = d.1.kind_is
kind_noted home b (inr (inl d)) low = let x = d.0 in absurd (omega (arith, x, low))
kind_noted home b (inr (inr d)) low = let x = d.0 in absurd (omega (arith, x, low))

block_noted : (u : UnitTrees) (d : BlockTree) (m : Makes BlockEffects) → ProceduresAreDeclared u d m → CellsAreThere m.rows m.value → HasTree (home_of u) d → d.block.scope < home_of u
    → Each (λ r. IsAsNoted u d m.value (row_meaning r)) m.rows
block_noted u d m f cells tree low =
    rows_noted u d m.value m.rows
    (subst (λ k. Each (λ (r : Row). IsDeclared (IsSeenAs u d) k d.block m.value.headings (items_of d.tree) (row_meaning r)) m.rows) (kind_noted (home_of u) d tree low) f) cells.variables

all_noted : (u : UnitTrees) (blocks : List BlockTree) (before : List (List Row)) → EachBlock (λ before b. ProceduresAreDeclared u b (declare_block u.source before b)) u.source before blocks
    → EachBlock (λ before b. CellsAreThere (declare_block u.source before b).rows (declare_block u.source before b).value) u.source before blocks → Each (IsChained (home_of u)) blocks
    → EachBlock (λ before d. d.block.scope < home_of u → Each (λ r. IsAsNoted u d (declare_block u.source before d).value (row_meaning r)) (declare_block u.source before d).rows) u.source before blocks
all_noted u [] before f cells is = tt
all_noted u (b ∷ blocks) before f cells is =
    (block_noted u b (declare_block u.source before b) f.0 cells.0 is.0.tree, all_noted u blocks (before ++ (declare_block u.source before b).rows ∷ []) f.1 cells.1 is.1)

pub unit_noted : (names : List (List ℕ)) (u : UnitTrees) → IsSoundUnit names u → AreOfTexts u
    → EachBlock (λ before d. d.block.scope < home_of u → Each (λ r. IsAsNoted u d (declare_block u.source before d).value (row_meaning r)) (declare_block u.source before d).rows) u.source (standard_rows ∷ []) (blocks_of u)
unit_noted names u sound trees =
    all_noted u (blocks_of u) (standard_rows ∷ []) (unit_declared names u sound) (unit_cells names u sound) (blocks_chained u trees)

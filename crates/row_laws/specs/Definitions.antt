-- What the rows of a definition module say of what it notes: its headings, and the cells of its variables.
use Rattle.std.specs.Prelude.{◌≡◌, ℕ, ◌≤◌, Option, Some, None, slice_get}
use Rattle.m2_base.specs.Lists.{IsIn}
use Rattle.m2_base.specs.declared.outputs.HeadingNote.{HeadingNote}
use Rattle.m2_base.specs.declared.rows.Place.{Place}
use Rattle.m2_base.specs.declared.rows.RowMeaning.{RowMeaning}
use Rattle.m2_base.specs.declared.rows.RowMeaning.TheVariants.{Proc, Var}
use Rattle.m2_base.specs.Statics.Blocks.{BlockTree, UnitTrees, blocks_of}
use Rattle.m2_base.specs.Statics.Cells.{most_cells}
use Rattle.m2_base.specs.Statics.Contexts.{Scene}
use Rattle.m2_base.specs.Statics.Effects.{BlockEffects}
use Rattle.m2_base.specs.Statics.TypeParts.{parameters, result_of_type}
use Rattle.m2_base.specs.Statics.UnitNotes.{complete_context}
use Rattle.m2_base.specs.Statics.UnitRows.{unit_rows}
use Rattle.row_laws.specs.Procedures.{cells_of_parameters}
use Rattle.row_laws.specs.RowRanges.{IsBelow}

-- a result has one cell
abbrev pub cells_of_result : Option Place → ℕ
cells_of_result None = 0
cells_of_result (Some t) = 1

-- the procedure type has the cells and the result of the note
pub record IsNoted (scene : Scene) (note : HeadingNote) (t : Place) : Type 0 where
  pub params : cells_of_parameters scene (parameters scene t) ≡ note.params
  pub result : cells_of_result (result_of_type scene t) ≡ note.result

-- in the statements of each block of the unit that sees this one, the type is the note's
abbrev pub IsSeenAsNoted : UnitTrees → BlockTree → HeadingNote → Place → Type 0
IsSeenAsNoted u d note t = (later : BlockTree) → IsIn later (blocks_of u) → d.block.scope ≤ later.block.scope
    → IsNoted (complete_context u.source (unit_rows u) later.block).scene note t

-- A procedure's row is that of a heading: its number is that of the heading's note, which has what its type says. A
-- variable's cells are there, unless the definition has too many.
abbrev pub IsAsNoted : UnitTrees → BlockTree → BlockEffects → RowMeaning → Type 0
IsAsNoted u d e (Proc t k s) = (note : HeadingNote) × (slice_get e.headings k ≡ Some note) × (s ≡ 0)
    × (t.scope ≡ d.block.scope) × IsSeenAsNoted u d note t
IsAsNoted u d e (Var t mode o) = e.cell ≤ most_cells → IsBelow e.cell (Var t mode o)
IsAsNoted u d e other = Unit {0}

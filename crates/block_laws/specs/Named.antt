-- What the code of a block names is there: the whole that is asked of the block beside the ranges of its operands.
use Rattle.std.specs.Prelude.{◌≡◌, ℕ, ◌≤◌, List, Some, slice_get}
use Rattle.code_form.specs.Modules.{Procedure, World}
use Rattle.m2_base.specs.Lists.{Each}
use Rattle.m2_base.specs.declared.rows.Row.{Row}
use Rattle.m2_base.specs.Statics.BlockRows.{declare_block}
use Rattle.m2_base.specs.Statics.Blocks.{BlockTree}
use Rattle.m2_base.specs.Statics.Cells.{most_cells}
use Rattle.m2_base.specs.Statics.Closing.{block_name}
use Rattle.m2_base.specs.Statics.Contexts.{Source}
use Rattle.m2_base.specs.Statics.UnitNotes.{complete_context}
use Rattle.m2_base.specs.declared.trees.Ident.{Ident}
use Rattle.m2_base.specs.declared.trees.declarations.StreamKind.{StreamKind}
use Rattle.m2_base.specs.declared.trees.declarations.StreamKind.TheVariants.{Definition}
use Rattle.block_code.specs.BlockCode.{ProcedureCode, block_code, first_cell}
use Rattle.row_laws.specs.RowRanges.{IsCopyBelow}
use Rattle.block_laws.specs.Sight.{RowsNameThere}

-- a block's code as a procedure of an object
abbrev pub procedure_of : ProcedureCode → Procedure
procedure_of p =
    record {
      outer = p.outer;
      params = p.params;
      result = p.result;
      locals = p.locals;
      high = p.high;
      bytes = p.bytes;
      code = p.code;
    }

-- a definition module has no code
abbrev pub HasCode : StreamKind → Type 0
HasCode Definition = ⊥
HasCode kind = Unit {0}

-- Block b is procedure k of the module, and has a name. The rows that are seen name what is there; unless the block
-- has too many cells, what is copied first stands below its temporary cells.
pub record BlockNamesThere (seen : ℕ → Type 0) (w : World) (k : ℕ) (source : Source) (before all : List (List Row))
    (b : BlockTree) : Type 0 where
  pub coded : HasCode b.tree.kind
  pub name : Ident
  pub named : block_name b.tree ≡ Some name
  pub there : slice_get w.procedures k ≡ Some (procedure_of (block_code source before all b))
  pub copies : (declare_block source before b).value.cell ≤ most_cells
      → Each (IsCopyBelow (first_cell b.tree.kind (declare_block source before b).value.cell))
      (declare_block source before b).value.prologue
  pub rows : (declare_block source before b).value.cell ≤ most_cells → RowsNameThere seen w k
      (procedure_of (block_code source before all b)) (complete_context source all b.block).scene

-- Units of one text without procedures: their only block, and what its code can name.
use Rattle.std.specs.Prelude.{◌≡◌, ℕ, List, [], ◌∷◌, Some, None, slice_get}
use Rattle.code_form.specs.Modules.{Procedure, World}
use Rattle.m2_base.specs.Rows.{row_meaning}
use Rattle.m2_base.specs.declared.rows.RowMeaning.TheVariants.{Proc, Var}
use Rattle.m2_base.specs.declared.rows.Row.{Row}
use Rattle.m2_base.specs.declared.rows.RowMeaning.{RowMeaning}
use Rattle.m2_base.specs.Statics.BlockRows.{declare_block}
use Rattle.m2_base.specs.Statics.Blocks.{BlockTree, UnitTrees}
use Rattle.m2_base.specs.Statics.Closing.{block_name}
use Rattle.m2_base.specs.Statics.Contexts.{Scene, Source}
use Rattle.m2_base.specs.Statics.Items.{Item, heading_item, items_of, proc_item}
use Rattle.m2_base.specs.Statics.UnitNotes.{complete_context}
use Rattle.m2_base.specs.Tables.{rows_at}
use Rattle.m2_base.specs.Trees.{Stream}
use Rattle.m2_base.specs.Lists.{Each}
use Rattle.m2_base.specs.declared.trees.Ident.{Ident}
use Rattle.m2_base.specs.declared.trees.declarations.StreamKind.TheVariants.{Main}
use Rattle.row_laws.specs.RowRanges.{CellsAreThere}

-- a module of so many cells without imports, with this procedure alone
abbrev pub lone_world : (cells : ℕ) → Procedure → World
lone_world cells p = record { cells = cells; imports = []; procedures = p ∷ [] }

-- no row declares a procedure, and each variable is one of this scope
abbrev pub IsOfLone : (scope home : ℕ) → RowMeaning → Type 0
IsOfLone s home (Proc t number s') = ⊥
IsOfLone s home (Var t mode offset) = s ≡ home
IsOfLone s home other = Unit {0}

-- the rows of a scene are those of a lone module
abbrev pub AreOfLone : Scene → Type 0
AreOfLone scene =
    (s o : ℕ) (r : Row) → slice_get (rows_at scene.tables s) o ≡ Some r → IsOfLone s scene.block.scope (row_meaning r)

-- The block is a module's, it has a name, nothing is copied first, and no row of its scene declares a procedure or is
-- a variable of another module; its cells are there.
pub record IsLone (source : Source) (before all : List (List Row)) (b : BlockTree) : Type 0 where
  pub main : b.tree.kind ≡ Main
  pub name : Ident
  pub named : block_name b.tree ≡ Some name
  pub home : b.block.home ≡ b.block.scope
  pub nothing_copied : (declare_block source before b).value.prologue ≡ []
  pub rows : AreOfLone (complete_context source all b.block).scene
  pub cells : CellsAreThere (rows_at (complete_context source all b.block).scene.tables b.block.scope)
      (declare_block source before b).value

-- ** Units

-- a unit of one text, of a module without a definition of its own
abbrev pub lone_unit : Source → Stream → UnitTrees
lone_unit source tree = record { source = source; own = None; definitions = []; main = tree ∷ [] }

-- an item that is no procedure, nor a procedure's own heading
abbrev pub IsPlainItem : Item → Type 0
IsPlainItem (heading_item h) = ⊥
IsPlainItem (proc_item h stream) = ⊥
IsPlainItem other = Unit {0}

-- the tree of a module with a name that declares no procedure
pub record IsLoneTree (tree : Stream) : Type 0 where
  pub main : tree.kind ≡ Main
  pub name : Ident
  pub named : block_name tree ≡ Some name
  pub plain : Each IsPlainItem (items_of tree)

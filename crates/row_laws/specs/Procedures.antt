-- What the rows of procedures say of the procedures that a block declares.
use Rattle.std.specs.Prelude.{◌≡◌, ℕ, ◌+◌, ◌-◌, ◌≤◌, if◌then◌else◌, is_some, List, [], ◌∷◌, slice_get, Some}
use Rattle.m2_base.specs.Lists.{Each, IsIn}
use Rattle.m2_base.specs.Rows.{row_meaning}
use Rattle.m2_base.specs.declared.outputs.HeadingNote.{HeadingNote}
use Rattle.m2_base.specs.declared.rows.Place.{Place}
use Rattle.m2_base.specs.declared.rows.RowMeaning.{RowMeaning}
use Rattle.m2_base.specs.declared.rows.RowMeaning.TheVariants.{Proc}
use Rattle.m2_base.specs.declared.trees.declarations.StreamKind.{StreamKind}
use Rattle.m2_base.specs.declared.trees.declarations.StreamKind.TheVariants.{Definition}
use Rattle.m2_base.specs.Trees.{Heading}
use Rattle.m2_base.specs.Statics.Assignable.{is_open_array}
use Rattle.m2_base.specs.Statics.Blocks.{BlockTree, UnitTrees, blocks_of}
use Rattle.m2_base.specs.Statics.Contexts.{Block, Scene}
use Rattle.m2_base.specs.Statics.Effects.{BlockEffects}
use Rattle.m2_base.specs.Statics.Items.{Item, items_of, proc_item}
use Rattle.m2_base.specs.Statics.Makes.{Makes}
use Rattle.m2_base.specs.Statics.ProcedureRows.{parameter_cells, proc_scope, result_cells}
use Rattle.m2_base.specs.Statics.TypeParts.{Parameter, parameters, result_of_type}
use Rattle.m2_base.specs.Statics.UnitNotes.{complete_context}
use Rattle.m2_base.specs.Statics.UnitRows.{unit_rows}

-- the cells of these parameters: an open array has two
abbrev pub cells_of_parameters : Scene → List Parameter → ℕ
cells_of_parameters scene [] = 0
cells_of_parameters scene (p ∷ ps) = (if is_open_array scene p.typ then 2 else 1) + cells_of_parameters scene ps

-- the procedure type has parameters of as many cells as the heading's, and a result where that has one
pub record IsTypeOf (scene : Scene) (h : Heading) (t : Place) : Type 0 where
  pub cells : cells_of_parameters scene (parameters scene t) ≡ parameter_cells h.sections
  pub result : is_some (result_of_type scene t) ≡ is_some h.result

-- In a definition the note of this number is the heading's;
-- elsewhere a procedure's number is its scope less the module's.
abbrev pub HasNumber : StreamKind → Block → List HeadingNote → Heading → (stream number : ℕ) → Type 0
HasNumber Definition b notes h stream k =
    slice_get notes k ≡ Some
    (record { name = h.name.name; number = k; params = parameter_cells h.sections; result = result_cells h.result })
HasNumber kind b notes h stream k = k ≡ stream - b.home

-- A procedure's row is that of one of these items: it has the item's number, and a type of the block,
-- of which Q holds.
abbrev pub IsDeclared : (Q : Heading → Place → Type 0) → StreamKind → Block → List HeadingNote → List Item → RowMeaning
    → Type 0
IsDeclared Q kind b notes items (Proc t k s) =
    (h : Heading) × (stream : ℕ) × IsIn (proc_item h stream) items × (s ≡ proc_scope kind stream)
    × HasNumber kind b notes h stream k × (t.scope ≡ b.scope) × Q h t
IsDeclared Q kind b notes items other = Unit {0}

-- in the statements of each block of the unit that sees this one, the type is the heading's
abbrev pub IsSeenAs : UnitTrees → BlockTree → Heading → Place → Type 0
IsSeenAs u b h t = (later : BlockTree) → IsIn later (blocks_of u) → b.block.scope ≤ later.block.scope
    → IsTypeOf (complete_context u.source (unit_rows u) later.block).scene h t

-- each of a block's rows of procedures is that of one of its items
abbrev pub ProceduresAreDeclared : UnitTrees → BlockTree → Makes BlockEffects → Type 0
ProceduresAreDeclared u b m =
    Each (λ r. IsDeclared (IsSeenAs u b) b.tree.kind b.block m.value.headings (items_of b.tree) (row_meaning r)) m.rows

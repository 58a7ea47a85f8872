-- The world of a unit: what the code of its main text can name.
use Rattle.std.specs.Prelude.{ℕ, ◌-◌, List, [], ◌∷◌, ◌++◌, drop, length, map, slice_index_or, take, Option, Some, None}
use Rattle.code_form.specs.Heights.{Callee}
use Rattle.code_form.specs.Modules.{Import, World}
use Rattle.m2_base.specs.Standard.{standard_rows}
use Rattle.m2_base.specs.Statics.BlockRows.{declare_block}
use Rattle.m2_base.specs.Statics.Blocks.{BlockTree, UnitTrees, blocks_of}
use Rattle.m2_base.specs.Statics.Contexts.{Source, spelling}
use Rattle.m2_base.specs.Statics.Effects.{BlockEffects}
use Rattle.m2_base.specs.Statics.UnitRows.{unit_rows}
use Rattle.m2_base.specs.declared.outputs.HeadingNote.{HeadingNote}
use Rattle.m2_base.specs.declared.rows.Row.{Row}
use Rattle.m2_base.specs.declared.trees.Ident.{Ident}
use Rattle.block_code.specs.BlockCode.{block_code}
use Rattle.block_laws.specs.Named.{procedure_of}

-- what f makes of each of these blocks, over the finished scopes before it
abbrev pub over_blocks : {A : Type 0} → (f : List (List Row) → BlockTree → A) → Source → (before : List (List Row))
    → List BlockTree → List A
over_blocks f source before [] = []
over_blocks f source before (b ∷ blocks) =
    f before b ∷ over_blocks f source (before ++ (declare_block source before b).rows ∷ []) blocks

-- what f makes of each block of a unit
abbrev pub of_blocks : {A : Type 0} → (f : List (List Row) → BlockTree → A) → UnitTrees → List A
of_blocks f u = over_blocks f u.source (standard_rows ∷ []) (blocks_of u)

-- what a heading takes and leaves
abbrev pub callee_of : HeadingNote → Callee
callee_of note = record { params = note.params; result = note.result }

-- the bytes of a name, where there is one
abbrev pub name_bytes : Source → Option Ident → List ℕ
name_bytes source None = []
name_bytes source (Some i) = spelling source i.name

-- a definition module as an import, by its name and what it declares
abbrev pub import_with : (name : List ℕ) → BlockEffects → Import
import_with name e = record { name = name; cells = e.cell; headings = map callee_of e.headings }

-- the same, over the finished scopes before it
abbrev pub import_over : Source → List (List Row) → BlockTree → Import
import_over source before b = import_with (name_bytes source b.tree.name) (declare_block source before b).value

-- the items without that of the own definition, where there is one; the first has scope 1
abbrev pub without_own : {A : Type 0} → (own : Option ℕ) → List A → List A
without_own None xs = xs
without_own (Some s) xs = take (s - 1) xs ++ drop s xs

-- The cells are those of the main module. The imports are the definition modules in the order of their scopes, without
-- the own one; the procedures are the blocks of the main text, in the order of theirs.
abbrev pub unit_world : UnitTrees → World
unit_world u =
    record {
      cells =
          slice_index_or (of_blocks (λ before b. (declare_block u.source before b).value.cell) u)
          (length u.definitions) 0;
      imports = without_own u.own (take (length u.definitions) (of_blocks (import_over u.source) u));
      procedures = drop (length u.definitions)
          (of_blocks (λ before b. procedure_of (block_code u.source before (unit_rows u) b)) u);
    }

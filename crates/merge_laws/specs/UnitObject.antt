-- What the object of a unit says, by the definitions of its blocks.
use Rattle.std.specs.Prelude.{List, [], ◌∷◌, length, map, slice_index_or, take, Option, None}
use Rattle.code_form.specs.Modules.{Import}
use Rattle.m2_base.specs.Statics.Blocks.{UnitTrees}
use Rattle.m2_base.specs.Trees.{Stream}
use Rattle.m2_base.specs.Units.{Front, TextOf, UnitTexts}
use Rattle.m2_base.specs.declared.trees.Ident.{Ident}
use Rattle.block_laws.specs.Worlds.{import_over, name_bytes, of_blocks, unit_world, without_own}
use Rattle.object_file.specs.Contents.{Contents, KeyedImport, no_key}
use Rattle.definition_keys.specs.Keys.{Keys, unit_keys}
use Rattle.unit_merge.specs.Objects.{exports_in, of_own}
use Rattle.merge_laws.specs.Outputs.{cells_in, headings_in}

-- definition modules as imports, each with the key of its text; those that have no key are left out
abbrev pub keyed : Keys → List Import → List KeyedImport
keyed [] imports = []
keyed (k ∷ keys) [] = []
keyed (k ∷ keys) (i ∷ imports) = record { key = k.1; definition = i } ∷ keyed keys imports

-- the definition modules of a unit, in the order of their scopes
abbrev pub definitions_in : UnitTrees → List Import
definitions_in u = take (length u.definitions) (of_blocks (import_over u.source) u)

-- the name of the module
abbrev pub module_name : List Stream → Option Ident
module_name [] = None
module_name (tree ∷ trees) = tree.name

-- The object of a unit, by the keys of its definition texts in the order of their scopes. It is of version 2, and has
-- the name of the module. What is of the own definition is its key, its cells, which are the first of the module's,
-- and its headings, which are the exports in their order. The other definition modules are its imports, in the order
-- of their scopes; its procedures are the blocks of the main text in the order of theirs.
abbrev pub unit_contents : Keys → UnitTrees → Contents
unit_contents keys u =
    record {
      version = 2;
      name = name_bytes u.source (module_name u.main);
      key = of_own no_key u.own (map (λ k. k.1) keys);
      cells = (unit_world u).cells;
      own_cells = of_own 0 u.own (cells_in u);
      exports =
          exports_in (slice_index_or (headings_in u) (length u.definitions) []) (of_own [] u.own (headings_in u));
      imports = without_own u.own (keyed keys (definitions_in u));
      procedures = (unit_world u).procedures;
    }

-- the object of a unit with these texts, of which these are the fronts
abbrev pub object_of : (front : TextOf → Front) → UnitTexts → UnitTrees → Contents
object_of front texts u = unit_contents (unit_keys front texts) u

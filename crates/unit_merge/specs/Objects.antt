-- The object that outputs make: which module it is of, what it gives to other modules and what it asks of them, and
-- the code of the blocks of the main text.
use Rattle.std.specs.Prelude.{◌≡◌, ℕ, ◌-◌, ◌^◌, ◌<◌, ◌==◌, if◌then◌else◌, List, [], ◌∷◌, ◌++◌, drop, length, map}
use Rattle.std.specs.Prelude.{slice_get, slice_index_or, take, unwrap_or, Option, Some, None}
use Rattle.code_form.specs.Heights.{Callee}
use Rattle.definition_keys.specs.Keys.{Keys}
use Rattle.m2_base.specs.Finished.{no_text, own_scope}
use Rattle.m2_base.specs.Lists.{Each, WhereKept}
use Rattle.m2_base.specs.Names.{number_in}
use Rattle.m2_base.specs.Units.{TextOf, UnitTexts}
use Rattle.m2_base.specs.declared.outputs.HeadingNote.{HeadingNote}
use Rattle.m2_base.specs.declared.outputs.Output.{Output}
use Rattle.object_file.specs.Contents.{Contents, Export, KeyedImport, no_key}
use Rattle.object_file.specs.Views.{procedure_of}

-- ** Names

-- the bytes of a name
abbrev pub spelled : (names : List (List ℕ)) → (name : ℕ) → List ℕ
spelled names name = slice_index_or names name []

-- a module has the name of its text
abbrev pub name_in : Option TextOf → ℕ
name_in None = 0
name_in (Some t) = t.name

-- the number of the name is the number of its bytes
abbrev pub HasItsNumber : (names : List (List ℕ)) → (name : ℕ) → Type 0
HasItsNumber names name = number_in names (spelled names name) ≡ Some name

-- so that definition modules with different numbers have different names
abbrev pub HaveTheirNumbers : UnitTexts → Type 0
HaveTheirNumbers texts = Each (λ k. HasItsNumber texts.names (slice_index_or texts.list k no_text).name) texts.order

-- ** The own definition

-- what there is of the own definition, among these of the definition modules or of all blocks
abbrev pub of_own : {A : Type 0} → (none : A) → (own : Option ℕ) → List A → A
of_own none None xs = none
of_own none (Some s) xs = slice_index_or xs (s - 1) none

-- what there is of the others
abbrev pub without_own : {A : Type 0} → (own : Option ℕ) → List A → List A
without_own None xs = xs
without_own (Some s) xs = take (s - 1) xs ++ drop s xs

-- where there is one, the place is that of a definition module
abbrev pub IsPlaceIn : Keys → Option ℕ → Type 0
IsPlaceIn keys own = WhereKept own (λ place. place < length keys)

-- ** Exports

-- the number of the first procedure with this name
abbrev pub number_of : List HeadingNote → (name : ℕ) → Option ℕ
number_of [] name = None
number_of (h ∷ headings) name = if h.name == name then Some h.number else number_of headings name

-- a heading of the own definition, with the number of the module's procedure of that name
abbrev pub export_in : (of_module : List HeadingNote) → HeadingNote → Export
export_in headings h = (unwrap_or (number_of headings h.name) 0, h.params, h.result)

abbrev pub exports_in : (of_module own : List HeadingNote) → List Export
exports_in headings own = map (export_in headings) own

-- ** Imports

-- what a heading takes and leaves
abbrev pub callee_of : HeadingNote → Callee
callee_of note = record { params = note.params; result = note.result }

-- a definition module as an import, by its key and its output
abbrev pub import_from : (names : List (List ℕ)) → ℕ × List ℕ → Output → KeyedImport
import_from names k o = record {
  key = k.1;
  definition = record { name = spelled names k.0; cells = o.cells; headings = map callee_of o.headings.items };
}

abbrev pub imports_from : (names : List (List ℕ)) → Keys → List Output → List KeyedImport
imports_from names [] outputs = []
imports_from names (k ∷ keys) [] = []
imports_from names (k ∷ keys) (o ∷ outputs) = import_from names k o ∷ imports_from names keys outputs

-- ** The whole

-- the cells, and the headings, that outputs have
abbrev pub cells_by : List Output → List ℕ
cells_by outputs = map (λ o. o.cells) outputs

abbrev pub headings_by : List Output → List (List HeadingNote)
headings_by outputs = map (λ o. o.headings.items) outputs

-- The object of a unit, by the keys of its definition texts in the order of their scopes, and its outputs. It is of
-- version 2, and has the name of the main text. What is of the own definition is its key, its cells, which are the
-- first of the module's, and its headings, which are the exports in their order. The other definition modules are its
-- imports, in the order of their scopes; its procedures are the blocks of the main text in the order of theirs.
abbrev pub contents_from : Keys → UnitTexts → List Output → Contents
contents_from keys texts outputs =
    record {
      version = 2;
      name = spelled texts.names (name_in (slice_get texts.list 0));
      key = of_own no_key (own_scope texts) (map (λ k. k.1) keys);
      cells = slice_index_or (cells_by outputs) (length texts.order) 0;
      own_cells = of_own 0 (own_scope texts) (cells_by outputs);
      exports = exports_in (slice_index_or (headings_by outputs) (length texts.order) [])
          (of_own [] (own_scope texts) (headings_by outputs));
      imports = without_own (own_scope texts) (imports_from texts.names keys outputs);
      procedures = map (λ o. procedure_of o.code) (drop (length texts.order) outputs);
    }

-- the greatest heights of the blocks of the main text are numbers of 32 bits
abbrev pub HaveLowHeights : UnitTexts → List Output → Type 0
HaveLowHeights texts outputs = Each (λ o. o.code.high < 2 ^ 32) (drop (length texts.order) outputs)

-- What the texts of a unit mean for the tables: the rows that each scope has in the end, where all texts can be read.
use Rattle.std.specs.Prelude.{◌≡◌, ℕ, ◌+◌, ◌==◌, true, false, List, [], ◌∷◌, Option, Some, None, length, map}
use Rattle.std.specs.Prelude.{option_map, position, slice_get, slice_index_or}
use Rattle.std.specs.List.{AllZip}
use Rattle.m2_base.specs.Rows.{Row}
use Rattle.m2_base.specs.Statics.BlockLimits.{begins_procedure, limit_of}
use Rattle.m2_base.specs.Statics.Blocks.{UnitTrees}
use Rattle.m2_base.specs.Statics.Contexts.{DefinitionModule, Source}
use Rattle.m2_base.specs.Statics.UnitRows.{unit_rows}
use Rattle.m2_base.specs.Trees.{Stream}
use Rattle.m2_base.specs.Units.{TextOf, UnitTexts}
use Rattle.m2_base.specs.WholeTexts.{SpellsDefinition, SpellsMain}
use Rattle.m2_base.specs.declared.token.Token.{Token}

-- ** What is read of a unit's texts

-- the tokens of a text, if there is one
abbrev pub tokens_in : Option TextOf → List Token
tokens_in None = []
tokens_in (Some t) = t.tokens

-- the text of this number
abbrev pub tokens_of : UnitTexts → ℕ → List Token
tokens_of u k = tokens_in (slice_get u.list k)

-- the main text
abbrev pub main_tokens : UnitTexts → List Token
main_tokens u = tokens_in (slice_get u.list 0)

-- the scope of the main module: scope 0 has the standard rows, and the definition modules come first
abbrev pub main_number : UnitTexts → ℕ
main_number u = length u.order + 1

-- the scope of a definition text
abbrev pub scope_in : (order : List ℕ) → Option ℕ → Option ℕ
scope_in order None = None
scope_in order (Some k) = option_map (λ n. n + 1) (position (λ x. x == k) order)

-- the scope of the own definition of an implementation module
abbrev pub own_scope : UnitTexts → Option ℕ
own_scope u = scope_in u.order u.own

abbrev pub no_text : TextOf
no_text = record { name = 0; definition = true; tokens = [] }

-- the definition modules of a unit, in the order of their scopes
abbrev pub definitions_of : UnitTexts → List DefinitionModule
definitions_of u = map (λ k. record { name = (slice_index_or u.list k no_text).name; text = k }) u.order

-- what the definitions read of a unit's texts
abbrev pub source_of : UnitTexts → Source
source_of u = record { spellings = u.names; definitions = definitions_of u }

-- ** Finished rows

-- These are the trees of a unit: its definition texts, in dependency order, spell one each, and the main text spells
-- its blocks. No text has a syntax error, and the main text passes no limit on procedures.
pub record AreRead (u : UnitTexts) (trees : UnitTrees) : Type 0 where
  pub source : trees.source ≡ source_of u
  pub own : trees.own ≡ own_scope u
  pub definitions : AllZip (λ k tree. SpellsDefinition (tree ∷ []) (tokens_of u k)) u.order trees.definitions
  pub main : SpellsMain (main_number u) trees.main (main_tokens u)
  pub limits : limit_of (main_tokens u) ≡ None

-- These are the finished rows of a unit: its texts have trees, and the declarations of these make the rows.
pub record IsFinished (u : UnitTexts) (tables : List (List Row)) : Type 0 where
  pub trees : UnitTrees
  pub read : AreRead u trees
  pub rows : tables ≡ unit_rows trees

-- none of the tokens begins a procedure
abbrev pub HasNoProcedure : List Token → Type 0
HasNoProcedure [] = Unit {0}
HasNoProcedure (t ∷ tokens) = (begins_procedure t.kind tokens ≡ false) × HasNoProcedure tokens

-- the trees of a unit of one text without procedures: that of the main module
abbrev pub lone_trees : UnitTexts → Stream → UnitTrees
lone_trees u tree = record { source = source_of u; own = None; definitions = []; main = tree ∷ [] }

-- P of the finished rows, where no text has a syntax error
abbrev pub WhereFinished : UnitTexts → (List (List Row) → Type 0) → Type 0
WhereFinished u P = (tables : List (List Row)) → IsFinished u tables → P tables

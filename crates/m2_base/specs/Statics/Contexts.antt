-- Where a name, a type or an expression stands: what surrounds its block, the rows that count there, and the block's
-- layout.
use Rattle.std.specs.Prelude.{ℕ, ◌+◌, ◌-◌, ◌==◌, List, [], ◌∷◌, ◌++◌, map, take, position, slice_index_or, Option}
use Rattle.std.specs.Prelude.{unwrap_or, option_map}
use Rattle.m2_base.specs.Gives.{Gives, gives_with}
use Rattle.m2_base.specs.Rows.{Row, row_of, Broken, Place}
use Rattle.m2_base.specs.Tables.{rows_at}
use Rattle.m2_base.specs.declared.notes.Diag.{Diag}
pub use Rattle.m2_base.specs.declared.sites.Named.{Named}

-- The layout of a block. Of the names that its syntax declares each has the ordinal that its row would have if nothing
-- were brought, and its kind, token and item; `firsts` has the first ordinal of each item so, and the number of all
-- rows last; `brought` has the names that the block's imports have brought so far, with the ordinals of their rows.
pub record Layout : Type 0 where
  pub names : List Named
  pub firsts : List ℕ
  pub brought : List Named

-- of a block that declares nothing
abbrev pub no_layout : Layout
no_layout = record { names = []; firsts = []; brought = [] }

-- What surrounds a block. `home` is the scope of its module, of a definition module its own; `own` is the scope of the
-- own definition of an implementation module; `level` is 0 for a module, 1 for its procedures; `chain` has the block,
-- the procedures round it from the inside out, the module and the own definition.
pub record Block : Type 0 where
  pub scope : ℕ
  pub text : ℕ
  pub level : ℕ
  pub home : ℕ
  pub own : Option ℕ
  pub chain : List ℕ

-- a definition module of the unit: its name and the number of its text
pub record DefinitionModule : Type 0 where
  pub name : ℕ
  pub text : ℕ

-- What the definitions read of a unit's texts: the bytes of each name, and the definition modules in the order of
-- their scopes, which are 1, 2 and so on.
pub record Source : Type 0 where
  pub spellings : List (List ℕ)
  pub definitions : List DefinitionModule

-- A block and the rows that count there: of the scopes before it all, of its own scope in a declaration those of the
-- items before, in a statement all.
pub record Scene : Type 0 where
  pub block : Block
  pub tables : List (List Row)

-- The place where something stands: in a declaration with the number of its item.
pub record Context : Type 0 where
  pub source : Source
  pub scene : Scene
  pub layout : Layout
  pub item : Option ℕ

-- the scene of a block over these scopes, of its own scope these rows: in a declaration the rows made so far, in a
-- statement all
abbrev pub counting : (tables : List (List Row)) → Block → (own : List Row) → Scene
counting tables b own = record { block = b; tables = take b.scope tables ++ own ∷ [] }

-- the text of a scope: the definition modules have theirs, all other blocks are in the main text
abbrev pub text_of_scope : Source → ℕ → ℕ
text_of_scope source s = slice_index_or (0 ∷ map (λ d. d.text) source.definitions) s 0

-- the scope of the definition module of this name
abbrev pub scope_of_module : Source → ℕ → ℕ
scope_of_module source name = unwrap_or (option_map (λ n. n + 1) (position (λ d. d.name == name) source.definitions)) 0

-- the bytes of a name
abbrev pub spelling : Source → ℕ → List ℕ
spelling source name = slice_index_or source.spellings name []

-- a diagnostic in the text of this block
abbrev pub diag : Context → (at code : ℕ) → Diag
diag c at code = record { text = c.scene.block.text; at = at; code = code }

-- a value with a diagnostic in the text of this block
abbrev pub refuse : {T : Type 0} → Context → (at code : ℕ) → T → Gives T
refuse c at code v = gives_with (diag c at code) v

-- the row at a place; one that is missing is as Broken
abbrev pub row_at : List (List Row) → Place → Row
row_at tables p = slice_index_or (rows_at tables p.scope) p.ordinal (row_of 0 0 Broken)

-- the level of a scope: procedures round this block by their distance in its chain; modules have 0
abbrev pub level_of : Block → ℕ → ℕ
level_of b s = b.level - unwrap_or (position (λ q. q == s) b.chain) b.level

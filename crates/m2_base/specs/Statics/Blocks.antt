-- The blocks of a unit, in the order of their scopes: the definition modules, the main module, and its procedures in
-- the order of their PROCEDURE tokens.
use Rattle.std.specs.List.{list_any}
use Rattle.std.specs.Prelude.{Bool, List, None, Option, Some, [], false, find, length, ℕ, ◌+◌, ◌∷◌, ◌++◌, ◌==◌, drop}
use Rattle.std.specs.Prelude.{◌<◌}
use Rattle.m2_base.specs.Lists.{Each}
use Rattle.m2_base.specs.Statics.Contexts.{Block, DefinitionModule, Source}
use Rattle.m2_base.specs.Trees.{Decl, Stream, proc_decl}

-- a block with its tree
pub record BlockTree : Type 0 where
  pub block : Block
  pub tree : Stream

-- The trees of a unit's texts: of the definition modules in the order of their scopes, and of the main text, the
-- module's first. `own` is the scope of the own definition of an implementation module.
pub record UnitTrees : Type 0 where
  pub source : Source
  pub own : Option ℕ
  pub definitions : List Stream
  pub main : List Stream

-- the chain of a definition module is its scope alone
abbrev pub definition_blocks : (scope : ℕ) → List DefinitionModule → List Stream → List BlockTree
definition_blocks s (d ∷ ds) (tree ∷ trees) =
    record {
      block = record { scope = s; text = d.text; level = 0; home = s; own = None; chain = s ∷ [] };
      tree = tree;
    } ∷ definition_blocks (s + 1) ds trees
definition_blocks s ds trees = []

-- the scope of the main module
abbrev pub home_of : UnitTrees → ℕ
home_of u = length u.definitions + 1

-- a chain that ends with the own definition, where there is one
abbrev pub with_own : List ℕ → Option ℕ → List ℕ
with_own chain None = chain
with_own chain (Some s) = chain ++ s ∷ []

-- the chain of the main module is its scope, and the own definition's
abbrev pub main_block : UnitTrees → Stream → BlockTree
main_block u tree =
    record {
      block = record {
        scope = home_of u;
        text = 0;
        level = 0;
        home = home_of u;
        own = u.own;
        chain = with_own (home_of u ∷ []) u.own;
      };
      tree = tree;
    }

-- the declaration is of the procedure of this stream
abbrev pub declares : (stream : ℕ) → Decl → Bool
declares n (proc_decl h stream) = stream == n
declares n other = false

-- the block whose declarations have the procedure of this stream
abbrev pub encloser : List BlockTree → (stream : ℕ) → Option BlockTree
encloser blocks n = find (λ b. list_any (declares n) b.tree.decls) blocks

-- a procedure's level is one more than that of the block round it, and its chain begins with its own scope
abbrev pub procedure_block : (scope : ℕ) → Stream → Option BlockTree → List BlockTree
procedure_block s tree None = []
procedure_block s tree (Some outer) =
    record {
      block =
          record {
            scope = s;
            text = outer.block.text;
            level = outer.block.level + 1;
            home = outer.block.home;
            own = outer.block.own;
            chain = s ∷ outer.block.chain;
          };
      tree = tree;
    } ∷ []

-- the blocks of the main text, those before this scope given
abbrev pub main_blocks : List BlockTree → (scope : ℕ) → List Stream → List BlockTree
main_blocks before s [] = before
main_blocks before s (tree ∷ trees) = main_blocks (before ++ procedure_block s tree (encloser before s)) (s + 1) trees

-- the blocks of the main text, by its trees, the module's first
abbrev pub blocks_of_main : UnitTrees → List Stream → List BlockTree
blocks_of_main u [] = []
blocks_of_main u (tree ∷ trees) = main_blocks (main_block u tree ∷ []) (home_of u + 1) trees

-- all blocks of a unit; the first has scope 1
unfoldable pub blocks_of : UnitTrees → List BlockTree
blocks_of u = definition_blocks 1 u.source.definitions u.definitions ++ blocks_of_main u u.main

-- the scopes of the block's chain but the first have smaller numbers than its own
abbrev pub GoesDown : BlockTree → Type 0
GoesDown b = Each (λ s. s < b.block.scope) (drop 1 b.block.chain)

-- What surrounds the blocks of a unit, by what its texts are cut into.
use Rattle.std.specs.Prelude.{◌≡◌, ◌+◌, ◌<◌, ◌≤◌, List, ◌∷◌, drop, length, map}
use Rattle.m2_base.specs.Lists.{Each, WhereKept}
use Rattle.m2_base.specs.Statics.Blocks.{UnitTrees}
use Rattle.m2_base.specs.Statics.Contexts.{Block}
use Rattle.m2_base.specs.Units.{UnitTexts}
use Rattle.m2_base.specs.WholeTexts.{SpellsMain}
use Rattle.stream_split.specs.Chains.{block_of, own_scope}
use Rattle.stream_split.specs.Streams.{StreamOf, main_number, main_tokens, streams_of}

-- what surrounds the block of each stream
abbrev pub surroundings_of : UnitTexts → List Block
surroundings_of u = map (block_of (main_number u) (own_scope u) (streams_of u)) (streams_of u)

-- These are the trees of a unit whose main text has trees: its definition modules are those of the texts in dependency
-- order, each with a tree, and it has the same own definition.
pub record AreTreesOf (texts : UnitTexts) (trees : UnitTrees) : Type 0 where
  pub modules : map (λ d. d.text) trees.source.definitions ≡ texts.order
  pub definitions : length trees.definitions ≡ length texts.order
  pub own : trees.own ≡ own_scope texts
  pub main : SpellsMain (main_number texts) trees.main (main_tokens texts)

-- This block is the stream's, and can be searched from: it has the number of the stream as its scope, and the stream's
-- text and level; its chain begins with its scope, and has the scopes of the procedures round it, the module's and the
-- own definition's, all of which come before.
pub record IsSurrounded (s : StreamOf) (b : Block) : Type 0 where
  pub scope : b.scope ≡ s.stream
  pub text : b.text ≡ s.text
  pub level : b.level ≡ s.level
  pub positive : 0 < b.scope
  pub home : b.home ≤ b.scope
  pub own : WhereKept b.own (λ o. o < b.scope)
  pub chain : b.chain ≡ b.scope ∷ drop 1 b.chain
  pub down : Each (λ k. k < b.scope) (drop 1 b.chain)
  pub short : length b.chain ≤ b.level + 2

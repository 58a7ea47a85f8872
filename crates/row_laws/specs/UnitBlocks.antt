-- What is asked of the blocks of a unit so that their code can name each other: it holds of the trees of read texts.
use Rattle.std.specs.Prelude.{◌≡◌, ℕ, ◌+◌, ◌<◌, ◌≤◌, ◌∷◌, Some, None}
use Rattle.m2_base.specs.Lists.{Each, IsIn, WhereKept}
use Rattle.m2_base.specs.Statics.Blocks.{BlockTree, UnitTrees, blocks_of, home_of}
use Rattle.m2_base.specs.Statics.Closing.{block_name}
use Rattle.m2_base.specs.Statics.Items.{items_of, proc_item}
use Rattle.m2_base.specs.Trees.{Heading}
use Rattle.m2_base.specs.declared.trees.Ident.{Ident}
use Rattle.m2_base.specs.declared.trees.declarations.StreamKind.TheVariants.{Definition, Main, Procedure}

-- a block's tree is of the kind that its scope tells, and has a name
pub record HasItsForm (home : ℕ) (b : BlockTree) : Type 0 where
  pub definition : b.block.scope < home → b.tree.kind ≡ Definition
  pub module_kind : b.block.scope ≡ home → b.tree.kind ≡ Main
  pub module_heading : b.block.scope ≡ home → b.tree.heading ≡ None
  pub procedure : home < b.block.scope → b.tree.kind ≡ Procedure
  pub name : Ident
  pub named : block_name b.tree ≡ Some name

-- the block of a procedure with this heading, which is declared in the block `outer`
pub record IsProcedureIn (outer : BlockTree) (h : Heading) (stream : ℕ) (b : BlockTree) : Type 0 where
  pub scope : b.block.scope ≡ stream
  pub behind : outer.block.scope < stream
  pub heading : b.tree.heading ≡ Some h
  pub level : b.block.level ≡ outer.block.level + 1
  pub chain : b.block.chain ≡ stream ∷ outer.block.chain

-- each procedure that is declared in a block of the main text is a block of the unit
abbrev pub HasItsProcedures : UnitTrees → BlockTree → Type 0
HasItsProcedures u b =
    home_of u ≤ b.block.scope → (h : Heading) (stream : ℕ) → IsIn (proc_item h stream) (items_of b.tree)
    → (q : BlockTree) × IsIn q (blocks_of u) × IsProcedureIn b h stream q

-- a unit's blocks have their forms and their procedures, and scope 0 is no definition's
pub record HasItsBlocks (u : UnitTrees) : Type 0 where
  pub own : WhereKept u.own (λ s. 0 < s)
  pub forms : Each (HasItsForm (home_of u)) (blocks_of u)
  pub procedures : Each (HasItsProcedures u) (blocks_of u)

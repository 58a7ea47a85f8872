-- The trees of a unit's texts, by the kinds of their streams.
use Rattle.std.specs.Prelude.{◌≡◌, ℕ, ◌<◌, ◌⊎◌, List, [], ◌∷◌, Some, None}
use Rattle.m2_base.specs.Lists.{Each}
use Rattle.m2_base.specs.Statics.Blocks.{BlockTree, UnitTrees}
use Rattle.m2_base.specs.declared.trees.Ident.{Ident}
use Rattle.m2_base.specs.declared.trees.declarations.StreamKind.{StreamKind}
use Rattle.m2_base.specs.declared.trees.declarations.StreamKind.TheVariants.{Definition, Main, Procedure}
use Rattle.m2_base.specs.Trees.{Heading, Stream}

-- a module's tree has a name, and no heading
pub record IsModuleTree (kind : StreamKind) (tree : Stream) : Type 0 where
  pub kind_is : tree.kind ≡ kind
  pub name : Ident
  pub named : tree.name ≡ Some name
  pub headless : tree.heading ≡ None

-- a procedure's tree has a heading, and imports nothing
pub record IsProcedureTree (tree : Stream) : Type 0 where
  pub kind_is : tree.kind ≡ Procedure
  pub heading : Heading
  pub headed : tree.heading ≡ Some heading
  pub no_imports : tree.imports ≡ []

-- the tree of a stream of this kind
abbrev pub IsTreeOf : StreamKind → Stream → Type 0
IsTreeOf Main tree = IsModuleTree Main tree
IsTreeOf Definition tree = IsModuleTree Definition tree
IsTreeOf Procedure tree = IsProcedureTree tree

-- the trees of a main text: the module's, then those of its procedures
abbrev pub AreOfMain : List Stream → Type 0
AreOfMain [] = Unit {0}
AreOfMain (tree ∷ trees) = IsTreeOf Main tree × Each (IsTreeOf Procedure) trees

-- the trees of a unit are of the kinds of their texts
pub record AreOfTexts (u : UnitTrees) : Type 0 where
  pub definitions : Each (IsTreeOf Definition) u.definitions
  pub main : AreOfMain u.main

-- a block's tree by its scope: a definition module's before the main module, a procedure's behind
abbrev pub HasTree : (home : ℕ) → BlockTree → Type 0
HasTree home b =
    ((b.block.scope < home) × IsTreeOf Definition b.tree)
    ⊎ (((b.block.scope ≡ home) × IsTreeOf Main b.tree) ⊎ ((home < b.block.scope) × IsTreeOf Procedure b.tree))

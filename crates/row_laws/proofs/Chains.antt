-- Where each block of a unit stands: its chain has its own scope and its module's, and its tree is of its text's kind.
use Rattle.std.specs.Prelude.{◌≡◌, ℕ, ◌+◌, ◌<◌, ◌≤◌, ◌⊎◌, List, [], ◌∷◌, ◌++◌, length, Option, Some, None}
use Rattle.std.specs.List.{list_any}
use Rattle.std.proofs.Common.{refl, inl, inr, arith}
use Rattle.m2_base.specs.Lists.{Each, IsIn, WhereKept}
use Rattle.m2_base.specs.Trees.{Stream}
use Rattle.m2_base.specs.declared.trees.declarations.StreamKind.TheVariants.{Definition, Procedure}
use Rattle.m2_base.specs.Statics.Blocks.{BlockTree, UnitTrees, blocks_of, blocks_of_main, declares, definition_blocks, encloser, home_of, main_block, main_blocks, procedure_block, with_own}
use Rattle.m2_base.specs.Statics.Contexts.{Block, DefinitionModule}
use Rattle.m2_base.proofs.EachLaws.{each_append, each_found, each_then}
use Rattle.row_laws.specs.TextTrees.{AreOfMain, AreOfTexts, HasTree, IsTreeOf}

-- a definition module's block is its own module's, every other one is the main module's
abbrev pub IsAtHome : (home : ℕ) → Block → Type 0
IsAtHome home b = ((b.home ≡ b.scope) × (b.scope < home)) ⊎ ((b.home ≡ home) × (home ≤ b.scope))

-- a block of a unit whose main module has this scope
pub record IsChained (home : ℕ) (b : BlockTree) : Type 0 where
  pub own : IsIn b.block.scope b.block.chain
  pub of_module : IsIn b.block.home b.block.chain
  pub positive : 0 < b.block.home
  pub at_home : IsAtHome home b.block
  pub tree : HasTree home b

definitions_chained : (home s : ℕ) (ds : List DefinitionModule) (trees : List Stream) → 0 < s → s + length trees ≤ home → Each (IsTreeOf Definition) trees → Each (IsChained home) (definition_blocks s ds trees)
definitions_chained home s [] trees p h f = tt
definitions_chained home s (d ∷ ds) [] p h f = tt
definitions_chained home s (d ∷ ds) (tree ∷ trees) p h f = (
  record { own = inl refl; of_module = inl refl; positive = p; at_home = inl (refl, omega (arith, h)); tree = inl (omega (arith, h), f.0) },
  definitions_chained home (s + 1) ds trees (omega arith) (omega (arith, h)) f.1,
)

-- a block of the main module
record IsOfMain (home : ℕ) (b : BlockTree) : Type 0 where
  chained : IsChained home b
  home_is : b.block.home ≡ home

procedure_chained : (home s : ℕ) (tree : Stream) (o : Option BlockTree) → 0 < home → home < s → IsTreeOf Procedure tree → WhereKept o (IsOfMain home) → Each (IsOfMain home) (procedure_block s tree o)
procedure_chained home s tree None p h f k = tt
procedure_chained home s tree (Some outer) p h f k = (
  record {
    chained = record {
      own = inl refl;
      of_module = inr k.chained.of_module;
      positive = k.chained.positive;
      at_home = inr (k.home_is, omega (arith, h));
      tree = inr (inr (h, f));
    };
    home_is = k.home_is;
  },
  tt,
)

main_chained : (home : ℕ) (trees : List Stream) (before : List BlockTree) (s : ℕ) → 0 < home → home < s → Each (IsTreeOf Procedure) trees → Each (IsOfMain home) before → Each (IsChained home) (main_blocks before s trees)
main_chained home [] before s p h f k = each_then (IsOfMain home) (IsChained home) before (λ b m. m.chained) k
main_chained home (tree ∷ trees) before s p h f k =
    main_chained home trees (before ++ procedure_block s tree (encloser before s)) (s + 1) p (omega (arith, h)) f.1
    (each_append (IsOfMain home) before _ k
    (procedure_chained home s tree (encloser before s) p h f.0 (each_found (IsOfMain home) (λ b. list_any (declares s) b.tree.decls) before k)))

first_in : (home : ℕ) (own : Option ℕ) → IsIn home (with_own (home ∷ []) own)
first_in home None = inl refl
first_in home (Some s) = inl refl

of_main_chained : (u : UnitTrees) (trees : List Stream) → AreOfMain trees → Each (IsChained (home_of u)) (blocks_of_main u trees)
of_main_chained u [] f = tt
of_main_chained u (tree ∷ trees) f =
    main_chained (home_of u) trees (main_block u tree ∷ []) (home_of u + 1) (omega arith) (omega arith) f.1 (
      record {
        chained = record {
          own = first_in (home_of u) u.own;
          of_module = first_in (home_of u) u.own;
          positive = omega arith;
          at_home = inr (refl, omega arith);
          tree = inr (inl (refl, f.0));
        };
        home_is = refl;
      },
      tt,
    )

pub blocks_chained : (u : UnitTrees) → AreOfTexts u → Each (IsChained (home_of u)) (blocks_of u)
unfolding blocks_of
blocks_chained u f =
    each_append (IsChained (home_of u)) (definition_blocks 1 u.source.definitions u.definitions) _
    (definitions_chained (home_of u) 1 u.source.definitions u.definitions (omega arith) (omega arith) f.definitions) (of_main_chained u u.main f.main)

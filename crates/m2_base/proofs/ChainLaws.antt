-- Every chain goes down: its scopes but the first have smaller numbers than the block's.
use Rattle.std.specs.Prelude.{ℕ, ◌+◌, ◌<◌, ◌≤◌, List, [], ◌∷◌, ◌++◌, Option, Some, None}
use Rattle.std.specs.List.{list_any}
use Rattle.std.proofs.Common.{arith}
use Rattle.m2_base.specs.Lists.{Each, WhereKept}
use Rattle.m2_base.specs.Trees.{Stream}
use Rattle.m2_base.specs.Statics.Blocks.{BlockTree, UnitTrees, GoesDown, blocks_of, blocks_of_main, declares, definition_blocks, encloser, home_of, main_block, main_blocks, procedure_block, with_own}
use Rattle.m2_base.specs.Statics.Contexts.{DefinitionModule}
use Rattle.m2_base.proofs.EachLaws.{each_append, each_found, each_then}

-- a block below scope s, whose chain goes down
pub record IsBelow (s : ℕ) (b : BlockTree) : Type 0 where
  pub below : b.block.scope < s
  pub chain : Each (λ q. q ≤ b.block.scope) b.block.chain
  pub down : GoesDown b

procedure_below : (s : ℕ) (tree : Stream) (o : Option BlockTree) → WhereKept o (IsBelow s) → Each (IsBelow (s + 1)) (procedure_block s tree o)
procedure_below s tree None h = tt
procedure_below s tree (Some outer) h = (
  record {
    below = omega arith;
    chain = (omega arith, each_then _ _ outer.block.chain (λ q k. omega (arith, k, h.below)) h.chain);
    down = each_then _ _ outer.block.chain (λ q k. omega (arith, k, h.below)) h.chain;
  },
  tt,
)

main_blocks_down : (trees : List Stream) (before : List BlockTree) (s : ℕ) → Each (IsBelow s) before → Each GoesDown (main_blocks before s trees)
main_blocks_down [] before s h = each_then _ _ before (λ b k. k.down) h
main_blocks_down (tree ∷ trees) before s h =
    main_blocks_down trees (before ++ procedure_block s tree (encloser before s)) (s + 1)
    (each_append (IsBelow (s + 1)) before _ (each_then _ _ before (λ b k. record { below = omega (arith, k.below); chain = k.chain; down = k.down }) h)
    (procedure_below s tree (encloser before s) (each_found (IsBelow s) (λ b. list_any (declares s) b.tree.decls) before h)))

definitions_down : (s : ℕ) (ds : List DefinitionModule) (trees : List Stream) → Each GoesDown (definition_blocks s ds trees)
definitions_down s [] trees = tt
definitions_down s (d ∷ ds) [] = tt
definitions_down s (d ∷ ds) (tree ∷ trees) = (tt, definitions_down (s + 1) ds trees)

main_below : (u : UnitTrees) (tree : Stream) → WhereKept u.own (λ s. s < home_of u) → IsBelow (home_of u + 1) (main_block u tree)
main_below u tree h = by_own u.own h
  where
    by_own : (o : Option ℕ) → WhereKept o (λ s. s < home_of u) → IsBelow (home_of u + 1)
        (record { block = record { scope = home_of u; text = 0; level = 0; home = home_of u; own = o; chain = with_own (home_of u ∷ []) o }; tree = tree })
    by_own None k = record { below = omega arith; chain = (omega arith, tt); down = tt }
    by_own (Some s) k = record { below = omega arith; chain = (omega arith, (omega (arith, k), tt)); down = (k, tt) }

of_main_down : (u : UnitTrees) (trees : List Stream) → WhereKept u.own (λ s. s < home_of u) → Each GoesDown (blocks_of_main u trees)
of_main_down u [] h = tt
of_main_down u (tree ∷ trees) h = main_blocks_down trees (main_block u tree ∷ []) (home_of u + 1) (main_below u tree h, tt)

pub chains_down : (u : UnitTrees) → WhereKept u.own (λ s. s < home_of u) → Each GoesDown (blocks_of u)
unfolding blocks_of
chains_down u h = each_append GoesDown (definition_blocks 1 u.source.definitions u.definitions) _
    (definitions_down 1 u.source.definitions u.definitions) (of_main_down u u.main h)

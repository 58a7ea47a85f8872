-- Where the blocks of a unit stand: a definition module's before the main module, all others in it.
use Rattle.std.specs.Prelude.{◌≡◌, ℕ, ◌+◌, ◌<◌, ◌≤◌, ◌⊎◌, List, [], ◌∷◌, ◌++◌, length, Option, Some, None}
use Rattle.std.specs.List.{list_any}
use Rattle.std.proofs.Common.{refl, inl, inr, arith}
use Rattle.m2_base.specs.Lists.{Each, WhereKept}
use Rattle.m2_base.specs.Trees.{Stream}
use Rattle.m2_base.specs.Statics.Blocks.{BlockTree, UnitTrees, blocks_of, blocks_of_main, declares, definition_blocks, encloser, home_of, main_block, main_blocks, procedure_block}
use Rattle.m2_base.specs.Statics.Contexts.{Block, DefinitionModule}
use Rattle.m2_base.proofs.EachLaws.{each_append, each_found, each_then}

-- a block of the main module, whose scope is `home`, or of a definition module
abbrev pub IsInModule : (own : Option ℕ) → (home : ℕ) → Block → Type 0
IsInModule own home b = ((b.own ≡ None) × (b.scope < home)) ⊎ ((b.own ≡ own) × (b.home ≡ home) × (home ≤ b.scope))

-- where a block stands, and that it isn't nested too deep
pub record IsFit (own : Option ℕ) (home : ℕ) (b : Block) : Type 0 where
  pub level : b.level ≤ b.scope
  pub in_module : IsInModule own home b

definitions_fit : (own : Option ℕ) (home s : ℕ) (ds : List DefinitionModule) (trees : List Stream) → s + length trees ≤ home → Each (λ b. IsFit own home b.block) (definition_blocks s ds trees)
definitions_fit own home s [] trees h = tt
definitions_fit own home s (d ∷ ds) [] h = tt
definitions_fit own home s (d ∷ ds) (tree ∷ trees) h =
    (record { level = omega arith; in_module = inl (refl, omega (arith, h)) }, definitions_fit own home (s + 1) ds trees (omega (arith, h)))

-- a block of the main module with a scope below this one
record IsFitBelow (own : Option ℕ) (home s : ℕ) (b : BlockTree) : Type 0 where
  below : b.block.scope < s
  level : b.block.level ≤ b.block.scope
  own_same : b.block.own ≡ own
  home_same : b.block.home ≡ home
  behind : home ≤ b.block.scope

procedure_fits : (own : Option ℕ) (home s : ℕ) (tree : Stream) (o : Option BlockTree) → WhereKept o (IsFitBelow own home s) → Each (IsFitBelow own home (s + 1)) (procedure_block s tree o)
procedure_fits own home s tree None h = tt
procedure_fits own home s tree (Some outer) h =
    let b = h.below in
    let l = h.level in
    let a = h.behind in
    (record { below = omega arith; level = omega (arith, b, l); own_same = h.own_same; home_same = h.home_same; behind = omega (arith, a, b) }, tt)

main_fit : (own : Option ℕ) (home : ℕ) (trees : List Stream) (before : List BlockTree) (s : ℕ) → Each (IsFitBelow own home s) before → Each (λ b. IsFit own home b.block) (main_blocks before s trees)
main_fit own home [] before s h =
    each_then (IsFitBelow own home s) (λ (b : BlockTree). IsFit own home b.block) before (λ b k. record { level = k.level; in_module = inr (k.own_same, k.home_same, k.behind) }) h
main_fit own home (tree ∷ trees) before s h =
    main_fit own home trees (before ++ procedure_block s tree (encloser before s)) (s + 1)
    (each_append (IsFitBelow own home (s + 1)) before _
    (each_then (IsFitBelow own home s) (IsFitBelow own home (s + 1)) before
    (λ b k. record { below = let x = k.below in omega (arith, x); level = k.level; own_same = k.own_same; home_same = k.home_same; behind = k.behind }) h)
    (procedure_fits own home s tree (encloser before s) (each_found (IsFitBelow own home s) (λ b. list_any (declares s) b.tree.decls) before h)))

of_main_fit : (u : UnitTrees) (trees : List Stream) → Each (λ b. IsFit u.own (home_of u) b.block) (blocks_of_main u trees)
of_main_fit u [] = tt
of_main_fit u (tree ∷ trees) =
    main_fit u.own (home_of u) trees (main_block u tree ∷ []) (home_of u + 1) (record { below = omega arith; level = omega arith; own_same = refl; home_same = refl; behind = omega arith }, tt)

pub blocks_fit : (u : UnitTrees) → Each (λ b. IsFit u.own (home_of u) b.block) (blocks_of u)
unfolding blocks_of
blocks_fit u =
    each_append (λ (b : BlockTree). IsFit u.own (home_of u) b.block) (definition_blocks 1 u.source.definitions u.definitions) _
    (definitions_fit u.own (home_of u) 1 u.source.definitions u.definitions (omega arith)) (of_main_fit u u.main)

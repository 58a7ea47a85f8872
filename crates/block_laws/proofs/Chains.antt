-- The blocks of a main text stand one in another: a chain leads from each of them out to the module, and static links lead so too.
use Rattle.std.specs.Prelude.{◌≡◌, refl, ℕ, ◌+◌, ◌-◌, ◌<◌, ◌≤◌, ◌==◌, ◌⊎◌, Bool, true, false, nat_lt, not, if◌then◌else◌, List, [], ◌∷◌, ◌++◌, length, position, unwrap_or, Option, Some, None}
use Rattle.std.specs.List.{list_any, position_or_len, prefix_len}
use Rattle.std.proofs.Common.{ap, sym, ◌∙◌, inl, inr, arith}
use Rattle.std.proofs.lemmas.Bool.{cases_order, lt-ltb, le-ltb}
use Rattle.m2_base.proofs.EachLaws.{each_append, each_found, each_then}
use Rattle.m2_base.specs.Lists.{Each, IsIn, WhereKept}
use Rattle.m2_base.specs.Statics.Blocks.{BlockTree, UnitTrees, blocks_of, blocks_of_main, declares, definition_blocks, encloser, home_of, main_block, main_blocks, procedure_block, with_own}
use Rattle.m2_base.specs.Statics.Contexts.{Block, DefinitionModule}
use Rattle.m2_base.specs.Trees.{Stream}
use Rattle.row_laws.proofs.Joined.{in_left, in_right}

-- ** Levels

-- the level of a scope, by the block's level and its chain
abbrev pub level_by : (level : ℕ) → (chain : List ℕ) → (scope : ℕ) → ℕ
level_by l chain s = l - unwrap_or (position (λ q. q == s) chain) l

pub first_here : (l x s : ℕ) (chain : List ℕ) → (x == s) ≡ true → level_by l (x ∷ chain) s ≡ l
first_here l x s chain e =
    let first : position_or_len (λ q. q == s) (x ∷ chain) ≡ 0 = ap (λ (b : Bool). if not b then 1 + prefix_len (λ y. not (y == s)) chain else 0) e in
    ap (λ (n : ℕ). l - unwrap_or (if nat_lt n (length (x ∷ chain)) then Some n else None) l) first
    ∙ ap (λ (b : Bool). l - unwrap_or (if b then Some 0 else None) l) (lt-ltb 0 (length (x ∷ chain)) (omega arith))
    ∙ omega arith

found_by : (b : Bool) (n l : ℕ) → (l + 1) - unwrap_or (if b then Some (1 + n) else None) (l + 1) ≡ l - unwrap_or (if b then Some n else None) l
found_by true n l = omega arith
found_by false n l = omega arith

one_more : (m n : ℕ) → nat_lt (1 + m) (1 + n) ≡ nat_lt m n
one_more m n = by_order (cases_order m n)
  where
    by_order : (m ≡ n) ⊎ ((m < n) ⊎ (n < m)) → nat_lt (1 + m) (1 + n) ≡ nat_lt m n
    by_order (inl e) = le-ltb (1 + m) (1 + n) (omega (arith, e)) ∙ sym (le-ltb m n (omega (arith, e)))
    by_order (inr (inl h)) = lt-ltb (1 + m) (1 + n) (omega (arith, h)) ∙ sym (lt-ltb m n h)
    by_order (inr (inr h)) = le-ltb (1 + m) (1 + n) (omega (arith, h)) ∙ sym (le-ltb m n (omega (arith, h)))

pub first_behind : (l x s : ℕ) (chain : List ℕ) → (x == s) ≡ false → level_by (l + 1) (x ∷ chain) s ≡ level_by l chain s
first_behind l x s chain e =
    let n : ℕ = position_or_len (λ q. q == s) chain in
    let first : position_or_len (λ q. q == s) (x ∷ chain) ≡ 1 + n = ap (λ (b : Bool). if not b then 1 + prefix_len (λ y. not (y == s)) chain else 0) e in
    let longer : length (x ∷ chain) ≡ 1 + length chain = omega arith in
    ap (λ (k : ℕ). (l + 1) - unwrap_or (if nat_lt k (length (x ∷ chain)) then Some k else None) (l + 1)) first
    ∙ ap (λ (k : ℕ). (l + 1) - unwrap_or (if nat_lt (1 + n) k then Some (1 + n) else None) (l + 1)) longer
    ∙ ap (λ (b : Bool). (l + 1) - unwrap_or (if b then Some (1 + n) else None) (l + 1)) (one_more n (length chain))
    ∙ found_by (nat_lt n (length chain)) n l

-- ** The blocks of a main text

-- the block of the module itself
pub record IsModuleBlock (u : UnitTrees) (b : Block) : Type 0 where
  pub scope : b.scope ≡ home_of u
  pub home : b.home ≡ home_of u
  pub level : b.level ≡ 0
  pub own : b.own ≡ u.own
  pub chain : b.chain ≡ with_own (home_of u ∷ []) u.own

-- the block of a procedure in another block
pub record IsInner (u : UnitTrees) (blocks : List BlockTree) (b : Block) : Type 0 where
  pub outer : BlockTree
  pub there : IsIn outer blocks
  pub behind : home_of u ≤ outer.block.scope
  pub lower : outer.block.scope < b.scope
  pub home : b.home ≡ home_of u
  pub level : b.level ≡ outer.block.level + 1
  pub own : b.own ≡ u.own
  pub chain : b.chain ≡ b.scope ∷ outer.block.chain

-- a block of the main text among these
abbrev pub Stands : UnitTrees → (blocks : List BlockTree) → Block → Type 0
Stands u blocks b = IsModuleBlock u b ⊎ IsInner u blocks b

-- a block below scope s that stands among these
record StandsBelow (u : UnitTrees) (blocks : List BlockTree) (s : ℕ) (b : BlockTree) : Type 0 where
  there : IsIn b blocks
  below : b.block.scope < s
  behind : home_of u ≤ b.block.scope
  home : b.block.home ≡ home_of u
  own : b.block.own ≡ u.own
  stands : Stands u blocks b.block

-- what stands among some blocks stands among all of which those are
stands_among : (u : UnitTrees) (blocks all : List BlockTree) (b : Block) → ((x : BlockTree) → IsIn x blocks → IsIn x all) → Stands u blocks b → Stands u all b
stands_among u blocks all b more (inl h) = inl h
stands_among u blocks all b more (inr h) =
    inr (record {
      outer = h.outer;
      there = more h.outer h.there;
      behind = h.behind;
      lower = h.lower;
      home = h.home;
      level = h.level;
      own = h.own;
      chain = h.chain;
    })

stands_more : (u : UnitTrees) (blocks more : List BlockTree) (b : Block) → Stands u blocks b → Stands u (blocks ++ more) b
stands_more u blocks more b h = stands_among u blocks (blocks ++ more) b (λ x i. in_left x blocks more i) h

later : (u : UnitTrees) (blocks more : List BlockTree) (s : ℕ) (b : BlockTree) → StandsBelow u blocks s b → StandsBelow u (blocks ++ more) (s + 1) b
later u blocks more s b h = record {
  there = in_left b blocks more h.there;
  below = let k = h.below in omega (arith, k);
  behind = h.behind;
  home = h.home;
  own = h.own;
  stands = stands_more u blocks more b.block h.stands;
}

procedure_stands : (u : UnitTrees) (blocks : List BlockTree) (s : ℕ) (tree : Stream) (o : Option BlockTree) → WhereKept o (StandsBelow u blocks s)
    → Each (StandsBelow u (blocks ++ procedure_block s tree o) (s + 1)) (procedure_block s tree o)
procedure_stands u blocks s tree None h = tt
procedure_stands u blocks s tree (Some outer) h =
    let new : BlockTree = record {
      block = record { scope = s; text = outer.block.text; level = outer.block.level + 1; home = outer.block.home; own = outer.block.own; chain = s ∷ outer.block.chain };
      tree = tree;
    } in (
      record {
        there = in_right new blocks (new ∷ []) (inl refl);
        below = omega arith;
        behind = let a = h.behind in let b = h.below in omega (arith, a, b);
        home = h.home;
        own = h.own;
        stands = inr (record {
          outer = outer;
          there = in_left outer blocks (new ∷ []) h.there;
          behind = h.behind;
          lower = h.below;
          home = h.home;
          level = refl;
          own = h.own;
          chain = refl;
        });
      },
      tt,
    )

main_stand : (u : UnitTrees) (trees : List Stream) (blocks : List BlockTree) (s : ℕ) → Each (StandsBelow u blocks s) blocks
    → Each (λ b. home_of u ≤ b.block.scope → Stands u (main_blocks blocks s trees) b.block) (main_blocks blocks s trees)
main_stand u [] blocks s h = each_then (StandsBelow u blocks s) (λ (b : BlockTree). home_of u ≤ b.block.scope → Stands u blocks b.block) blocks (λ b k l. k.stands) h
main_stand u (tree ∷ trees) blocks s h =
    let o : Option BlockTree = encloser blocks s in
    let new : List BlockTree = procedure_block s tree o in
    main_stand u trees (blocks ++ new) (s + 1)
    (each_append (StandsBelow u (blocks ++ new) (s + 1)) blocks new
    (each_then (StandsBelow u blocks s) (StandsBelow u (blocks ++ new) (s + 1)) blocks (λ b k. later u blocks new s b k) h)
    (procedure_stands u blocks s tree o (each_found (StandsBelow u blocks s) (λ b. list_any (declares s) b.tree.decls) blocks h)))

of_main_stand : (u : UnitTrees) (trees : List Stream) → Each (λ b. home_of u ≤ b.block.scope → Stands u (blocks_of_main u trees) b.block) (blocks_of_main u trees)
of_main_stand u [] = tt
of_main_stand u (tree ∷ trees) =
    main_stand u trees (main_block u tree ∷ []) (home_of u + 1) (
      record {
        there = inl refl;
        below = omega arith;
        behind = omega arith;
        home = refl;
        own = refl;
        stands = inl (record { scope = refl; home = refl; level = refl; own = refl; chain = refl });
      },
      tt,
    )

definitions_low : (P : BlockTree → Type 0) (home s : ℕ) (ds : List DefinitionModule) (trees : List Stream) → s + length trees ≤ home → Each (λ b. home ≤ b.block.scope → P b) (definition_blocks s ds trees)
definitions_low P home s [] trees h = tt
definitions_low P home s (d ∷ ds) [] h = tt
definitions_low P home s (d ∷ ds) (tree ∷ trees) h = (λ k. absurd (omega (arith, h, k)), definitions_low P home (s + 1) ds trees (omega (arith, h)))

-- each block of the main text stands among the blocks
pub blocks_stand : (u : UnitTrees) → Each (λ b. home_of u ≤ b.block.scope → Stands u (blocks_of u) b.block) (blocks_of u)
unfolding blocks_of
blocks_stand u =
    let first : List BlockTree = definition_blocks 1 u.source.definitions u.definitions in
    let main : List BlockTree = blocks_of_main u u.main in
    each_append (λ (b : BlockTree). home_of u ≤ b.block.scope → Stands u (first ++ main) b.block) first main
    (definitions_low (λ (b : BlockTree). Stands u (first ++ main) b.block) (home_of u) 1 u.source.definitions u.definitions (omega arith))
    (each_then (λ (b : BlockTree). home_of u ≤ b.block.scope → Stands u main b.block) (λ (b : BlockTree). home_of u ≤ b.block.scope → Stands u (first ++ main) b.block) main
    (λ b k l. stands_among u main (first ++ main) b.block (λ x i. in_right x first main i) (k l)) (of_main_stand u u.main))

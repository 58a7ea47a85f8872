-- Static links lead from a block's procedure to those of the blocks round it.
use Rattle.std.specs.Prelude.{◌≡◌, refl, ℕ, zero, suc, ◌+◌, ◌-◌, ◌<◌, ◌≤◌, ◌==◌, ◌⊎◌, Bool, true, false, if◌then◌else◌, List, [], ◌∷◌, slice_get, slice_index, Option, Some, None}
use Rattle.std.proofs.Common.{ap, subst, sym, ◌∙◌, inl, inr, arith}
use Rattle.std.proofs.lemmas.Bool.{eqb-true, eqb-false}
use Rattle.code_form.specs.Modules.{Procedure, World}
use Rattle.code_form.specs.Valid.{linked, outer_of, outer_or}
use Rattle.block_code.specs.Variables.{links_out}
use Rattle.m2_base.specs.Lists.{Each, IsIn}
use Rattle.m2_base.specs.Rows.{row_meaning}
use Rattle.m2_base.specs.Statics.Blocks.{BlockTree, UnitTrees, blocks_of, home_of, with_own}
use Rattle.m2_base.specs.Statics.Contexts.{Block, level_of}
use Rattle.m2_base.specs.Tables.{rows_at}
use Rattle.m2_base.specs.declared.rows.Row.{Row}
use Rattle.row_laws.specs.RowRanges.{IsBelow}
use Rattle.block_code.specs.BlockCode.{outer_of as outer_number, params_of, results_of}
use Rattle.block_laws.proofs.Chains.{IsInner, Stands, blocks_stand, first_behind, first_here, level_by}
use Rattle.row_laws.proofs.Members.{each_in}

-- the procedure that a world has of a block of the main text, and that its cells are those of the rows
pub record HasProcedure (w : World) (home : ℕ) (all : List (List Row)) (b : BlockTree) : Type 0 where
  pub p : Procedure
  pub there : slice_get w.procedures (b.block.scope - home) ≡ Some p
  pub outer : p.outer ≡ outer_number b.block
  pub params : p.params ≡ params_of b.tree.heading
  pub result : p.result ≡ results_of b.tree.heading
  pub cells : home < b.block.scope → Each (λ r. IsBelow p.locals (row_meaning r)) (rows_at all b.block.scope)

pub unequal : (m n : ℕ) → (m ≡ n → ⊥) → (m == n) ≡ false
unequal m n h = by_test (m == n) refl
  where
    by_test : (b : Bool) → (m == n) ≡ b → b ≡ false
    by_test true e = absurd (h (eqb-true m n e))
    by_test false e = refl

-- a chain begins with the block's own scope
pub record Begins (b : Block) : Type 0 where
  pub rest : List ℕ
  pub chain : b.chain ≡ b.scope ∷ rest

pub begins : (u : UnitTrees) (blocks : List BlockTree) (b : Block) → Stands u blocks b → Begins b
begins u blocks b (inr h) = record { rest = h.outer.block.chain; chain = h.chain }
begins u blocks b (inl h) = by_own u.own h.chain
  where
    by_own : (o : Option ℕ) → b.chain ≡ with_own (home_of u ∷ []) o → Begins b
    by_own None e = record { rest = []; chain = e ∙ ap (λ (s : ℕ). s ∷ []) (sym h.scope) }
    by_own (Some s) e = record { rest = s ∷ []; chain = e ∙ ap (λ (q : ℕ). q ∷ s ∷ []) (sym h.scope) }

-- the block round it, and its number
outer_is : (u : UnitTrees) (blocks : List BlockTree) (b : Block) (h : IsInner u blocks b) → Begins h.outer.block → outer_number b ≡ h.outer.block.scope - home_of u
outer_is u blocks b h first =
    let level = h.level in
    ap (λ (t : Bool). if t then 0 else slice_index b.chain 1 - b.home) (unequal b.level 0 (λ e. omega (arith, e, level)))
    ∙ ap (λ (xs : List ℕ). slice_index xs 1 - b.home) (h.chain ∙ ap (λ (xs : List ℕ). b.scope ∷ xs) first.chain)
    ∙ ap (λ (n : ℕ). h.outer.block.scope - n) h.home

-- the level of a scope is as seen from the block round it
level_behind : (u : UnitTrees) (blocks : List BlockTree) (b : Block) (h : IsInner u blocks b) (s : ℕ) → (b.scope == s) ≡ false → level_of b s ≡ level_of h.outer.block s
level_behind u blocks b h s e =
    ap (λ (l : ℕ). level_by l b.chain s) h.level ∙ ap (λ (xs : List ℕ). level_by (h.outer.block.level + 1) xs s) h.chain ∙ first_behind h.outer.block.level b.scope s h.outer.block.chain e

level_here : (u : UnitTrees) (blocks : List BlockTree) (b : Block) (h : IsInner u blocks b) (s : ℕ) → (b.scope == s) ≡ true → level_of b s ≡ b.level
level_here u blocks b h s e = ap (λ (xs : List ℕ). level_by b.level xs s) h.chain ∙ first_here b.level b.scope s h.outer.block.chain e

-- ** What stands in a chain

-- Q of each block of the main text below scope n of which P holds
abbrev Outwards : UnitTrees → (n : ℕ) → (P Q : BlockTree → Type 0) → Type 0
Outwards u n P Q = (o : BlockTree) → IsIn o (blocks_of u) → home_of u ≤ o.block.scope → o.block.scope < n → P o → Q o

-- a scope of the chain on no level is the module's, or that of its own definition
pub in_module : (u : UnitTrees) (n : ℕ) (b : BlockTree) → IsIn b (blocks_of u) → home_of u ≤ b.block.scope → b.block.scope < n → (s : ℕ) → IsIn s b.block.chain → level_of b.block s ≡ 0
    → (s ≡ home_of u) ⊎ (u.own ≡ Some s)
in_module u zero b i behind below s h e = absurd (omega (arith, below))
in_module u (suc n) b i behind below s h e = by_place (λ o j k l x. in_module u n o j k l s x.0 x.1) (each_in _ (blocks_of u) b (blocks_stand u) i behind)
  where
    of_module : (o : Option ℕ) → u.own ≡ o → IsIn s (with_own (home_of u ∷ []) o) → (s ≡ home_of u) ⊎ (u.own ≡ Some s)
    of_module None f (inl same) = inl same
    of_module None f (inr k) = absurd k
    of_module (Some q) f (inl same) = inl same
    of_module (Some q) f (inr (inl same)) = inr (f ∙ ap (λ (x : ℕ). Some x) (sym same))
    of_module (Some q) f (inr (inr k)) = absurd k

    of_inner : Outwards u n (λ o. IsIn s o.block.chain × (level_of o.block s ≡ 0)) (λ o. (s ≡ home_of u) ⊎ (u.own ≡ Some s)) → (g : IsInner u (blocks_of u) b.block) (t : Bool) → (b.block.scope == s) ≡ t → IsIn s (b.block.scope ∷ g.outer.block.chain) → (s ≡ home_of u) ⊎ (u.own ≡ Some s)
    of_inner go g true f k = let a = level_here u (blocks_of u) b.block g s f in let l = g.level in absurd (omega (arith, a, l, e))
    of_inner go g false f (inl same) = absurd (eqb-false b.block.scope s f (sym same))
    of_inner go g false f (inr k) =
        let lower = g.lower in
        go g.outer g.there g.behind (omega (arith, lower, below)) (k, sym (level_behind u (blocks_of u) b.block g s f) ∙ e)

    by_place : Outwards u n (λ o. IsIn s o.block.chain × (level_of o.block s ≡ 0)) (λ o. (s ≡ home_of u) ⊎ (u.own ≡ Some s)) → Stands u (blocks_of u) b.block → (s ≡ home_of u) ⊎ (u.own ≡ Some s)
    by_place go (inl g) = of_module u.own refl (subst (IsIn s) g.chain h)
    by_place go (inr g) = of_inner go g (b.block.scope == s) refl (subst (IsIn s) g.chain h)

-- ** Where links lead

-- the links out of a block lead to the procedure of the block of this scope
pub record Reaches (u : UnitTrees) (w : World) (b : BlockTree) (s : ℕ) : Type 0 where
  pub block : BlockTree
  pub there : IsIn block (blocks_of u)
  pub scope : block.block.scope ≡ s
  pub behind : home_of u < s
  pub before : s ≤ b.block.scope
  pub links : linked w (links_out b.block s) (b.block.scope - home_of u) ≡ Some (s - home_of u)

module _ (u : UnitTrees) (w : World) (all : List (List Row)) (procedures : (b : BlockTree) → IsIn b (blocks_of u) → home_of u ≤ b.block.scope → HasProcedure w (home_of u) all b) where
  outer_at : (b : BlockTree) → IsIn b (blocks_of u) → home_of u ≤ b.block.scope → outer_of w (b.block.scope - home_of u) ≡ outer_number b.block
  outer_at b i behind = let h = procedures b i behind in ap (outer_or 0) h.there ∙ h.outer

  no_link : (k m : ℕ) → m ≡ 0 → linked w m k ≡ Some k
  unfolding linked
  no_link k m e = ap (λ (n : ℕ). linked w n k) e

  one_link : (k h m : ℕ) → m ≡ suc h → (outer_of w k == 0) ≡ false → linked w m k ≡ linked w h (outer_of w k)
  unfolding linked
  one_link k h m e f = ap (λ (n : ℕ). linked w n k) e ∙ ap (λ (t : Bool). if t then None else linked w h (outer_of w k)) f

  pub reach : (n : ℕ) (b : BlockTree) → IsIn b (blocks_of u) → home_of u ≤ b.block.scope → b.block.scope < n → (s : ℕ) → (level_of b.block s ≡ 0 → ⊥) → Reaches u w b s
  reach zero b i behind below s h = absurd (omega (arith, below))
  reach (suc n) b i behind below s h = by_place (λ o j k l x. reach n o j k l s x) (each_in _ (blocks_of u) b (blocks_stand u) i behind)
    where
      of_inner : Outwards u n (λ o. level_of o.block s ≡ 0 → ⊥) (λ o. Reaches u w o s) → (g : IsInner u (blocks_of u) b.block) (t : Bool) → (b.block.scope == s) ≡ t → Reaches u w b s
      of_inner go g true f =
          let same = eqb-true b.block.scope s f in
          let lower = g.lower in
          let far = g.behind in
          let level = level_here u (blocks_of u) b.block g s f in
          record {
            block = b;
            there = i;
            scope = same;
            behind = omega (arith, lower, far, same);
            before = omega (arith, same);
            links = no_link (b.block.scope - home_of u) (links_out b.block s) (omega (arith, level)) ∙ ap (λ (q : ℕ). Some (q - home_of u)) same;
          }
      of_inner go g false f =
          let lower = g.lower in
          let same = level_behind u (blocks_of u) b.block g s f in
          let r = go g.outer g.there g.behind (omega (arith, lower, below)) (λ e. h (same ∙ e)) in
          let first = begins u (blocks_of u) g.outer.block (each_in _ (blocks_of u) g.outer (blocks_stand u) g.there g.behind) in
          let out : outer_of w (b.block.scope - home_of u) ≡ g.outer.block.scope - home_of u = outer_at b i behind ∙ outer_is u (blocks_of u) b.block g first in
          let far = r.behind in
          let low = r.before in
          let level = g.level in
          record {
            block = r.block;
            there = r.there;
            scope = r.scope;
            behind = r.behind;
            before = omega (arith, low, lower);
            links = one_link (b.block.scope - home_of u) (links_out g.outer.block s) (links_out b.block s) (omega (arith, level, same))
                (unequal (outer_of w (b.block.scope - home_of u)) 0 (λ e. omega (arith, e, out, far, low)))
                ∙ ap (λ (k : ℕ). linked w (links_out g.outer.block s) k) out ∙ r.links;
          }

      by_place : Outwards u n (λ o. level_of o.block s ≡ 0 → ⊥) (λ o. Reaches u w o s) → Stands u (blocks_of u) b.block → Reaches u w b s
      by_place go (inl g) = let level = g.level in absurd (h (omega (arith, level)))
      by_place go (inr g) = of_inner go g (b.block.scope == s) refl

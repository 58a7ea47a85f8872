-- The blocks of a unit by their scopes: what holds of each, its rows, and what is made of it.
use Rattle.std.specs.Prelude.{◌≡◌, refl, ℕ, zero, suc, ◌+◌, ◌-◌, ◌<◌, ◌≤◌, List, [], ◌∷◌, ◌++◌, drop, length, slice_get, take, Some}
use Rattle.std.proofs.Common.{ap, subst, sym, ◌∙◌, inl, inr, arith}
use Rattle.std.proofs.lemmas.List.{length-append, get_or_at}
use Rattle.m2_base.specs.Lists.{IsIn}
use Rattle.m2_base.specs.Standard.{standard_rows}
use Rattle.m2_base.specs.Statics.BlockRows.{declare_block}
use Rattle.m2_base.specs.Statics.Blocks.{BlockTree, UnitTrees, blocks_of}
use Rattle.m2_base.specs.Statics.Contexts.{Source}
use Rattle.m2_base.specs.Statics.FormedRows.{AreConsecutive}
use Rattle.m2_base.specs.Statics.UnitRows.{rows_from, unit_rows}
use Rattle.m2_base.specs.Tables.{rows_at}
use Rattle.m2_base.specs.declared.rows.Row.{Row}
use Rattle.row_laws.specs.RowRanges.{EachBlock}
use Rattle.block_laws.specs.Worlds.{of_blocks, over_blocks}
use Rattle.m2_base.proofs.NoRepeats.{some_is}
use Rattle.row_laws.proofs.MadeBy.{stays}

-- ** Lists

pub at_drop : {A : Type 0} (n : ℕ) (xs : List A) (i : ℕ) → slice_get (drop n xs) i ≡ slice_get xs (n + i)
at_drop zero xs i = ap (slice_get xs) (omega arith)
at_drop (suc n) [] i = refl
at_drop (suc n) (x ∷ xs) i =
    let next : suc n + i ≡ suc (n + i) = omega arith in
    at_drop n xs i ∙ ap (slice_get (x ∷ xs)) (sym next)

pub at_take : {A : Type 0} (n : ℕ) (xs : List A) (i : ℕ) → i < n → slice_get (take n xs) i ≡ slice_get xs i
at_take zero xs i h = absurd (omega (arith, h))
at_take (suc n) [] i h = refl
at_take (suc n) (x ∷ xs) zero h = refl
at_take (suc n) (x ∷ xs) (suc i) h = at_take n xs i (omega (arith, h))

-- what stands before the one that is left out
pub at_before : {A : Type 0} (p : ℕ) (xs : List A) (i : ℕ) (x : A) → slice_get xs i ≡ Some x → i < p → slice_get (take p xs ++ drop (suc p) xs) i ≡ Some x
at_before zero xs i x e h = absurd (omega (arith, h))
at_before (suc p) [] i x e h = absurd cc
at_before (suc p) (y ∷ xs) zero x e h = e
at_before (suc p) (y ∷ xs) (suc i) x e h = at_before p xs i x e (omega (arith, h))

-- what stands behind it
pub at_behind : {A : Type 0} (p : ℕ) (xs : List A) (j : ℕ) (x : A) → slice_get xs (suc j) ≡ Some x → p ≤ j → slice_get (take p xs ++ drop (suc p) xs) j ≡ Some x
at_behind p [] j x e h = absurd cc
at_behind zero (y ∷ xs) j x e h = e
at_behind (suc p) (y ∷ xs) zero x e h = absurd (omega (arith, h))
at_behind (suc p) (y ∷ xs) (suc j) x e h = at_behind p xs j x e (omega (arith, h))

-- ** Blocks by their numbers

-- the finished scopes before block i of these
abbrev pub before_at : Source → (before : List (List Row)) → List BlockTree → (i : ℕ) → List (List Row)
before_at source before [] i = before
before_at source before (b ∷ blocks) zero = before
before_at source before (b ∷ blocks) (suc i) = before_at source (before ++ (declare_block source before b).rows ∷ []) blocks i

each_at : (P : List (List Row) → BlockTree → Type 0) (source : Source) (before : List (List Row)) (blocks : List BlockTree) → EachBlock P source before blocks → (i : ℕ) (b : BlockTree) → slice_get blocks i ≡ Some b
    → P (before_at source before blocks i) b
each_at P source before [] h i b e = absurd cc
each_at P source before (c ∷ blocks) h zero b e = subst (P before) (some_is c b e) h.0
each_at P source before (c ∷ blocks) h (suc i) b e = each_at P source (before ++ (declare_block source before c).rows ∷ []) blocks h.1 i b e

over_at : {A : Type 0} (f : List (List Row) → BlockTree → A) (source : Source) (before : List (List Row)) (blocks : List BlockTree) (i : ℕ) (b : BlockTree) → slice_get blocks i ≡ Some b
    → slice_get (over_blocks f source before blocks) i ≡ Some (f (before_at source before blocks i) b)
over_at f source before [] i b e = absurd cc
over_at f source before (c ∷ blocks) zero b e = ap (λ (x : BlockTree). Some (f before x)) (some_is c b e)
over_at f source before (c ∷ blocks) (suc i) b e = over_at f source (before ++ (declare_block source before c).rows ∷ []) blocks i b e

made_at : (source : Source) (before : List (List Row)) (blocks : List BlockTree) (i : ℕ) (b : BlockTree) → slice_get blocks i ≡ Some b
    → rows_at (rows_from source before blocks) (length before + i) ≡ (declare_block source (before_at source before blocks i) b).rows
made_at source before [] i b e = absurd cc
made_at source before (c ∷ blocks) zero b e =
    let made = (declare_block source before c).rows in
    let next = length-append before (made ∷ []) in
    stays source blocks (before ++ made ∷ []) (length before + 0) (omega (arith, next))
    ∙ get_or_at before made [] [] (length before + 0) (omega arith) ∙ ap (λ (x : BlockTree). (declare_block source before x).rows) (some_is c b e)
made_at source before (c ∷ blocks) (suc i) b e =
    let made = (declare_block source before c).rows in
    let next = length-append before (made ∷ []) in
    let place : length before + suc i ≡ length (before ++ made ∷ []) + i = omega (arith, next) in
    ap (rows_at (rows_from source (before ++ made ∷ []) blocks)) place ∙ made_at source (before ++ made ∷ []) blocks i b e

pub scope_at : (n : ℕ) (blocks : List BlockTree) → AreConsecutive n blocks → (i : ℕ) (b : BlockTree) → slice_get blocks i ≡ Some b → b.block.scope ≡ n + i
scope_at n [] h i b e = absurd cc
scope_at n (c ∷ blocks) h zero b e = sym (ap (λ (x : BlockTree). x.block.scope) (some_is c b e)) ∙ h.0 ∙ omega arith
scope_at n (c ∷ blocks) h (suc i) b e = scope_at (n + 1) blocks h.1 i b e ∙ omega arith

-- a block's number among these
pub record IsAt (blocks : List BlockTree) (b : BlockTree) : Type 0 where
  pub number : ℕ
  pub there : slice_get blocks number ≡ Some b

place_of : (blocks : List BlockTree) (b : BlockTree) → IsIn b blocks → IsAt blocks b
place_of [] b h = absurd h
place_of (c ∷ blocks) b (inl e) = record { number = 0; there = ap (λ (x : BlockTree). Some x) (sym e) }
place_of (c ∷ blocks) b (inr h) = let r = place_of blocks b h in record { number = suc r.number; there = r.there }

pub in_at : (blocks : List BlockTree) (i : ℕ) (b : BlockTree) → slice_get blocks i ≡ Some b → IsIn b blocks
in_at [] i b e = absurd cc
in_at (c ∷ blocks) zero b e = inl (sym (some_is c b e))
in_at (c ∷ blocks) (suc i) b e = inr (in_at blocks i b e)

-- ** Blocks of a unit by their scopes

-- the finished scopes before a block of a unit
abbrev pub before_of : UnitTrees → BlockTree → List (List Row)
before_of u b = before_at u.source (standard_rows ∷ []) (blocks_of u) (b.block.scope - 1)

module _ (u : UnitTrees) (scopes : AreConsecutive 1 (blocks_of u)) where
  pub unit_place : (b : BlockTree) → IsIn b (blocks_of u) → (slice_get (blocks_of u) (b.block.scope - 1) ≡ Some b) × (0 < b.block.scope)
  unit_place b h =
      let r = place_of (blocks_of u) b h in
      let s = scope_at 1 (blocks_of u) scopes r.number b r.there in
      let n : r.number ≡ b.block.scope - 1 = omega (arith, s) in
      (subst (λ (i : ℕ). slice_get (blocks_of u) i ≡ Some b) n r.there, omega (arith, s))

  pub unit_each : (P : List (List Row) → BlockTree → Type 0) → EachBlock P u.source (standard_rows ∷ []) (blocks_of u) → (b : BlockTree) → IsIn b (blocks_of u) → P (before_of u b) b
  unit_each P h b i = each_at P u.source (standard_rows ∷ []) (blocks_of u) h (b.block.scope - 1) b (unit_place b i).0

  pub unit_over : {A : Type 0} (f : List (List Row) → BlockTree → A) (b : BlockTree) → IsIn b (blocks_of u) → slice_get (of_blocks f u) (b.block.scope - 1) ≡ Some (f (before_of u b) b)
  unit_over f b i = over_at f u.source (standard_rows ∷ []) (blocks_of u) (b.block.scope - 1) b (unit_place b i).0

  pub unit_made : (b : BlockTree) → IsIn b (blocks_of u) → rows_at (unit_rows u) b.block.scope ≡ (declare_block u.source (before_of u b) b).rows
  unfolding unit_rows
  unit_made b i =
      let place = unit_place b i in
      let positive = place.1 in
      let n : b.block.scope ≡ 1 + (b.block.scope - 1) = omega (arith, positive) in
      ap (rows_at (rows_from u.source (standard_rows ∷ []) (blocks_of u))) n ∙ made_at u.source (standard_rows ∷ []) (blocks_of u) (b.block.scope - 1) b place.0

-- each block of these is one of the unit's
pub each_in : (P : List (List Row) → BlockTree → Type 0) (source : Source) (before : List (List Row)) (blocks : List BlockTree)
    → ((i : ℕ) (b : BlockTree) → slice_get blocks i ≡ Some b → P (before_at source before blocks i) b) → EachBlock P source before blocks
each_in P source before [] f = tt
each_in P source before (b ∷ blocks) f = (f 0 b refl, each_in P source (before ++ (declare_block source before b).rows ∷ []) blocks (λ i c e. f (suc i) c e))

pub unit_all : (u : UnitTrees) (scopes : AreConsecutive 1 (blocks_of u)) (P : List (List Row) → BlockTree → Type 0) → ((b : BlockTree) → IsIn b (blocks_of u) → P (before_of u b) b) → EachBlock P u.source (standard_rows ∷ []) (blocks_of u)
unit_all u scopes P f =
    each_in P u.source (standard_rows ∷ []) (blocks_of u) (λ i b e.
    let s = scope_at 1 (blocks_of u) scopes i b e in
    let n : b.block.scope - 1 ≡ i = omega (arith, s) in
    subst (λ (k : ℕ). P (before_at u.source (standard_rows ∷ []) (blocks_of u) k) b) n (f b (in_at (blocks_of u) i b e)))

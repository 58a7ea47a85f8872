-- What is made of each block of a unit, and the parts of such lists.
use Rattle.std.specs.Prelude.{◌≡◌, refl, ℕ, zero, suc, ◌+◌, ◌-◌, Bool, true, ◌&&◌, List, [], ◌∷◌, ◌++◌, drop, length, map, slice_get, take, Option, Some, None}
use Rattle.std.specs.List.{AllZip, list_all}
use Rattle.std.proofs.Common.{ap, subst, sym, ◌∙◌, inl, inr, arith}
use Rattle.m2_base.specs.Lists.{Each, IsIn}
use Rattle.m2_base.specs.Standard.{standard_rows}
use Rattle.m2_base.specs.Statics.BlockRows.{declare_block}
use Rattle.m2_base.specs.Statics.Blocks.{BlockTree, UnitTrees, blocks_of}
use Rattle.m2_base.specs.Statics.Contexts.{Source}
use Rattle.m2_base.specs.Statics.FormedRows.{AreConsecutive}
use Rattle.m2_base.specs.declared.rows.Row.{Row}
use Rattle.m2_base.proofs.EachLaws.{each_append}
use Rattle.block_laws.specs.Worlds.{of_blocks, over_blocks, without_own}
use Rattle.block_laws.proofs.BlocksAt.{before_at, before_of, in_at, scope_at}
use Rattle.object_file.specs.FieldsOf.{AllBehind}
use Rattle.row_laws.proofs.Members.{each_drop, each_take}
use Rattle.std.proofs.lemmas.List.{drop-map, map-append, take-map}

-- ** Blocks

pub over_long : {A : Type 0} (f : List (List Row) → BlockTree → A) (source : Source) (before : List (List Row)) (blocks : List BlockTree) → length (over_blocks f source before blocks) ≡ length blocks
over_long f source before [] = refl
over_long f source before (b ∷ blocks) = ap suc (over_long f source (before ++ (declare_block source before b).rows ∷ []) blocks)

-- an item is what is made of the block at its place
record MadeOf {A : Type 0} (f : List (List Row) → BlockTree → A) (source : Source) (before : List (List Row)) (blocks : List BlockTree) (j : ℕ) (x : A) : Type 0 where
  block : BlockTree
  there : slice_get blocks j ≡ Some block
  is : x ≡ f (before_at source before blocks j) block

over_from : {A : Type 0} (f : List (List Row) → BlockTree → A) (source : Source) (before : List (List Row)) (blocks : List BlockTree) (j : ℕ) (x : A) → slice_get (over_blocks f source before blocks) j ≡ Some x → MadeOf f source before blocks j x
over_from f source before [] j x e = absurd cc
over_from f source before (b ∷ blocks) zero x e = record { block = b; there = refl; is = let same : f before b ≡ x = cc in sym same }
over_from f source before (b ∷ blocks) (suc j) x e =
    let m = over_from f source (before ++ (declare_block source before b).rows ∷ []) blocks j x e in
    record { block = m.block; there = m.there; is = m.is }

-- of a unit, by the block's scope
pub record OfBlock {A : Type 0} (f : List (List Row) → BlockTree → A) (u : UnitTrees) (j : ℕ) (x : A) : Type 0 where
  pub block : BlockTree
  pub there : IsIn block (blocks_of u)
  pub scope : block.block.scope ≡ j + 1
  pub is : x ≡ f (before_of u block) block

pub unit_from : {A : Type 0} (f : List (List Row) → BlockTree → A) (u : UnitTrees) → AreConsecutive 1 (blocks_of u) → (j : ℕ) (x : A) → slice_get (of_blocks f u) j ≡ Some x → OfBlock f u j x
unit_from f u scopes j x e =
    let m = over_from f u.source (standard_rows ∷ []) (blocks_of u) j x e in
    let s = scope_at 1 (blocks_of u) scopes j m.block m.there in
    let place : j ≡ m.block.block.scope - 1 = omega (arith, s) in
    record {
      block = m.block;
      there = in_at (blocks_of u) j m.block m.there;
      scope = omega (arith, s);
      is = m.is ∙ ap (λ n. f (before_at u.source (standard_rows ∷ []) (blocks_of u) n) m.block) place;
    }

-- ** Each item

pub each_without : {A : Type 0} (P : A → Type 0) (own : Option ℕ) (xs : List A) → Each P xs → Each P (without_own own xs)
each_without P None xs h = h
each_without P (Some s) xs h = each_append P (take (s - 1) xs) (drop s xs) (each_take P (s - 1) xs h) (each_drop P s xs h)

-- ** Two lists, place by place

zip_take : {A B : Type 0} (R : A → B → Type 0) (n : ℕ) (xs : List A) (ys : List B) → AllZip R xs ys → AllZip R (take n xs) (take n ys)
zip_take R zero xs ys h = tt
zip_take R (suc n) [] [] h = tt
zip_take R (suc n) [] (y ∷ ys) h = absurd h
zip_take R (suc n) (x ∷ xs) [] h = absurd h
zip_take R (suc n) (x ∷ xs) (y ∷ ys) h = (h.0, zip_take R n xs ys h.1)

zip_drop : {A B : Type 0} (R : A → B → Type 0) (n : ℕ) (xs : List A) (ys : List B) → AllZip R xs ys → AllZip R (drop n xs) (drop n ys)
zip_drop R zero xs ys h = h
zip_drop R (suc n) [] [] h = tt
zip_drop R (suc n) [] (y ∷ ys) h = absurd h
zip_drop R (suc n) (x ∷ xs) [] h = absurd h
zip_drop R (suc n) (x ∷ xs) (y ∷ ys) h = zip_drop R n xs ys h.1

pub zip_append : {A B : Type 0} (R : A → B → Type 0) (xs zs : List A) (ys ws : List B) → AllZip R xs ys → AllZip R zs ws → AllZip R (xs ++ zs) (ys ++ ws)
zip_append R [] zs [] ws h k = k
zip_append R [] zs (y ∷ ys) ws h k = absurd h
zip_append R (x ∷ xs) zs [] ws h k = absurd h
zip_append R (x ∷ xs) zs (y ∷ ys) ws h k = (h.0, zip_append R xs zs ys ws h.1 k)

pub zip_without : {A B : Type 0} (R : A → B → Type 0) (own : Option ℕ) (xs : List A) (ys : List B) → AllZip R xs ys → AllZip R (without_own own xs) (without_own own ys)
zip_without R None xs ys h = h
zip_without R (Some s) xs ys h = zip_append R (take (s - 1) xs) (drop s xs) (take (s - 1) ys) (drop s ys) (zip_take R (s - 1) xs ys h) (zip_drop R s xs ys h)

pub map_without : {A B : Type 0} (f : A → B) (own : Option ℕ) (xs : List A) → map f (without_own own xs) ≡ without_own own (map f xs)
map_without f None xs = refl
map_without f (Some s) xs = map-append f (take (s - 1) xs) (drop s xs) ∙ (λ i. sym (take-map f (s - 1) xs) i ++ sym (drop-map f s xs) i)

-- ** Items behind others

longer : {A : Type 0} (ys : List A) (y : A) (j : ℕ) → length ys + suc j ≡ length (ys ++ y ∷ []) + j
longer [] y j = omega arith
longer (z ∷ ys) y j = let rest = longer ys y j in omega (arith, rest)

pub behind_from : {A : Type 0} (Asked : List A → A → Type 0) (P : ℕ → A → Type 0) → ((before : List A) (x : A) → P (length before) x → Asked before x) → (before xs : List A)
    → ((j : ℕ) (x : A) → slice_get xs j ≡ Some x → P (length before + j) x) → AllBehind Asked before xs
behind_from Asked P f before [] h = tt
behind_from Asked P f before (x ∷ xs) h =
    let here : length before + 0 ≡ length before = omega arith in
    (f before x (subst (λ n. P n x) here (h 0 x refl)), behind_from Asked P f (before ++ x ∷ []) xs (λ j y e. let next = longer before x j in subst (λ n. P n y) next (h (suc j) y e)))

pub behind_both : {A : Type 0} (N Asked : List A → A → Type 0) (P : A → Type 0) → ((before : List A) (x : A) → N before x → P x → Asked before x) → (before xs : List A) → AllBehind N before xs → Each P xs → AllBehind Asked before xs
behind_both N Asked P f before [] h k = tt
behind_both N Asked P f before (x ∷ xs) h k = (f before x h.0 k.0, behind_both N Asked P f (before ++ x ∷ []) xs h.1 k.1)

pub all_true : {A B : Type 0} (test : B → Bool) (f : A → B) (xs : List A) → ((x : A) → IsIn x xs → test (f x) ≡ true) → list_all test (map f xs) ≡ true
all_true test f [] h = refl
all_true test f (x ∷ xs) h = (λ i. h x (inl refl) i && list_all test (map f xs)) ∙ all_true test f xs (λ y i. h y (inr i))

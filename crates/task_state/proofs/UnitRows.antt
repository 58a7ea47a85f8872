-- The rows of a block of a unit are made over those of the scopes before it.
use Rattle.std.specs.Prelude.{◌≡◌, refl, ℕ, zero, suc, ◌+◌, ◌<◌, ◌≤◌, List, [], ◌∷◌, ◌++◌, length, slice_get, slice_index_or, slice_set, take, Some, None}
use Rattle.std.proofs.Common.{ap, subst, sym, ◌∙◌, arith}
use Rattle.std.proofs.lemmas.List.{length-append, get_or_append_left, get_or_at, take_at, length-take-le, take-take}
use Rattle.m2_base.specs.Statics.BlockRows.{context_of, declare_block}
use Rattle.m2_base.specs.Statics.Blocks.{BlockTree}
use Rattle.m2_base.specs.Statics.Contexts.{Source}
use Rattle.m2_base.specs.Statics.Layouts.{layout_of}
use Rattle.m2_base.specs.Statics.Makes.{with_rows}
use Rattle.m2_base.specs.Statics.UnitRows.{rows_from}
use Rattle.m2_base.specs.Tables.{rows_at}
use Rattle.m2_base.specs.declared.rows.Row.{Row}
use Rattle.row_laws.specs.RowRanges.{EachBlock}

one_is : {A : Type 0} (x y : A) → Some x ≡ Some y → x ≡ y
one_is x y e = cc

-- the scopes before stay
stays : (source : Source) (blocks : List BlockTree) (before : List (List Row)) (q : ℕ) → q < length before → rows_at (rows_from source before blocks) q ≡ rows_at before q
stays source [] before q h = refl
stays source (b ∷ blocks) before q h =
    let made = (declare_block source before b).rows in
    let next = length-append before (made ∷ []) in
    stays source blocks (before ++ made ∷ []) q (omega (arith, next, h)) ∙ get_or_append_left before (made ∷ []) [] q h

-- and are the first of all
pub first_stay : (source : Source) (blocks : List BlockTree) (before : List (List Row)) → take (length before) (rows_from source before blocks) ≡ before
first_stay source [] before = take_all before
  where
    take_all : (xs : List (List Row)) → take (length xs) xs ≡ xs
    take_all [] = refl
    take_all (x ∷ xs) = ap (λ ys. x ∷ ys) (take_all xs)
first_stay source (b ∷ blocks) before =
    let made = (declare_block source before b).rows in
    let l = length-append before (made ∷ []) in
    let all = rows_from source (before ++ made ∷ []) blocks in
    sym (take-take (length before) (length (before ++ made ∷ [])) all (omega (arith, l)))
    ∙ ap (take (length before)) (first_stay source blocks (before ++ made ∷ []))
    ∙ take_at before (made ∷ []) (length before) refl

-- the rows of the block at this place are those that it declares over the scopes before
pub made_over : (source : Source) (before : List (List Row)) (blocks : List BlockTree) (i : ℕ) (b : BlockTree) → slice_get blocks i ≡ Some b
    → rows_at (rows_from source before blocks) (length before + i) ≡ (declare_block source (take (length before + i) (rows_from source before blocks)) b).rows
made_over source before [] i b e = absurd cc
made_over source before (c ∷ blocks) zero b e =
    let made = (declare_block source before c).rows in
    let next = length-append before (made ∷ []) in
    let place : length before ≡ length before + 0 = omega arith in
    stays source blocks (before ++ made ∷ []) (length before + 0) (omega (arith, next))
    ∙ get_or_at before made [] [] (length before + 0) (omega arith) ∙ ap (λ (x : BlockTree). (declare_block source before x).rows) (one_is c b e)
    ∙ ap (λ (tables : List (List Row)). (declare_block source tables b).rows) (sym (first_stay source (c ∷ blocks) before) ∙ ap (λ n. take n (rows_from source before (c ∷ blocks))) place)
made_over source before (c ∷ blocks) (suc i) b e =
    let made = (declare_block source before c).rows in
    let next = length-append before (made ∷ []) in
    let place : length (before ++ made ∷ []) + i ≡ length before + suc i = omega (arith, next) in
    subst (λ (n : ℕ). rows_at (rows_from source (before ++ made ∷ []) blocks) n ≡ (declare_block source (take n (rows_from source (before ++ made ∷ []) blocks)) b).rows) place
    (made_over source (before ++ made ∷ []) blocks i b e)

-- what holds of each block holds of the block at this place, over the finished scopes before it
pub each_block_at : (P : List (List Row) → BlockTree → Type 0) (source : Source) (before : List (List Row)) (blocks : List BlockTree) (i : ℕ) (b : BlockTree) → EachBlock P source before blocks → slice_get blocks i ≡ Some b
    → P (take (length before + i) (rows_from source before blocks)) b
each_block_at P source before [] i b h e = absurd cc
each_block_at P source before (c ∷ blocks) zero b h e =
    let place : length before ≡ length before + 0 = omega arith in
    subst (λ (ts : List (List Row)). P ts b) (sym (first_stay source (c ∷ blocks) before) ∙ ap (λ n. take n (rows_from source before (c ∷ blocks))) place)
    (subst (λ (x : BlockTree). P before x) (one_is c b e) h.0)
each_block_at P source before (c ∷ blocks) (suc i) b h e =
    let made = (declare_block source before c).rows in
    let next = length-append before (made ∷ []) in
    let place : length (before ++ made ∷ []) + i ≡ length before + suc i = omega (arith, next) in
    subst (λ (n : ℕ). P (take n (rows_from source (before ++ made ∷ []) blocks)) b) place
    (each_block_at P source (before ++ made ∷ []) blocks i b h.1 e)

-- ** The scene of a block

set_last : (xs : List (List Row)) (n : ℕ) (rows : List Row) → length xs ≡ n → slice_set (xs ++ [] ∷ []) n (slice_index_or (xs ++ [] ∷ []) n [] ++ rows) ≡ xs ++ rows ∷ []
set_last [] zero rows h = refl
set_last [] (suc n) rows h = absurd (omega (arith, h))
set_last (x ∷ xs) zero rows h = absurd (omega (arith, h))
set_last (x ∷ xs) (suc n) rows h = ap (λ ys. x ∷ ys) (set_last xs n rows (omega (arith, h)))

-- the context of a block in which these rows of its own are made
pub context_with : (source : Source) (tables : List (List Row)) (b : BlockTree) (rows : List Row) → b.block.scope ≤ length tables
    → with_rows (context_of source tables b) rows ≡ record { source = source; scene = record { block = b.block; tables = take b.block.scope tables ++ rows ∷ [] }; layout = layout_of b.tree; item = None }
context_with source tables b rows h =
    ap (λ (ts : List (List Row)). record { source = source; scene = record { block = b.block; tables = ts }; layout = layout_of b.tree; item = None })
    (set_last (take b.block.scope tables) b.block.scope rows (length-take-le b.block.scope tables h))

-- The later of what two views have seen.
use Rattle.std.proofs.Common.{◌≡◌, ℕ, zero, suc, ◌+◌, ◌<◌, true, false, cond, ltb, List, [], ◌∷◌, length, get_or, refl, ap, subst, arith, lt-ltb, add-zero}
use Rattle.scope_table.specs.declared.view.Shown.{Shown}
use Rattle.scope_table.specs.Rule.{nothing, times}
use Rattle.scope_table.specs.Plays.{later, later_all}

pub later_is : (P : Shown → Type 0) (x y : Shown) → P x → P y → P (later x y)
later_is P x y p q = elim x.complete as (λ b. P (cond b x (cond y.complete y (cond (ltb (length x.rows) (length y.rows)) y x)))) [
  | true ↦ p
  | false ↦ elim y.complete as (λ b. P (cond b y (cond (ltb (length x.rows) (length y.rows)) y x))) [ true ↦ q | false ↦ elim (ltb (length x.rows) (length y.rows)) as (λ b. P (cond b y x)) [ true ↦ q | false ↦ p ] ]
]

pub get_or-later_all : (P : ℕ → Shown → Type 0) (rs : List ℕ) (i : ℕ) (xs ys : List Shown) → ((j : ℕ) → j < length xs → P (i + j) (get_or xs j nothing)) → ((j : ℕ) → j < length xs → P (i + j) (get_or ys j nothing)) → (j : ℕ) → j < length xs → P (i + j) (get_or (later_all rs i xs ys) j nothing)
get_or-later_all P rs i [] ys h k j l = absurd (omega arith)
get_or-later_all P rs i (x ∷ xs) [] h k j l = h j l
get_or-later_all P rs i (x ∷ xs) (y ∷ ys) h k zero l = elim (ltb 0 (times i rs)) as (λ b. P (i + 0) (cond b x (later x y))) [ true ↦ h 0 l | false ↦ later_is (P (i + 0)) x y (h 0 l) (k 0 l) ]
get_or-later_all P rs i (x ∷ xs) (y ∷ ys) h k (suc j) l = let e : suc i + j ≡ i + suc j = omega arith in subst (λ (z : ℕ). P z (get_or (later_all rs (suc i) xs ys) j nothing)) e
    (get_or-later_all P rs (suc i) xs ys (λ q lq. subst (λ (z : ℕ). P z (get_or xs q nothing)) (let e : i + suc q ≡ suc i + q = omega arith in e) (h (suc q) (omega arith))) (λ q lq. subst (λ (z : ℕ). P z (get_or ys q nothing)) (let e : i + suc q ≡ suc i + q = omega arith in e) (k (suc q) (omega arith))) j (omega arith))

pub length-later_all : (rs : List ℕ) (i : ℕ) (xs ys : List Shown) → length (later_all rs i xs ys) ≡ length xs
length-later_all rs i [] ys = refl
length-later_all rs i (x ∷ xs) [] = refl
length-later_all rs i (x ∷ xs) (y ∷ ys) = ap suc (length-later_all rs (suc i) xs ys)

-- what a view fills it has seen as before
pub own_stays : (rs : List ℕ) (i : ℕ) (xs ys : List Shown) (j : ℕ) → 0 < times (i + j) rs → get_or (later_all rs i xs ys) j nothing ≡ get_or xs j nothing
own_stays rs i [] ys j h = refl
own_stays rs i (x ∷ xs) [] j h = refl
own_stays rs i (x ∷ xs) (y ∷ ys) zero h = ap (λ b. cond b x (later x y)) (lt-ltb 0 (times i rs) (omega (arith, ap (λ (z : ℕ). times z rs) (add-zero i))))
own_stays rs i (x ∷ xs) (y ∷ ys) (suc j) h = own_stays rs (suc i) xs ys j (subst (λ (z : ℕ). 0 < times z rs) (let e : i + suc j ≡ suc i + j = omega arith in e) h)

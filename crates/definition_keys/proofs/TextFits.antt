-- The values of a text's tokens fit what its front has of them.
use Rattle.std.proofs.Common.{◌≡◌, ◌∙◌, ℕ, zero, suc, ◌+◌, ◌<◌, ◌^◌, ◌==◌, Bool, true, false, ◌&&◌, List, [], ◌∷◌, length, take, refl, ap, arith, if◌then◌else◌}
use Rattle.std.specs.Prelude.{nat_lt, slice_index_or}
use Rattle.std.proofs.lemmas.Bool.{lt-ltb}
use Rattle.m2_base.specs.KindNumbers.{kind_number}
use Rattle.m2_base.specs.Units.{HasValue}
use Rattle.m2_base.specs.declared.kind.TokenKind.{TokenKind}
use Rattle.m2_base.specs.declared.kind.TokenKind.TheVariants as kind
use Rattle.m2_base.specs.declared.token.Token.{Token}
use Rattle.m2_parse.specs.Fitting.{name_fits, names_fit}

both_true : (a b : Bool) → a ≡ true → b ≡ true → (a && b) ≡ true
both_true true b e f = f
both_true false b e f = e

left_true : (a b : Bool) → (a && b) ≡ true → a ≡ true
left_true true b e = refl
left_true false b e = e

right_true : (a b : Bool) → (a && b) ≡ true → b ≡ true
right_true true b e = e
right_true false true e = refl
right_true false false e = e

pub kind_fits : (names : List (List ℕ)) (k : TokenKind) (value : ℕ) → length names < 2 ^ 32 → HasValue names k value → value < 2 ^ 64
    → nat_lt value (if kind_number k == kind_number kind.Identifier then 2 ^ 32 else 2 ^ 64) ≡ true
kind_fits names kind.Identifier value few h l = let there = h.numbered.there in lt-ltb value (2 ^ 32) (omega (arith, there, few))
kind_fits names _ value few h l = lt-ltb value (2 ^ 64) l

fits_suc : (ts : List Token) (k : ℕ) (d : Token) → k < length ts → names_fit (take k ts) ≡ true → name_fits (slice_index_or ts k d) ≡ true → names_fit (take (suc k) ts) ≡ true
fits_suc [] k d l f g = absurd (omega (arith, l))
fits_suc (t ∷ ts) zero d l f g = both_true (name_fits t) true g refl
fits_suc (t ∷ ts) (suc k) d l f g =
    both_true (name_fits t) (names_fit (take (suc k) ts)) (left_true (name_fits t) (names_fit (take k ts)) f)
    (fits_suc ts k d (omega (arith, l)) (right_true (name_fits t) (names_fit (take k ts)) f) g)

-- one more token
pub fits_step : (ts : List Token) (k : ℕ) (d : Token) → k < length ts → names_fit (take k ts) ≡ true → name_fits (slice_index_or ts k d) ≡ true → names_fit (take (k + 1) ts) ≡ true
fits_step ts k d l f g = let one : k + 1 ≡ suc k = omega arith in ap (λ (n : ℕ). names_fit (take n ts)) one ∙ fits_suc ts k d l f g

-- The value of digits grows with each digit.
use Rattle.std.proofs.Common.{◌≡◌, ℕ, ◌+◌, ◌*◌, ◌≤◌, List, [], ◌∷◌, take, drop, sym, ◌∙◌, ap, arith}
use Rattle.std.proofs.Math.Nat.{mul-le-mul_left}
use Rattle.std.proofs.lemmas.List.{take-append-drop}
use Rattle.std.proofs.lemmas.List.Sums.{fold-append}
use Rattle.std.specs.Prelude.{fold}
use Rattle.m2_base.specs.Meanings.{value_in, digit_value}

grows : (base value : ℕ) (digits : List ℕ) → 1 ≤ base → value ≤ fold (λ v d. v * base + digit_value d) value digits
grows base value [] some = omega arith
grows base value (digit ∷ digits) some =
    omega (arith, mul-le-mul_left value some, grows base (value * base + digit_value digit) digits some)

pub value_in-take : (base : ℕ) (digits : List ℕ) (n : ℕ) → 1 ≤ base → value_in base (take n digits) ≤ value_in base digits
value_in-take base digits n some =
    let whole : value_in base digits ≡ fold (λ v d. v * base + digit_value d) (value_in base (take n digits)) (drop n digits) =
    ap (value_in base) (sym (take-append-drop n digits)) ∙ fold-append (λ (v d : ℕ). v * base + digit_value d) 0 (take n digits) (drop n digits) in
    omega (arith, whole, grows base (value_in base (take n digits)) (drop n digits) some)

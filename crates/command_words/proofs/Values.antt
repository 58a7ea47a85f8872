-- The value of a numeral.
use Rattle.std.proofs.Common.{◌≡◌, ℕ, ◌<◌, ◌≤◌, ◌^◌, Bool, true, false, ◌&&◌, List, length, Some, None, Err, arith, refl, sym, ◌∙◌, ap, rules, subst}
use Rattle.std.specs.Prelude.{if◌then◌else◌, nat_le}
use Rattle.std.specs.List.{list_all}
use Rattle.std.specs.Str.Parse.{digits_value, ParsesUnsigned}
use Rattle.std.proofs.lemmas.Bool.{and_parts, leb-true}
use Rattle.std.proofs.lemmas.Str.Parse.{IsDigitsTest, IsNumeralModel, numerals_by_value, parse_digits}
use Rattle.m2_base.specs.Letters.{is_digit}
use Rattle.command_words.specs.Numerals.{is_numeral, value_to}

some_value : (n m : ℕ) → Some n ≡ Some m → n ≡ m
some_value n m e = cc

no_value : (m : ℕ) → None ≡ Some m → ⊥
no_value m e = cc

abbrev Digits : List ℕ → Type 0
Digits ds = list_all is_digit ds ≡ true

test : IsDigitsTest Digits
test = search rules

model : IsNumeralModel Digits (digits_value 10)
model = numerals_by_value Digits test

-- what doesn't fit is greater than any value
pub too_great : {E : Type 0} (most : ℕ) (word : List ℕ) (e : E) → most < 2 ^ 32 → ParsesUnsigned 32 10 word (Err e) → is_numeral word ≡ true → None ≡ value_to most word
too_great most word e within parses numeral = go (nat_le (digits_value 10 word) most) refl
  where
    sides : (nat_le 1 (length word) && nat_le (length word) 10 ≡ true) × (list_all is_digit word ≡ true)
    sides = and_parts (nat_le 1 (length word) && nat_le (length word) 10) (list_all is_digit word) numeral

    small : digits_value 10 word < 2 ^ 32 → ⊥
    small fits = parse_digits model 32 word (Err e) parses sides.1 (leb-true 1 (length word) (and_parts (nat_le 1 (length word)) (nat_le (length word) 10) sides.0).0, fits)

    lower : (a b c : ℕ) → a ≤ b → b < c → a < c
    lower a b c p q = omega arith

    go : (b : Bool) → nat_le (digits_value 10 word) most ≡ b → None ≡ value_to most word
    go true is =
        let in_range : digits_value 10 word ≤ most = leb-true (digits_value 10 word) most is in
        absurd (small (lower (digits_value 10 word) most (2 ^ 32) in_range within))
    go false is = sym (ap (λ b. if is_numeral word && nat_le 1 (digits_value 10 word) && b then Some (digits_value 10 word) else None) is ∙ nothing (is_numeral word && nat_le 1 (digits_value 10 word)))
      where
        nothing : (b : Bool) → (if b && false then Some (digits_value 10 word) else None) ≡ None
        nothing true = refl
        nothing false = refl

-- what a numeral with a value is
pub record IsValue (most : ℕ) (word : List ℕ) (n : ℕ) : Type 0 where
  pub numeral : is_numeral word ≡ true
  pub some : 0 < n
  pub within : n ≤ most

pub valued : (most : ℕ) (word : List ℕ) (n : ℕ) → value_to most word ≡ Some n → IsValue most word n
valued most word n e = go (is_numeral word && nat_le 1 (digits_value 10 word) && nat_le (digits_value 10 word) most) refl
  where
    go : (b : Bool) → is_numeral word && nat_le 1 (digits_value 10 word) && nat_le (digits_value 10 word) most ≡ b → IsValue most word n
    go false is = absurd (no_value n (sym (ap (λ b. if b then Some (digits_value 10 word) else None) is) ∙ e))
    go true is =
        let same : digits_value 10 word ≡ n = some_value (digits_value 10 word) n (sym (ap (λ b. if b then Some (digits_value 10 word) else None) is) ∙ e) in
        let parts = and_parts (is_numeral word && nat_le 1 (digits_value 10 word)) (nat_le (digits_value 10 word) most) is in
        let front = and_parts (is_numeral word) (nat_le 1 (digits_value 10 word)) parts.0 in
        record {
          numeral = front.0;
          some = subst (λ m. 0 < m) same (leb-true 1 (digits_value 10 word) front.1);
          within = subst (λ m. m ≤ most) same (leb-true (digits_value 10 word) most parts.1);
        }

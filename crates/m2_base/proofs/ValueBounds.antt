-- Values in the bounds of constants: of a set's ranges, and of ABS and ODD.
use Rattle.std.specs.Prelude.{◌≡◌, ℕ, ◌+◌, ◌-◌, ◌%◌, ◌^◌, ◌<◌, ◌≤◌, Bool, true, false, ◌&&◌, if◌then◌else◌, ℤ, pos, negsuc, nat_abs, nat_le}
use Rattle.std.proofs.Common.{refl, arith}
use Rattle.std.proofs.Math.Facts.{leb_yes}
use Rattle.std.proofs.Math.Nat.{mod-lt}
use Rattle.std.proofs.Math.Pow.{pow_mono}
use Rattle.std.proofs.lemmas.Bool.{and_parts, leb-true}
use Rattle.std.proofs.lemmas.Nat.{pow_pos}
use Rattle.m2_base.specs.Rows.{natural, IsValue}
use Rattle.m2_base.specs.Statics.Functions.{odd_value}
use Rattle.m2_base.specs.Statics.Sets.{span}
use Rattle.m2_base.proofs.SoundOperands.{natural-value}

pub natural_small : (v : ℤ) → IsValue v → natural v < 2 ^ 32
natural_small (pos n) h = let e = h.1.le in omega (arith, leb_yes, e)
natural_small (negsuc n) h = omega arith

pub span_small : (low high : ℕ) → span low high < 2 ^ 32
span_small low high = by_test (nat_le low high && nat_le high 31) refl
  where
    by_test : (b : Bool) → (nat_le low high && nat_le high 31) ≡ b → (if b then 2 ^ (high + 1) - 2 ^ low else 0) < 2 ^ 32
    by_test true e =
        let top : high + 1 ≤ 32 = let h = leb-true high 31 (and_parts (nat_le low high) (nat_le high 31) e).1 in omega (arith, h) in
        let power = pow_mono top in
        let some = pow_pos low in
        omega (arith, power, some)
    by_test false e = omega arith

pub absolute_value : (v : ℤ) → IsValue v → IsValue (pos (nat_abs v))
absolute_value (pos n) h = h
absolute_value (negsuc n) h = let e = h.0.le in natural-value _ (omega (arith, leb_yes, e))

pub odd_is_value : (v : ℤ) → IsValue (odd_value v)
odd_is_value (pos n) = let e : n % 2 < 2 = mod-lt n (omega arith) in natural-value _ (omega (arith, e))
odd_is_value (negsuc n) = natural-value _ (omega arith)

-- The quotient of two constants.
use Rattle.std.specs.Prelude.{◌≡◌, zero, suc, ◌/◌, ℤ, pos, negsuc, ◌<ℤ◌, None, if◌then◌else◌}
use Rattle.std.proofs.Common.{ap, sym, arith}
use Rattle.std.proofs.lemmas.Bool.{lt-ltb}
use Rattle.std.specs.Int.{int_div_euclid}
use Rattle.m2_base.specs.Statics.Folding.{fold_number, where_in}
use Rattle.m2_base.specs.Statics.Ranges.{Range}
use Rattle.m2_base.specs.declared.trees.operators.Operator.TheVariants.{Div}

-- by a positive number both ways to divide are one
pub quotient : (r : Range) (x y : ℤ) → pos 0 <ℤ y → where_in r (int_div_euclid x y) ≡ fold_number r Div x y
quotient r (pos a) (pos zero) h = absurd (omega (arith, h))
quotient r (negsuc a) (pos zero) h = absurd (omega (arith, h))
quotient r (pos a) (pos (suc b)) h = sym (ap (λ t. if t then where_in r (pos (a / suc b)) else None) (lt-ltb 0 (suc b) (omega arith)))
quotient r (negsuc a) (pos (suc b)) h = sym (ap (λ t. if t then where_in r (negsuc (a / suc b)) else None) (lt-ltb 0 (suc b) (omega arith)))
quotient r x (negsuc b) h = absurd (omega (arith, h))

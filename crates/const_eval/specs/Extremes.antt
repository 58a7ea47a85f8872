-- The ends of a range.
use Rattle.std.specs.Prelude.{ℤ}
use Rattle.m2_base.specs.Statics.Ranges.{Range}
use Rattle.const_eval.specs.declared.extremes.Extreme.{Extreme}
use Rattle.const_eval.specs.declared.extremes.Extreme.TheVariants.{Greatest, Least}

-- the least or the greatest value of a range
abbrev pub end_in : Extreme → Range → ℤ
end_in Least r = r.low
end_in Greatest r = r.high

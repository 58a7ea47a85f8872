-- The standard procedures, by the numbers of their names.
use Rattle.std.specs.Prelude.{ℕ, ◌==◌, if◌then◌else◌}
use Rattle.m2_base.specs.declared.builtins.Builtin.{Builtin}
use Rattle.m2_base.specs.declared.builtins.Builtin.TheVariants.{Abs, Cap, Chr, Dec, Dispose, Excl, Halt, High, Inc}
use Rattle.m2_base.specs.declared.builtins.Builtin.TheVariants.{Incl, Max, Min, New, Odd, Ord, Size, Val}

-- the standard procedure whose name has this number; of other numbers nobody asks
abbrev pub builtin_of : ℕ → Builtin
builtin_of n =
    if n == 10 then Abs else
    if n == 11 then Cap else
    if n == 12 then Chr else
    if n == 13 then Dec else
    if n == 14 then Dispose else
    if n == 15 then Excl else
    if n == 16 then Halt else
    if n == 17 then High else
    if n == 18 then Inc else
    if n == 19 then Incl else
    if n == 20 then Max else
    if n == 21 then Min else
    if n == 22 then New else
    if n == 23 then Odd else
    if n == 24 then Ord else
    if n == 25 then Size else Val

-- Why a main text is not cut: the first limit on procedures that it passes.
use Rattle.std.specs.Prelude.{◌≡◌, ℕ, ◌+◌, ◌==◌, List, [], ◌∷◌, Option, Some, None, if◌then◌else◌, nat_lt, length}
use Rattle.std.specs.Prelude.{Result, Ok, Err}
use Rattle.m2_base.specs.declared.token.Token.{Token}
use Rattle.m2_base.specs.Statics.BlockLimits.{BlockLimit, too_many_procedures, too_deep_procedure, most_procedures}
use Rattle.m2_base.specs.Statics.BlockLimits.{deepest_level}
use Rattle.stream_split.specs.declared.streams.SplitFault.{SplitFault}
use Rattle.stream_split.specs.declared.streams.SplitFault.TheVariants.{TooManyStreams, TooNested, Memory}
use Rattle.stream_split.specs.declared.cutter.Mode.{Mode}
use Rattle.stream_split.specs.declared.sorts.Sort.{Sort}
use Rattle.stream_split.specs.declared.sorts.Sort.TheVariants.{Word}
use Rattle.stream_split.specs.Cut.{State, state, seen, sort, next, opens_by}

-- the fault tells of the limit that is passed; want of memory tells of none
abbrev pub Tells : SplitFault → Option BlockLimit → Type 0
Tells Memory limit = Unit {0}
Tells TooManyStreams limit = (at : ℕ) × (limit ≡ Some (too_many_procedures at))
Tells TooNested limit = (at : ℕ) × (limit ≡ Some (too_deep_procedure at))

-- there is a result exactly where no limit is passed, and a fault tells which one is
abbrev pub Within : {A : Type 0} → Option BlockLimit → Result A SplitFault → Type 0
Within limit (Ok x) = limit ≡ None
Within limit (Err fault) = Tells fault limit

-- the limit that a procedure passes, where so many began before it and so many lie round it
abbrev pub heading_limit : (before round at : ℕ) → Option BlockLimit
heading_limit before round at =
    if before == most_procedures then Some (too_many_procedures at) else
    if nat_lt deepest_level (round + 1) then Some (too_deep_procedure at) else None

abbrev pub seen_limit : ℕ → List (ℕ × Mode) → Token → Sort → Option BlockLimit
seen_limit n fs p Word = heading_limit n (length fs) p.at
seen_limit n fs p z = None

-- the limit that is passed with a token of this sort, where n procedures began before
abbrev pub limit_at : ℕ → State → Sort → Option BlockLimit
limit_at n (state k c fs (seen m p)) z = seen_limit n fs p z
limit_at n s z = None

abbrev pub first_of : Option BlockLimit → Option BlockLimit → Option BlockLimit
first_of (Some l) o = Some l
first_of None o = o

-- the first limit that is passed with these tokens
abbrev pub passed : ℕ → State → List Token → Option BlockLimit
passed n s [] = None
passed n s (t ∷ ts) =
    first_of (limit_at n s (sort t.kind)) (passed (n + length (opens_by s (sort t.kind))) (next s t) ts)

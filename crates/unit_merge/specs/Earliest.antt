-- The faults of texts, as they are found by going over what is told of their streams: of each text the earliest.
use Rattle.std.specs.Prelude.{ℕ, ◌<◌, nat_lt, if◌then◌else◌, List, fold, replicate, slice_index_or, slice_set, Option}
use Rattle.std.specs.Prelude.{Some, None}
use Rattle.m2_base.specs.Lists.{Each, WhereKept}
use Rattle.m2_base.specs.declared.outputs.StreamFault.{StreamFault}
use Rattle.m2_base.specs.declared.outputs.StreamFault.TheVariants.{Syntax, TooDeep}
use Rattle.stream_split.specs.Agreement.{fault_at}

-- the text of a fault
abbrev pub text_of : StreamFault → ℕ
text_of (Syntax diag) = diag.text
text_of (TooDeep text at) = text

-- of two faults of a text the one at the earlier token, or the first
abbrev pub earlier : Option StreamFault → StreamFault → StreamFault
earlier None g = g
earlier (Some f) g = if nat_lt (fault_at g) (fault_at f) then g else f

-- the earliest fault of each text, with one more
abbrev pub with_fault : List (Option StreamFault) → StreamFault → List (Option StreamFault)
with_fault faults f = slice_set faults (text_of f) (Some (earlier (slice_index_or faults (text_of f) None) f))

abbrev pub with_told : List (Option StreamFault) → Option StreamFault → List (Option StreamFault)
with_told faults None = faults
with_told faults (Some f) = with_fault faults f

-- the earliest fault of each of so many texts, by what is told of the streams
abbrev pub earliest : (count : ℕ) → List (Option StreamFault) → List (Option StreamFault)
earliest count told = fold with_told (replicate count None) told

-- each fault is of one of so many texts
abbrev pub AreOf : (count : ℕ) → List (Option StreamFault) → Type 0
AreOf count told = Each (λ x. WhereKept x (λ f. text_of f < count)) told

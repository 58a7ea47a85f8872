-- Sets between brackets: their type, and their elements.
use Rattle.std.specs.Prelude.{bit_or, nat_le, not, pos, ℕ, ◌+◌, if◌then◌else◌, ◌-◌, ◌^◌, ◌&&◌}
use Rattle.m2_base.specs.Gives.{Gives, gives}
use Rattle.m2_base.specs.Rows.{Place, RowMeaning, Set, natural}
use Rattle.m2_base.specs.Standard.{broken}
use Rattle.m2_base.specs.Statics.Compatible.{is_compatible, taken_beside}
use Rattle.m2_base.specs.Statics.Contexts.{Context, refuse}
use Rattle.m2_base.specs.Statics.Diagnostics.{not_a_type, not_assignable, out_of_range, wrong_index}
use Rattle.m2_base.specs.Statics.Operands.{is_bad, is_procedure, worse}
use Rattle.m2_base.specs.Statics.Operations.{is_set_kind}
use Rattle.m2_base.specs.Statics.Ranges.{is_within}
use Rattle.m2_base.specs.Statics.Types.{is_broken, kind_of, range_of, stands_for}
use Rattle.m2_base.specs.declared.operands.Operand.TheVariants.{Computed, Constant, InError, NamedType}
use Rattle.m2_base.specs.declared.operands.Operand.{Operand}

-- the type before the brackets of a set, by its operand and that one's first token
abbrev pub set_type_of : Context → (at : ℕ) → Operand → Gives Place
set_type_of c at (NamedType t) =
    if is_set_kind (kind_of c.scene t) then gives (stands_for c.scene t) else refuse c at wrong_index broken
set_type_of c at InError = gives broken
set_type_of c at other = refuse c at not_a_type broken

-- the base in a set's row
abbrev pub set_base_by : RowMeaning → Place
set_base_by (Set base) = base
set_base_by other = broken

-- the base of a set type
abbrev pub set_base : Context → Place → Place
set_base c t = set_base_by (kind_of c.scene t)

-- a constant element outside the base's range is refused at its first token
abbrev pub checked_element : Context → (base : Place) → (at : ℕ) → Operand → Gives Operand
checked_element c base at (Constant t v) =
    if is_within (range_of c.scene base) v then gives (Constant t v) else refuse c at out_of_range InError
checked_element c base at o = gives o

-- An element as it is taken into a set: compatible with the base, else refused at its first token; a constant is in
-- the base's range.
abbrev pub element_of : Context → (base : Place) → (at : ℕ) → Operand → Gives Operand
element_of c base at o =
    if is_bad o then gives o else
    if is_broken c.scene base then gives InError else
    if not (is_procedure o) && is_compatible c.scene o (Computed base) then
    checked_element c base at (taken_beside c.source c.scene o (Computed base))
    else refuse c at not_assignable InError

-- the bits from low to high, of those that a set has; none where low is above high
abbrev pub span : ℕ → ℕ → ℕ
span low high = if nat_le low high && nat_le high 31 then 2 ^ (high + 1) - 2 ^ low else 0

-- a set with the elements from low to high too
abbrev pub with_elements : Operand → (low high : Operand) → Operand
with_elements (Constant t bits) (Constant u low) (Constant v high) =
    Constant t (pos (bit_or (natural bits) (span (natural low) (natural high))))
with_elements bits low high = worse bits (worse low high)

-- the set without elements
abbrev pub no_elements : Context → Place → Operand
no_elements c t = if is_broken c.scene (set_base c t) then InError else Constant t (pos 0)

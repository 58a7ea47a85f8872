-- Subranges: their base and their bounds.
use Rattle.std.specs.Prelude.{Bool, None, Option, Some, false, int_le, int_lt, pos, true, ℕ, ℤ, if◌then◌else◌, ◌&&◌}
use Rattle.std.specs.Prelude.{◌||◌}
use Rattle.m2_base.specs.Gives.{Gives, and_then, gives}
use Rattle.m2_base.specs.Rows.{Place, Subrange, is_same_place}
use Rattle.m2_base.specs.Standard.{broken, cardinal, integer, whole}
use Rattle.m2_base.specs.Statics.Compatible.{is_integer_or_cardinal}
use Rattle.m2_base.specs.Statics.Constants.{constant_of}
use Rattle.m2_base.specs.Statics.Contexts.{Context, refuse}
use Rattle.m2_base.specs.Statics.Diagnostics.{out_of_range, wrong_operands}
use Rattle.m2_base.specs.Statics.Makes.{Makes, make_then, makes, makes_row}
use Rattle.m2_base.specs.Statics.Operands.{char_or_same, constant_of_operand, operand_type}
use Rattle.m2_base.specs.Statics.Operations.{is_ordinal}
use Rattle.m2_base.specs.Statics.Ranges.{is_within}
use Rattle.m2_base.specs.Statics.TypeNames.{type_of_qual}
use Rattle.m2_base.specs.Statics.Types.{base_of, is_broken, range_of, stands_for}
use Rattle.m2_base.specs.Trees.{Expr, Qual, expr_at}
use Rattle.m2_base.specs.declared.operands.Operand.{Operand}

-- a subrange: its base, and its bounds
pub record Bounds : Type 0 where
  pub base : Place
  pub low : ℤ
  pub high : ℤ

-- The type of two bounds: the base of their types; a whole bound beside an INTEGER or
-- CARDINAL one has that one's type.
abbrev pub common_type : Place → Place → Option Place
common_type t u =
    if is_same_place t u then Some t else
    if is_same_place t whole && is_integer_or_cardinal u then Some u else
    if is_same_place u whole && is_integer_or_cardinal t then Some t else None

-- of whole bounds CARDINAL where the low isn't negative, else INTEGER
abbrev pub whole_base : ℤ → Place
whole_base low = if int_le (pos 0) low then cardinal else integer

-- the base: as named, which must be the bounds' type, for whole bounds INTEGER or CARDINAL; else the bounds' type
abbrev pub subrange_base : Context → Option Place → Place → (low : ℤ) → Option Place
subrange_base c None t low = if is_same_place t whole then Some (whole_base low) else Some t
subrange_base c (Some base) t low =
    let named = stands_for c.scene base in
    if is_same_place named t || (is_same_place t whole && is_integer_or_cardinal named) then Some named else None

-- a bound outside the base's range is refused at its first token
abbrev pub checked_bound : Context → Place → (at : ℕ) → ℤ → Gives Bool
checked_bound c base at v = if is_within (range_of c.scene base) v then gives true else refuse c at out_of_range false

-- the low isn't above the high
abbrev pub ordered_bounds : Context → (high_at : ℕ) → (low high : ℤ) → Bool → Bool → Gives Bool
ordered_bounds c at low high true true = if int_lt high low then refuse c at out_of_range false else gives true
ordered_bounds c at low high x y = gives false

-- the bounds, where they are right
abbrev pub subrange_if : Place → (low high : ℤ) → Bool → Option Bounds
subrange_if base low high true = Some (record { base = base; low = low; high = high })
subrange_if base low high false = None

-- both bounds lie in the base's range, and the low isn't above the high; a base that isn't the bounds' type is
-- refused at the upper bound
abbrev pub within_base : Context → (low_at high_at : ℕ) → (low high : ℤ) → Option Place → Gives (Option Bounds)
within_base c low_at high_at low high None = refuse c high_at wrong_operands None
within_base c low_at high_at low high (Some base) =
    and_then (checked_bound c base low_at low) (λ x.
    and_then (checked_bound c base high_at high) (λ y.
    and_then (ordered_bounds c high_at low high x y) (λ good.
    gives (subrange_if base low high good))))

-- bounds of one type; bounds of two types are refused at the upper one
abbrev pub of_common : Context → Option Place → (low_at high_at : ℕ) → (low high : ℤ) → Option Place
    → Gives (Option Bounds)
of_common c base low_at high_at low high None = refuse c high_at wrong_operands None
of_common c base low_at high_at low high (Some t) = within_base c low_at high_at low high (subrange_base c base t low)

-- the values of both bounds
abbrev pub of_values : Context → Option Place → (low_at high_at : ℕ) → Operand → Operand → Option ℤ → Option ℤ
    → Gives (Option Bounds)
of_values c base low_at high_at x y (Some low) (Some high) =
    of_common c base low_at high_at low high
    (common_type (base_of c.scene (operand_type x)) (base_of c.scene (operand_type y)))
of_values c base low_at high_at x y v w = gives None

-- bounds are ordinal or whole constants; a string of one character is a CHAR
abbrev pub of_ordinals : Context → Option Place → (low_at high_at : ℕ) → Operand → Operand → Gives (Option Bounds)
of_ordinals c base low_at high_at x y =
    if is_ordinal c x && is_ordinal c y then
    of_values c base low_at high_at x y (constant_of_operand x) (constant_of_operand y)
    else refuse c high_at wrong_operands None

-- the named base is in error
abbrev pub is_broken_base : Context → Option Place → Bool
is_broken_base c None = false
is_broken_base c (Some t) = is_broken c.scene t

-- without a bound, or with a base in error, there is no subrange
abbrev pub of_bounds : Context → Option Place → (low_at high_at : ℕ) → Option Operand → Option Operand
    → Gives (Option Bounds)
of_bounds c base low_at high_at (Some x) (Some y) =
    if is_broken_base c base then gives None
    else of_ordinals c base low_at high_at (char_or_same c.source x) (char_or_same c.source y)
of_bounds c base low_at high_at x y = gives None

-- the base that is named, if one is
abbrev pub named_base : Context → Option Qual → Gives (Option Place)
named_base c None = gives None
named_base c (Some q) = and_then (type_of_qual c q) (λ t. gives (Some t))

-- a subrange, if it is right
abbrev pub subrange_of : Context → Option Qual → (low high : Expr) → Gives (Option Bounds)
subrange_of c base low high =
    and_then (named_base c base) (λ b.
    and_then (constant_of c low) (λ x.
    and_then (constant_of c high) (λ y.
    of_bounds c b (expr_at low) (expr_at high) x y)))

-- a wrong subrange has a row all the same
abbrev pub subrange_row : Context → (at : ℕ) → Option Bounds → Makes Place
subrange_row c at (Some b) = makes_row c at (Subrange b.base b.low b.high)
subrange_row c at None = make_then c (makes_row c at (Subrange broken (pos 0) (pos 0))) (λ d p. makes broken)

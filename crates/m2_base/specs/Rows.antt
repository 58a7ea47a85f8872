-- Rows: what a scope has an entry of. A row has a name (0: none), a kind, the token that it stands for, and numbers
-- whose sense the kind decides. The definitions speak of a row's meaning, by cases, and never of these numbers.
use Rattle.std.specs.Prelude.{◌≡◌, ℕ, ◌+◌, ◌*◌, ◌/◌, ◌%◌, ◌^◌, ◌<◌, ◌≤◌, Bool, true, false, ◌&&◌, ◌==◌, if◌then◌else◌}
use Rattle.std.specs.Prelude.{ℤ, pos, negsuc, ◌≤ℤ◌, Option, Some, None}
pub use Rattle.m2_base.specs.declared.rows.Row.{Row}
pub use Rattle.m2_base.specs.declared.rows.Place.{Place}
pub use Rattle.m2_base.specs.declared.rows.Mode.{Mode}
pub use Rattle.m2_base.specs.declared.rows.Mode.TheVariants.{Plain, ByAddress, Open}
pub use Rattle.m2_base.specs.declared.rows.RowMeaning.{RowMeaning}
pub use Rattle.m2_base.specs.declared.rows.RowMeaning.TheVariants.{Const, TypeName, Var, Proc, Module, Alias, Field}
pub use Rattle.m2_base.specs.declared.rows.RowMeaning.TheVariants.{Param, Standard, Broken, Integer, Cardinal}
pub use Rattle.m2_base.specs.declared.rows.RowMeaning.TheVariants.{Character, Nil, Text, Whole, Enum, Subrange, Array}
pub use Rattle.m2_base.specs.declared.rows.RowMeaning.TheVariants.{OpenArray, Record, Set, Pointer, ProcType, Opaque}
use Rattle.m2_base.specs.declared.limits.TheConstants.{GREATEST_CARDINAL, LEAST_INTEGER}

-- the place of a scope's row
abbrev pub at_place : ℕ → ℕ → Place
at_place s o = record { scope = s; ordinal = o }

abbrev pub is_same_place : Place → Place → Bool
is_same_place p q = (p.scope == q.scope) && (p.ordinal == q.ordinal)

-- places are written in rows as one number
abbrev pub number_of : Place → ℤ
number_of p = pos (p.scope * 2 ^ 32 + p.ordinal)

abbrev pub place_of : ℤ → Place
place_of (pos n) = at_place (n / 2 ^ 32) (n % 2 ^ 32)
place_of (negsuc n) = at_place 0 0

-- a number that isn't negative
abbrev pub natural : ℤ → ℕ
natural (pos n) = n
natural (negsuc n) = 0

-- the numbers of the kinds
abbrev pub const_kind : ℕ
const_kind = 1

abbrev pub type_name_kind : ℕ
type_name_kind = 2

abbrev pub var_kind : ℕ
var_kind = 3

abbrev pub proc_kind : ℕ
proc_kind = 4

abbrev pub module_kind : ℕ
module_kind = 5

abbrev pub alias_kind : ℕ
alias_kind = 6

abbrev pub field_kind : ℕ
field_kind = 7

abbrev pub param_kind : ℕ
param_kind = 8

abbrev pub standard_kind : ℕ
standard_kind = 9

abbrev pub basic_kind : ℕ
basic_kind = 10

abbrev pub enum_kind : ℕ
enum_kind = 11

abbrev pub subrange_kind : ℕ
subrange_kind = 12

abbrev pub array_kind : ℕ
array_kind = 13

abbrev pub open_array_kind : ℕ
open_array_kind = 14

abbrev pub record_kind : ℕ
record_kind = 15

abbrev pub set_kind : ℕ
set_kind = 16

abbrev pub pointer_kind : ℕ
pointer_kind = 17

abbrev pub proc_type_kind : ℕ
proc_type_kind = 18

abbrev pub opaque_kind : ℕ
opaque_kind = 19

abbrev pub mode_number : Mode → ℕ
mode_number Plain = 0
mode_number ByAddress = 1
mode_number Open = 2

abbrev pub flag_number : Bool → ℕ
flag_number false = 0
flag_number true = 1

-- no result is -1
abbrev pub result_number : Option Place → ℤ
result_number None = negsuc 0
result_number (Some p) = number_of p

-- How meanings are written as rows: the kind, then the numbers a, b, c and e. What isn't named is 0.
--
--     Const         type, value (of a string its name number), length of a string
--     TypeName      type
--     Var           type, how its cell holds it, offset
--     Proc          its ProcType row, its number (in a definition the heading's index), its scope (in a definition 0)
--     Module        scope
--     Alias         the place that it leads to
--     Field         type, offset, ordinal of its record row, the field's name
--     Param         type, whether it is a VAR parameter, ordinal of its ProcType row
--     Standard      its name number
--     Broken .. Whole   the basic types, and those of parts in error, of NIL, of strings and of whole constants
--     Enum          number of constants
--     Subrange      base type, low, high
--     Array         index type, element type, size
--     OpenArray     element type
--     Record        ordinal of its first row, size
--     Set           base type
--     Pointer       target type, or the row of a type's name
--     ProcType      result type, number of parameters, ordinal of its first row
--     Opaque
--
-- The kind and the numbers a, b, c and e of a row with this meaning:
abbrev pub numbers_of : RowMeaning → ℕ × ℤ × ℤ × ℤ × ℤ
numbers_of (Const t v l) = (const_kind, number_of t, v, pos l, pos 0)
numbers_of (TypeName t) = (type_name_kind, number_of t, pos 0, pos 0, pos 0)
numbers_of (Var t m o) = (var_kind, number_of t, pos (mode_number m), pos o, pos 0)
numbers_of (Proc t p s) = (proc_kind, number_of t, pos p, pos s, pos 0)
numbers_of (Module s) = (module_kind, pos s, pos 0, pos 0, pos 0)
numbers_of (Alias p) = (alias_kind, number_of p, pos 0, pos 0, pos 0)
numbers_of (Field t o r f) = (field_kind, number_of t, pos o, pos r, pos f)
numbers_of (Param t v p) = (param_kind, number_of t, pos (flag_number v), pos p, pos 0)
numbers_of (Standard s) = (standard_kind, pos s, pos 0, pos 0, pos 0)
numbers_of Broken = (basic_kind, pos 0, pos 0, pos 0, pos 0)
numbers_of Integer = (basic_kind, pos 1, pos 0, pos 0, pos 0)
numbers_of Cardinal = (basic_kind, pos 2, pos 0, pos 0, pos 0)
numbers_of Character = (basic_kind, pos 3, pos 0, pos 0, pos 0)
numbers_of Nil = (basic_kind, pos 4, pos 0, pos 0, pos 0)
numbers_of Text = (basic_kind, pos 5, pos 0, pos 0, pos 0)
numbers_of Whole = (basic_kind, pos 6, pos 0, pos 0, pos 0)
numbers_of (Enum k) = (enum_kind, pos k, pos 0, pos 0, pos 0)
numbers_of (Subrange t low high) = (subrange_kind, number_of t, low, high, pos 0)
numbers_of (Array i t s) = (array_kind, number_of i, number_of t, pos s, pos 0)
numbers_of (OpenArray t) = (open_array_kind, pos 0, number_of t, pos 0, pos 0)
numbers_of (Record f s) = (record_kind, pos f, pos 0, pos s, pos 0)
numbers_of (Set t) = (set_kind, number_of t, pos 0, pos 0, pos 0)
numbers_of (Pointer t) = (pointer_kind, number_of t, pos 0, pos 0, pos 0)
numbers_of (ProcType r k f) = (proc_type_kind, result_number r, pos k, pos f, pos 0)
numbers_of Opaque = (opaque_kind, pos 0, pos 0, pos 0, pos 0)

abbrev pub numbers_row : (name at kind : ℕ) (a b c e : ℤ) → Row
numbers_row n at k a b c e = record { name = n; kind = k; at = at; a = a; b = b; c = c; d = pos 0; e = e }

-- the row of this name at this token that has this meaning
abbrev pub row_of : (name at : ℕ) → RowMeaning → Row
row_of n at m =
    let (k, a, b, c, e) = numbers_of m in
    numbers_row n at k a b c e

abbrev pub mode_of : ℤ → Mode
mode_of z = if natural z == 0 then Plain else if natural z == 1 then ByAddress else Open

abbrev pub result_of : ℤ → Option Place
result_of (pos n) = Some (place_of (pos n))
result_of (negsuc n) = None

abbrev pub basic_of : ℕ → RowMeaning
basic_of n =
    if n == 1 then Integer else
    if n == 2 then Cardinal else
    if n == 3 then Character else
    if n == 4 then Nil else
    if n == 5 then Text else
    if n == 6 then Whole else Broken

-- the meaning of a row; a row of no kind is as Broken
abbrev pub row_meaning : Row → RowMeaning
row_meaning r =
    if r.kind == const_kind then Const (place_of r.a) r.b (natural r.c) else
    if r.kind == type_name_kind then TypeName (place_of r.a) else
    if r.kind == var_kind then Var (place_of r.a) (mode_of r.b) (natural r.c) else
    if r.kind == proc_kind then Proc (place_of r.a) (natural r.b) (natural r.c) else
    if r.kind == module_kind then Module (natural r.a) else
    if r.kind == alias_kind then Alias (place_of r.a) else
    if r.kind == field_kind then Field (place_of r.a) (natural r.b) (natural r.c) (natural r.e) else
    if r.kind == param_kind then Param (place_of r.a) (natural r.b == 1) (natural r.c) else
    if r.kind == standard_kind then Standard (natural r.a) else
    if r.kind == basic_kind then basic_of (natural r.a) else
    if r.kind == enum_kind then Enum (natural r.a) else
    if r.kind == subrange_kind then Subrange (place_of r.a) r.b r.c else
    if r.kind == array_kind then Array (place_of r.a) (place_of r.b) (natural r.c) else
    if r.kind == open_array_kind then OpenArray (place_of r.b) else
    if r.kind == record_kind then Record (natural r.a) (natural r.c) else
    if r.kind == set_kind then Set (place_of r.a) else
    if r.kind == pointer_kind then Pointer (place_of r.a) else
    if r.kind == proc_type_kind then ProcType (result_of r.a) (natural r.b) (natural r.c) else
    if r.kind == opaque_kind then Opaque else Broken

-- the place stands before the other
abbrev pub IsBefore : Place → Place → Type 0
IsBefore p q = p.scope * 2 ^ 32 + p.ordinal < q.scope * 2 ^ 32 + q.ordinal

-- a constant's value, a low or a high
abbrev pub IsValue : ℤ → Type 0
IsValue z = (LEAST_INTEGER ≤ℤ z) × (z ≤ℤ GREATEST_CARDINAL)

-- a number that a row has room for
abbrev pub IsSmall : ℕ → Type 0
IsSmall n = n < 2 ^ 32

-- the numbers of a meaning, but for values, lows and highs, have 32 bits
abbrev pub HasSmallNumbers : RowMeaning → Type 0
HasSmallNumbers (Const t v l) = IsSmall l
HasSmallNumbers (Var t m o) = IsSmall o
HasSmallNumbers (Proc t k s) = IsSmall k × IsSmall s
HasSmallNumbers (Module s) = IsSmall s
HasSmallNumbers (Field t o r f) = IsSmall o × IsSmall r × IsSmall f
HasSmallNumbers (Param t v r) = IsSmall r
HasSmallNumbers (Standard s) = IsSmall s
HasSmallNumbers (Enum k) = IsSmall k
HasSmallNumbers (Array i t s) = IsSmall s
HasSmallNumbers (Record f s) = IsSmall f × IsSmall s
HasSmallNumbers (ProcType r k f) = IsSmall k × IsSmall f
HasSmallNumbers other = Unit {0}

-- a place that a row's number can name
abbrev pub IsSmallScope : Place → Type 0
IsSmallScope p = p.scope < 2 ^ 31

abbrev pub ResultHasSmallScope : Option Place → Type 0
ResultHasSmallScope None = Unit {0}
ResultHasSmallScope (Some r) = IsSmallScope r

-- the places of a meaning can be named by numbers
abbrev pub HasSmallScopes : RowMeaning → Type 0
HasSmallScopes (Const t v l) = IsSmallScope t
HasSmallScopes (TypeName t) = IsSmallScope t
HasSmallScopes (Var t m o) = IsSmallScope t
HasSmallScopes (Proc t k s) = IsSmallScope t
HasSmallScopes (Alias p) = IsSmallScope p
HasSmallScopes (Field t o r f) = IsSmallScope t
HasSmallScopes (Param t v r) = IsSmallScope t
HasSmallScopes (Subrange t low high) = IsSmallScope t
HasSmallScopes (Array i t s) = IsSmallScope i × IsSmallScope t
HasSmallScopes (OpenArray t) = IsSmallScope t
HasSmallScopes (Set t) = IsSmallScope t
HasSmallScopes (Pointer t) = IsSmallScope t
HasSmallScopes (ProcType r k f) = ResultHasSmallScope r
HasSmallScopes other = Unit {0}

-- a place whose ordinal has 32 bits
abbrev pub IsSmallOrdinal : Place → Type 0
IsSmallOrdinal p = p.ordinal < 2 ^ 32

-- the ordinals of the places in a meaning have 32 bits
abbrev pub HasSmallOrdinals : RowMeaning → Type 0
HasSmallOrdinals (Const t v l) = IsSmallOrdinal t
HasSmallOrdinals (TypeName t) = IsSmallOrdinal t
HasSmallOrdinals (Var t m o) = IsSmallOrdinal t
HasSmallOrdinals (Proc t k s) = IsSmallOrdinal t
HasSmallOrdinals (Alias t) = IsSmallOrdinal t
HasSmallOrdinals (Field t o r f) = IsSmallOrdinal t
HasSmallOrdinals (Param t v r) = IsSmallOrdinal t
HasSmallOrdinals (Subrange t low high) = IsSmallOrdinal t
HasSmallOrdinals (Array i t s) = IsSmallOrdinal i × IsSmallOrdinal t
HasSmallOrdinals (OpenArray t) = IsSmallOrdinal t
HasSmallOrdinals (Set t) = IsSmallOrdinal t
HasSmallOrdinals (Pointer t) = IsSmallOrdinal t
HasSmallOrdinals (ProcType (Some r) k f) = IsSmallOrdinal r
HasSmallOrdinals other = Unit {0}

abbrev pub ResultIsBefore : Option Place → Place → Type 0
ResultIsBefore None p = Unit {0}
ResultIsBefore (Some r) p = IsBefore r p

-- the meaning fits a row at this place, in a unit with so many names: what its places name stands before it, a
-- pointer's target excepted, whose scope isn't above its own; a module's scope is a smaller one; the first row of a
-- record or a procedure type isn't above its own; the numbers are in their ranges
abbrev pub Fits : (names : ℕ) → Place → RowMeaning → Type 0
Fits names p (Const t v l) = IsBefore t p × IsValue v × IsSmall l × (t ≡ at_place 0 8 → natural v < names)
Fits names p (TypeName t) = IsBefore t p
Fits names p (Var t m o) = IsBefore t p × IsSmall o
Fits names p (Proc t k s) = IsBefore t p × IsSmall k × IsSmall s
Fits names p (Module s) = s < p.scope
Fits names p (Alias q) = IsBefore q p
Fits names p (Field t o r f) = IsBefore t p × IsSmall o × IsSmall r × (f < names)
Fits names p (Param t v r) = IsBefore t p × IsSmall r
Fits names p (Standard s) = s < names
Fits names p (Enum k) = IsSmall k
Fits names p (Subrange t low high) = IsBefore t p × IsValue low × IsValue high
Fits names p (Array i t s) = IsBefore i p × IsBefore t p × IsSmall s
Fits names p (OpenArray t) = IsBefore t p
Fits names p (Record f s) = (f ≤ p.ordinal) × IsSmall s
Fits names p (Set t) = IsBefore t p
Fits names p (Pointer t) = t.scope ≤ p.scope
Fits names p (ProcType r k f) = ResultIsBefore r p × IsSmall k × (f ≤ p.ordinal)
Fits names p basic = Unit {0}

-- a row is well formed at a place: it is its meaning written out, and that fits the place
pub record IsWellFormed (names : ℕ) (p : Place) (r : Row) : Type 0 where
  pub named : r.name < names
  pub written : row_of r.name r.at (row_meaning r) ≡ r
  pub fits : Fits names p (row_meaning r)

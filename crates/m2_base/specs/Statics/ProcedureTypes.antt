-- The parameters and the result of a procedure type.
use Rattle.std.specs.Prelude.{Bool, List, None, Option, Some, [], false, length, true, ℕ, ◌+◌, if◌then◌else◌, ◌∷◌}
use Rattle.m2_base.specs.Gives.{Gives, and_then, gives}
use Rattle.m2_base.specs.Rows.{Array, OpenArray, Param, Place, Record, RowMeaning}
use Rattle.m2_base.specs.Standard.{broken}
use Rattle.m2_base.specs.Statics.Contexts.{Context, refuse}
use Rattle.m2_base.specs.Statics.Diagnostics.{result_not_scalar}
use Rattle.m2_base.specs.Statics.Makes.{Makes, make_then, makes, makes_row, only_gives}
use Rattle.m2_base.specs.Statics.Shapes.{formal_shapes}
use Rattle.m2_base.specs.Statics.TypeNames.{type_of_qual}
use Rattle.m2_base.specs.Statics.Types.{kind_of}
use Rattle.m2_base.specs.Trees.{Formal, Qual}

-- an open array has a row of its own
abbrev pub open_array_row : Context → (at : ℕ) → (is_open : Bool) → Place → Makes Place
open_array_row c at true t = makes_row c at (OpenArray t)
open_array_row c at false t = makes t

-- the type of a parameter; an open array has a row of its own
abbrev pub parameter_type : Context → (is_open : Bool) → Qual → Makes Place
parameter_type c is_open q = make_then c (only_gives (type_of_qual c q)) (λ d t. open_array_row d q.first.at is_open t)

-- parameters of a procedure type whose row has this ordinal
abbrev pub formal_rows : Context → (own : ℕ) → List Formal → Makes (Unit {0})
formal_rows c own [] = makes tt
formal_rows c own (f ∷ formals) =
    make_then c (parameter_type c f.is_open f.of) (λ d t.
    make_then d (makes_row d f.of.first.at (Param t f.by_ref own)) (λ e p.
    formal_rows e own formals))

-- the meaning of an array's or a record's row
abbrev pub is_structured_kind : RowMeaning → Bool
is_structured_kind (Array i t s) = true
is_structured_kind (Record f s) = true
is_structured_kind other = false

-- an array or a record, which isn't in error
abbrev pub is_structured : Context → Place → Bool
is_structured c t = is_structured_kind (kind_of c.scene t)

-- a structured result is refused at its first token, and in error
abbrev pub checked_result : Context → (at : ℕ) → Place → Gives (Option Place)
checked_result c at t = if is_structured c t then refuse c at result_not_scalar (Some broken) else gives (Some t)

-- a result is no array and no record
abbrev pub result_type : Context → Option Qual → Gives (Option Place)
result_type c None = gives None
result_type c (Some q) = and_then (type_of_qual c q) (checked_result c q.first.at)

-- the number of rows of these parameters
abbrev pub formals_length : List Formal → ℕ
formals_length [] = 0
formals_length (f ∷ formals) = length (formal_shapes f) + formals_length formals

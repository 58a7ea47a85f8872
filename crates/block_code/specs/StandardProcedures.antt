-- The standard procedures that give no value: INC, DEC, INCL, EXCL, NEW, DISPOSE and HALT. Which standard procedures
-- are functions, and how many arguments each takes. What INC and DEC leave counts as an INTEGER or a CARDINAL, by the
-- variable's base, and is fitted to the variable's type.
use Rattle.std.specs.Prelude.{ℕ, zero, suc, ◌==◌, ◌||◌, Bool, true, false, pos, is_some, List, [], ◌∷◌, if◌then◌else◌}
use Rattle.std.specs.Prelude.{Some}
use Rattle.m2_base.specs.Gives.{Gives, gives, and_then}
use Rattle.m2_base.specs.Rows.{is_same_place}
use Rattle.m2_base.specs.declared.rows.Place.{Place}
use Rattle.m2_base.specs.declared.rows.RowMeaning.{RowMeaning}
use Rattle.m2_base.specs.declared.rows.RowMeaning.TheVariants.{Pointer}
use Rattle.m2_base.specs.Standard.{broken, cardinal, whole}
use Rattle.m2_base.specs.Statics.Assignable.{taken_into}
use Rattle.m2_base.specs.Statics.Compatible.{is_compatible, is_integer_or_cardinal}
use Rattle.m2_base.specs.Statics.Contexts.{Context, Scene, refuse}
use Rattle.m2_base.specs.Statics.Diagnostics.{wrong_argument}
use Rattle.m2_base.specs.Statics.Operands.{is_bad, operand_type}
use Rattle.m2_base.specs.Statics.Operations.{is_set_kind}
use Rattle.m2_base.specs.Statics.Ranges.{Range, cardinal_range, integer_range}
use Rattle.m2_base.specs.Statics.Sets.{set_base}
use Rattle.m2_base.specs.Statics.TypeParts.{target_of}
use Rattle.m2_base.specs.Statics.Types.{base_of, is_broken, kind_of, range_of, size_of}
use Rattle.m2_base.specs.declared.builtins.Builtin.TheVariants.{Dec, Dispose, Excl, Halt, Inc, Incl, New, Val}
use Rattle.m2_base.specs.declared.builtins.Builtin.{Builtin}
use Rattle.m2_base.specs.declared.operands.Operand.TheVariants.{Computed, Constant, Variable}
use Rattle.m2_base.specs.declared.operands.Operand.{Operand}
use Rattle.code_form.specs.declared.instr.Instr.{Instr}
use Rattle.code_form.specs.declared.instr.Instr.TheVariants.{Push, Load, Store, Dup, Add, Sub, Union, Diff, Bit}
use Rattle.code_form.specs.declared.instr.Instr.TheVariants.{New as Room, Halt as Stop}
use Rattle.block_code.specs.Coded.{Coded, coded, bare, in_error, taken, value_code}
use Rattle.block_code.specs.Fitting.{check_of, fitted_code}
use Rattle.block_code.specs.Operators.{side_of}
use Rattle.block_code.specs.Parts.{Part, plain, ◌⨟◌}
use Rattle.block_code.specs.StandardFunctions.{as_variable, function_of_one, value_of_type}
use Rattle.block_code.specs.Values.{as_value, in_range}

-- what the call of a proper procedure stands for
abbrev pub no_value : Operand
no_value = Computed broken

-- an argument that is a variable, or in error, whose type passes the test
abbrev pub variable_where : Context → (at : ℕ) → (Place → Bool) → Coded → Gives Coded
variable_where c at test x =
    if is_bad x.operand || test (operand_type x.operand) then gives x else refuse c at wrong_argument in_error

-- an argument that must be a variable whose type passes the test
abbrev pub variable_argument : Context → (at : ℕ) → (Place → Bool) → Coded → Gives Coded
variable_argument c at test x = and_then (as_variable c at x) (variable_where c at test)

-- a variable, changed by what stands on top of its value
abbrev pub update : Coded → Part → List Instr → Coded
update x n instrs = coded no_value (x.code ⨟ plain (Dup ∷ Load ∷ []) ⨟ n ⨟ plain instrs ⨟ plain (Store ∷ []))

-- ---- INC and DEC

-- the variable of INC and DEC: of an ordinal type
abbrev pub ordinal_variable : Context → (at : ℕ) → Coded → Gives Coded
ordinal_variable c at x = variable_argument c at (λ t. is_some (range_of c.scene t)) x

-- the type of the number by which a variable is changed: its base, where that is a type of numbers, else CARDINAL
abbrev pub step_type : Scene → Place → Place
step_type scene t = if is_integer_or_cardinal (base_of scene t) then base_of scene t else cardinal

-- the number is of this type, or a whole constant
abbrev pub is_step : Scene → (want : Place) → Operand → Bool
is_step scene want (Constant t v) = is_same_place (base_of scene t) want || is_same_place t whole
is_step scene want (Computed t) = is_same_place (base_of scene t) want
is_step scene want (Variable t) = is_same_place (base_of scene t) want
is_step scene want other = false

-- a number of this type; a constant is in its range
abbrev pub number_of_type : Context → (at : ℕ) → (want : Place) → Coded → Gives Coded
number_of_type c at want n =
    if is_step c.scene want n.operand then in_range c at want n else refuse c at wrong_argument in_error

-- a value beside the variable of its call, where neither is in error
abbrev pub beside : Coded → (Coded → Gives Coded) → Coded → Gives Coded
beside x rule v = if is_bad x.operand || is_bad v.operand then gives in_error else rule v

-- the number by which the variable of INC or DEC is changed
abbrev pub step_number : Context → Coded → (at : ℕ) → Coded → Gives Coded
step_number c x at n =
    and_then (as_value c at n) (beside x (number_of_type c at (step_type c.scene (operand_type x.operand))))

-- the number by which a variable is changed where none is given
abbrev pub one : Coded
one = bare (Constant whole (pos 1))

-- the instruction of INC, and of DEC
abbrev pub step_instr : Builtin → (side : ℕ) → Instr
step_instr Inc b = Add b
step_instr other b = Sub b

-- the range of what a number of this side can be
abbrev pub counting_range : (side : ℕ) → Range
counting_range zero = integer_range
counting_range (suc b) = cardinal_range

-- the instructions of INC and DEC on a variable of this type
abbrev pub step_instrs : Scene → Builtin → Place → List Instr
step_instrs scene f t =
    step_instr f (side_of scene t) ∷ check_of (Some (counting_range (side_of scene t))) (range_of scene t)

-- INC or DEC of a variable by a number, unless one of them is in error
abbrev pub stepped : Context → Builtin → Coded → Coded → Coded
stepped c f x n =
    if is_bad x.operand || is_bad n.operand then in_error
    else update x (value_code c n) (step_instrs c.scene f (operand_type x.operand))

-- ---- INCL and EXCL

-- the variable of INCL and EXCL: a set
abbrev pub set_variable : Context → (at : ℕ) → Coded → Gives Coded
set_variable c at x = variable_argument c at (λ t. is_set_kind (kind_of c.scene t)) x

-- an element is compatible with the set's base; a constant is in the base's range
abbrev pub element_of_base : Context → (at : ℕ) → (base : Place) → Coded → Gives Coded
element_of_base c at base v =
    if is_broken c.scene base then gives in_error else
    if is_compatible c.scene v.operand (Computed base)
    then in_range c at base (taken (taken_into c.source c.scene base v.operand) v)
    else refuse c at wrong_argument in_error

-- the element of INCL and EXCL
abbrev pub set_member : Context → Coded → (at : ℕ) → Coded → Gives Coded
set_member c x at e =
    and_then (as_value c at e) (beside x (element_of_base c at (set_base c (operand_type x.operand))))

-- the instructions of INCL, and of EXCL
abbrev pub member_instrs : Builtin → List Instr
member_instrs Incl = Bit ∷ Union ∷ []
member_instrs other = Bit ∷ Diff ∷ []

-- INCL or EXCL of a set and an element, unless one of them is in error
abbrev pub included : Context → Builtin → Coded → Coded → Coded
included c f x e =
    if is_bad x.operand || is_bad e.operand then in_error
    else update x (fitted_code c (set_base c (operand_type x.operand)) e) (member_instrs f)

-- ---- NEW and DISPOSE

-- the meaning of a pointer's row
abbrev pub is_pointer_type : RowMeaning → Bool
is_pointer_type (Pointer p) = true
is_pointer_type other = false

-- the variable of NEW and DISPOSE: a pointer
abbrev pub pointer_variable : Context → (at : ℕ) → Coded → Gives Coded
pointer_variable c at x = variable_argument c at (λ t. is_pointer_type (kind_of c.scene t)) x

-- NEW of a pointer, unless it is in error or what it points to is
abbrev pub new_room : Context → Coded → Coded
new_room c x =
    let t = target_of c.scene (operand_type x.operand) in
    if is_bad x.operand || is_broken c.scene t then in_error
    else coded no_value (x.code ⨟ plain (Room (size_of c.scene t) ∷ []))

-- DISPOSE of a pointer, which is NIL then, unless it is in error
abbrev pub disposed : Coded → Coded
disposed x = if is_bad x.operand then in_error else coded no_value (x.code ⨟ plain (Push (pos 0) ∷ Store ∷ []))

-- ---- by the number of arguments

-- a standard procedure without arguments; of others than HALT nobody asks
abbrev pub of_no_argument : Builtin → Coded
of_no_argument Halt = coded no_value (plain (Stop ∷ []))
of_no_argument other = in_error

-- a standard procedure of one argument
abbrev pub of_one_argument : Context → Builtin → (at : ℕ) → Coded → Gives Coded
of_one_argument c Inc at x = and_then (ordinal_variable c at x) (λ v. gives (stepped c Inc v one))
of_one_argument c Dec at x = and_then (ordinal_variable c at x) (λ v. gives (stepped c Dec v one))
of_one_argument c New at x = and_then (pointer_variable c at x) (λ v. gives (new_room c v))
of_one_argument c Dispose at x = and_then (pointer_variable c at x) (λ v. gives (disposed v))
of_one_argument c f at x = function_of_one c f at x

-- the first of two arguments, before the second is looked at
abbrev pub first_of_two : Context → Builtin → (at : ℕ) → Coded → Gives Coded
first_of_two c Inc at x = ordinal_variable c at x
first_of_two c Dec at x = ordinal_variable c at x
first_of_two c Incl at x = set_variable c at x
first_of_two c Excl at x = set_variable c at x
first_of_two c f at x = gives x

-- a standard procedure of two arguments; of others than these nobody asks
abbrev pub of_two_arguments : Context → Builtin → (x_at : ℕ) → Coded → (at : ℕ) → Coded → Gives Coded
of_two_arguments c Inc x_at x at y = and_then (step_number c x at y) (λ n. gives (stepped c Inc x n))
of_two_arguments c Dec x_at x at y = and_then (step_number c x at y) (λ n. gives (stepped c Dec x n))
of_two_arguments c Incl x_at x at y = and_then (set_member c x at y) (λ e. gives (included c Incl x e))
of_two_arguments c Excl x_at x at y = and_then (set_member c x at y) (λ e. gives (included c Excl x e))
of_two_arguments c Val x_at x at y = value_of_type c x_at x at y
of_two_arguments c f x_at x at y = gives in_error

-- the standard procedure takes so many arguments
abbrev pub takes_count : Builtin → ℕ → Bool
takes_count Halt n = n == 0
takes_count Inc n = (n == 1) || (n == 2)
takes_count Dec n = (n == 1) || (n == 2)
takes_count Incl n = n == 2
takes_count Excl n = n == 2
takes_count Val n = n == 2
takes_count f n = n == 1

-- a function gives a value; the others are proper procedures
abbrev pub is_function : Builtin → Bool
is_function Inc = false
is_function Dec = false
is_function Incl = false
is_function Excl = false
is_function New = false
is_function Dispose = false
is_function Halt = false
is_function f = true

-- Calls of standard functions in constants, by what they take.
use Rattle.std.specs.Prelude.{◌≡◌, ◌||◌, List, [], ◌∷◌, Bool, true, false, ℕ, if◌then◌else◌}
use Rattle.m2_base.specs.Gives.{Gives, and_then, gives}
use Rattle.m2_base.specs.Statics.Builtins.{builtin_of}
use Rattle.m2_base.specs.Statics.Constants as constants
use Rattle.m2_base.specs.Statics.Constants.{value_wanted}
use Rattle.m2_base.specs.Statics.Contexts.{Context, refuse}
use Rattle.m2_base.specs.Statics.Diagnostics.{not_a_variable, wrong_count}
use Rattle.m2_base.specs.Statics.Functions.{abs_of, cap_of, chr_of, max_of, min_of, odd_of, ord_of, size_value, val_of}
use Rattle.m2_base.specs.declared.builtins.Builtin.{Builtin}
use Rattle.m2_base.specs.declared.builtins.Builtin.TheVariants as builtins
use Rattle.m2_base.specs.declared.operands.Operand.{Operand}
use Rattle.m2_base.specs.declared.operands.Operand.TheVariants.{InError, ModuleName, NotConstant, StandardProcedure}
use Rattle.const_eval.specs.declared.arguments.Arguments.{Arguments}
use Rattle.const_eval.specs.declared.arguments.Shape.{Shape}
use Rattle.const_eval.specs.declared.arguments.Shape.TheVariants.{Empty, More, One, Two}
use Rattle.const_eval.specs.declared.calls.Call.{Call}
use Rattle.const_eval.specs.declared.calls.Call.TheVariants.{OfType, OfTypeAndValue, OfValue, OfNone, WrongCount}
use Rattle.const_eval.specs.declared.calls.TypeFunction.{TypeFunction}
use Rattle.const_eval.specs.declared.calls.TypeFunction.TheVariants.{Max, Min, Size}
use Rattle.const_eval.specs.declared.calls.ValueFunction.{ValueFunction}
use Rattle.const_eval.specs.declared.calls.ValueFunction.TheVariants.{Abs, Cap, Chr, Odd, Ord}
use Rattle.const_eval.specs.declared.operands.Argument.{Argument}

-- an argument, as the definitions see it
abbrev pub argument : Argument → constants.Argument
argument a = record { at = a.at; operand = a.operand }

-- how many arguments there are, and up to two of them
abbrev pub shape_of : List Argument → Shape
shape_of [] = Empty
shape_of (a ∷ []) = One a
shape_of (a ∷ b ∷ []) = Two a b
shape_of (a ∷ b ∷ d ∷ args) = More

-- a further argument
abbrev pub with_argument : Shape → Argument → Shape
with_argument Empty a = One a
with_argument (One b) a = Two b a
with_argument other a = More

-- an operand in error
abbrev pub is_in_error : Operand → Bool
is_in_error InError = true
is_in_error other = false

-- one of the arguments is in error
abbrev pub is_spoilt : List Argument → Bool
is_spoilt [] = false
is_spoilt (a ∷ args) = is_in_error a.operand || is_spoilt args

-- these are the arguments of that list
pub record IsSummary (args : Arguments) (list : List Argument) : Type 0 where
  pub shape : args.shape ≡ shape_of list
  pub spoilt : args.spoilt ≡ is_spoilt list

-- no constant, but in error where an argument is
abbrev pub instead_of : (spoilt : Bool) → Operand
instead_of spoilt = if spoilt then InError else NotConstant

-- a call with one argument
abbrev pub with_one : (Argument → Call) → Shape → Call
with_one call (One a) = call a
with_one call other = WrongCount

-- VAL, with its two
abbrev pub with_two : Shape → Call
with_two (Two t a) = OfTypeAndValue t a
with_two other = WrongCount

-- each standard procedure by what it takes
abbrev pub call_kind : Builtin → Shape → Call
call_kind builtins.Abs s = with_one (λ a. OfValue Abs a) s
call_kind builtins.Cap s = with_one (λ a. OfValue Cap a) s
call_kind builtins.Chr s = with_one (λ a. OfValue Chr a) s
call_kind builtins.Odd s = with_one (λ a. OfValue Odd a) s
call_kind builtins.Ord s = with_one (λ a. OfValue Ord a) s
call_kind builtins.Min s = with_one (λ a. OfType Min a) s
call_kind builtins.Max s = with_one (λ a. OfType Max a) s
call_kind builtins.Size s = with_one (λ a. OfType Size a) s
call_kind builtins.Val s = with_two s
call_kind other s = OfNone

-- a function of a value
abbrev pub of_value : Context → ValueFunction → (at : ℕ) → Operand → Gives Operand
of_value c Abs at o = abs_of c at o
of_value c Cap at o = cap_of c at o
of_value c Chr at o = chr_of c at o
of_value c Odd at o = odd_of c at o
of_value c Ord at o = ord_of c at o

-- a function of a type
abbrev pub of_type : Context → TypeFunction → (at : ℕ) → Operand → Gives Operand
of_type c Min at o = min_of c at o
of_type c Max at o = max_of c at o
of_type c Size at o = size_value c at o

-- what a call gives, by what it takes
abbrev pub called : Context → (at : ℕ) → (spoilt : Bool) → Call → Gives Operand
called c at spoilt (OfValue f a) = and_then (value_wanted c a.at a.operand) (of_value c f a.at)
called c at spoilt (OfType f a) = of_type c f a.at a.operand
called c at spoilt (OfTypeAndValue t a) = and_then (value_wanted c a.at a.operand) (val_of c t.at t.operand a.at)
called c at spoilt OfNone = gives (instead_of spoilt)
called c at spoilt WrongCount = refuse c at wrong_count InError

-- a call by its operand and its arguments
abbrev pub call_with : Context → (at : ℕ) → Operand → Arguments → Gives Operand
call_with c at (StandardProcedure n) args = called c at args.spoilt (call_kind (builtin_of n) args.shape)
call_with c at (ModuleName s) args = refuse c at not_a_variable InError
call_with c at InError args = gives InError
call_with c at other args = gives (instead_of args.spoilt)

-- Calls with the arguments of a list.
use Rattle.std.proofs.Common.{◌≡◌, ◌∙◌, ℕ, Bool, true, false, List, [], ◌∷◌, ◌++◌, map, refl, sym, ap}
use Rattle.std.specs.Prelude.{◌||◌}
use Rattle.m2_base.specs.Gives.{gives}
use Rattle.m2_base.specs.States.{Frame}
use Rattle.m2_base.specs.Statics.Builtins.{builtin_of}
use Rattle.m2_base.specs.Statics.Constants.{builtin_call, call_of, no_constant, spoilt_by}
use Rattle.m2_base.specs.Statics.Contexts.{Context}
use Rattle.m2_base.specs.declared.builtins.Builtin.{Builtin}
use Rattle.m2_base.specs.declared.builtins.Builtin.TheVariants as builtins
use Rattle.m2_base.specs.declared.operands.Operand.{Operand}
use Rattle.m2_base.specs.declared.operands.Operand.TheVariants.{InError, ModuleName, StandardProcedure}
use Rattle.const_eval.specs.Calls.{IsSummary, argument, call_kind, call_with, called, instead_of, is_in_error, is_spoilt, shape_of, with_argument, with_one, with_two}
use Rattle.const_eval.specs.Sites.{IsCall, IsShape}
use Rattle.const_eval.specs.declared.arguments.Arguments.{Arguments}
use Rattle.const_eval.specs.declared.arguments.Shape.{Shape}
use Rattle.const_eval.specs.declared.arguments.Shape.TheVariants.{Empty, More, One, Two}
use Rattle.const_eval.specs.declared.calls.Call.TheVariants.{OfType, OfValue}
use Rattle.const_eval.specs.declared.calls.TypeFunction.{TypeFunction}
use Rattle.const_eval.specs.declared.calls.TypeFunction.TheVariants.{Max, Min, Size}
use Rattle.const_eval.specs.declared.calls.ValueFunction.{ValueFunction}
use Rattle.const_eval.specs.declared.calls.ValueFunction.TheVariants.{Abs, Cap, Chr, Odd, Ord}
use Rattle.const_eval.specs.declared.operands.Argument.{Argument}

-- a further argument
pub shape_more : (list : List Argument) (a : Argument) → shape_of (list ++ a ∷ []) ≡ with_argument (shape_of list) a
shape_more [] a = refl
shape_more (b ∷ []) a = refl
shape_more (b ∷ d ∷ []) a = refl
shape_more (b ∷ d ∷ e ∷ list) a = refl

or_false : (p : Bool) → (p || false) ≡ p
or_false true = refl
or_false false = refl

or_assoc : (p q r : Bool) → (p || (q || r)) ≡ ((p || q) || r)
or_assoc true q r = refl
or_assoc false q r = refl

pub spoilt_more : (list : List Argument) (a : Argument) → is_spoilt (list ++ a ∷ []) ≡ (is_spoilt list || is_in_error a.operand)
spoilt_more [] a = or_false (is_in_error a.operand)
spoilt_more (b ∷ list) a = ap (λ t. is_in_error b.operand || t) (spoilt_more list a) ∙ or_assoc (is_in_error b.operand) (is_spoilt list) (is_in_error a.operand)

spoilt_is : (o rest : Operand) (p : Bool) → rest ≡ instead_of p → spoilt_by o rest ≡ instead_of (is_in_error o || p)
spoilt_is InError rest p e = refl
spoilt_is o rest p e = e

pub none_is : (list : List Argument) → no_constant (map argument list) ≡ instead_of (is_spoilt list)
none_is [] = refl
none_is (a ∷ list) = spoilt_is a.operand (no_constant (map argument list)) (is_spoilt list) (none_is list)

kind_is : (c : Context) (at : ℕ) (b : Builtin) (list : List Argument) → called c at (is_spoilt list) (call_kind b (shape_of list)) ≡ builtin_call c at b (map argument list)
kind_is c at builtins.Abs [] = refl
kind_is c at builtins.Abs (a ∷ []) = refl
kind_is c at builtins.Abs (a ∷ d ∷ []) = refl
kind_is c at builtins.Abs (a ∷ d ∷ e ∷ list) = refl
kind_is c at builtins.Cap [] = refl
kind_is c at builtins.Cap (a ∷ []) = refl
kind_is c at builtins.Cap (a ∷ d ∷ []) = refl
kind_is c at builtins.Cap (a ∷ d ∷ e ∷ list) = refl
kind_is c at builtins.Chr [] = refl
kind_is c at builtins.Chr (a ∷ []) = refl
kind_is c at builtins.Chr (a ∷ d ∷ []) = refl
kind_is c at builtins.Chr (a ∷ d ∷ e ∷ list) = refl
kind_is c at builtins.Odd [] = refl
kind_is c at builtins.Odd (a ∷ []) = refl
kind_is c at builtins.Odd (a ∷ d ∷ []) = refl
kind_is c at builtins.Odd (a ∷ d ∷ e ∷ list) = refl
kind_is c at builtins.Ord [] = refl
kind_is c at builtins.Ord (a ∷ []) = refl
kind_is c at builtins.Ord (a ∷ d ∷ []) = refl
kind_is c at builtins.Ord (a ∷ d ∷ e ∷ list) = refl
kind_is c at builtins.Min [] = refl
kind_is c at builtins.Min (a ∷ []) = refl
kind_is c at builtins.Min (a ∷ d ∷ []) = refl
kind_is c at builtins.Min (a ∷ d ∷ e ∷ list) = refl
kind_is c at builtins.Max [] = refl
kind_is c at builtins.Max (a ∷ []) = refl
kind_is c at builtins.Max (a ∷ d ∷ []) = refl
kind_is c at builtins.Max (a ∷ d ∷ e ∷ list) = refl
kind_is c at builtins.Size [] = refl
kind_is c at builtins.Size (a ∷ []) = refl
kind_is c at builtins.Size (a ∷ d ∷ []) = refl
kind_is c at builtins.Size (a ∷ d ∷ e ∷ list) = refl
kind_is c at builtins.Val [] = refl
kind_is c at builtins.Val (a ∷ []) = refl
kind_is c at builtins.Val (a ∷ d ∷ []) = refl
kind_is c at builtins.Val (a ∷ d ∷ e ∷ list) = refl
kind_is c at builtins.Dec list = ap (λ o. gives o) (sym (none_is list))
kind_is c at builtins.Dispose list = ap (λ o. gives o) (sym (none_is list))
kind_is c at builtins.Excl list = ap (λ o. gives o) (sym (none_is list))
kind_is c at builtins.Halt list = ap (λ o. gives o) (sym (none_is list))
kind_is c at builtins.High list = ap (λ o. gives o) (sym (none_is list))
kind_is c at builtins.Inc list = ap (λ o. gives o) (sym (none_is list))
kind_is c at builtins.Incl list = ap (λ o. gives o) (sym (none_is list))
kind_is c at builtins.New list = ap (λ o. gives o) (sym (none_is list))

by_list : (c : Context) (at : ℕ) (to : Operand) (args : Arguments) (list : List Argument) → args.spoilt ≡ is_spoilt list → args.shape ≡ shape_of list → call_with c at to args ≡ call_of c at to (map argument list)
by_list c at (StandardProcedure n) args list spoilt shape =
    ap (λ b. called c at b (call_kind (builtin_of n) args.shape)) spoilt
    ∙ ap (λ s. called c at (is_spoilt list) (call_kind (builtin_of n) s)) shape
    ∙ kind_is c at (builtin_of n) list
by_list c at (ModuleName s) args list spoilt shape = refl
by_list c at InError args list spoilt shape = refl
by_list c at to args list spoilt shape = ap (λ b. gives (instead_of b)) spoilt ∙ ap (λ o. gives o) (sym (none_is list))

-- a call with the arguments of a list is the definition's
pub call_is : (c : Context) (at : ℕ) (to : Operand) (args : Arguments) (list : List Argument) → IsSummary args list → call_with c at to args ≡ call_of c at to (map argument list)
call_is c at to args list s = by_list c at to args list s.spoilt s.shape

-- the arguments of a call may stand where those of its shape may
one_value_there : (f : Frame) (function : ValueFunction) (s : Shape) → IsShape f s → IsCall f (with_one (λ a. OfValue function a) s)
one_value_there f function Empty h = tt
one_value_there f function (One a) h = h
one_value_there f function (Two a b) h = tt
one_value_there f function More h = tt

one_type_there : (f : Frame) (function : TypeFunction) (s : Shape) → IsShape f s → IsCall f (with_one (λ a. OfType function a) s)
one_type_there f function Empty h = tt
one_type_there f function (One a) h = h
one_type_there f function (Two a b) h = tt
one_type_there f function More h = tt

two_there : (f : Frame) (s : Shape) → IsShape f s → IsCall f (with_two s)
two_there f Empty h = tt
two_there f (One a) h = tt
two_there f (Two a b) h = h
two_there f More h = tt

pub call_there : (f : Frame) (b : Builtin) (s : Shape) → IsShape f s → IsCall f (call_kind b s)
call_there f builtins.Abs s h = one_value_there f Abs s h
call_there f builtins.Cap s h = one_value_there f Cap s h
call_there f builtins.Chr s h = one_value_there f Chr s h
call_there f builtins.Odd s h = one_value_there f Odd s h
call_there f builtins.Ord s h = one_value_there f Ord s h
call_there f builtins.Min s h = one_type_there f Min s h
call_there f builtins.Max s h = one_type_there f Max s h
call_there f builtins.Size s h = one_type_there f Size s h
call_there f builtins.Val s h = two_there f s h
call_there f b s h = tt

-- a call of what is no standard procedure, no module and not in error is no constant
pub other_called : (c : Context) (at : ℕ) (to : Operand) (args : Arguments) → ((n : ℕ) → to ≡ StandardProcedure n → ⊥) → ((s : ℕ) → to ≡ ModuleName s → ⊥) → (to ≡ InError → ⊥)
    → gives (instead_of args.spoilt) ≡ call_with c at to args
other_called c at (StandardProcedure n) args procedure module_name in_error = absurd (procedure n refl)
other_called c at (ModuleName s) args procedure module_name in_error = absurd (module_name s refl)
other_called c at InError args procedure module_name in_error = absurd (in_error refl)
other_called c at to args procedure module_name in_error = refl

-- What a call calls, as the definitions see it.
use Rattle.std.specs.Prelude.{ℕ, ◌==◌, Bool, List, [], ◌∷◌, Option, Some, None, is_some, length, map}
use Rattle.std.specs.Option.{IfSome}
use Rattle.m2_base.specs.Gives.{Gives}
use Rattle.m2_base.specs.Lists.{Each}
use Rattle.m2_base.specs.States.{Frame}
use Rattle.m2_base.specs.Statics.Contexts.{Context, Scene}
use Rattle.m2_base.specs.Statics.TypeParts as parts
use Rattle.m2_base.specs.declared.rows.Place.{Place}
use Rattle.code_form.specs.declared.instr.Instr.TheVariants.{CallVar, Load}
use Rattle.type_rules.specs.Scenes.{IsThere}
use Rattle.expr_sem.specs.ArgumentCodes.{parameter_view}
use Rattle.block_code.specs.Calls as calls
use Rattle.expr_sem.specs.Fragments.{IsIn, part}
use Rattle.block_code.specs.Parts.{Part, none, plain, ◌⨟◌}
use Rattle.block_code.specs.ProcedureNames as names
use Rattle.expr_sem.specs.declared.calls.Callable.{Callable}
use Rattle.expr_sem.specs.declared.calls.Callable.TheVariants.{Lacking, Nothing, Procedure, Standard}
use Rattle.expr_sem.specs.declared.calls.Callee.{Callee}
use Rattle.expr_sem.specs.declared.fragments.Node.{Node}

-- the types of its parameters and of its result can be asked for, and the code before the arguments is among these
pub record IsCallee (f : Frame) (ns : List Node) (p : Callee) : Type 0 where
  pub params : Each (λ q. IsThere f q.of) p.params.items
  pub before : IsIn ns p.before
  pub result : IfSome p.result (IsThere f)

abbrev pub IsCallable : Frame → List Node → Callable → Type 0
IsCallable f ns (Procedure p) = IsCallee f ns p
IsCallable f ns (Lacking ps) = Each (λ q. IsThere f q.of) ps.items
IsCallable f ns other = Unit {0}

abbrev pub called_in : List Node → Callable → calls.Called
called_in ns (Standard f) = calls.standard_call f
called_in ns (Procedure p) =
    calls.procedure_call (map parameter_view p.params.items) (part ns p.before) p.instr p.result p.more
called_in ns (Lacking ps) = calls.lacking_call (map parameter_view ps.items)
called_in ns Nothing = calls.no_call

-- a call of something of these parameters and this result with so many arguments
abbrev pub allowed_by : Context → (at : ℕ) → (is_wanted : Bool) → (count : ℕ) → List parts.Parameter → Option Place
    → calls.Called → Gives calls.Called
allowed_by c at is_wanted n ps result what = calls.allowed c at is_wanted (is_some result) (n == length ps) what

-- a call of a procedure of these parameters and this result
abbrev pub target_called : Scene → List parts.Parameter → Option Place → Option names.Target → calls.Called
target_called scene ps result None = calls.lacking_call ps
target_called scene ps result (Some p) = calls.procedure_call ps none (calls.call_instr scene p) result 0

-- a call of a procedure value, by the cells of all arguments and the code of the value
abbrev pub value_called : List parts.Parameter → Option Place → (cells : ℕ) → Part → calls.Called
value_called ps result cells before =
    calls.procedure_call ps before (CallVar cells (calls.result_cells result)) result 1

-- a call of a procedure variable whose address this code gives
abbrev pub variable_called : Scene → List parts.Parameter → Option Place → Part → calls.Called
variable_called scene ps result code = value_called ps result (calls.cells_of_all scene ps) (code ⨟ plain (Load ∷ []))

-- such a call with so many arguments
abbrev pub variable_allowed : Context → (at : ℕ) → (is_wanted : Bool) → (count : ℕ) → Part → List parts.Parameter
    → Option Place → Gives calls.Called
variable_allowed c at is_wanted n code ps result =
    allowed_by c at is_wanted n ps result (variable_called c.scene ps result code)

-- What a call calls, and its code: of a procedure variable its value first, then the arguments in order, then the
-- call. A call that stands where a value is wanted is of what gives a value, a call that is a statement of what gives
-- none; and it has as many arguments as there are parameters. Where something was refused before, the arguments are
-- looked at for their own diagnostics alone. Of a heading that the module lacks, which is refused elsewhere, the
-- arguments stand beside the parameters all the same, and the call is in error.
use Rattle.std.specs.Prelude.{ℕ, ◌+◌, ◌==◌, not, Bool, true, false, List, [], ◌∷◌, length, if◌then◌else◌, Option, Some}
use Rattle.std.specs.Prelude.{None, is_some}
use Rattle.m2_base.specs.Gives.{Gives, gives}
use Rattle.m2_base.specs.declared.rows.Place.{Place}
use Rattle.m2_base.specs.Statics.Assignable.{is_open_array, is_procedure_type}
use Rattle.m2_base.specs.Statics.Builtins.{builtin_of}
use Rattle.m2_base.specs.Statics.Contexts.{Context, Scene, Block, level_of, refuse}
use Rattle.m2_base.specs.Statics.Diagnostics.{not_a_procedure, not_a_variable, wrong_count}
use Rattle.m2_base.specs.Statics.TypeParts.{Parameter, parameters, result_of_type}
use Rattle.m2_base.specs.Statics.Types.{is_broken}
use Rattle.m2_base.specs.declared.builtins.Builtin.{Builtin}
use Rattle.m2_base.specs.declared.operands.Operand.TheVariants.{Computed, InError, ModuleName, Procedure}
use Rattle.m2_base.specs.declared.operands.Operand.TheVariants.{StandardProcedure, Variable}
use Rattle.m2_base.specs.declared.operands.Operand.{Operand}
use Rattle.code_form.specs.declared.instr.Instr.{Instr}
use Rattle.code_form.specs.declared.instr.Instr.TheVariants.{Load, Call, CallX, CallVar}
use Rattle.block_code.specs.Coded.{Coded, coded, in_error}
use Rattle.block_code.specs.Parts.{Part, plain, none, call, ◌⨟◌}
use Rattle.block_code.specs.ProcedureNames.{Target, import_of_target, is_foreign, target_of_procedure}
use Rattle.block_code.specs.StandardProcedures.{is_function, no_value, takes_count}
use Rattle.block_code.specs.Variables.{links_out}

-- ---- cells

-- the cells of an argument
abbrev pub cells_of : Scene → Parameter → ℕ
cells_of scene p = if is_open_array scene p.typ then 2 else 1

-- the cells of all arguments
abbrev pub cells_of_all : Scene → List Parameter → ℕ
cells_of_all scene [] = 0
cells_of_all scene (p ∷ ps) = cells_of scene p + cells_of_all scene ps

-- the cells of a result
abbrev pub result_cells : Option Place → ℕ
result_cells None = 0
result_cells (Some t) = 1

-- ---- what is called

-- A standard procedure with its arguments; or a procedure or a procedure value, with its parameters, the code before
-- the arguments, the instruction, the result, and how many operands the call takes beside the arguments; or a
-- procedure that the module lacks, with its parameters; or nothing, where a diagnostic or a part in error came before.
pub data Called : Type 0 where
  standard_call : Builtin → Called
  procedure_call : (params : List Parameter) → (before : Part) → (calls : Instr) → (result : Option Place) → (more : ℕ)
      → Called
  lacking_call : (params : List Parameter) → Called
  no_call : Called

-- how many static links lead from a block to the frame that encloses a procedure of this scope;
-- none for one of a module
abbrev pub links_to : Block → (scope : ℕ) → ℕ
links_to b s = if level_of b s == 0 then 0 else links_out b s

-- the instruction that calls a procedure
abbrev pub call_instr : Scene → Target → Instr
call_instr scene p =
    if is_foreign scene.block p then CallX (import_of_target scene.block p) p.number
    else Call p.number (links_to scene.block p.typ.scope)

-- two truth values are the same
abbrev pub is_same_truth : Bool → Bool → Bool
is_same_truth true b = b
is_same_truth false b = not b

-- a call is refused at the designator's first token, unless it gives a value where one is wanted, and has as many
-- arguments as are taken
abbrev pub allowed : Context → (at : ℕ) → (is_wanted : Bool) → (gives_value : Bool) → (is_count : Bool) → Called
    → Gives Called
allowed c at is_wanted gives_value is_count what =
    if not (is_same_truth is_wanted gives_value) then refuse c at not_a_procedure no_call else
    if not is_count then refuse c at wrong_count no_call else
    gives what

-- a call of something of this procedure type with so many arguments
abbrev pub allowed_by_type : Context → (at : ℕ) → (is_wanted : Bool) → (count : ℕ) → Place → Called → Gives Called
allowed_by_type c at is_wanted n t what =
    allowed c at is_wanted (is_some (result_of_type c.scene t)) (n == length (parameters c.scene t)) what

-- a call of a procedure of this type, which the module may lack
abbrev pub of_target : Scene → Place → Option Target → Called
of_target scene t None = lacking_call (parameters scene t)
of_target scene t (Some p) = procedure_call (parameters scene t) none (call_instr scene p) (result_of_type scene t) 0

-- a call of a procedure variable whose address this code gives
abbrev pub of_variable : Scene → Place → Part → Called
of_variable scene t code =
    procedure_call (parameters scene t) (code ⨟ plain (Load ∷ []))
    (CallVar (cells_of_all scene (parameters scene t)) (result_cells (result_of_type scene t)))
    (result_of_type scene t) 1

-- by its operand, what something with this code is as what is called
abbrev pub called_by : Context → (is_wanted : Bool) → (at count : ℕ) → Part → Operand → Gives Called
called_by c is_wanted at n code (StandardProcedure k) =
    allowed c at is_wanted (is_function (builtin_of k)) (takes_count (builtin_of k) n) (standard_call (builtin_of k))
called_by c is_wanted at n code (Procedure name t k s) =
    allowed_by_type c at is_wanted n t (of_target c.scene t (target_of_procedure c.scene name t k))
called_by c is_wanted at n code (Variable t) =
    if is_procedure_type c.scene t then allowed_by_type c at is_wanted n t (of_variable c.scene t code)
    else refuse c at not_a_procedure no_call
called_by c is_wanted at n code (ModuleName s) = refuse c at not_a_variable no_call
called_by c is_wanted at n code InError = gives no_call
called_by c is_wanted at n code other = refuse c at not_a_procedure no_call

-- What a call with so many arguments calls. `is_wanted` tells whether it stands where a value is wanted; `at` is the
-- designator's first token.
abbrev pub called : Context → (is_wanted : Bool) → (at count : ℕ) → Coded → Gives Called
called c is_wanted at n x = called_by c is_wanted at n x.code x.operand

-- ---- the call

-- the code of a call: what comes before the arguments, the arguments, and the instruction
abbrev pub call_code : Scene → List Parameter → (before : Part) → Instr → Option Place → (more : ℕ) → (args : Part)
    → Part
call_code scene ps before i result more args =
    before ⨟ args ⨟ call i (cells_of_all scene ps + more) (result_cells result)

-- The call, once its arguments are there. Without one of them it is in error, and so it is where the result's type is.
abbrev pub call_coded : Scene → List Parameter → (before : Part) → Instr → Option Place → (more : ℕ) → Option Part
    → Coded
call_coded scene ps before i result more None = in_error
call_coded scene ps before i None more (Some args) = coded no_value (call_code scene ps before i None more args)
call_coded scene ps before i (Some t) more (Some args) =
    if is_broken scene t then in_error else coded (Computed t) (call_code scene ps before i (Some t) more args)

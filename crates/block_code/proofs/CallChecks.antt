-- The code of some calls, computed, in a procedure q inside a procedure p of an implementation module
--
--     DEFINITION MODULE A; VAR v: INTEGER; PROCEDURE h; END A.
--     DEFINITION MODULE B; PROCEDURE g(): INTEGER; VAR w: INTEGER; END B.
--     TYPE S = ARRAY [0..2] OF CHAR;
--     PROCEDURE h; VAR f: PROC; PROCEDURE l(s: S): INTEGER; PROCEDURE c(x: CHAR);
--     PROCEDURE p(VAR x: INTEGER; t: ARRAY OF CHAR); PROCEDURE q;
use Rattle.std.specs.Prelude.{◌≡◌, refl, ℕ, pos, List, [], ◌∷◌, map, codes, false, Some, None}
use Rattle.code_form.specs.declared.instr.Instr.{Instr}
use Rattle.code_form.specs.declared.instr.Instr.TheVariants.{Push, Local, Global, Str, Load, Move, Call, CallX, CallVar, Proc as ProcedureValue}
use Rattle.block_code.specs.Coded.{value_code}
use Rattle.block_code.specs.Expressions.{call_alone, value}
use Rattle.block_code.specs.Parts.{Made, Spot}
use Rattle.m2_base.specs.Rows.{at_place, row_of}
use Rattle.m2_base.specs.Standard.{cardinal, character, integer, standard_rows}
use Rattle.m2_base.specs.Statics.Contexts.{Context, diag, no_layout}
use Rattle.m2_base.specs.Statics.Diagnostics.{not_a_procedure, not_a_procedure_value, wrong_count}
use Rattle.m2_base.specs.Trees.{Designator, Expr, ExprForm, call_form, designator, expr, exprs, field_selector, name_form, no_selectors, selectors, string_form}
use Rattle.m2_base.specs.declared.rows.Mode.TheVariants.{ByAddress, Open, Plain}
use Rattle.m2_base.specs.declared.rows.Row.{Row}
use Rattle.m2_base.specs.declared.rows.RowMeaning.TheVariants.{Var, Proc, Module, Param, Subrange, Array, OpenArray, ProcType}
use Rattle.m2_base.specs.declared.trees.Ident.{Ident}

-- ---- the unit: its names have the numbers from 27 on, and two strings the numbers 1 and 2

-- scope 1: A
abbrev own_rows : List Row
own_rows = row_of 0 0 (ProcType None 0 0) ∷ row_of 30 0 (Proc (at_place 1 0) 0 0) ∷ row_of 31 0 (Var integer Plain 0) ∷ []

-- scope 2: B
abbrev import_rows : List Row
import_rows =
    row_of 0 0 (ProcType (Some integer) 0 0) ∷ row_of 32 0 (Proc (at_place 2 0) 3 0) ∷ row_of 33 0 (Var integer Plain 5) ∷ []

-- scope 3: the module
abbrev module_rows : List Row
module_rows =
    row_of 0 0 (ProcType None 0 0) ∷ row_of 30 0 (Proc (at_place 3 0) 1 4) ∷ row_of 34 0 (Module 2) ∷ row_of 35 0 (Module 1)
    ∷ row_of 36 0 (Var (at_place 3 0) Plain 7) ∷ row_of 0 0 (Subrange cardinal (pos 0) (pos 2))
    ∷ row_of 0 0 (Array (at_place 3 5) character 3) ∷ row_of 0 0 (Param (at_place 3 6) false 8)
    ∷ row_of 0 0 (ProcType (Some integer) 1 7) ∷ row_of 37 0 (Proc (at_place 3 8) 4 7) ∷ row_of 0 0 (Param character false 11)
    ∷ row_of 0 0 (ProcType None 1 10) ∷ row_of 40 0 (Proc (at_place 3 11) 5 8) ∷ []

-- scope 5: p, and q is scope 6
abbrev outer_rows : List Row
outer_rows =
    row_of 38 0 (Var integer ByAddress 0) ∷ row_of 0 0 (ProcType None 0 1) ∷ row_of 39 0 (Proc (at_place 5 1) 3 6)
    ∷ row_of 0 0 (OpenArray character) ∷ row_of 41 0 (Var (at_place 5 3) Open 1) ∷ []

abbrev context : Context
context = record {
  source = record { spellings = [] ∷ codes "ab" ∷ codes "c" ∷ []; definitions = record { name = 35; text = 1 } ∷ record { name = 34; text = 2 } ∷ [] };
  scene = record {
    block = record { scope = 6; text = 0; level = 2; home = 3; own = Some 1; chain = 6 ∷ 5 ∷ 3 ∷ 1 ∷ [] };
    tables = standard_rows ∷ own_rows ∷ import_rows ∷ module_rows ∷ [] ∷ outer_rows ∷ [] ∷ [];
  };
  layout = no_layout;
  item = None;
}

-- ---- expressions

abbrev e : ExprForm → Expr
e = expr 0

abbrev ident_of : ℕ → Ident
ident_of n = record { name = n; at = 0 }

abbrev named : ℕ → Designator
named n = designator (ident_of n) no_selectors

-- a name behind a module and a point
abbrev within : (m n : ℕ) → Designator
within m n = designator (ident_of m) (selectors (field_selector (ident_of n) 0 ∷ []))

abbrev string : ℕ → Expr
string n = e (string_form n)

abbrev spot : Spot
spot = record { cell = 9; byte = 0; withs = [] }

abbrev instrs : Made → List Instr
instrs m = map (λ s. s.instr) m.code

abbrev code_of : Expr → List Instr
code_of x = instrs (value_code context (value context [] x).value spot)

abbrev called : Designator → List Expr → List Instr
called d args = instrs ((call_alone context [] d (exprs args)).value.code spot)

-- x, which is a VAR parameter of the procedure round this one
variable_by_address : code_of (e (name_form (named 38))) ≡ Local 1 0 ∷ Load ∷ Load ∷ []
variable_by_address = refl

-- HIGH(t)
high_of_open_array : code_of (e (call_form (named 17) (exprs (e (name_form (named 41)) ∷ [])))) ≡ Local 1 2 ∷ Load ∷ []
high_of_open_array = refl

-- A.v and B.w
own_variable : code_of (e (name_form (within 35 31))) ≡ Global 0 0 ∷ Load ∷ []
own_variable = refl

imported_variable : code_of (e (name_form (within 34 33))) ≡ Global 1 5 ∷ Load ∷ []
imported_variable = refl

-- h, A.h, and both as values
module_procedure : called (named 30) [] ≡ Call 1 0 ∷ []
module_procedure = refl

own_heading : called (within 35 30) [] ≡ Call 1 0 ∷ []
own_heading = refl

own_heading_value : code_of (e (name_form (within 35 30))) ≡ ProcedureValue 0 1 ∷ []
own_heading_value = refl

-- q, which its enclosing procedure declares
inner_procedure : called (named 39) [] ≡ Call 3 1 ∷ []
inner_procedure = refl

inner_procedure_value : (value context [] (e (name_form (named 39)))).diags ≡ diag context 0 not_a_procedure_value ∷ []
inner_procedure_value = refl

-- B.g() and B.g
imported_function : code_of (e (call_form (within 34 32) (exprs []))) ≡ CallX 1 3 ∷ []
imported_function = refl

imported_value : code_of (e (name_form (within 34 32))) ≡ ProcedureValue 1 3 ∷ []
imported_value = refl

function_as_statement : (call_alone context [] (within 34 32) (exprs [])).diags ≡ diag context 0 not_a_procedure ∷ []
function_as_statement = refl

-- f
procedure_variable : called (named 36) [] ≡ Global 0 7 ∷ Load ∷ CallVar 0 0 ∷ []
procedure_variable = refl

-- l("ab"): the array's three cells are temporary ones
string_by_value : code_of (e (call_form (named 37) (exprs (string 1 ∷ []))))
    ≡ Local 0 9 ∷ Str 0 ∷ Move 3 ∷ Local 0 9 ∷ Call 4 0 ∷ []
string_by_value = refl

-- c("c"), and c() with no argument
string_as_char : called (named 40) (string 2 ∷ []) ≡ Push (pos 99) ∷ Call 5 0 ∷ []
string_as_char = refl

no_argument : (call_alone context [] (named 40) (exprs [])).diags ≡ diag context 0 wrong_count ∷ []
no_argument = refl

-- The code of some expressions and calls, computed, in a module
--
--     TYPE R = RECORD x, y: INTEGER END;
--     VAR i: INTEGER; s: [-5..5]; b: BOOLEAN; a: ARRAY [0..4] OF INTEGER; r: R; n: CARDINAL; q: BITSET;
--     PROCEDURE w(t: ARRAY OF CHAR);
use Rattle.std.specs.Prelude.{◌≡◌, refl, ℕ, pos, negsuc, List, [], ◌∷◌, map, codes, false, None}
use Rattle.code_form.specs.declared.instr.Instr.{Instr}
use Rattle.code_form.specs.declared.instr.Instr.TheVariants.{Push, Local, Global, Str, Load, Store, Dup, Offset, Index, Check, Add, Abs, Union, Bit, Span, AndJump, Call}
use Rattle.block_code.specs.Coded.{value_code}
use Rattle.block_code.specs.Expressions.{call_alone, value}
use Rattle.block_code.specs.Parts.{Made, Spot}
use Rattle.m2_base.specs.Rows.{at_place, row_of}
use Rattle.m2_base.specs.Standard.{bitset, boolean, cardinal, character, integer, standard_rows}
use Rattle.m2_base.specs.Statics.Contexts.{Context, no_layout}
use Rattle.m2_base.specs.Trees.{Designator, Expr, ExprForm, call_form, designator, expr, exprs, index_selector, labels, many_form, name_form, next, nexts, no_selectors, number_form, one_form, one_label, range_label, selectors, set_form, string_form}
use Rattle.m2_base.specs.declared.rows.Mode.TheVariants.{Plain}
use Rattle.m2_base.specs.declared.rows.Row.{Row}
use Rattle.m2_base.specs.declared.rows.RowMeaning.TheVariants.{Var, Proc, Field, Param, Subrange, Array, OpenArray, Record, ProcType}
use Rattle.m2_base.specs.declared.trees.operators.Operator.TheVariants.{And, Plus}

-- ---- the module: its names have the numbers from 27 on, and three strings the numbers 1 to 3

abbrev rows : List Row
rows =
    row_of 0 0 (Subrange integer (negsuc 4) (pos 5)) ∷ row_of 0 0 (Array (at_place 1 2) integer 5)
    ∷ row_of 0 0 (Subrange cardinal (pos 0) (pos 4)) ∷ row_of 0 0 (Field integer 0 5 27) ∷ row_of 0 0 (Field integer 1 5 28)
    ∷ row_of 0 0 (Record 3 2) ∷ row_of 30 0 (Var integer Plain 0) ∷ row_of 31 0 (Var (at_place 1 0) Plain 1)
    ∷ row_of 32 0 (Var boolean Plain 2) ∷ row_of 33 0 (Var (at_place 1 1) Plain 3) ∷ row_of 34 0 (Var (at_place 1 5) Plain 8)
    ∷ row_of 35 0 (Var cardinal Plain 10) ∷ row_of 36 0 (Var bitset Plain 11) ∷ row_of 0 0 (OpenArray character)
    ∷ row_of 0 0 (Param (at_place 1 13) false 15) ∷ row_of 0 0 (ProcType None 1 14) ∷ row_of 37 0 (Proc (at_place 1 15) 1 2) ∷ []

abbrev context : Context
context = record {
  source = record { spellings = [] ∷ codes "ab" ∷ [] ∷ codes "c" ∷ []; definitions = [] };
  scene = record {
    block = record { scope = 1; text = 0; level = 0; home = 1; own = None; chain = 1 ∷ [] };
    tables = standard_rows ∷ rows ∷ [];
  };
  layout = no_layout;
  item = None;
}

-- ---- expressions

abbrev e : ExprForm → Expr
e = expr 0

abbrev named : ℕ → Designator
named n = designator (record { name = n; at = 0 }) no_selectors

abbrev name : ℕ → Expr
name n = e (name_form (named n))

abbrev number : ℕ → Expr
number n = e (number_form n)

abbrev function : (name : ℕ) → List Expr → Expr
function f args = e (call_form (named f) (exprs args))

-- behind the cells 0 to 6, of which the last has the address of the record of a WITH
abbrev spot : Spot
spot = record { cell = 7; byte = 0; withs = 6 ∷ [] }

abbrev instrs : Made → List Instr
instrs m = map (λ s. s.instr) m.code

-- the code of a value in a WITH of the record type
abbrev code_of : Expr → List Instr
code_of x = instrs (value_code context (value context (at_place 1 5 ∷ []) x).value spot)

abbrev called : (name : ℕ) → List Expr → Made
called p args = (call_alone context [] (named p) (exprs args)).value.code spot

-- 1 + 2 + i: each prefix is an operand by itself, and what is constant is folded
prefix_is_folded : code_of (e (many_form (number 1) (nexts (next Plus 0 (number 2) ∷ next Plus 0 (name 30) ∷ []))))
    ≡ Push (pos 3) ∷ Global 0 0 ∷ Load ∷ Add 0 ∷ []
prefix_is_folded = refl

-- i + 1 + 2
rest_is_not : code_of (e (many_form (name 30) (nexts (next Plus 0 (number 1) ∷ next Plus 0 (number 2) ∷ []))))
    ≡ Global 0 0 ∷ Load ∷ Push (pos 1) ∷ Add 0 ∷ Push (pos 2) ∷ Add 0 ∷ []
rest_is_not = refl

-- FALSE AND b
right_side_is_skipped : code_of (e (many_form (name 8) (nexts (next And 0 (name 32) ∷ []))))
    ≡ Push (pos 0) ∷ AndJump (pos 10) ∷ Global 0 2 ∷ Load ∷ []
right_side_is_skipped = refl

-- +i
plus_is_nothing : code_of (e (one_form Plus 0 (name 30))) ≡ Global 0 0 ∷ Load ∷ []
plus_is_nothing = refl

-- {1, n, 2..3}
set_begins_empty : code_of (e (set_form (labels (one_label (number 1) ∷ one_label (name 35) ∷ range_label (number 2) (number 3) ∷ []))))
    ≡ Push (pos 0) ∷ Push (pos 1) ∷ Bit ∷ Union ∷ Global 0 10 ∷ Load ∷ Bit ∷ Union ∷ Push (pos 2) ∷ Push (pos 3) ∷ Span ∷ Union ∷ []
set_begins_empty = refl

-- {1..3}
constant_set : code_of (e (set_form (labels (range_label (number 1) (number 3) ∷ [])))) ≡ Push (pos 14) ∷ []
constant_set = refl

-- SIZE(a), HIGH(a)
size_of_variable : code_of (function 25 (name 33 ∷ [])) ≡ Push (pos 5) ∷ []
size_of_variable = refl

high_of_array : code_of (function 17 (name 33 ∷ [])) ≡ Push (pos 4) ∷ []
high_of_array = refl

-- ABS(s)
abs_of_subrange : code_of (function 10 (name 31 ∷ [])) ≡ Global 0 1 ∷ Load ∷ Abs ∷ []
abs_of_subrange = refl

-- ORD(s), CHR(i)
ord_is_fitted : code_of (function 24 (name 31 ∷ [])) ≡ Global 0 1 ∷ Load ∷ Check (pos 0) (pos 4294967295) ∷ []
ord_is_fitted = refl

chr_is_fitted : code_of (function 12 (name 30 ∷ [])) ≡ Global 0 0 ∷ Load ∷ Check (pos 0) (pos 255) ∷ []
chr_is_fitted = refl

-- x and y, where a WITH of the record is open: an offset of 0 is left out
fields_in_with : code_of (name 27) ≡ Local 0 6 ∷ Load ∷ Load ∷ []
fields_in_with = refl

second_field_in_with : code_of (name 28) ≡ Local 0 6 ∷ Load ∷ Offset 1 ∷ Load ∷ []
second_field_in_with = refl

-- a[s]
element : code_of (e (name_form (designator (record { name = 33; at = 0 }) (selectors (index_selector (exprs (name 31 ∷ [])) 0 ∷ [])))))
    ≡ Global 0 3 ∷ Global 0 1 ∷ Load ∷ Index (pos 0) 5 1 ∷ Load ∷ []
element = refl

-- INC(s), INC(n, 2), INCL(q, n)
inc_is_fitted : instrs (called 18 (name 31 ∷ []))
    ≡ Global 0 1 ∷ Dup ∷ Load ∷ Push (pos 1) ∷ Add 0 ∷ Check (negsuc 4) (pos 5) ∷ Store ∷ []
inc_is_fitted = refl

inc_by_two : instrs (called 18 (name 35 ∷ number 2 ∷ [])) ≡ Global 0 10 ∷ Dup ∷ Load ∷ Push (pos 2) ∷ Add 1 ∷ Store ∷ []
inc_by_two = refl

element_is_fitted : instrs (called 19 (name 36 ∷ name 35 ∷ []))
    ≡ Global 0 11 ∷ Dup ∷ Load ∷ Global 0 10 ∷ Load ∷ Check (pos 0) (pos 31) ∷ Bit ∷ Union ∷ Store ∷ []
element_is_fitted = refl

-- w("ab"), w("")
string_is_passed : instrs (called 37 (e (string_form 1) ∷ [])) ≡ Str 0 ∷ Push (pos 1) ∷ Call 1 0 ∷ []
string_is_passed = refl

its_characters : (called 37 (e (string_form 1) ∷ [])).bytes ≡ 97 ∷ 98 ∷ 0 ∷ []
its_characters = refl

empty_string : (called 37 (e (string_form 2) ∷ [])).bytes ≡ 0 ∷ 0 ∷ []
empty_string = refl

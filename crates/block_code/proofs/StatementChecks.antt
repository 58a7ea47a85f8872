-- The code of some bodies, computed. Each is that of a module which was compiled apart, and its instructions, its cells and its
-- greatest height are those that came out there.
use Rattle.std.specs.Prelude.{◌≡◌, refl, ℕ, pos, negsuc, List, [], ◌∷◌, map, codes, false, None}
use Rattle.code_form.specs.Heights.{greatest}
use Rattle.code_form.specs.declared.instr.Instr.{Instr}
use Rattle.code_form.specs.declared.instr.Instr.TheVariants.{Push, Local, Global, Load, Store, Dup, Check, Add, Div, Eq, Gt, Ge, Le, Diff, Bit, Jump, JumpFalse, AndJump, OrJump, More, Return, Trap, Halt, Cap}
use Rattle.m2_base.specs.Rows.{at_place, row_of}
use Rattle.m2_base.specs.Standard.{bitset, boolean, cardinal, character, integer, standard_rows}
use Rattle.m2_base.specs.Statics.Blocks.{BlockTree}
use Rattle.m2_base.specs.Statics.Contexts.{Context, no_layout}
use Rattle.m2_base.specs.Statics.Effects.{no_effects}
use Rattle.m2_base.specs.Trees.{Designator, Expr, ExprForm, Statement, Statements, StmtForm, assign_form, call_form, call_statement, case_arm, case_else, case_form, char_form, designator, empty_form, exit_form, expr, exprs, for_form, if_arm, if_form, labels, loop_form, many_form, more_case_arms, more_if_arms, name_form, next, nexts, no_case_arms, no_case_else, no_if_arms, no_selectors, number_form, one_form, one_label, range_label, repeat_form, return_form, statement, statements, string_form, while_form, with_form}
use Rattle.m2_base.specs.declared.rows.Mode.TheVariants.{Plain}
use Rattle.m2_base.specs.declared.rows.Row.{Row}
use Rattle.m2_base.specs.declared.rows.RowMeaning.TheVariants.{Field, Record, Subrange, Var}
use Rattle.m2_base.specs.declared.trees.declarations.StreamKind.TheVariants.{Main}
use Rattle.m2_base.specs.declared.trees.operators.Operator.TheVariants.{And, Div as Quotient, Greater, Minus, Not, Or}
use Rattle.block_code.specs.BlockCode.{body_of, run_of}
use Rattle.block_code.specs.Flows.{Run}

-- ---- the module: its variables have the names from 28 on, and the cells that they had there

-- x: CHAR; r: RECORD x: INTEGER END; v7: ["I".."P"]; v10: BITSET; b: BOOLEAN; n: CARDINAL
abbrev rows : List Row
rows =
    row_of 0 0 (Field integer 0 1 28) ∷ row_of 0 0 (Record 0 1) ∷ row_of 0 0 (Subrange character (pos 73) (pos 80))
    ∷ row_of 28 0 (Var character Plain 0) ∷ row_of 29 0 (Var (at_place 1 1) Plain 1) ∷ row_of 30 0 (Var (at_place 1 2) Plain 2)
    ∷ row_of 31 0 (Var bitset Plain 5) ∷ row_of 32 0 (Var boolean Plain 0) ∷ row_of 33 0 (Var cardinal Plain 1) ∷ []

abbrev context : Context
context = record {
  source = record { spellings = [] ∷ codes "D" ∷ codes "Q" ∷ []; definitions = [] };
  scene = record {
    block = record { scope = 1; text = 0; level = 0; home = 1; own = None; chain = 1 ∷ [] };
    tables = standard_rows ∷ rows ∷ [];
  };
  layout = no_layout;
  item = None;
}

abbrev block : Statements → BlockTree
block body = record {
  block = context.scene.block;
  tree = record {
    kind = Main;
    implementation = false;
    name = None;
    imports = [];
    heading = None;
    decls = [];
    body = body;
    close = record { name = 34; at = 0 };
  };
}

abbrev run : List Statement → Run
run body = run_of (block (statements body)) (no_effects 12) (body_of context (block (statements body))).value

abbrev code_of : List Statement → List Instr
code_of body = map (λ s. s.instr) ((run body).code 0)

abbrev cells_of : List Statement → ℕ
cells_of body = (run body).next.cell

abbrev height_of : List Statement → ℕ
height_of body = greatest 0 ((run body).code 0)

-- ---- trees

abbrev s : StmtForm → Statement
s = statement 0

abbrev empty : Statement
empty = s empty_form

abbrev named : ℕ → Designator
named n = designator (record { name = n; at = 0 }) no_selectors

abbrev e : ExprForm → Expr
e = expr 0

abbrev name : ℕ → Expr
name n = e (name_form (named n))

abbrev number : ℕ → Expr
number n = e (number_form n)

abbrev yes : Expr
yes = name 7

abbrev no : Expr
no = name 8

abbrev not_of : Expr → Expr
not_of x = e (one_form Not 0 x)

abbrev both : Expr → Expr → Expr
both x y = e (many_form x (nexts (next And 0 y ∷ [])))

abbrev function : (name : ℕ) → Expr → Expr
function f x = e (call_form (named f) (exprs (x ∷ [])))

abbrev odd : ℕ → Expr
odd n = function 23 (number n)

-- ---- bodies

-- WHILE NOT TRUE DO ;  END
abbrev while_never : List Statement
while_never = s (while_form (not_of yes) (statements (empty ∷ empty ∷ []))) ∷ []

while_code : code_of while_never ≡ Push (pos 0) ∷ JumpFalse (pos 5) ∷ Jump (negsuc 18) ∷ Return ∷ []
while_code = refl

while_height : height_of while_never ≡ 1
while_height = refl

-- IF TRUE THEN WHILE ODD(21) DO ;  END ELSE ;  END; ;
-- LOOP ; IF ((ODD(12)) & TRUE) & (NOT (ODD(10))) THEN EXIT END; ;  END; ; WHILE TRUE OR (TRUE & (NOT FALSE)) DO ;  END;
abbrev loops : List Statement
loops =
    s (if_form
    (more_if_arms (if_arm yes (statements (s (while_form (odd 21) (statements (empty ∷ empty ∷ []))) ∷ []))) no_if_arms)
    (statements (empty ∷ empty ∷ [])))
    ∷ empty
    ∷ s (loop_form (statements (empty
    ∷ s (if_form (more_if_arms (if_arm (both (both (odd 12) yes) (not_of (odd 10))) (statements (s exit_form ∷ []))) no_if_arms) (statements []))
    ∷ empty ∷ empty ∷ [])))
    ∷ empty
    ∷ s (while_form (e (many_form yes (nexts (next Or 0 (both yes (not_of no)) ∷ [])))) (statements (empty ∷ empty ∷ [])))
    ∷ empty ∷ []

loops_code : code_of loops ≡
    Push (pos 1) ∷ JumpFalse (pos 24) ∷ Push (pos 1) ∷ JumpFalse (pos 5) ∷ Jump (negsuc 18) ∷ Jump (pos 0) ∷ Push (pos 0)
    ∷ JumpFalse (pos 5) ∷ Jump (pos 5) ∷ Jump (negsuc 23) ∷ Push (pos 1) ∷ JumpFalse (pos 5) ∷ Jump (negsuc 18) ∷ Return ∷ []
loops_code = refl

-- CASE 57C OF "D", 114C.."Q":  | CHR(90): ;  ELSE IF TRUE THEN ; REPEAT  UNTIL ODD(11) ELSE HALT END;  END; ; ; RETURN; ;
abbrev cases : List Statement
cases =
    s (case_form (e (char_form 47))
    (more_case_arms (case_arm (labels (one_label (e (string_form 1)) ∷ range_label (e (char_form 76)) (e (string_form 2)) ∷ [])) (statements (empty ∷ [])))
    (more_case_arms (case_arm (labels (one_label (function 12 (number 90)) ∷ [])) (statements (empty ∷ empty ∷ []))) no_case_arms))
    (case_else (statements (s (if_form
    (more_if_arms (if_arm yes (statements (empty ∷ s (repeat_form (statements (empty ∷ [])) (odd 11)) ∷ []))) no_if_arms)
    (statements (s (call_statement (named 16) (exprs [])) ∷ [])))
    ∷ empty ∷ []))))
    ∷ empty ∷ empty ∷ s (return_form None) ∷ empty ∷ empty ∷ []

cases_code : code_of cases ≡
    Local 0 0 ∷ Push (pos 47) ∷ Store ∷ Local 0 0 ∷ Load ∷ Push (pos 68) ∷ Eq ∷ OrJump (pos 45) ∷ Local 0 0 ∷ Load ∷ Push (pos 76) ∷ Ge
    ∷ AndJump (pos 20) ∷ Local 0 0 ∷ Load ∷ Push (pos 81) ∷ Le ∷ JumpFalse (pos 5) ∷ Jump (pos 64) ∷ Local 0 0 ∷ Load ∷ Push (pos 90) ∷ Eq
    ∷ JumpFalse (pos 5) ∷ Jump (pos 34) ∷ Push (pos 1) ∷ JumpFalse (pos 19) ∷ Push (pos 1) ∷ JumpFalse (negsuc 13) ∷ Jump (pos 1) ∷ Halt
    ∷ Return ∷ Return ∷ []
cases_code = refl

cases_cells : cells_of cases ≡ 1
cases_cells = refl

cases_height : height_of cases ≡ 2
cases_height = refl

-- REPEAT CASE (~(ODD((-4)))) AND (TRUE AND (ODD((-8)))) OF FALSE, TRUE:  |  |  END;  UNTIL (NOT TRUE) AND TRUE; ; RETURN;
abbrev repeated : List Statement
repeated =
    empty
    ∷ s (repeat_form (statements (s (case_form
    (both (not_of (function 23 (e (one_form Minus 0 (number 4))))) (both yes (function 23 (e (one_form Minus 0 (number 8))))))
    (more_case_arms (case_arm (labels (one_label no ∷ one_label yes ∷ [])) (statements (empty ∷ []))) no_case_arms) no_case_else)
    ∷ empty ∷ [])) (both (not_of yes) yes))
    ∷ empty ∷ s (return_form None) ∷ empty ∷ []

repeated_code : code_of repeated ≡
    Local 0 0 ∷ Push (pos 0) ∷ Store ∷ Local 0 0 ∷ Load ∷ Push (pos 0) ∷ Eq ∷ OrJump (pos 20) ∷ Local 0 0 ∷ Load ∷ Push (pos 1) ∷ Eq
    ∷ JumpFalse (pos 5) ∷ Jump (pos 2) ∷ Trap 8 ∷ Push (pos 0) ∷ JumpFalse (negsuc 89) ∷ Return ∷ Return ∷ []
repeated_code = refl

-- FOR v7 := CAP(v7) TO CAP(v7) DO EXCL(v10, 19) END
abbrev counting : List Statement
counting =
    s (for_form (record { name = 30; at = 0 }) (function 11 (name 30)) (function 11 (name 30)) None
    (statements (s (call_statement (named 15) (exprs (name 31 ∷ number 19 ∷ []))) ∷ []))) ∷ []

counting_code : code_of counting ≡
    Global 0 2 ∷ Global 0 2 ∷ Load ∷ Cap ∷ Check (pos 73) (pos 80) ∷ Store ∷ Local 0 0 ∷ Global 0 2 ∷ Load ∷ Cap ∷ Check (pos 73) (pos 80) ∷ Store
    ∷ Global 0 2 ∷ Load ∷ Local 0 0 ∷ Load ∷ Le ∷ JumpFalse (pos 85) ∷ Global 0 5 ∷ Dup ∷ Load ∷ Push (pos 19) ∷ Bit ∷ Diff ∷ Store
    ∷ Global 0 2 ∷ Load ∷ Local 0 0 ∷ Load ∷ More (pos 1) ∷ JumpFalse (pos 28) ∷ Global 0 2 ∷ Dup ∷ Load ∷ Push (pos 1) ∷ Add 1 ∷ Store
    ∷ Jump (negsuc 84) ∷ Return ∷ []
counting_code = refl

counting_height : height_of counting ≡ 3
counting_height = refl

-- WITH r DO x := 1 END
abbrev with_record : List Statement
with_record = s (with_form (named 29) (statements (s (assign_form (named 28) (number 1)) ∷ []))) ∷ []

with_code : code_of with_record ≡
    Local 0 0 ∷ Global 0 1 ∷ Store ∷ Local 0 0 ∷ Load ∷ Push (pos 1) ∷ Store ∷ Return ∷ []
with_code = refl

with_cells : cells_of with_record ≡ 1
with_cells = refl

-- b := (n > 0) AND (7 DIV n > 1)
abbrev skipped : List Statement
skipped =
    s (assign_form (named 32) (both (e (many_form (name 33) (nexts (next Greater 0 (number 0) ∷ []))))
    (e (many_form (e (many_form (number 7) (nexts (next Quotient 0 (name 33) ∷ [])))) (nexts (next Greater 0 (number 1) ∷ [])))))) ∷ []

skipped_code : code_of skipped ≡
    Global 0 0 ∷ Global 0 1 ∷ Load ∷ Push (pos 0) ∷ Gt ∷ AndJump (pos 31) ∷ Push (pos 7) ∷ Global 0 1 ∷ Load ∷ Div 1 ∷ Push (pos 1) ∷ Gt ∷ Store
    ∷ Return ∷ []
skipped_code = refl

skipped_height : height_of skipped ≡ 3
skipped_height = refl

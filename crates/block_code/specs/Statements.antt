-- The code of statements, by recursion on the trees. What is noted comes in text order.
use Rattle.std.specs.Prelude.{ℕ, Bool, true, ℤ, List, [], ◌∷◌, if◌then◌else◌, Option, Some, None}
use Rattle.m2_base.specs.Gives.{Gives, gives, and_then}
use Rattle.m2_base.specs.declared.rows.Place.{Place}
use Rattle.m2_base.specs.Statics.CaseLabels.{CaseLabels, labels_of}
use Rattle.m2_base.specs.Statics.Constants.{constant_of}
use Rattle.m2_base.specs.Statics.Contexts.{Context, refuse}
use Rattle.m2_base.specs.Statics.Diagnostics.{exit_outside_loop}
use Rattle.m2_base.specs.Statics.Operands.{is_bad, operand_type}
use Rattle.m2_base.specs.Statics.Ranges.{Range}
use Rattle.m2_base.specs.Trees.{CaseArm, CaseArms, CaseElse, Designator, Expr, IfArm, IfArms, Statement, Statements}
use Rattle.m2_base.specs.Trees.{StmtForm, assign_form, call_statement, case_arm, case_else, case_form, designator_at}
use Rattle.m2_base.specs.Trees.{empty_form, exit_form, expr_at, for_form, if_arm, if_form, loop_form, more_case_arms}
use Rattle.m2_base.specs.Trees.{more_if_arms, more_statements, no_case_arms, no_case_else, no_if_arms, no_statements}
use Rattle.m2_base.specs.Trees.{repeat_form, return_form, statement, while_form, with_form}
use Rattle.block_code.specs.Coded.{Coded}
use Rattle.block_code.specs.Expressions.{call_alone, designated, value}
use Rattle.block_code.specs.Parts.{Part}
use Rattle.block_code.specs.StandardFunctions.{as_variable}
use Rattle.block_code.specs.Assignments.{assignment, code_unless_bad}
use Rattle.block_code.specs.Cases.{labels_code, no_case, selector_code, selector_type}
use Rattle.block_code.specs.Counting.{bound_value, by_constant, control_variable, for_first, for_last, for_more}
use Rattle.block_code.specs.Counting.{for_step, for_test, has_code, or_one}
use Rattle.block_code.specs.Flows.{Flow, choose, counted, exit, for_ever, nothing, straight, until_true, when}
use Rattle.block_code.specs.Flows.{while_true, with_cell, ◌⨾◌}
use Rattle.block_code.specs.Returns.{return_alone, return_value}
use Rattle.block_code.specs.Tests.{test_code}
use Rattle.block_code.specs.Withs.{in_with_of, record_variable, with_code}

infixl 10 ◌>>=◌
-- one after another
abbrev pub ◌>>=◌ : {A B : Type 0} → Gives A → (A → Gives B) → Gives B
a >>= f = and_then a f

-- Where a statement stands: its block, the result of its block's procedure, the record types of the open WITHs, the
-- innermost first, and whether a LOOP is round it.
pub record Stand : Type 0 where
  pub context : Context
  pub result : Option Place
  pub withs : List Place
  pub looped : Bool

-- where a variable is wanted
abbrev pub variable : Stand → Designator → Gives Coded
variable s d = and_then (designated s.context s.withs d) (as_variable s.context (designator_at d))

-- where a value is wanted
abbrev pub value_at : Stand → Expr → Gives Coded
value_at s e = value s.context s.withs e

-- where a test is wanted
abbrev pub test : Stand → Expr → Gives Part
test s e = and_then (value_at s e) (test_code s.context (expr_at e))

-- within a LOOP
abbrev pub in_loop : Stand → Stand
in_loop s = record s { looped = true }

-- within a WITH of this variable; one in error opens none
abbrev pub within : Stand → Coded → Stand
within s x = if is_bad x.operand then s else record s { withs = operand_type x.operand ∷ s.withs }

-- an arm of an IF before what stands for the other cases, if anything does
abbrev pub arm_before : Part → Flow → Option Flow → Option Flow
arm_before test body None = Some (when test body)
arm_before test body (Some other) = Some (choose test body other)

-- what an IF makes
abbrev pub flow_or_nothing : Option Flow → Flow
flow_or_nothing None = nothing
flow_or_nothing (Some f) = f

-- ELSE stands where it has a statement, an empty one too
abbrev pub else_of : Statements → Flow → Option Flow
else_of no_statements f = None
else_of (more_statements s ss) f = Some f

-- the step of a FOR
abbrev pub by_of : Stand → Option Expr → Gives (Option ℤ)
by_of s None = gives None
by_of s (Some e) = and_then (constant_of s.context e) (by_constant s.context (expr_at e))

-- FOR: the first value, the last value in a temporary cell, and the body as often as the comparisons say
abbrev pub for_flow : Context → (variable first last : Coded) → (by : ℤ) → Flow → Flow
for_flow c x first last by body =
    straight (for_first c x first)
    ⨾ with_cell (λ t.
    straight (for_last c t x last)
    ⨾ (if has_code x then counted (for_test t x by) body (for_more t x by) (for_step c.scene x by) else body))

-- RETURN with a value or without
abbrev pub return_of : Stand → (at : ℕ) → Option Expr → Gives Part
return_of s at None = return_alone s.context at s.result
return_of s at (Some e) = and_then (value_at s e) (return_value s.context at s.result (expr_at e))

-- EXIT stands within a LOOP
abbrev pub exit_of : Stand → (at : ℕ) → Gives Flow
exit_of s at = if s.looped then gives exit else refuse s.context at exit_outside_loop nothing

-- one arm of a CASE: what it makes before the other arms, once the selector's cell is known, and the values that are
-- covered with it
pub record Arm : Type 0 where
  pub flow : (cell : ℕ) → (others : Flow) → Flow
  pub covered : List Range

-- the arm of these labels and this body
abbrev pub arm_of : CaseLabels → Flow → Arm
arm_of l body = record { flow = λ t others. choose (labels_code t l.tests) body others; covered = l.covered }

abbrev mutual
  -- a statement
  pub statement_flow : Stand → Statement → Gives Flow
  statement_flow s (statement at form) = form_flow s at form

  -- what each form of statement makes; `at` is its first token
  pub form_flow : Stand → (at : ℕ) → StmtForm → Gives Flow
  form_flow s at (assign_form d e) = do
    to ← variable s d
    x ← value_at s e
    part ← assignment s.context to (expr_at e) x
    gives (straight part)
  form_flow s at (call_statement d args) = do
    x ← call_alone s.context s.withs d args
    gives (straight (code_unless_bad x))
  form_flow s at (if_form arms other) = do
    before ← arms_flow s arms
    o ← flow_of s other
    gives (flow_or_nothing (before (else_of other o)))
  form_flow s at (loop_form body) = do
    b ← flow_of (in_loop s) body
    gives (for_ever b)
  form_flow s at exit_form = exit_of s at
  form_flow s at (case_form e arms other) = do
    x ← value_at s e
    typ ← selector_type s.context (expr_at e) x
    before ← cases_flow s typ [] arms
    o ← else_flow s other
    gives (with_cell (λ t. straight (selector_code s.context t x) ⨾ before t o))
  form_flow s at (while_form e body) = do
    t ← test s e
    b ← flow_of s body
    gives (while_true t b)
  form_flow s at (repeat_form body e) = do
    b ← flow_of s body
    t ← test s e
    gives (until_true b t)
  form_flow s at (for_form i first last by body) = do
    x ← control_variable s.context s.withs i
    f ← value_at s first
    from ← bound_value s.context x (expr_at first) f
    l ← value_at s last
    upto ← bound_value s.context x (expr_at last) l
    step ← by_of s by
    b ← flow_of s body
    gives (for_flow s.context x from upto (or_one step) b)
  form_flow s at (with_form d body) = do
    v ← variable s d
    x ← record_variable s.context (designator_at d) v
    b ← flow_of (within s x) body
    gives (with_cell (λ t. straight (with_code t x) ⨾ in_with_of x t b))
  form_flow s at (return_form e) = do
    part ← return_of s at e
    gives (straight part)
  form_flow s at empty_form = gives nothing

  -- statements one after another
  pub flow_of : Stand → Statements → Gives Flow
  flow_of s no_statements = gives nothing
  flow_of s (more_statements st ss) = do
    a ← statement_flow s st
    b ← flow_of s ss
    gives (a ⨾ b)

  -- the arms of an IF: what they make before what follows them, if anything does
  pub arms_flow : Stand → IfArms → Gives (Option Flow → Option Flow)
  arms_flow s no_if_arms = gives (λ other. other)
  arms_flow s (more_if_arms a others) = do
    first ← arm_flow s a
    rest ← arms_flow s others
    gives (λ other. first (rest other))

  -- one arm of an IF
  pub arm_flow : Stand → IfArm → Gives (Option Flow → Option Flow)
  arm_flow s (if_arm e body) = do
    t ← test s e
    b ← flow_of s body
    gives (arm_before t b)

  -- the arms of a CASE, once the selector's cell is known; `covered` has the values of the arms before
  pub cases_flow : Stand → (typ : Place) → (covered : List Range) → CaseArms → Gives (ℕ → Flow → Flow)
  cases_flow s typ covered no_case_arms = gives (λ t other. other)
  cases_flow s typ covered (more_case_arms a others) = do
    first ← case_flow s typ covered a
    rest ← cases_flow s typ first.covered others
    gives (λ t other. first.flow t (rest t other))

  -- one arm of a CASE
  pub case_flow : Stand → (typ : Place) → (covered : List Range) → CaseArm → Gives Arm
  case_flow s typ covered (case_arm labels body) = do
    l ← labels_of s.context typ covered labels
    b ← flow_of s body
    gives (arm_of l b)

  -- what stands where no label holds
  pub else_flow : Stand → CaseElse → Gives Flow
  else_flow s no_case_else = gives (straight no_case)
  else_flow s (case_else body) = flow_of s body

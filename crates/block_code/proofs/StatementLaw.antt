-- Statements keep the height, whatever they are: by recursion on the trees.
use Rattle.std.specs.Prelude.{◌≡◌, refl, ℕ, Bool, true, false, not, ℤ, List, [], ◌∷◌, ◌==◌, if◌then◌else◌, Option, Some, None}
use Rattle.m2_base.specs.Gives.{gives}
use Rattle.m2_base.specs.declared.rows.Place.{Place}
use Rattle.m2_base.specs.Statics.Blocks.{BlockTree}
use Rattle.m2_base.specs.Statics.CaseLabels.{labels_of}
use Rattle.m2_base.specs.Statics.Contexts.{Context, refuse}
use Rattle.m2_base.specs.Statics.Diagnostics.{exit_outside_loop}
use Rattle.m2_base.specs.Statics.Effects.{BlockEffects, ParamCopy, open_copy, own_copy}
use Rattle.m2_base.specs.Statics.Operands.{is_bad}
use Rattle.m2_base.specs.Statics.ProcedureRows.{result_cells}
use Rattle.m2_base.specs.Statics.Ranges.{Range}
use Rattle.m2_base.specs.Trees.{CaseArm, CaseArms, CaseElse, Designator, Expr, Heading, IfArm, IfArms, Statement, Statements, StmtForm, assign_form, call_statement, case_arm, case_else, case_form, designator_at, empty_form, exit_form, expr_at, for_form, if_arm, if_form, loop_form, more_case_arms, more_if_arms, more_statements, no_case_arms, no_case_else, no_if_arms, no_statements, repeat_form, return_form, statement, while_form, with_form}
use Rattle.code_form.specs.declared.instr.Instr.TheVariants.{Load, Local, Move, OpenCopy, Trap}
use Rattle.block_code.specs.Coded.{Coded}
use Rattle.block_code.specs.Expressions.{call_alone, designated, expression}
use Rattle.block_code.specs.Heights.{Moves}
use Rattle.block_code.specs.Parts.{Part, plain}
use Rattle.block_code.proofs.Law.{designated-good, expression-good}
use Rattle.block_code.proofs.Moves.{Moves-none, Moves-then, plain-moves}
use Rattle.block_code.proofs.Proper.{Addressed, call_alone-proper, variable-addressed}
use Rattle.block_code.proofs.ValueHeights.{Valued, as_value-good, both_ways}
use Rattle.block_code.specs.Assignments.{assignment, code_unless_bad}
use Rattle.block_code.specs.BlockCode.{copy_code, ending, first_spot, prologue, run_of}
use Rattle.block_code.specs.Cases.{labels_code, no_case, selector_code, selector_type}
use Rattle.block_code.specs.Counting.{bound_value, control_variable, for_first, for_last, for_more, for_step, for_test, has_code, or_one}
use Rattle.block_code.specs.Flows.{Flow, counted, exit, in_with, nothing, straight, with_cell, ◌⨾◌}
use Rattle.block_code.specs.FlowHeights.{KeepsHeight, Stands}
use Rattle.block_code.specs.Returns.{return_code}
use Rattle.block_code.specs.Statements.{Arm, Stand, arm_before, arm_flow, arms_flow, by_of, case_flow, cases_flow, else_flow, else_of, flow_of, flow_or_nothing, for_flow, form_flow, in_loop, return_of, statement_flow, test, value_at, variable, within}
use Rattle.block_code.specs.Withs.{in_with_of, record_variable, with_code}
use Rattle.block_code.proofs.Flowing.{choose-flows, counted-flows, exit-flows, for_ever-flows, in_with-flows, nothing-flows, straight-flows, then-flows, until-flows, when-flows, while-flows, with_cell-flows}
use Rattle.block_code.proofs.StatementHeights.{assignment-moves, bound-valued, call-moves-none, control-addressed, first-moves, for_more-moves, for_step-moves, for_test-moves, labels-moves, last-moves, no_case-moves, record-addressed, return-moves, return_alone-moves, return_value-moves, selector-moves, test-moves, with-moves}

valued : (s : Stand) (e : Expr) → Valued s.context.scene (value_at s e).value
valued s e = as_value-good s.context (expr_at e) (expression s.context s.withs e).value (expression-good s.context s.withs e)

addressed : (s : Stand) (d : Designator) → Addressed (variable s d).value
addressed s d = variable-addressed s.context (designator_at d) (designated s.context s.withs d).value (designated-good s.context s.withs d)

tests : (s : Stand) (e : Expr) → Moves 0 (test s e).value 1
tests s e = test-moves s.context (expr_at e) (value_at s e).value (valued s e)

not_false : (b : Bool) → not b ≡ true → b ≡ false
not_false true e = absurd cc
not_false false e = refl

if_true : {A : Type 0} (P : A → Type 0) (t : Bool) (a b : A) → (t ≡ true → P a) → P b → P (if t then a else b)
if_true P true a b p q = p refl
if_true P false a b p q = q

for-flows : (c : Context) (x first last : Coded) (by : ℤ) (body : Flow) → Addressed x → Valued c.scene first → Valued c.scene last → KeepsHeight body
    → KeepsHeight (for_flow c x first last by body)
for-flows c x first last by body f v w g =
    then-flows (straight (for_first c x first)) (with_cell (λ t. straight (for_last c t x last)
    ⨾ (if has_code x then counted (for_test t x by) body (for_more t x by) (for_step c.scene x by) else body)))
    (straight-flows (for_first c x first) (first-moves c x first f v))
    (with_cell-flows (λ t. straight (for_last c t x last)
    ⨾ (if has_code x then counted (for_test t x by) body (for_more t x by) (for_step c.scene x by) else body))
    (λ t. then-flows (straight (for_last c t x last)) (if has_code x then counted (for_test t x by) body (for_more t x by) (for_step c.scene x by) else body)
    (straight-flows (for_last c t x last) (last-moves c t x last w))
    (if_true KeepsHeight (has_code x) (counted (for_test t x by) body (for_more t x by) (for_step c.scene x by)) body
    (λ e. let a : Moves 0 x.code 1 = f (not_false (is_bad x.operand) e) in
    counted-flows (for_test t x by) body (for_more t x by) (for_step c.scene x by)
    (for_test-moves t x by a) g (for_more-moves t x by a) (for_step-moves c.scene x by a))
    g)))

in_with_of-flows : (x : Coded) (t : ℕ) (body : Flow) → KeepsHeight body → KeepsHeight (in_with_of x t body)
in_with_of-flows x t body g = both_ways KeepsHeight (is_bad x.operand) body (in_with t body) g (in_with-flows t body g)

return-flows : (s : Stand) (at : ℕ) (e : Option Expr) → Moves 0 (return_of s at e).value 0
return-flows s at None = return_alone-moves s.context at s.result
return-flows s at (Some e) = return_value-moves s.context at s.result (expr_at e) (value_at s e).value (valued s e)

-- what may follow an arm
abbrev KeepsAny : Option Flow → Type 0
KeepsAny None = Unit {0}
KeepsAny (Some f) = KeepsHeight f

or_nothing-flows : (f : Option Flow) → KeepsAny f → KeepsHeight (flow_or_nothing f)
or_nothing-flows None g = nothing-flows
or_nothing-flows (Some f) g = g

arm-flows : (t : Part) (body : Flow) (other : Option Flow) → Moves 0 t 1 → KeepsHeight body → KeepsAny other → KeepsAny (arm_before t body other)
arm-flows t body None m g o = when-flows t body m g
arm-flows t body (Some other) m g o = choose-flows t body other m g o

else-flows : (ss : Statements) (f : Flow) → KeepsHeight f → KeepsAny (else_of ss f)
else-flows no_statements f g = tt
else-flows (more_statements s ss) f g = g

mutual
  pub statement-flows : (s : Stand) (st : Statement) → KeepsHeight (statement_flow s st).value
  statement-flows s (statement at form) = form-flows s at form

  pub form-flows : (s : Stand) (at : ℕ) (f : StmtForm) → KeepsHeight (form_flow s at f).value
  form-flows s at (assign_form d e) =
      straight-flows (assignment s.context (variable s d).value (expr_at e) (value_at s e).value).value
      (assignment-moves s.context (variable s d).value (expr_at e) (value_at s e).value (addressed s d) (valued s e))
  form-flows s at (call_statement d args) =
      straight-flows (code_unless_bad (call_alone s.context s.withs d args).value)
      (call-moves-none (call_alone s.context s.withs d args).value (call_alone-proper s.context s.withs d args))
  form-flows s at (if_form arms other) =
      or_nothing-flows ((arms_flow s arms).value (else_of other (flow_of s other).value))
      (arms-flows s arms (else_of other (flow_of s other).value) (else-flows other (flow_of s other).value (all-flows s other)))
  form-flows s at (loop_form body) =
      for_ever-flows (flow_of (in_loop s) body).value (all-flows (in_loop s) body)
  form-flows s at exit_form =
      both_ways (λ r. KeepsHeight r.value) s.looped (gives exit) (refuse s.context at exit_outside_loop nothing) exit-flows nothing-flows
  form-flows s at (case_form e arms other) =
      let x : Coded = (value_at s e).value in
      let typ : Place = (selector_type s.context (expr_at e) x).value in
      let o : Flow = (else_flow s other).value in
      with_cell-flows (λ t. straight (selector_code s.context t x) ⨾ (cases_flow s typ [] arms).value t o)
      (λ t. then-flows (straight (selector_code s.context t x)) ((cases_flow s typ [] arms).value t o)
      (straight-flows (selector_code s.context t x) (selector-moves s.context t x (valued s e)))
      (cases-flows s typ [] arms t o (case_else-flows s other)))
  form-flows s at (while_form e body) =
      while-flows (test s e).value (flow_of s body).value (tests s e) (all-flows s body)
  form-flows s at (repeat_form body e) =
      until-flows (flow_of s body).value (test s e).value (all-flows s body) (tests s e)
  form-flows s at (for_form i first last by body) =
      let x : Coded = (control_variable s.context s.withs i).value in
      for-flows s.context x (bound_value s.context x (expr_at first) (value_at s first).value).value
      (bound_value s.context x (expr_at last) (value_at s last).value).value (or_one (by_of s by).value) (flow_of s body).value
      (control-addressed s.context s.withs i)
      (bound-valued s.context x (expr_at first) (value_at s first).value (valued s first))
      (bound-valued s.context x (expr_at last) (value_at s last).value (valued s last))
      (all-flows s body)
  form-flows s at (with_form d body) =
      let v : Coded = (variable s d).value in
      let x : Coded = (record_variable s.context (designator_at d) v).value in
      let b : Flow = (flow_of (within s x) body).value in
      let a : Addressed x = record-addressed s.context (designator_at d) v (addressed s d) in
      with_cell-flows (λ t. straight (with_code t x) ⨾ in_with_of x t b)
      (λ t. then-flows (straight (with_code t x)) (in_with_of x t b) (straight-flows (with_code t x) (with-moves t x a))
      (in_with_of-flows x t b (all-flows (within s x) body)))
  form-flows s at (return_form e) = straight-flows (return_of s at e).value (return-flows s at e)
  form-flows s at empty_form = nothing-flows

  pub all-flows : (s : Stand) (ss : Statements) → KeepsHeight (flow_of s ss).value
  all-flows s no_statements = nothing-flows
  all-flows s (more_statements st ss) =
      then-flows (statement_flow s st).value (flow_of s ss).value (statement-flows s st) (all-flows s ss)

  pub arms-flows : (s : Stand) (as' : IfArms) (other : Option Flow) → KeepsAny other → KeepsAny ((arms_flow s as').value other)
  arms-flows s no_if_arms other g = g
  arms-flows s (more_if_arms a others) other g = arm_of-flows s a ((arms_flow s others).value other) (arms-flows s others other g)

  pub arm_of-flows : (s : Stand) (a : IfArm) (other : Option Flow) → KeepsAny other → KeepsAny ((arm_flow s a).value other)
  arm_of-flows s (if_arm e body) other g = arm-flows (test s e).value (flow_of s body).value other (tests s e) (all-flows s body) g

  pub cases-flows : (s : Stand) (typ : Place) (covered : List Range) (as' : CaseArms) (t : ℕ) (other : Flow) → KeepsHeight other
      → KeepsHeight ((cases_flow s typ covered as').value t other)
  cases-flows s typ covered no_case_arms t other g = g
  cases-flows s typ covered (more_case_arms a others) t other g =
      let first : Arm = (case_flow s typ covered a).value in
      case-flows s typ covered a t ((cases_flow s typ first.covered others).value t other) (cases-flows s typ first.covered others t other g)

  pub case-flows : (s : Stand) (typ : Place) (covered : List Range) (a : CaseArm) (t : ℕ) (other : Flow) → KeepsHeight other
      → KeepsHeight ((case_flow s typ covered a).value.flow t other)
  case-flows s typ covered (case_arm labels body) t other g =
      choose-flows (labels_code t (labels_of s.context typ covered labels).value.tests) (flow_of s body).value other
      (labels-moves t (labels_of s.context typ covered labels).value.tests) (all-flows s body) g

  pub case_else-flows : (s : Stand) (e : CaseElse) → KeepsHeight (else_flow s e).value
  case_else-flows s no_case_else = straight-flows no_case no_case-moves
  case_else-flows s (case_else body) = all-flows s body

-- ---- a block

copy-moves : (p : ParamCopy) → Moves 0 (copy_code p) 0
copy-moves (own_copy own cell size) = plain-moves (Local 0 own ∷ Local 0 cell ∷ Load ∷ Move size ∷ []) 0 0 refl
copy-moves (open_copy cell elem) = plain-moves (OpenCopy cell elem ∷ []) 0 0 refl

pub prologue-moves : (ps : List ParamCopy) → Moves 0 (prologue ps) 0
prologue-moves [] = Moves-none 0
prologue-moves (p ∷ ps) = Moves-then (copy_code p) (prologue ps) 0 0 0 (copy-moves p) (prologue-moves ps)

ending-moves : (h : Option Heading) → Moves 0 (ending h) 0
ending-moves None = return-moves
ending-moves (Some h) =
    both_ways (λ p. Moves 0 p 0) (result_cells h.result == 0) return_code (plain (Trap 7 ∷ [])) return-moves (plain-moves (Trap 7 ∷ []) 0 0 refl)

pub run-stands : (b : BlockTree) (e : BlockEffects) (body : Flow) → KeepsHeight body → Stands [] 0 0 ((run_of b e body).code 0) 0
run-stands b e body g =
    then-flows (straight (prologue e.prologue)) (body ⨾ straight (ending b.tree.heading)) (straight-flows (prologue e.prologue) (prologue-moves e.prologue))
    (then-flows body (straight (ending b.tree.heading)) g (straight-flows (ending b.tree.heading) (ending-moves b.tree.heading)))
    (first_spot b.tree.kind e) [] 0

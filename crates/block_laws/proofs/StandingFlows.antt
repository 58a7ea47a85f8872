-- The diagnostics of statements stand at their tokens.
use Rattle.std.specs.Prelude.{if◌then◌else◌, ◌≡◌, ℕ, ◌||◌, not, Bool, true, false, List, [], ◌∷◌, Option, Some, None, is_some}
use Rattle.std.proofs.Common.{refl, subst}
use Rattle.m2_base.specs.Rows.{row_meaning}
use Rattle.m2_base.specs.declared.rows.Place.{Place}
use Rattle.m2_base.specs.Trees.{CaseArm, CaseArms, CaseElse, Designator, Expr, IfArm, IfArms, Statement, Statements, StmtForm, assign_form, call_statement, case_arm, case_else, case_form, designator_at, empty_form, exit_form, expr_at, for_form, if_arm, if_form, loop_form, more_case_arms, more_if_arms, more_statements, no_case_arms, no_case_else, no_if_arms, no_statements, repeat_form, return_form, statement, while_form, with_form}
use Rattle.m2_base.specs.declared.trees.Ident.{Ident}
use Rattle.m2_base.specs.Statics.Compatible.{is_number_type}
use Rattle.m2_base.specs.Statics.Constants.{constant_of}
use Rattle.m2_base.specs.Statics.Contexts.{Context}
use Rattle.m2_base.specs.Statics.Diagnostics.{not_assignable}
use Rattle.m2_base.specs.Statics.Lookup.{Entry}
use Rattle.m2_base.specs.Statics.Operands.{is_bad, operand_type}
use Rattle.m2_base.specs.Statics.Operations.{is_boolean, is_ordinal}
use Rattle.m2_base.specs.Statics.Ranges.{Range}
use Rattle.m2_base.specs.Statics.Leaves.{CaseArmHas, CaseArmsHave, CaseElseHas, DesignatorHas, ExprHas, ExprOptionHas, IfArmHas, IfArmsHave, StatementFormHas, StatementHas, StatementsHave}
use Rattle.m2_base.specs.Statics.StandingTrees.{Stands}
use Rattle.m2_base.specs.Statics.Types.{base_of, kind_of}
use Rattle.m2_base.specs.Statics.Uses.{use_of}
use Rattle.m2_base.specs.declared.operands.Operand.{Operand}
use Rattle.m2_base.specs.declared.operands.Operand.TheVariants.{Constant, InError, Variable}
use Rattle.m2_base.proofs.StandingConstants.{constant_at, first_stand, first_token}
use Rattle.m2_base.proofs.StandingNotes.{GivesAt, gives_either, join, none, one, use_at}
use Rattle.block_code.specs.Coded.{Coded}
use Rattle.block_code.specs.Expressions.{designated}
use Rattle.block_code.specs.RecordFields.{with_field}
use Rattle.block_code.specs.Variables.{entry_coded}
use Rattle.block_code.specs.Assignments.{assignment}
use Rattle.block_code.specs.Cases.{selector_type}
use Rattle.block_code.specs.Counting.{bound_value, by_constant, can_control, control_variable, controls, controls_by, is_zero}
use Rattle.block_code.specs.Returns.{return_alone, return_value}
use Rattle.block_code.specs.Statements.{Stand, arm_flow, arms_flow, by_of, case_flow, cases_flow, else_flow, exit_of, flow_of, form_flow, in_loop, return_of, statement_flow, test, value_at as value_of, variable, within}
use Rattle.block_code.specs.Tests.{test_code}
use Rattle.block_code.specs.Withs.{is_record, record_variable}
use Rattle.m2_base.proofs.StandingTypes.{labels_at}
use Rattle.block_laws.proofs.StandingOperands.{assigned_at}
use Rattle.block_laws.proofs.StandingProcedures.{as_variable_at}
use Rattle.block_laws.proofs.StandingValues.{call_alone_at, designated_at, value_at}

-- a WITH stands in the same block
same_context : (b : Bool) (s t : Stand) → t.context ≡ s.context → (if b then s else t).context ≡ s.context
same_context true s t e = refl
same_context false s t e = e

module _ (Here : ℕ → Type 0) where
  -- ** Values, variables and tests

  variable_at : (d : Designator) (s : Stand) → DesignatorHas (Stands Here) d → GivesAt Here s.context (variable s d)
  variable_at d s h =
      join (designated_at Here d s.context s.withs h) (as_variable_at Here s.context (designator_at d) (designated s.context s.withs d).value (first_stand Here d h))

  assignment_at : (c : Context) (to : Coded) (at : ℕ) (x : Coded) → Here at → GivesAt Here c (assignment c to at x)
  assignment_at c to at x h =
      gives_either (is_bad to.operand) _ _ none (join (assigned_at Here c (operand_type to.operand) at not_assignable x h) none)

  test_code_at : (c : Context) (at : ℕ) (x : Coded) → Here at → GivesAt Here c (test_code c at x)
  test_code_at c at x h = gives_either (is_bad x.operand) _ _ none (gives_either (is_boolean c x.operand) _ _ none (one h))

  test_at : (e : Expr) (s : Stand) → ExprHas (Stands Here) e → GivesAt Here s.context (test s e)
  test_at e s h = join (value_at Here e s.context s.withs h) (test_code_at s.context (expr_at e) (value_of s e).value (first_token Here e h))

  selector_at : (c : Context) (at : ℕ) (x : Coded) → Here at → GivesAt Here c (selector_type c at x)
  selector_at c at x h = gives_either (is_bad x.operand) _ _ none (gives_either (is_ordinal c x.operand) _ _ none (one h))

  record_at : (c : Context) (at : ℕ) (x : Coded) → Here at → GivesAt Here c (record_variable c at x)
  record_at c at x h = gives_either (is_bad x.operand || is_record (kind_of c.scene (operand_type x.operand))) _ _ none (one h)

  -- ** The variable of a FOR and its values

  controls_by_at : (c : Context) (at : ℕ) (e : Entry) (x : Coded) (o : Operand) → Here at → GivesAt Here c (controls_by c at e x o)
  controls_by_at c at e x InError h = none
  controls_by_at c at e x (Variable t) h = gives_either (can_control c.scene e.0.scope (row_meaning e.1)) _ _ none (one h)
  controls_by_at c at e x o h = one h

  controls_at : (c : Context) (at : ℕ) (o : Option Entry) → Here at → GivesAt Here c (controls c at o)
  controls_at c at None h = none
  controls_at c at (Some e) h = let x = entry_coded c (Some e) in controls_by_at c at e x x.operand h

  control_at : (c : Context) (withs : List Place) (i : Ident) → Here i.at → GivesAt Here c (control_variable c withs i)
  control_at c withs i h =
      gives_either (is_some (with_field c.scene 0 withs i.name)) _ _ (one h)
      (join (use_at Here c None i.name i.at h) (controls_at c i.at (use_of c None i.name i.at).value h))

  bound_at : (c : Context) (x : Coded) (at : ℕ) (v : Coded) → Here at → GivesAt Here c (bound_value c x at v)
  bound_at c x at v h = gives_either (is_bad x.operand) _ _ none (assigned_at Here c (operand_type x.operand) at not_assignable v h)

  by_constant_at : (c : Context) (at : ℕ) (o : Option Operand) → Here at → GivesAt Here c (by_constant c at o)
  by_constant_at c at None h = none
  by_constant_at c at (Some (Constant t v)) h =
      gives_either (not (is_number_type (base_of c.scene t))) _ _ (one h) (gives_either (is_zero v) _ _ (one h) none)
  by_constant_at c at (Some o) h = one h

  by_at : (o : Option Expr) (s : Stand) → ExprOptionHas (Stands Here) o → GivesAt Here s.context (by_of s o)
  by_at None s h = none
  by_at (Some e) s h = join (constant_at Here e s.context h) (by_constant_at s.context (expr_at e) (constant_of s.context e).value (first_token Here e h))

  -- ** RETURN and EXIT

  return_alone_at : (c : Context) (at : ℕ) (o : Option Place) → Here at → GivesAt Here c (return_alone c at o)
  return_alone_at c at None h = none
  return_alone_at c at (Some t) h = one h

  return_value_at : (c : Context) (at : ℕ) (o : Option Place) (x_at : ℕ) (x : Coded) → Here at → Here x_at → GivesAt Here c (return_value c at o x_at x)
  return_value_at c at None x_at x h k = one h
  return_value_at c at (Some t) x_at x h k = join (assigned_at Here c t x_at not_assignable x k) none

  return_at : (o : Option Expr) (s : Stand) (at : ℕ) → Here at → ExprOptionHas (Stands Here) o → GivesAt Here s.context (return_of s at o)
  return_at None s at k h = return_alone_at s.context at s.result k
  return_at (Some e) s at k h =
      join (value_at Here e s.context s.withs h) (return_value_at s.context at s.result (expr_at e) (value_of s e).value k (first_token Here e h))

  exit_at : (s : Stand) (at : ℕ) → Here at → GivesAt Here s.context (exit_of s at)
  exit_at s at h = gives_either s.looped _ _ none (one h)

  -- ** Statements

  mutual
    statement_at : (x : Statement) (s : Stand) → StatementHas (Stands Here) x → GivesAt Here s.context (statement_flow s x)
    statement_at (statement at form) s h = form_at form s at h.0 h.1

    form_at : (form : StmtForm) (s : Stand) (at : ℕ) → Here at → StatementFormHas (Stands Here) form → GivesAt Here s.context (form_flow s at form)
    form_at (assign_form d e) s at k h =
        let to = (variable s d).value in
        let x = (value_of s e).value in
        join (variable_at d s h.0)
        (join (value_at Here e s.context s.withs h.1) (join (assignment_at s.context to (expr_at e) x (first_token Here e h.1)) none))
    form_at (call_statement d args) s at k h = join (call_alone_at Here d args s.context s.withs h.0 h.1) none
    form_at (if_form arms other) s at k h = join (if_arms_at arms s h.0) (join (statements_at other s h.1) none)
    form_at (loop_form body) s at k h = join (statements_at body (in_loop s) h) none
    form_at exit_form s at k h = exit_at s at k
    form_at (case_form e arms other) s at k h =
        let x = (value_of s e).value in
        let typ = (selector_type s.context (expr_at e) x).value in
        join (value_at Here e s.context s.withs h.0)
        (join (selector_at s.context (expr_at e) x (first_token Here e h.0))
        (join (case_arms_at arms s typ [] h.1) (join (else_at other s h.2) none)))
    form_at (while_form e body) s at k h = join (test_at e s h.0) (join (statements_at body s h.1) none)
    form_at (repeat_form body e) s at k h = join (statements_at body s h.0) (join (test_at e s h.1) none)
    form_at (for_form i first last by body) s at k h =
        let c = s.context in
        let x = (control_variable c s.withs i).value in
        let f = (value_of s first).value in
        let l = (value_of s last).value in
        join (control_at c s.withs i h.0)
        (join (value_at Here first c s.withs h.1)
        (join (bound_at c x (expr_at first) f (first_token Here first h.1))
        (join (value_at Here last c s.withs h.2)
        (join (bound_at c x (expr_at last) l (first_token Here last h.2)) (join (by_at by s h.3) (join (statements_at body s h.4) none))))))
    form_at (with_form d body) s at k h =
        let v = (variable s d).value in
        let x = (record_variable s.context (designator_at d) v).value in
        join (variable_at d s h.0)
        (join (record_at s.context (designator_at d) v (first_stand Here d h.0))
        (join (subst (λ (c : Context). GivesAt Here c (flow_of (within s x) body)) (same_context (is_bad x.operand) s (record s { withs = operand_type x.operand ∷ s.withs }) refl) (statements_at body (within s x) h.1)) none))
    form_at (return_form e) s at k h = join (return_at e s at k h) none
    form_at empty_form s at k h = none

    pub statements_at : (ss : Statements) (s : Stand) → StatementsHave (Stands Here) ss → GivesAt Here s.context (flow_of s ss)
    statements_at no_statements s h = none
    statements_at (more_statements x ss) s h = join (statement_at x s h.0) (join (statements_at ss s h.1) none)

    if_arms_at : (arms : IfArms) (s : Stand) → IfArmsHave (Stands Here) arms → GivesAt Here s.context (arms_flow s arms)
    if_arms_at no_if_arms s h = none
    if_arms_at (more_if_arms a arms) s h = join (if_arm_at a s h.0) (join (if_arms_at arms s h.1) none)

    if_arm_at : (a : IfArm) (s : Stand) → IfArmHas (Stands Here) a → GivesAt Here s.context (arm_flow s a)
    if_arm_at (if_arm e body) s h = join (test_at e s h.0) (join (statements_at body s h.1) none)

    case_arms_at : (arms : CaseArms) (s : Stand) (typ : Place) (covered : List Range) → CaseArmsHave (Stands Here) arms → GivesAt Here s.context (cases_flow s typ covered arms)
    case_arms_at no_case_arms s typ covered h = none
    case_arms_at (more_case_arms a arms) s typ covered h =
        join (case_arm_at a s typ covered h.0) (join (case_arms_at arms s typ (case_flow s typ covered a).value.covered h.1) none)

    case_arm_at : (a : CaseArm) (s : Stand) (typ : Place) (covered : List Range) → CaseArmHas (Stands Here) a → GivesAt Here s.context (case_flow s typ covered a)
    case_arm_at (case_arm labels body) s typ covered h =
        join (labels_at Here labels s.context typ covered h.0) (join (statements_at body s h.1) none)

    else_at : (other : CaseElse) (s : Stand) → CaseElseHas (Stands Here) other → GivesAt Here s.context (else_flow s other)
    else_at no_case_else s h = none
    else_at (case_else body) s h = statements_at body s h

-- Each return of a block takes what its procedure gives: one operand in a function, else none.
use Rattle.std.specs.Prelude.{◌≡◌, refl, ℕ, ◌==◌, Bool, true, false, ℤ, List, [], ◌∷◌, if◌then◌else◌, Option, Some, None}
use Rattle.std.proofs.Common.{ap, subst, sym}
use Rattle.code_form.specs.Heights.{Callees, Step, step_among}
use Rattle.code_form.specs.declared.instr.Instr.TheVariants.{Call, CallX, Return, Trap}
use Rattle.code_form.specs.declared.instr.Instr.{Instr}
use Rattle.m2_base.specs.Gives.{gives}
use Rattle.m2_base.specs.Standard.{broken}
use Rattle.m2_base.specs.Statics.CaseLabels.{LabelTest, labels_of}
use Rattle.m2_base.specs.Statics.Contexts.{Context, Source, refuse}
use Rattle.m2_base.specs.Statics.Layouts.{layout_of}
use Rattle.m2_base.specs.Statics.Diagnostics.{exit_outside_loop, not_assignable, result_not_scalar}
use Rattle.m2_base.specs.Statics.Effects.{BlockEffects}
use Rattle.m2_base.specs.Statics.Operands.{is_bad, operand_type}
use Rattle.m2_base.specs.Statics.ProcedureTypes.{is_structured, result_type}
use Rattle.m2_base.specs.Statics.ProcedureRows.{result_cells}
use Rattle.m2_base.specs.Statics.TypeNames.{type_of_qual}
use Rattle.m2_base.specs.Statics.Ranges.{Range}
use Rattle.m2_base.specs.Statics.BlockRows.{declare_block}
use Rattle.m2_base.specs.Statics.Blocks.{BlockTree}
use Rattle.m2_base.specs.Statics.UnitNotes.{complete_context}
use Rattle.m2_base.specs.declared.rows.Row.{Row}
use Rattle.m2_base.specs.Trees.{CaseArm, CaseArms, CaseElse, Expr, Heading, IfArm, IfArms, Statement, Statements, StmtForm, Stream, assign_form, call_statement, case_arm, case_else, case_form, designator_at, empty_form, exit_form, expr_at, for_form, if_arm, if_form, loop_form, more_case_arms, more_if_arms, more_statements, no_case_arms, no_case_else, no_if_arms, no_statements, repeat_form, return_form, statement, while_form, with_form}
use Rattle.m2_base.specs.declared.rows.Place.{Place}
use Rattle.m2_base.specs.declared.trees.Qual.{Qual}
use Rattle.block_code.proofs.NoReturns.{Quiet, Stays, Tame, assigned-quiet, call_alone-quiet, fitted-stays, goes_on, none-stays}
use Rattle.block_code.proofs.ValueHeights.{both_ways}
use Rattle.block_code.specs.Coded.{Coded}
use Rattle.block_code.specs.Expressions.{call_alone}
use Rattle.block_code.specs.Heights.{needs_callee}
use Rattle.block_code.specs.Fitting.{fitted_code}
use Rattle.block_code.specs.Parts.{Part, call, none, plain, ◌⨟◌}
use Rattle.block_code.specs.Values.{assigned_to}
use Rattle.block_code.specs.Assignments.{assignment, code_unless_bad}
use Rattle.block_code.specs.BlockCode.{block_code, bound_result, ending, first_spot, prologue, result_by, results_of, run_of, stand_of}
use Rattle.block_code.specs.Cases.{labels_code, selector_code, selector_type}
use Rattle.block_code.specs.Counting.{bound_value, control_variable, for_first, for_last, for_more, for_step, for_test, has_code, or_one}
use Rattle.block_code.specs.Flows.{Flow, counted, exit, in_with, nothing, straight, with_cell, ◌⨾◌}
use Rattle.block_code.specs.Places.{CallsAgree, ProceduresAgree, block_steps, calls_procedure}
use Rattle.block_code.specs.Returns.{return_alone, return_code, return_value}
use Rattle.block_code.specs.Statements.{Arm, Stand, arm_before, arm_flow, arms_flow, by_of, case_flow, cases_flow, else_flow, else_of, flow_of, flow_or_nothing, for_flow, form_flow, in_loop, return_of, statement_flow, test, value_at, variable, within}
use Rattle.block_code.specs.Withs.{in_with_of, record_variable, with_code}
use Rattle.block_code.proofs.EachStep.{Each, EachIn, EachOf, OfJumps, each-append, exit-each, nothing-each, straight-each, then-each, with_cell-each, in_with-each, when-each, choose-each, while-each, until-each, for_ever-each, counted-each}
use Rattle.block_code.proofs.ReturnHeights.{assignment-stays, bound-quiet, control-quiet, first-stays, for_more-stays, for_step-stays, for_test-stays, labels-stay, last-stays, prologue-stays, quiet_value, quiet_variable, record-quiet, selector-stays, tests-stay, with-stays}

-- a return of so many operands
abbrev pub return_with : ℕ → Step
return_with n = record { instr = Return; takes = n; leaves = 0 }

-- where the step returns, it returns so many operands
abbrev pub ReturnsOnly : ℕ → Step → Type 0
ReturnsOnly n s = goes_on s.instr ≡ false → s ≡ return_with n

-- what is returned where this is the result
abbrev pub returned_cells : Option Place → ℕ
returned_cells None = 0
returned_cells (Some t) = 1

clash : {A : Type 0} (b : Bool) → b ≡ true → b ≡ false → A
clash true e f = absurd cc
clash false e f = absurd cc

jumps : (n : ℕ) → OfJumps (ReturnsOnly n)
jumps n = record { always = λ j e. absurd cc; unless = λ j e. absurd cc }

tame-each : (n : ℕ) (ss : List Step) → Tame ss → Each (ReturnsOnly n) ss
tame-each n [] e = tt
tame-each n (s ∷ ss) e = (λ f. clash (goes_on s.instr) e.0.0 f, tame-each n ss e.1)

part-each : (n : ℕ) (p : Part) → Stays p → EachIn (ReturnsOnly n) p
part-each n p f = λ at. tame-each n (p at).code (f at)

quiet-each : (n : ℕ) (p : Part) → Stays p → EachOf (ReturnsOnly n) (straight p)
quiet-each n p f = straight-each (ReturnsOnly n) p (part-each n p f)

-- the flow returns what is returned where this is the result
abbrev Gives : Option Place → Flow → Type 0
Gives r f = EachOf (ReturnsOnly (returned_cells r)) f

-- ---- FOR, RETURN and the arms of IF

for-returns : (r : Option Place) (c : Context) (x first last : Coded) (by : ℤ) (f : Flow) → Quiet x → Quiet first → Quiet last → Gives r f → Gives r (for_flow c x first last by f)
for-returns r c x first last by f qx qf ql g =
    let q : Step → Type 0 = ReturnsOnly (returned_cells r) in
    let n : ℕ = returned_cells r in
    then-each q (straight (for_first c x first)) (with_cell rest) (quiet-each n (for_first c x first) (first-stays c x first qx qf))
    (with_cell-each q rest (λ t.
    then-each q (straight (for_last c t x last)) (turns t) (quiet-each n (for_last c t x last) (last-stays c t x last ql))
    (both_ways (Gives r) (has_code x) (counted (for_test t x by) f (for_more t x by) (for_step c.scene x by)) f
    (counted-each q (jumps n) (for_test t x by) f (for_more t x by) (for_step c.scene x by) (part-each n (for_test t x by) (for_test-stays t x by qx)) g
    (part-each n (for_more t x by) (for_more-stays t x by qx)) (part-each n (for_step c.scene x by) (for_step-stays c.scene x by qx))) g)))
  where
    turns : ℕ → Flow
    turns t = if has_code x then counted (for_test t x by) f (for_more t x by) (for_step c.scene x by) else f

    rest : ℕ → Flow
    rest t = straight (for_last c t x last) ⨾ turns t

alone-returns : (c : Context) (at : ℕ) (r : Option Place) → Gives r (straight (return_alone c at r).value)
alone-returns c at None = λ s o. (λ e. refl, tt)
alone-returns c at (Some t) = λ s o. tt

value-returns : (c : Context) (at : ℕ) (r : Option Place) (x_at : ℕ) (x : Coded) → Quiet x → Gives r (straight (return_value c at r x_at x).value)
value-returns c at None x_at x g = λ s o. tt
value-returns c at (Some t) x_at x g =
    let y : Coded = (assigned_to c t x_at not_assignable x).value in
    let p : Part = fitted_code c t y in
    both_ways (λ w. Gives (Some t) (straight w)) (is_bad y.operand) none (p ⨟ call Return 1 0) (λ s o. tt)
    (λ s o. each-append (ReturnsOnly 1) (p s).code (return_with 1 ∷ [])
    (tame-each 1 (p s).code (fitted-stays c t y (assigned-quiet c t x_at not_assignable x g) s)) (λ e. refl, tt))

return-returns : (s : Stand) (at : ℕ) (e : Option Expr) → Gives s.result (straight (return_of s at e).value)
return-returns s at None = alone-returns s.context at s.result
return-returns s at (Some e) = value-returns s.context at s.result (expr_at e) (value_at s e).value (quiet_value s e)

abbrev GivesAny : Option Place → Option Flow → Type 0
GivesAny r None = Unit {0}
GivesAny r (Some f) = Gives r f

or_nothing-returns : (r : Option Place) (f : Option Flow) → GivesAny r f → Gives r (flow_or_nothing f)
or_nothing-returns r None g = λ at o. tt
or_nothing-returns r (Some f) g = g

arm-returns : (r : Option Place) (t : Part) (f : Flow) (other : Option Flow) → Stays t → Gives r f → GivesAny r other → GivesAny r (arm_before t f other)
arm-returns r t f None q g h =
    when-each (ReturnsOnly (returned_cells r)) (jumps (returned_cells r)) t f (part-each (returned_cells r) t q) g
arm-returns r t f (Some other) q g h =
    choose-each (ReturnsOnly (returned_cells r)) (jumps (returned_cells r)) t f other (part-each (returned_cells r) t q) g h

else-returns : (r : Option Place) (ss : Statements) (f : Flow) → Gives r f → GivesAny r (else_of ss f)
else-returns r no_statements f g = tt
else-returns r (more_statements s ss) f g = g

-- a WITH changes nothing of the result
within-result : (s : Stand) (x : Coded) → (within s x).result ≡ s.result
within-result s x = both_ways (λ (w : Stand). w.result ≡ s.result) (is_bad x.operand) s (record s { withs = operand_type x.operand ∷ s.withs }) refl refl

-- ---- the induction

mutual
  pub statement-returns : (s : Stand) (st : Statement) → Gives s.result (statement_flow s st).value
  statement-returns s (statement at form) = form-returns s at form

  pub form-returns : (s : Stand) (at : ℕ) (f : StmtForm) → Gives s.result (form_flow s at f).value
  form-returns s at (assign_form d e) =
      quiet-each (returned_cells s.result) (assignment s.context (variable s d).value (expr_at e) (value_at s e).value).value
      (assignment-stays s.context (variable s d).value (expr_at e) (value_at s e).value (quiet_variable s d) (quiet_value s e))
  form-returns s at (call_statement d args) =
      let x : Coded = (call_alone s.context s.withs d args).value in
      let g : Quiet x = call_alone-quiet s.context s.withs d args in
      quiet-each (returned_cells s.result) (code_unless_bad x) (both_ways Stays (is_bad x.operand) none x.code none-stays g.0)
  form-returns s at (if_form arms other) =
      or_nothing-returns s.result ((arms_flow s arms).value (else_of other (flow_of s other).value))
      (arms-return s arms (else_of other (flow_of s other).value) (else-returns s.result other (flow_of s other).value (all-return s other)))
  form-returns s at (loop_form body) =
      for_ever-each (ReturnsOnly (returned_cells s.result)) (jumps (returned_cells s.result)) (flow_of (in_loop s) body).value (all-return (in_loop s) body)
  form-returns s at exit_form =
      let q : Step → Type 0 = ReturnsOnly (returned_cells s.result) in
      both_ways (λ r. EachOf q r.value) s.looped (gives exit) (refuse s.context at exit_outside_loop nothing) (exit-each q (jumps (returned_cells s.result))) (nothing-each q)
  form-returns s at (case_form e arms other) =
      let q : Step → Type 0 = ReturnsOnly (returned_cells s.result) in
      let x : Coded = (value_at s e).value in
      let typ : Place = (selector_type s.context (expr_at e) x).value in
      let o : Flow = (else_flow s other).value in
      with_cell-each q (λ t. straight (selector_code s.context t x) ⨾ (cases_flow s typ [] arms).value t o)
      (λ t. then-each q (straight (selector_code s.context t x)) ((cases_flow s typ [] arms).value t o)
      (quiet-each (returned_cells s.result) (selector_code s.context t x) (selector-stays s.context t x (quiet_value s e)))
      (cases-return s typ [] arms t o (case_else-returns s other)))
  form-returns s at (while_form e body) =
      let n : ℕ = returned_cells s.result in
      while-each (ReturnsOnly n) (jumps n) (test s e).value (flow_of s body).value (part-each n (test s e).value (tests-stay s e)) (all-return s body)
  form-returns s at (repeat_form body e) =
      let n : ℕ = returned_cells s.result in
      until-each (ReturnsOnly n) (jumps n) (flow_of s body).value (test s e).value (all-return s body) (part-each n (test s e).value (tests-stay s e))
  form-returns s at (for_form i first last by body) =
      let x : Coded = (control_variable s.context s.withs i).value in
      for-returns s.result s.context x (bound_value s.context x (expr_at first) (value_at s first).value).value
      (bound_value s.context x (expr_at last) (value_at s last).value).value (or_one (by_of s by).value) (flow_of s body).value
      (control-quiet s.context s.withs i) (bound-quiet s.context x (expr_at first) (value_at s first).value (quiet_value s first))
      (bound-quiet s.context x (expr_at last) (value_at s last).value (quiet_value s last)) (all-return s body)
  form-returns s at (with_form d body) =
      let n : ℕ = returned_cells s.result in
      let q : Step → Type 0 = ReturnsOnly n in
      let v : Coded = (variable s d).value in
      let x : Coded = (record_variable s.context (designator_at d) v).value in
      let b : Flow = (flow_of (within s x) body).value in
      let g : EachOf q b = subst (λ (r : Option Place). Gives r b) (within-result s x) (all-return (within s x) body) in
      with_cell-each q (λ t. straight (with_code t x) ⨾ in_with_of x t b)
      (λ t. then-each q (straight (with_code t x)) (in_with_of x t b)
      (quiet-each n (with_code t x) (with-stays t x (record-quiet s.context (designator_at d) v (quiet_variable s d))))
      (both_ways (EachOf q) (is_bad x.operand) b (in_with t b) g (in_with-each q t b g)))
  form-returns s at (return_form e) = return-returns s at e
  form-returns s at empty_form = nothing-each (ReturnsOnly (returned_cells s.result))

  pub all-return : (s : Stand) (ss : Statements) → Gives s.result (flow_of s ss).value
  all-return s no_statements = nothing-each (ReturnsOnly (returned_cells s.result))
  all-return s (more_statements st ss) =
      then-each (ReturnsOnly (returned_cells s.result)) (statement_flow s st).value (flow_of s ss).value (statement-returns s st) (all-return s ss)

  pub arms-return : (s : Stand) (as' : IfArms) (other : Option Flow) → GivesAny s.result other → GivesAny s.result ((arms_flow s as').value other)
  arms-return s no_if_arms other g = g
  arms-return s (more_if_arms a others) other g = arm_of-returns s a ((arms_flow s others).value other) (arms-return s others other g)

  pub arm_of-returns : (s : Stand) (a : IfArm) (other : Option Flow) → GivesAny s.result other → GivesAny s.result ((arm_flow s a).value other)
  arm_of-returns s (if_arm e body) other g = arm-returns s.result (test s e).value (flow_of s body).value other (tests-stay s e) (all-return s body) g

  pub cases-return : (s : Stand) (typ : Place) (covered : List Range) (as' : CaseArms) (t : ℕ) (other : Flow) → Gives s.result other
      → Gives s.result ((cases_flow s typ covered as').value t other)
  cases-return s typ covered no_case_arms t other g = g
  cases-return s typ covered (more_case_arms a others) t other g =
      let first : Arm = (case_flow s typ covered a).value in
      case-returns s typ covered a t ((cases_flow s typ first.covered others).value t other) (cases-return s typ first.covered others t other g)

  pub case-returns : (s : Stand) (typ : Place) (covered : List Range) (a : CaseArm) (t : ℕ) (other : Flow) → Gives s.result other
      → Gives s.result ((case_flow s typ covered a).value.flow t other)
  case-returns s typ covered (case_arm labels body) t other g =
      let n : ℕ = returned_cells s.result in
      let tests : List LabelTest = (labels_of s.context typ covered labels).value.tests in
      choose-each (ReturnsOnly n) (jumps n) (labels_code t tests) (flow_of s body).value other (part-each n (labels_code t tests) (labels-stay t tests)) (all-return s body) g

  pub case_else-returns : (s : Stand) (e : CaseElse) → Gives s.result (else_flow s e).value
  case_else-returns s no_case_else = λ a o. (λ e. absurd cc, tt)
  case_else-returns s (case_else body) = all-return s body

-- ---- a block

-- a heading has a result where its procedure has one, in error or not
bound-cells : (c : Context) (h : Option Heading) → returned_cells (bound_result c h) ≡ results_of h
bound-cells c None = refl
bound-cells c (Some h) = typed h.result
  where
    typed : (r : Option Qual) → returned_cells (result_type c r).value ≡ result_cells r
    typed None = refl
    typed (Some q) =
        let t : Place = (type_of_qual c q).value in
        both_ways (λ r. returned_cells r.value ≡ 1) (is_structured c t) (refuse c q.first.at result_not_scalar (Some broken)) (gives (Some t)) refl refl

same-result : (c : Context) (tree : Stream) → returned_cells (result_by c tree) ≡ results_of tree.heading
same-result c tree = bound-cells (record c { layout = layout_of tree; item = Some 0 }) tree.heading

ending-returns : (h : Option Heading) → EachOf (ReturnsOnly (results_of h)) (straight (ending h))
ending-returns None = λ at o. (λ e. refl, tt)
ending-returns (Some h) = ends h.result
  where
    ends : (r : Option Qual) → EachOf (ReturnsOnly (result_cells r)) (straight (if result_cells r == 0 then return_code else plain (Trap 7 ∷ [])))
    ends None = λ at o. (λ e. refl, tt)
    ends (Some q) = λ at o. (λ e. absurd cc, tt)

-- each return of a block's code takes the result of its heading
pub block-returns : (c : Context) (b : BlockTree) (e : BlockEffects)
    → Each (ReturnsOnly (results_of b.tree.heading)) ((run_of b e (flow_of (stand_of c b) b.tree.body).value).code 0)
block-returns c b e =
    let n : ℕ = results_of b.tree.heading in
    let q : Step → Type 0 = ReturnsOnly n in
    let body : Flow = (flow_of (stand_of c b) b.tree.body).value in
    let last : Flow = straight (ending b.tree.heading) in
    let g : EachOf q body = subst (λ (m : ℕ). EachOf (ReturnsOnly m) body) (same-result c b.tree) (all-return (stand_of c b) b.tree.body) in
    then-each q (straight (prologue e.prologue)) (body ⨾ last) (quiet-each n (prologue e.prologue) (prologue-stays e.prologue))
    (then-each q body last g (ending-returns b.tree.heading)) (first_spot b.tree.kind e) 0

-- ---- the calls

-- what asks the callees calls a procedure by its number, or returns
by_kind : {A : Type 0} (i : Instr) → needs_callee i ≡ true → (calls_procedure i ≡ true → A) → (goes_on i ≡ false → A) → A
by_kind (Call p h) e f g = f refl
by_kind (CallX m k) e f g = f refl
by_kind Return e f g = g refl
by_kind i e f g = absurd cc

return-agrees : (c : Callees) (n : ℕ) (s : Step) → c.result ≡ n → s ≡ return_with n → step_among c s.instr ≡ s
return-agrees c n s e f = subst (λ (t : Step). step_among c t.instr ≡ t) (sym f) (ap return_with e)

with-returns : (c : Callees) (n : ℕ) (ss : List Step) → c.result ≡ n → Each (ReturnsOnly n) ss → ProceduresAgree c ss → CallsAgree c ss
with-returns c n [] e f g = tt
with-returns c n (s ∷ ss) e f g = (λ a. by_kind s.instr a g.0 (λ r. return-agrees c n s e (f.0 r)), with-returns c n ss e f.1 g.1)

-- where the calls of procedures agree with the callees, so do the returns
pub returns-agree : (source : Source) (before all : List (List Row)) (b : BlockTree) (c : Callees) → c.result ≡ (block_code source before all b).result
    → ProceduresAgree c (block_steps source before all b) → CallsAgree c (block_steps source before all b)
returns-agree source before all b c e g =
    with-returns c (results_of b.tree.heading) (block_steps source before all b) e
    (block-returns (complete_context source all b.block) b (declare_block source before b).value) g

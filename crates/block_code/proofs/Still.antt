-- Statements that no LOOP is round have no EXIT that leads out of them: their code is the same whatever stands behind.
use Rattle.std.specs.Prelude.{◌≡◌, refl, ℕ, ◌+◌, Bool, false, ℤ, pos, List, [], ◌∷◌, ◌++◌, if◌then◌else◌, Option, Some, None}
use Rattle.std.proofs.Common.{sym, ap, subst, ◌∙◌}
use Rattle.code_form.specs.Heights.{Step}
use Rattle.code_form.specs.declared.instr.Instr.TheVariants.{Jump, JumpFalse}
use Rattle.m2_base.specs.Gives.{gives}
use Rattle.m2_base.specs.declared.rows.Place.{Place}
use Rattle.m2_base.specs.Statics.CaseLabels.{labels_of}
use Rattle.m2_base.specs.Statics.Cells.{capped}
use Rattle.m2_base.specs.Statics.Contexts.{Context, refuse}
use Rattle.m2_base.specs.Statics.Diagnostics.{exit_outside_loop}
use Rattle.m2_base.specs.Statics.Operands.{is_bad, operand_type}
use Rattle.m2_base.specs.Statics.Ranges.{Range}
use Rattle.m2_base.specs.Trees.{CaseArm, CaseArms, CaseElse, IfArm, IfArms, Statement, Statements, StmtForm, assign_form, call_statement, case_arm, case_else, case_form, designator_at, empty_form, exit_form, expr_at, for_form, if_arm, if_form, loop_form, more_case_arms, more_if_arms, more_statements, no_case_arms, no_case_else, no_if_arms, no_statements, repeat_form, return_form, statement, while_form, with_form}
use Rattle.block_code.proofs.ValueHeights.{both_ways}
use Rattle.block_code.specs.Coded.{Coded}
use Rattle.block_code.specs.Parts.{Part, Spot, plain_step, steps_size}
use Rattle.block_code.specs.Cases.{labels_code, selector_code, selector_type}
use Rattle.block_code.specs.Counting.{bound_value, control_variable, for_first, for_last, for_more, for_step, for_test, has_code, or_one}
use Rattle.block_code.specs.Flows.{Flow, back, choose, counted, exit, in_with, jump_size, nothing, straight, until_true, when, while_true, with_cell, ◌⨾◌}
use Rattle.block_code.specs.Statements.{Arm, Stand, arm_before, arm_flow, arms_flow, by_of, case_flow, cases_flow, else_flow, else_of, flow_of, flow_or_nothing, for_flow, form_flow, statement_flow, test, value_at, variable, within}
use Rattle.block_code.specs.Withs.{in_with_of, record_variable, with_code}

-- the same code whatever stands behind
abbrev pub Still : Flow → Type 0
Still f = (at : Spot) (o o' : ℕ) → (f at).code o ≡ (f at).code o'

straight-still : (p : Part) → Still (straight p)
straight-still p = λ at o o'. refl

then-still : (a b : Flow) → Still a → Still b → Still (a ⨾ b)
then-still a b f g = λ at o o'.
    let p : ℕ → List Step = (a at).code in
    let q : ℕ → List Step = (b (a at).next).code in
    ap (λ (d : List Step). p (o + steps_size d) ++ d) (g (a at).next o o')
    ∙ ap (λ (c : List Step). c ++ q o') (f at (o + steps_size (q o')) (o' + steps_size (q o')))

with_cell-still : (f : ℕ → Flow) → ((t : ℕ) → Still (f t)) → Still (with_cell f)
with_cell-still f g = λ at o o'. g at.cell (record at { cell = capped (at.cell + 1) }) o o'

in_with-still : (t : ℕ) (f : Flow) → Still f → Still (in_with t f)
in_with-still t f g = λ at o o'. g (record at { withs = t ∷ at.withs }) o o'

when-still : (t : Part) (f : Flow) → Still f → Still (when t f)
when-still t f g = λ at o o'.
    ap (λ (d : List Step). (t at).code ++ (plain_step (JumpFalse (pos (steps_size d))) ∷ d)) (g (t at).next o o')

choose-still : (t : Part) (f other : Flow) → Still f → Still other → Still (choose t f other)
choose-still t f other g h = λ at o o'.
    let inner : ℕ → List Step = (f (t at).next).code in
    let behind : ℕ → List Step = (other (f (t at).next).next).code in
    let all : List Step → List Step → List Step = λ c d. (t at).code ++ (plain_step (JumpFalse (pos (steps_size c + jump_size)))
    ∷ (c ++ (plain_step (Jump (pos (steps_size d))) ∷ d))) in
    ap (λ (d : List Step). all (inner (o + steps_size d + jump_size)) d) (h (f (t at).next).next o o')
    ∙ ap (λ (c : List Step). all c (behind o')) (g (t at).next (o + steps_size (behind o') + jump_size) (o' + steps_size (behind o') + jump_size))

while-still : (t : Part) (f : Flow) → Still f → Still (while_true t f)
while-still t f g = λ at o o'.
    ap (λ (d : List Step). (t at).code ++ (plain_step (JumpFalse (pos (steps_size d + jump_size)))
    ∷ (d ++ (back Jump (steps_size (t at).code + jump_size + steps_size d) ∷ [])))) (g (t at).next (o + jump_size) (o' + jump_size))

until-still : (f : Flow) (t : Part) → Still f → Still (until_true f t)
until-still f t g = λ at o o'.
    let test : List Step = (t (f at).next).code in
    ap (λ (d : List Step). d ++ (test ++ (back JumpFalse (steps_size d + steps_size test) ∷ [])))
    (g at (o + steps_size test + jump_size) (o' + steps_size test + jump_size))

counted-still : (first : Part) (f : Flow) (again step : Part) → Still f → Still (counted first f again step)
counted-still first f again step g = λ at o o'.
    let s1 : Spot = (first at).next in
    let s2 : Spot = (f s1).next in
    let a : List Step = (again s2).code in
    let s : List Step = (step (again s2).next).code in
    let behind : ℕ = steps_size a + jump_size + steps_size s + jump_size in
    ap (λ (d : List Step). (first at).code ++ (plain_step (JumpFalse (pos (steps_size d + behind))) ∷ (d
    ++ (a ++ (plain_step (JumpFalse (pos (steps_size s + jump_size))) ∷ (s
    ++ (back Jump (steps_size d + steps_size a + jump_size + steps_size s) ∷ []))))))) (g s1 (o + behind) (o' + behind))

for-still : (c : Context) (x first last : Coded) (by : ℤ) (f : Flow) → Still f → Still (for_flow c x first last by f)
for-still c x first last by f g =
    then-still (straight (for_first c x first)) (with_cell rest) (straight-still (for_first c x first))
    (with_cell-still rest (λ t.
    then-still (straight (for_last c t x last)) (turns t) (straight-still (for_last c t x last))
    (both_ways Still (has_code x) (counted (for_test t x by) f (for_more t x by) (for_step c.scene x by)) f
    (counted-still (for_test t x by) f (for_more t x by) (for_step c.scene x by) g) g)))
  where
    turns : ℕ → Flow
    turns t = if has_code x then counted (for_test t x by) f (for_more t x by) (for_step c.scene x by) else f

    rest : ℕ → Flow
    rest t = straight (for_last c t x last) ⨾ turns t

abbrev StillAny : Option Flow → Type 0
StillAny None = Unit {0}
StillAny (Some f) = Still f

or_nothing-still : (f : Option Flow) → StillAny f → Still (flow_or_nothing f)
or_nothing-still None g = λ at o o'. refl
or_nothing-still (Some f) g = g

arm-still : (t : Part) (f : Flow) (other : Option Flow) → Still f → StillAny other → StillAny (arm_before t f other)
arm-still t f None g h = when-still t f g
arm-still t f (Some other) g h = choose-still t f other g h

else-still : (ss : Statements) (f : Flow) → Still f → StillAny (else_of ss f)
else-still no_statements f g = tt
else-still (more_statements s ss) f g = g

within-looped : (s : Stand) (x : Coded) → s.looped ≡ false → (within s x).looped ≡ false
within-looped s x e = both_ways (λ r. r.looped ≡ false) (is_bad x.operand) s (record s { withs = operand_type x.operand ∷ s.withs }) e e

mutual
  pub statement-still : (s : Stand) (st : Statement) → s.looped ≡ false → Still (statement_flow s st).value
  statement-still s (statement at form) e = form-still s at form e

  pub form-still : (s : Stand) (at : ℕ) (f : StmtForm) → s.looped ≡ false → Still (form_flow s at f).value
  form-still s at (assign_form d x) e = λ at o o'. refl
  form-still s at (call_statement d args) e = λ at o o'. refl
  form-still s at (if_form arms other) e =
      or_nothing-still ((arms_flow s arms).value (else_of other (flow_of s other).value))
      (arms-still s arms (else_of other (flow_of s other).value) e (else-still other (flow_of s other).value (all-still s other e)))
  form-still s at (loop_form body) e = λ at o o'. refl
  form-still s at exit_form e =
      let P : Bool → Type 0 = λ b. Still (if b then gives exit else refuse s.context at exit_outside_loop nothing).value in
      subst P (sym e) (λ at o o'. refl)
  form-still s at (case_form x arms other) e =
      let v : Coded = (value_at s x).value in
      let typ : Place = (selector_type s.context (expr_at x) v).value in
      let o : Flow = (else_flow s other).value in
      with_cell-still (λ t. straight (selector_code s.context t v) ⨾ (cases_flow s typ [] arms).value t o)
      (λ t. then-still (straight (selector_code s.context t v)) ((cases_flow s typ [] arms).value t o)
      (straight-still (selector_code s.context t v)) (cases-still s typ [] arms t o e (case_else-still s other e)))
  form-still s at (while_form x body) e = while-still (test s x).value (flow_of s body).value (all-still s body e)
  form-still s at (repeat_form body x) e = until-still (flow_of s body).value (test s x).value (all-still s body e)
  form-still s at (for_form i first last by body) e =
      let x : Coded = (control_variable s.context s.withs i).value in
      for-still s.context x (bound_value s.context x (expr_at first) (value_at s first).value).value
      (bound_value s.context x (expr_at last) (value_at s last).value).value (or_one (by_of s by).value) (flow_of s body).value (all-still s body e)
  form-still s at (with_form d body) e =
      let v : Coded = (variable s d).value in
      let x : Coded = (record_variable s.context (designator_at d) v).value in
      let b : Flow = (flow_of (within s x) body).value in
      let g : Still b = all-still (within s x) body (within-looped s x e) in
      with_cell-still (λ t. straight (with_code t x) ⨾ in_with_of x t b)
      (λ t. then-still (straight (with_code t x)) (in_with_of x t b) (straight-still (with_code t x))
      (both_ways Still (is_bad x.operand) b (in_with t b) g (in_with-still t b g)))
  form-still s at (return_form x) e = λ at o o'. refl
  form-still s at empty_form e = λ at o o'. refl

  pub all-still : (s : Stand) (ss : Statements) → s.looped ≡ false → Still (flow_of s ss).value
  all-still s no_statements e = λ at o o'. refl
  all-still s (more_statements st ss) e =
      then-still (statement_flow s st).value (flow_of s ss).value (statement-still s st e) (all-still s ss e)

  pub arms-still : (s : Stand) (as' : IfArms) (other : Option Flow) → s.looped ≡ false → StillAny other → StillAny ((arms_flow s as').value other)
  arms-still s no_if_arms other e g = g
  arms-still s (more_if_arms a others) other e g = arm_of-still s a ((arms_flow s others).value other) e (arms-still s others other e g)

  pub arm_of-still : (s : Stand) (a : IfArm) (other : Option Flow) → s.looped ≡ false → StillAny other → StillAny ((arm_flow s a).value other)
  arm_of-still s (if_arm x body) other e g = arm-still (test s x).value (flow_of s body).value other (all-still s body e) g

  pub cases-still : (s : Stand) (typ : Place) (covered : List Range) (as' : CaseArms) (t : ℕ) (other : Flow) → s.looped ≡ false → Still other
      → Still ((cases_flow s typ covered as').value t other)
  cases-still s typ covered no_case_arms t other e g = g
  cases-still s typ covered (more_case_arms a others) t other e g =
      let first : Arm = (case_flow s typ covered a).value in
      case-still s typ covered a t ((cases_flow s typ first.covered others).value t other) e (cases-still s typ first.covered others t other e g)

  pub case-still : (s : Stand) (typ : Place) (covered : List Range) (a : CaseArm) (t : ℕ) (other : Flow) → s.looped ≡ false → Still other
      → Still ((case_flow s typ covered a).value.flow t other)
  case-still s typ covered (case_arm labels body) t other e g =
      choose-still (labels_code t (labels_of s.context typ covered labels).value.tests) (flow_of s body).value other (all-still s body e) g

  pub case_else-still : (s : Stand) (x : CaseElse) → s.looped ≡ false → Still (else_flow s x).value
  case_else-still s no_case_else e = λ at o o'. refl
  case_else-still s (case_else body) e = all-still s body e

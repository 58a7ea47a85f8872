-- The law of lengths for statements and blocks: by recursion on the trees.
use Rattle.std.specs.Prelude.{◌≡◌, refl, ℕ, ◌+◌, ◌*◌, ◌≤◌, ◌<◌, ◌^◌, nat_le, true, ℤ, List, [], length, if◌then◌else◌, Option, Some, None}
use Rattle.std.proofs.Common.{arith}
use Rattle.std.proofs.lemmas.Bool.{leb-true}
use Rattle.code_form.specs.Heights.{Step}
use Rattle.m2_base.specs.Gives.{gives}
use Rattle.m2_base.specs.declared.rows.Place.{Place}
use Rattle.m2_base.specs.declared.rows.Row.{Row}
use Rattle.m2_base.specs.Statics.BlockRows.{declare_block}
use Rattle.m2_base.specs.Statics.UnitNotes.{complete_context}
use Rattle.m2_base.specs.Statics.Blocks.{BlockTree}
use Rattle.m2_base.specs.Statics.CaseLabels.{labels_of}
use Rattle.m2_base.specs.Statics.Contexts.{Context, Source, refuse}
use Rattle.m2_base.specs.Statics.Diagnostics.{exit_outside_loop}
use Rattle.m2_base.specs.Statics.Operands.{is_bad}
use Rattle.m2_base.specs.Statics.Ranges.{Range}
use Rattle.m2_base.specs.Trees.{CaseArm, CaseArms, CaseElse, Designator, Expr, IfArm, IfArms, Statement, Statements, StmtForm, assign_form, call_statement, case_arm, case_else, case_form, designator_at, empty_form, exit_form, expr_at, for_form, if_arm, if_form, loop_form, more_case_arms, more_if_arms, more_statements, no_case_arms, no_case_else, no_if_arms, no_statements, repeat_form, return_form, statement, while_form, with_form}
use Rattle.block_code.specs.Coded.{Coded}
use Rattle.block_code.specs.Expressions.{call_alone, designated}
use Rattle.block_code.specs.Parts.{Part, none, steps_size}
use Rattle.block_code.specs.Tokens.{designator_tokens, expr_tokens, exprs_tokens, labels_tokens}
use Rattle.block_code.proofs.FunctionLengths.{variable-roomy}
use Rattle.block_code.proofs.LengthLaw.{call_alone-sized, designated-roomy, value-roomy}
use Rattle.block_code.proofs.Lengths.{Spares, spares-less, spares-short}
use Rattle.block_code.proofs.ValueHeights.{both_ways}
use Rattle.block_code.proofs.ValueLengths.{Roomy, Sized}
use Rattle.block_code.specs.Assignments.{assignment, code_unless_bad}
use Rattle.block_code.specs.BlockCode.{block_code, body_of, run_of, stand_of}
use Rattle.block_code.specs.Cases.{labels_code, no_case, selector_code, selector_type}
use Rattle.block_code.specs.Counting.{bound_value, control_variable, for_first, for_last, for_more, for_step, for_test, has_code, or_one}
use Rattle.block_code.specs.Flows.{Flow, counted, exit, in_with, nothing, straight, with_cell, ◌⨾◌}
use Rattle.block_code.specs.FlowLengths.{IsShortFor}
use Rattle.block_code.specs.Statements.{Arm, Stand, arm_before, arm_flow, arms_flow, by_of, case_flow, cases_flow, else_flow, else_of, flow_of, flow_or_nothing, for_flow, form_flow, in_loop, return_of, statement_flow, test, value_at, variable, within}
use Rattle.block_code.specs.StatementTokens.{block_tokens, case_arm_tokens, case_arms_tokens, else_tokens, if_arm_tokens, if_arms_tokens, option_tokens, statement_tokens, statements_tokens, stmt_form_tokens}
use Rattle.block_code.specs.Withs.{in_with_of, record_variable, with_code}
use Rattle.block_code.proofs.BlockLengths.{below, length-code, run-short}
use Rattle.block_code.proofs.FlowLengths.{FlowSpares, choose-spares, counted-spares, exit-spares, flow-less, for_ever-spares, in_with-spares, nothing-spares, straight-spares, then-spares, until-spares, when-spares, while-spares, with_cell-spares}
use Rattle.block_code.proofs.StatementLengths.{assignment-spares, bound-roomy, control-roomy, first-spares, for_more-short, for_step-short, for_test-short, labels-spares, last-spares, no_case-short, record-roomy, return_alone-spares, return_value-spares, selector-spares, test-spares, with-spares}

-- no more bytes than these tokens may have
abbrev Lean : ℕ → Flow → Type 0
Lean n f = FlowSpares 0 n f

-- more tokens
wider : (f : Flow) (m n : ℕ) → m ≤ n → Lean m f → Lean n f
wider f m n e g = flow-less f 0 0 m n (go m n e) g
  where
    go : (m n : ℕ) → m ≤ n → 0 + 64 * m ≤ 0 + 64 * n
    go m n e = omega (arith, e)

-- ---- what statements are made of

valued : (s : Stand) (e : Expr) → Roomy (expr_tokens e) (value_at s e).value
valued s e = value-roomy s.context s.withs e

addressed : (s : Stand) (d : Designator) → Roomy (designator_tokens d) (variable s d).value
addressed s d =
    variable-roomy s.context (designator_at d) (designator_tokens d) (designated s.context s.withs d).value (designated-roomy s.context s.withs d)

tests : (s : Stand) (e : Expr) → Spares 23 (expr_tokens e) (test s e).value
tests s e = test-spares s.context (expr_at e) (expr_tokens e) (value_at s e).value (valued s e)

looser : (p : Part) (n t : ℕ) → nat_le t 23 ≡ true → Spares 23 n p → Spares t n p
looser p n t e f = spares-less p 23 t n n (go n t (leb-true t 23 e)) f
  where
    go : (n t : ℕ) → t ≤ 23 → t + 64 * n ≤ 23 + 64 * n
    go n t e = omega (arith, e)

for-lean : (c : Context) (x : Coded) (k : ℕ) (first : Coded) (m : ℕ) (last : Coded) (by : ℤ) (n : ℕ) (body : Flow) → Roomy 1 x → Roomy k first → Roomy m last
    → Lean n body → Lean (1 + k + (m + 1 + (n + 3))) (for_flow c x first last by body)
for-lean c x k first m last by n body f v w g =
    then-spares (straight (for_first c x first)) (with_cell rest) 0 0 (1 + k) (m + 1 + (n + 3))
    (straight-spares (for_first c x first) 0 (1 + k) (first-spares c k x first f v))
    (with_cell-spares rest 0 (m + 1 + (n + 3)) (λ t.
    then-spares (straight (for_last c t x last)) (turns t) 0 0 (m + 1) (n + 3)
    (straight-spares (for_last c t x last) 0 (m + 1) (last-spares c t m x last w))
    (both_ways (Lean (n + 3)) (has_code x) (counted (for_test t x by) body (for_more t x by) (for_step c.scene x by)) body
    (counted-spares (for_test t x by) body (for_more t x by) (for_step c.scene x by) n (for_test-short t x by f) g (for_more-short t x by f) (for_step-short c.scene x by f))
    (wider body n (n + 3) (go n) g))))
  where
    turns : ℕ → Flow
    turns t = if has_code x then counted (for_test t x by) body (for_more t x by) (for_step c.scene x by) else body

    rest : ℕ → Flow
    rest t = straight (for_last c t x last) ⨾ turns t

    go : (n : ℕ) → n ≤ n + 3
    go n = omega arith

return-lean : (s : Stand) (at : ℕ) (e : Option Expr) → Spares 0 (1 + option_tokens e) (return_of s at e).value
return-lean s at None = return_alone-spares s.context at s.result
return-lean s at (Some e) =
    let p : Part = (return_of s at (Some e)).value in
    spares-less p 0 0 (expr_tokens e) (1 + expr_tokens e) (go (expr_tokens e))
    (return_value-spares s.context at s.result (expr_at e) (expr_tokens e) (value_at s e).value (valued s e))
  where
    go : (n : ℕ) → 0 + 64 * n ≤ 0 + 64 * (1 + n)
    go n = omega arith

-- what may follow an arm
abbrev LeanAny : ℕ → Option Flow → Type 0
LeanAny n None = Unit {0}
LeanAny n (Some f) = Lean n f

or_nothing-lean : (n : ℕ) (f : Option Flow) → LeanAny n f → Lean n (flow_or_nothing f)
or_nothing-lean n None g = nothing-spares n
or_nothing-lean n (Some f) g = g

-- an arm and what follows it
arm-lean : (t : Part) (body : Flow) (other : Option Flow) (m n k : ℕ) → Spares 23 m t → Lean n body → LeanAny k other
    → LeanAny (2 + m + n + k) (arm_before t body other)
arm-lean t body None m n k f g h = wider (flow_or_nothing (arm_before t body None)) (m + n) (2 + m + n + k) (go m n k) (when-spares t body 0 m n (looser t m 5 refl f) g)
  where
    go : (m n k : ℕ) → m + n ≤ 2 + m + n + k
    go m n k = omega arith
arm-lean t body (Some other) m n k f g h =
    wider (flow_or_nothing (arm_before t body (Some other))) (m + n + k) (2 + m + n + k) (go m n k) (choose-spares t body other 0 m n k (looser t m 10 refl f) g h)
  where
    go : (m n k : ℕ) → m + n + k ≤ 2 + m + n + k
    go m n k = omega arith

else-lean : (ss : Statements) (n : ℕ) (f : Flow) → Lean n f → LeanAny n (else_of ss f)
else-lean no_statements n f g = tt
else-lean (more_statements s ss) n f g = g

any-wider : (f : Option Flow) (m n : ℕ) → m ≤ n → LeanAny m f → LeanAny n f
any-wider None m n e g = tt
any-wider (Some f) m n e g = wider f m n e g

-- ---- numbers

assigned : (n k : ℕ) → n + k ≤ n + 1 + k
assigned n k = omega arith

in_if : (m n : ℕ) → m + n ≤ 1 + m + n
in_if m n = omega arith

in_case : (e a o : ℕ) → e + (a + (o + 1)) ≤ 2 + e + a + o
in_case e a o = omega arith

in_while : (m n : ℕ) → m + n ≤ 3 + m + n
in_while m n = omega arith

in_repeat : (m n : ℕ) → m + n ≤ 2 + m + n
in_repeat m n = omega arith

in_for : (k m n b : ℕ) → 1 + k + (m + 1 + (n + 3)) ≤ 6 + k + m + b + n
in_for k m n b = omega arith

in_exit : 5 + 0 ≤ 64 * 1
in_exit = omega arith

more_arms : (m n k : ℕ) → m + (n + k) ≤ m + n + k
more_arms m n k = omega arith

called : (n : ℕ) → 0 + 64 * n ≤ 22 + 64 * n
called n = omega arith

less_by : (n s : ℕ) → 0 + 64 * n ≤ s + 64 * n
less_by n s = omega arith

mutual
  pub statement-lean : (s : Stand) (st : Statement) → Lean (statement_tokens st) (statement_flow s st).value
  statement-lean s (statement at form) = form-lean s at form

  pub form-lean : (s : Stand) (at : ℕ) (f : StmtForm) → Lean (stmt_form_tokens f) (form_flow s at f).value
  form-lean s at (assign_form d e) =
      let p : Part = (assignment s.context (variable s d).value (expr_at e) (value_at s e).value).value in
      wider (straight p) (designator_tokens d + expr_tokens e) (designator_tokens d + 1 + expr_tokens e) (assigned (designator_tokens d) (expr_tokens e))
      (straight-spares p 0 (designator_tokens d + expr_tokens e)
      (assignment-spares s.context (designator_tokens d) (variable s d).value (expr_at e) (expr_tokens e) (value_at s e).value (addressed s d) (valued s e)))
  form-lean s at (call_statement d args) =
      let n : ℕ = designator_tokens d + exprs_tokens args in
      let x : Coded = (call_alone s.context s.withs d args).value in
      let g : Sized 22 n x = call_alone-sized s.context s.withs d args in
      straight-spares (code_unless_bad x) 0 n
      (both_ways (Spares 0 n) (is_bad x.operand) none x.code (λ at. omega arith) (spares-less x.code 22 0 n n (called n) g.code))
  form-lean s at (if_form arms other) =
      let o : Option Flow = else_of other (flow_of s other).value in
      let f : Option Flow = (arms_flow s arms).value o in
      or_nothing-lean (1 + if_arms_tokens arms + statements_tokens other) f
      (any-wider f (if_arms_tokens arms + statements_tokens other) (1 + if_arms_tokens arms + statements_tokens other)
      (in_if (if_arms_tokens arms) (statements_tokens other))
      (arms-lean s arms (statements_tokens other) o (else-lean other (statements_tokens other) (flow_of s other).value (all-lean s other))))
  form-lean s at (loop_form body) = for_ever-spares (flow_of (in_loop s) body).value (statements_tokens body) (all-lean (in_loop s) body)
  form-lean s at exit_form =
      both_ways (λ r. Lean 1 r.value) s.looped (gives exit) (refuse s.context at exit_outside_loop nothing) (exit-spares 0 1 in_exit) (nothing-spares 1)
  form-lean s at (case_form e arms other) =
      let x : Coded = (value_at s e).value in
      let typ : Place = (selector_type s.context (expr_at e) x).value in
      let o : Flow = (else_flow s other).value in
      let k : ℕ = else_tokens other + 1 in
      let n : ℕ = case_arms_tokens arms + k in
      let f : ℕ → Flow = λ t. straight (selector_code s.context t x) ⨾ (cases_flow s typ [] arms).value t o in
      wider (with_cell f) (expr_tokens e + n) (2 + expr_tokens e + case_arms_tokens arms + else_tokens other)
      (in_case (expr_tokens e) (case_arms_tokens arms) (else_tokens other))
      (with_cell-spares f 0 (expr_tokens e + n) (λ t.
      then-spares (straight (selector_code s.context t x)) ((cases_flow s typ [] arms).value t o) 0 0 (expr_tokens e) n
      (straight-spares (selector_code s.context t x) 0 (expr_tokens e)
      (spares-less (selector_code s.context t x) 13 0 (expr_tokens e) (expr_tokens e) (less_by (expr_tokens e) 13)
      (selector-spares s.context t (expr_tokens e) x (valued s e))))
      (cases-lean s typ [] arms t k o (case_else-lean s other))))
  form-lean s at (while_form e body) =
      let f : Flow = (form_flow s at (while_form e body)).value in
      wider f (expr_tokens e + statements_tokens body) (3 + expr_tokens e + statements_tokens body) (in_while (expr_tokens e) (statements_tokens body))
      (while-spares (test s e).value (flow_of s body).value 0 (expr_tokens e) (statements_tokens body)
      (looser (test s e).value (expr_tokens e) 10 refl (tests s e)) (all-lean s body))
  form-lean s at (repeat_form body e) =
      let f : Flow = (form_flow s at (repeat_form body e)).value in
      wider f (statements_tokens body + expr_tokens e) (2 + statements_tokens body + expr_tokens e) (in_repeat (statements_tokens body) (expr_tokens e))
      (until-spares (flow_of s body).value (test s e).value 0 (statements_tokens body) (expr_tokens e) (all-lean s body)
      (looser (test s e).value (expr_tokens e) 5 refl (tests s e)))
  form-lean s at (for_form i first last by body) =
      let x : Coded = (control_variable s.context s.withs i).value in
      let f : Flow = (form_flow s at (for_form i first last by body)).value in
      wider f (1 + expr_tokens first + (expr_tokens last + 1 + (statements_tokens body + 3)))
      (6 + expr_tokens first + expr_tokens last + option_tokens by + statements_tokens body)
      (in_for (expr_tokens first) (expr_tokens last) (statements_tokens body) (option_tokens by))
      (for-lean s.context x (expr_tokens first) (bound_value s.context x (expr_at first) (value_at s first).value).value
      (expr_tokens last) (bound_value s.context x (expr_at last) (value_at s last).value).value (or_one (by_of s by).value)
      (statements_tokens body) (flow_of s body).value (control-roomy s.context s.withs i)
      (bound-roomy s.context x (expr_at first) (expr_tokens first) (value_at s first).value (valued s first))
      (bound-roomy s.context x (expr_at last) (expr_tokens last) (value_at s last).value (valued s last)) (all-lean s body))
  form-lean s at (with_form d body) =
      let v : Coded = (variable s d).value in
      let x : Coded = (record_variable s.context (designator_at d) v).value in
      let b : Flow = (flow_of (within s x) body).value in
      let n : ℕ = designator_tokens d + statements_tokens body in
      let f : ℕ → Flow = λ t. straight (with_code t x) ⨾ in_with_of x t b in
      let g : Lean (statements_tokens body) b = all-lean (within s x) body in
      wider (with_cell f) n (3 + designator_tokens d + statements_tokens body) (in_while (designator_tokens d) (statements_tokens body))
      (with_cell-spares f 0 n (λ t.
      then-spares (straight (with_code t x)) (in_with_of x t b) 0 0 (designator_tokens d) (statements_tokens body)
      (straight-spares (with_code t x) 0 (designator_tokens d)
      (with-spares t (designator_tokens d) x (record-roomy s.context (designator_at d) (designator_tokens d) v (addressed s d))))
      (both_ways (Lean (statements_tokens body)) (is_bad x.operand) b (in_with t b) g (in_with-spares t b 0 (statements_tokens body) g))))
  form-lean s at (return_form e) = straight-spares (return_of s at e).value 0 (1 + option_tokens e) (return-lean s at e)
  form-lean s at empty_form = nothing-spares 0

  pub all-lean : (s : Stand) (ss : Statements) → Lean (statements_tokens ss) (flow_of s ss).value
  all-lean s no_statements = nothing-spares 0
  all-lean s (more_statements st ss) =
      then-spares (statement_flow s st).value (flow_of s ss).value 0 0 (statement_tokens st) (statements_tokens ss) (statement-lean s st) (all-lean s ss)

  pub arms-lean : (s : Stand) (as' : IfArms) (k : ℕ) (other : Option Flow) → LeanAny k other → LeanAny (if_arms_tokens as' + k) ((arms_flow s as').value other)
  arms-lean s no_if_arms k other g = any-wider other k (0 + k) (go k) g
    where
      go : (k : ℕ) → k ≤ 0 + k
      go k = omega arith
  arms-lean s (more_if_arms a others) k other g =
      let rest : Option Flow = (arms_flow s others).value other in
      any-wider ((arm_flow s a).value rest) (if_arm_tokens a + (if_arms_tokens others + k)) (if_arm_tokens a + if_arms_tokens others + k)
      (more_arms (if_arm_tokens a) (if_arms_tokens others) k)
      (arm_of-lean s a (if_arms_tokens others + k) rest (arms-lean s others k other g))

  pub arm_of-lean : (s : Stand) (a : IfArm) (k : ℕ) (other : Option Flow) → LeanAny k other → LeanAny (if_arm_tokens a + k) ((arm_flow s a).value other)
  arm_of-lean s (if_arm e body) k other g =
      arm-lean (test s e).value (flow_of s body).value other (expr_tokens e) (statements_tokens body) k (tests s e) (all-lean s body) g

  pub cases-lean : (s : Stand) (typ : Place) (covered : List Range) (as' : CaseArms) (t k : ℕ) (other : Flow) → Lean k other
      → Lean (case_arms_tokens as' + k) ((cases_flow s typ covered as').value t other)
  cases-lean s typ covered no_case_arms t k other g = wider other k (0 + k) (go k) g
    where
      go : (k : ℕ) → k ≤ 0 + k
      go k = omega arith
  cases-lean s typ covered (more_case_arms a others) t k other g =
      let first : Arm = (case_flow s typ covered a).value in
      let rest : Flow = (cases_flow s typ first.covered others).value t other in
      wider (first.flow t rest) (case_arm_tokens a + (case_arms_tokens others + k)) (case_arm_tokens a + case_arms_tokens others + k)
      (more_arms (case_arm_tokens a) (case_arms_tokens others) k)
      (case-lean s typ covered a t (case_arms_tokens others + k) rest (cases-lean s typ first.covered others t k other g))

  pub case-lean : (s : Stand) (typ : Place) (covered : List Range) (a : CaseArm) (t k : ℕ) (other : Flow) → Lean k other
      → Lean (case_arm_tokens a + k) ((case_flow s typ covered a).value.flow t other)
  case-lean s typ covered (case_arm labels body) t k other g =
      choose-spares (labels_code t (labels_of s.context typ covered labels).value.tests) (flow_of s body).value other 0
      (1 + labels_tokens labels) (statements_tokens body) k (labels-spares s.context t typ covered labels) (all-lean s body) g

  pub case_else-lean : (s : Stand) (e : CaseElse) → Lean (else_tokens e + 1) (else_flow s e).value
  case_else-lean s no_case_else =
      straight-spares no_case 0 (0 + 1) (spares-short no_case 2 0 (0 + 1) refl (omega arith) no_case-short)
  case_else-lean s (case_else body) =
      wider (flow_of s body).value (statements_tokens body) (1 + statements_tokens body + 1) (go (statements_tokens body)) (all-lean s body)
    where
      go : (n : ℕ) → n ≤ 1 + n + 1
      go n = omega arith

without : (x k : ℕ) → x + 0 ≤ k → x ≤ k
without x k f = omega (arith, f)

-- statements have so many bytes at most for each token
pub statements-short : (s : Stand) (ss : Statements) → IsShortFor (statements_tokens ss) (flow_of s ss).value
statements-short s ss = λ at out. without (steps_size (((flow_of s ss).value at).code out)) (64 * statements_tokens ss) (all-lean s ss at out)

-- ---- blocks

abbrev steps_of : Source → (before all : List (List Row)) → BlockTree → List Step
steps_of source before all b = (run_of b (declare_block source before b).value (body_of (complete_context source all b.block) b).value).code 0

short : (x y n : ℕ) → x ≡ y → y ≤ 64 * n → x ≤ 64 * n
short x y n e f = omega (arith, e, f)

pub steps-short : (source : Source) (before all : List (List Row)) (b : BlockTree) → steps_size (steps_of source before all b) ≤ 64 * block_tokens b.tree
steps-short source before all b =
    let c : Context = complete_context source all b.block in
    run-short source before b (body_of c b).value (all-lean (stand_of c b) b.tree.body)

-- so has a block's code
pub block-short : (source : Source) (before all : List (List Row)) (b : BlockTree) → length (block_code source before all b).code ≤ 64 * block_tokens b.tree
block-short source before all b =
    short (length (block_code source before all b).code) (steps_size (steps_of source before all b)) (block_tokens b.tree)
    (length-code (steps_of source before all b)) (steps-short source before all b)

pub block-in_range : (source : Source) (before all : List (List Row)) (b : BlockTree) → block_tokens b.tree ≤ 1048576
    → length (block_code source before all b).code < 2 ^ 31
block-in_range source before all b l =
    below (length (block_code source before all b).code) (steps_size (steps_of source before all b)) (block_tokens b.tree)
    (length-code (steps_of source before all b)) (steps-short source before all b) l

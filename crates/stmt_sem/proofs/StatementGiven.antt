-- What the steps of the walk over statements make is what the definitions give.
use Rattle.std.proofs.Math.Path.{fun_ext}
use Rattle.std.proofs.lemmas.Bool.Decides.{nat_tests}
use Rattle.std.proofs.Common.{◌≡◌, ◌∙◌, ◌∷◌, [], ℕ, ℤ, Bool, true, false, if◌then◌else◌, eqb, length, List, Option, Some, None, map, ap, sym, refl, arith}
use Rattle.std.specs.declared.alloc.Global.{Global}
use Rattle.std.specs.declared.vec.Vec.{Vec}
use Rattle.m2_base.specs.Gives.{Gives, and_then, gives}
use Rattle.m2_base.specs.Lists.{Each}
use Rattle.m2_base.specs.States.{Frame}
use Rattle.m2_base.specs.Statics.Operands.{is_bad, operand_type}
use Rattle.m2_base.specs.Trees as plain
use Rattle.m2_base.specs.Trees.{CaseArms, CaseElse, Designator, Expr, IfArms, Statements, case_form, designator_at, expr_at, for_form, if_form, statements, with_form}
use Rattle.m2_base.specs.Views.{stmt_form_view, statement_view}
use Rattle.m2_base.specs.declared.rows.Place.{Place}
use Rattle.m2_base.specs.declared.trees.Ident.{Ident}
use Rattle.m2_base.specs.declared.trees.statements.Statement.{Statement}
use Rattle.m2_base.proofs.Seen.{statement_seen}
use Rattle.const_eval.proofs.Analysing.{and_then_assoc}
use Rattle.const_eval.proofs.Folding.{and_then_same}
use Rattle.code_form.specs.declared.instr.Instr.TheVariants.{Local, Store}
use Rattle.block_code.specs.Coded.{Coded}
use Rattle.expr_sem.specs.Fragments.{Grows, IsIn, part}
use Rattle.expr_sem.specs.declared.fragments.Node.{Node}
use Rattle.expr_sem.proofs.Sequencing.{in_later, part_later}
use Rattle.std.specs.declared.boxed.Box.{Box}
use Rattle.block_code.specs.Parts.{Part, none, plain, ◌⨟◌}
use Rattle.expr_sem.specs.declared.fragments.Fragment.{Fragment}
use Rattle.block_code.specs.Cases.{selector_type, selector_value}
use Rattle.block_code.specs.Counting.{bound_value, control_variable, or_one}
use Rattle.stmt_sem.specs.FlowTrees.{IsOver, arms_or, choice_among, flow_in}
use Rattle.block_code.specs.Flows as flow
use Rattle.block_code.specs.Flows.{for_ever, in_with, nothing, straight, until_true, while_true, with_cell, ◌⨾◌}
use Rattle.stmt_sem.specs.Stated.{IsArm, arm_in, arms_in, cases_in, other_in}
use Rattle.stmt_sem.specs.StatementParts.{case_of, form_of, otherwise, record_of, selector, stored_before, typed_selector, with_body}
use Rattle.block_code.specs.Statements.{Stand, arm_before, arms_flow, by_of, else_of, flow_of, flow_or_nothing, for_flow, form_flow, statement_flow, value_at, variable}
use Rattle.block_code.specs.Withs.{record_variable}
use Rattle.stmt_sem.specs.declared.flows.Arm.{Arm}
use Rattle.stmt_sem.specs.declared.flows.Code.TheVariants.{Fixed}
use Rattle.stmt_sem.specs.declared.flows.Flow.{Flow}
use Rattle.stmt_sem.proofs.FlowLists.{arms_in_later}
use Rattle.stmt_sem.proofs.FlowsLater.{flow_later}
use Rattle.stmt_sem.proofs.StatementFolds.{otherwise_given}

-- ---- forms

-- a statement of this form
pub statement_given : (s : Stand) (of : Statement) (t : plain.StmtForm) → stmt_form_view of.form ≡ t → form_flow s of.at t ≡ statement_flow s (statement_view of)
statement_given s of t seen = sym (ap (λ (u : plain.Statement). statement_flow s u) (statement_seen of) ∙ ap (λ (f : plain.StmtForm). form_flow s of.at f) seen)

module _ (s : Stand) where
  pub if_given : (arms : IfArms) (other : Statements) → and_then (arms_flow s arms) (λ before. and_then (otherwise s other) (λ o. gives (flow_or_nothing (before o)))) ≡ form_of s (if_form arms other)
  if_given arms other =
      let before = arms_flow s arms in
      and_then_same before (λ f. and_then (otherwise s other) (λ o. gives (flow_or_nothing (f o)))) (λ f. and_then (flow_of s other) (λ o. gives (flow_or_nothing (f (else_of other o))))) (otherwise_given s other before.value)

  pub case_given : (e : Expr) (arms : CaseArms) (other : CaseElse) → and_then (selector s e) (λ x. case_of s x.0 x.1 arms other) ≡ form_of s (case_form e arms other)
  case_given e arms other =
      let x = value_at s e in
      let last = λ (v : Part × Place). case_of s v.0 v.1 arms other in
      and_then_assoc x (typed_selector s (expr_at e)) last
      ∙ and_then_same x (λ v. and_then (typed_selector s (expr_at e) v) last) (λ v. and_then (selector_type s.context (expr_at e) v) (λ t. case_of s (selector_value s.context v) t arms other))
      (and_then_assoc (selector_type s.context (expr_at e) x.value) (λ t. gives (selector_value s.context x.value, t)) last)

  pub with_given : (d : Designator) (body : Statements) → and_then (record_of s d) (λ x. with_body s x body) ≡ form_of s (with_form d body)
  with_given d body = and_then_assoc (variable s d) (record_variable s.context (designator_at d)) (λ x. with_body s x body)

  -- in a WITH of a variable that is in error
  pub bad_with : (x : Coded) (body : Statements) → is_bad x.operand ≡ true → and_then (flow_of s body) (λ b. gives (with_cell (λ t. b))) ≡ with_body s x body
  bad_with x body e =
      ap (λ (bad : Bool). and_then (flow_of (if bad then s else record s { withs = operand_type x.operand ∷ s.withs }) body) (λ b. gives (with_cell (λ t. straight (if bad then none else (plain (Local 0 t ∷ []) ⨟ x.code ⨟ plain (Store ∷ []))) ⨾ (if bad then b else in_with t b))))) (sym e)

  -- and of one that isn't
  pub good_with : (x : Coded) (body : Statements) → is_bad x.operand ≡ false → and_then (flow_of (record s { withs = operand_type x.operand ∷ s.withs }) body) (λ b. gives (stored_before x.code (λ t. in_with t b))) ≡ with_body s x body
  good_with x body e =
      ap (λ (bad : Bool). and_then (flow_of (if bad then s else record s { withs = operand_type x.operand ∷ s.withs }) body) (λ b. gives (with_cell (λ t. straight (if bad then none else (plain (Local 0 t ∷ []) ⨟ x.code ⨟ plain (Store ∷ []))) ⨾ (if bad then b else in_with t b))))) (sym e)

  -- FOR, behind its variable
  for_values : (x : Coded) (first last : Expr) (f g : Coded → Coded → Gives flow.Flow) → ((from upto : Coded) → f from upto ≡ g from upto)
      → and_then (and_then (value_at s first) (bound_value s.context x (expr_at first))) (λ from. and_then (and_then (value_at s last) (bound_value s.context x (expr_at last))) (f from))
      ≡ and_then (value_at s first) (λ v. and_then (bound_value s.context x (expr_at first) v) (λ from. and_then (value_at s last) (λ w. and_then (bound_value s.context x (expr_at last) w) (g from))))
  for_values x first last f g e =
      let from = and_then (value_at s first) (bound_value s.context x (expr_at first)) in
      let upto = and_then (value_at s last) (bound_value s.context x (expr_at last)) in
      and_then_same from (λ v. and_then upto (f v)) (λ v. and_then (value_at s last) (λ w. and_then (bound_value s.context x (expr_at last) w) (g v)))
      (and_then_same upto (f from.value) (g from.value) (e from.value upto.value) ∙ and_then_assoc (value_at s last) (bound_value s.context x (expr_at last)) (g from.value))
      ∙ and_then_assoc (value_at s first) (bound_value s.context x (expr_at first)) (λ v. and_then (value_at s last) (λ w. and_then (bound_value s.context x (expr_at last) w) (g v)))

  -- FOR with this step
  abbrev for_by : Statements → (variable first last : Coded) → (by : ℤ) → Gives flow.Flow
  for_by body x first last by = and_then (flow_of s body) (λ b. gives (for_flow s.context x first last by b))

  pub for_given : (i : Ident) (first last : Expr) (by : Option Expr) (body : Statements)
      → and_then (control_variable s.context s.withs i) (λ x. and_then (and_then (value_at s first) (bound_value s.context x (expr_at first))) (λ from. and_then (and_then (value_at s last) (bound_value s.context x (expr_at last))) (λ upto.
      and_then (and_then (by_of s by) (λ n. gives (or_one n))) (λ n. and_then (flow_of s body) (λ b. gives (for_flow s.context x from upto n b)))))) ≡ form_of s (for_form i first last by body)
  for_given i first last by body =
      let x = control_variable s.context s.withs i in
      let stepped = λ (v from upto : Coded). and_then (and_then (by_of s by) (λ n. gives (or_one n))) (for_by body v from upto) in
      let turned = λ (v from upto : Coded). and_then (by_of s by) (λ step. for_by body v from upto (or_one step)) in
      and_then_same x (λ v. and_then (and_then (value_at s first) (bound_value s.context v (expr_at first))) (λ from. and_then (and_then (value_at s last) (bound_value s.context v (expr_at last))) (stepped v from)))
      (λ v. and_then (value_at s first) (λ f. and_then (bound_value s.context v (expr_at first) f) (λ from. and_then (value_at s last) (λ l. and_then (bound_value s.context v (expr_at last) l) (turned v from)))))
      (for_values x.value first last (stepped x.value) (turned x.value) (λ from upto. and_then_assoc (by_of s by) (λ n. gives (or_one n)) (for_by body x.value from upto)))

  -- ELSE without statements
  pub no_else : {X : Type 0} (view : X → plain.Statement) (xs : List X) → eqb (length xs) 0 ≡ true → gives None ≡ otherwise s (statements (map view xs))
  no_else view [] e = refl
  no_else view (x ∷ xs) e = absurd (grind (arith, nat_tests, e))

-- ELSE with statements
pub some_else : {X : Type 0} (view : X → plain.Statement) (xs : List X) (f : flow.Flow) → eqb (length xs) 0 ≡ false → Some f ≡ else_of (statements (map view xs)) f
some_else view [] f e = absurd (let h : true ≡ false = e in cc)
some_else view (x ∷ xs) f e = refl

-- ---- flows of two parts, the first of which was made before the second

module _ {from to : List Node} (g : Grows from to) (code : Fragment) (body : Flow) (there : IsIn from code) (u : Part) (m : flow.Flow) (eu : (cell : ℕ) → part from code ≡ u) (em : (cell : ℕ) → flow_in to body cell ≡ m) where
  pub arm_same : (cell : ℕ) → arm_in to (record { test = Fixed code; body = body }) cell ≡ arm_before u m
  arm_same cell = ap (λ (p : Part). arm_before p (flow_in to body cell)) (part_later g code there ∙ eu cell) ∙ ap (λ (f : flow.Flow). arm_before u f) (em cell)

  pub while_same : (cell : ℕ) → while_true (part to code) (flow_in to body cell) ≡ while_true u m
  while_same cell = ap (λ (p : Part). while_true p (flow_in to body cell)) (part_later g code there ∙ eu cell) ∙ ap (λ (f : flow.Flow). while_true u f) (em cell)

module _ {from to : List Node} (g : Grows from to) where
  pub choice_same : (f : Frame) (made : Vec Arm Global) (rest : Option (Box Flow Global)) → Each (IsArm f from) made.items → (u : Option flow.Flow → Option flow.Flow) (m : Option flow.Flow)
      → ((cell : ℕ) → arms_in from made cell ≡ u) → ((cell : ℕ) → other_in to rest cell ≡ m) → (cell : ℕ) → choice_among to made.items rest cell ≡ flow_or_nothing (u m)
  choice_same f made rest h u m eu em cell =
      ap flow_or_nothing (arms_in_later g f made h cell (other_in to rest cell) ∙ ap (λ (k : Option flow.Flow → Option flow.Flow). k (other_in to rest cell)) (eu cell) ∙ ap u (em cell))

  pub case_same : {before : List Node} → Grows before from → (value : Fragment) → IsIn before value → (f : Frame) (made : Vec Arm Global) (rest : Flow) → Each (IsArm f from) made.items → (u : ℕ → flow.Flow → flow.Flow) (m : flow.Flow)
      → ((cell : ℕ) → cases_in from made cell ≡ u) → ((cell : ℕ) → flow_in to rest cell ≡ m)
      → stored_before (part to value) (arms_or to made.items (flow_in to rest)) ≡ stored_before (part before value) (λ t. u t m)
  case_same {before} b value there f made rest h u m eu em =
      ap (λ (p : Part). stored_before p (arms_or to made.items (flow_in to rest))) (part_later g value (in_later b value there) ∙ part_later b value there)
      ∙ ap (λ (k : ℕ → flow.Flow). stored_before (part before value) k) (fun_ext (λ t.
      ap flow_or_nothing (arms_in_later g f made h t (Some (flow_in to rest t)))
      ∙ ap (λ (k : ℕ → flow.Flow → flow.Flow). k t (flow_in to rest t)) (eu t)
      ∙ ap (u t) (em t)))

-- the body before the test
pub until_same : (ns : List Node) {from : List Node} (g : Grows from ns) (code : Fragment) (body : Flow) → IsOver from body → (u : flow.Flow) (m : Part) → ((cell : ℕ) → flow_in from body cell ≡ u) → ((cell : ℕ) → part ns code ≡ m)
    → (cell : ℕ) → until_true (flow_in ns body cell) (part ns code) ≡ until_true u m
until_same ns g code body there u m eu em cell =
    ap (λ (f : flow.Flow). until_true f (part ns code)) (flow_later g body there cell ∙ eu cell) ∙ ap (λ (p : Part). until_true u p) (em cell)

-- the statements in a WITH of a record
pub with_same : {from to : List Node} → Grows from to → (code : Fragment) (body : Flow) → IsIn from code → (m : flow.Flow) → ((cell : ℕ) → flow_in to body cell ≡ m)
    → stored_before (part to code) (λ t. in_with t (flow_in to body t)) ≡ stored_before (part from code) (λ t. in_with t m)
with_same {from} {to} g code body there m em =
    ap (λ (p : Part). stored_before p (λ t. in_with t (flow_in to body t))) (part_later g code there)
    ∙ ap (λ (k : ℕ → flow.Flow). stored_before (part from code) (λ t. in_with t (k t))) (fun_ext em)

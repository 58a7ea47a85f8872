-- A return of a statement finds the result alone: nothing but RETURN returns, and it stands at the height of its value.
use Rattle.std.specs.Prelude.{◌≡◌, refl, ℕ, ◌+◌, ◌&&◌, ◌||◌, not, Bool, true, false, ℤ, pos, negsuc, List, [], ◌∷◌, ◌++◌, length, min, if◌then◌else◌, Option, Some, None, is_some}
use Rattle.std.proofs.Common.{sym, subst}
use Rattle.code_form.specs.Heights.{Step, after_step}
use Rattle.code_form.specs.Valid.{returns_all}
use Rattle.code_form.specs.declared.instr.Instr.{Instr}
use Rattle.code_form.specs.declared.instr.Instr.TheVariants.{Add, AndJump, Dup, Eq, Ge, Jump, JumpFalse, Le, Load, Local, More, Move, OpenCopy, OrJump, Push, Return, Store}
use Rattle.m2_base.specs.Gives.{and_then, gives}
use Rattle.m2_base.specs.Rows.{row_meaning}
use Rattle.m2_base.specs.Statics.CaseLabels.{LabelTest, labels_of}
use Rattle.m2_base.specs.Statics.Cells.{capped}
use Rattle.m2_base.specs.Statics.Contexts.{Context, Scene, refuse}
use Rattle.m2_base.specs.Statics.Diagnostics.{exit_outside_loop, not_a_control_variable, not_a_record, not_assignable, not_boolean}
use Rattle.m2_base.specs.Statics.Effects.{ParamCopy, open_copy, own_copy}
use Rattle.m2_base.specs.Statics.Lookup.{Entry}
use Rattle.m2_base.specs.Statics.Operands.{is_bad, operand_type}
use Rattle.m2_base.specs.Statics.Operations.{is_boolean}
use Rattle.m2_base.specs.Statics.Ranges.{Range}
use Rattle.m2_base.specs.Statics.Types.{kind_of, size_of}
use Rattle.m2_base.specs.Statics.Uses.{use_of}
use Rattle.m2_base.specs.Trees.{CaseArm, CaseArms, CaseElse, Designator, Expr, IfArm, IfArms, Statement, Statements, StmtForm, assign_form, call_statement, case_arm, case_else, case_form, designator_at, empty_form, exit_form, expr_at, for_form, if_arm, if_form, loop_form, more_case_arms, more_if_arms, more_statements, no_case_arms, no_case_else, no_if_arms, no_statements, repeat_form, return_form, statement, while_form, with_form}
use Rattle.m2_base.specs.declared.operands.Operand.{Operand}
use Rattle.m2_base.specs.declared.operands.Operand.TheVariants.{InError, StringConstant, Variable}
use Rattle.m2_base.specs.declared.rows.Place.{Place}
use Rattle.m2_base.specs.declared.trees.Ident.{Ident}
use Rattle.block_code.proofs.Functions.{assigned-good, fitted-moves}
use Rattle.block_code.proofs.Law.{designated-good, expression-good}
use Rattle.block_code.proofs.NoReturns.{Quiet, Stays, assigned-quiet, call_alone-quiet, designated-quiet, entry-quiet, error-quiet, fitted-stays, goes_on, none-stays, plain-stays, text-stays, then-stays, value-quiet, value-stays, variable-quiet, Tame, skip_and-stays, skip_or-stays}
use Rattle.block_code.proofs.Passing.{unless_true}
use Rattle.block_code.proofs.Proper.{Addressed, variable-addressed}
use Rattle.block_code.proofs.ValueHeights.{Valued, as_value-good, both_ways}
use Rattle.block_code.specs.Coded.{Coded, characters, in_error, is_structured, value_code}
use Rattle.block_code.specs.Expressions.{call_alone, designated, expression}
use Rattle.block_code.specs.Fitting.{fitted_code}
use Rattle.block_code.specs.Heights.{Moves}
use Rattle.block_code.specs.Operators.{side_of}
use Rattle.block_code.specs.Parts.{Part, Spot, call, none, plain, plain_step, skip, steps_size, text, ◌⨟◌}
use Rattle.block_code.specs.RecordFields.{with_field}
use Rattle.block_code.specs.Values.{assigned_to}
use Rattle.block_code.specs.Variables.{entry_coded}
use Rattle.block_code.specs.Assignments.{assignment, code_unless_bad, store_by, store_code}
use Rattle.block_code.specs.BlockCode.{copy_code, prologue}
use Rattle.block_code.specs.Cases.{label_by, label_code, labels_code, more_labels_code, selector_code, selector_type, selector_value}
use Rattle.block_code.specs.Counting.{bound_value, can_control, control_variable, controls, controls_by, for_first, for_last, for_more, for_step, for_test, has_code, or_one}
use Rattle.block_code.specs.Flows.{Flow, back, choose, counted, exit, for_ever, in_with, jump_size, nothing, straight, until_true, when, while_true, with_cell, ◌⨾◌}
use Rattle.block_code.specs.FlowHeights.{Behind, KeepsHeight, Stands, passed}
use Rattle.block_code.specs.Returns.{return_alone, return_value}
use Rattle.block_code.specs.Statements.{Arm, Stand, arm_before, arm_flow, arms_flow, by_of, case_flow, cases_flow, else_flow, else_of, flow_of, flow_or_nothing, for_flow, form_flow, in_loop, return_of, statement_flow, test, value_at, variable, within}
use Rattle.block_code.specs.Tests.{false_code, test_code}
use Rattle.block_code.specs.Withs.{in_with_of, is_record, record_variable, with_code}
use Rattle.block_code.proofs.Flowing.{stands, straight-flows}
use Rattle.block_code.proofs.StatementLaw.{all-flows, statement-flows}
use Rattle.block_code.proofs.Points.{ReturnAll}
use Rattle.block_code.proofs.StatementHeights.{bound-valued, control-addressed, first-moves, for_more-moves, for_step-moves, for_test-moves, labels-moves, last-moves, record-addressed, selector-moves, test-moves, with-moves}

-- ---- steps

step-quiet : (i : Instr) (h : ℤ) (r : ℕ) → goes_on i ≡ true → returns_all i h r ≡ true
step-quiet Return h r e = absurd cc
step-quiet i h r e = refl

quiet : (h : ℕ) (ss : List Step) → Tame ss → ReturnAll h ss
quiet h [] e = tt
quiet h (s ∷ ss) e = ((step-quiet s.instr (pos h) s.takes e.0.0, e.0.1), quiet (after_step h s) ss e.1)

-- steps that end at a height, and those behind them
pub return-append : (b : Behind) (o h l : ℕ) (a c : List Step) → Stands b o h a l → ReturnAll h a → ReturnAll l c → ReturnAll h (a ++ c)
return-append b o h l [] c f r t = let P : ℕ → Type 0 = λ n. ReturnAll n c in subst P (sym f) t
return-append b o h l (s ∷ ss) c f r t = (r.0, return-append (passed b h s) o (after_step h s) l ss c f.2 r.1 t)

-- quiet code that leaves one operand, and a jump that takes it
behind_test : (p : Part) (at : Spot) (c : List Step) → Moves 0 p 1 → Stays p → ReturnAll 1 c → ReturnAll 0 ((p at).code ++ c)
behind_test p at c m f t = return-append [] 0 0 1 (p at).code c (stands [] 0 0 (p at).code 1 (m at)) (quiet 0 (p at).code (f at)) t

behind_quiet : (p : Part) (at : Spot) (c : List Step) → Moves 0 p 0 → Stays p → ReturnAll 0 c → ReturnAll 0 ((p at).code ++ c)
behind_quiet p at c m f t = return-append [] 0 0 0 (p at).code c (stands [] 0 0 (p at).code 0 (m at)) (quiet 0 (p at).code (f at)) t

-- ---- flows

-- each return finds the result alone
abbrev pub Exact : Flow → Type 0
Exact f = (at : Spot) (o : ℕ) → ReturnAll 0 ((f at).code o)

behind_flow : (f : Flow) (at : Spot) (o : ℕ) (c : List Step) → KeepsHeight f → Exact f → ReturnAll 0 c → ReturnAll 0 ((f at).code o ++ c)
behind_flow f at o c k g t = return-append [] o 0 0 ((f at).code o) c (k at [] o) (g at o) t

pub straight-exact : (p : Part) → Stays p → Exact (straight p)
straight-exact p f = λ at o. quiet 0 (p at).code (f at)

pub then-exact : (a b : Flow) → KeepsHeight a → Exact a → Exact b → Exact (a ⨾ b)
then-exact a b k f g = λ at o.
    let d : List Step = (b (a at).next).code o in behind_flow a at (o + steps_size d) d k f (g (a at).next o)

with_cell-exact : (f : ℕ → Flow) → ((t : ℕ) → Exact (f t)) → Exact (with_cell f)
with_cell-exact f g = λ at o. g at.cell (record at { cell = capped (at.cell + 1) }) o

in_with-exact : (t : ℕ) (f : Flow) → Exact f → Exact (in_with t f)
in_with-exact t f g = λ at o. g (record at { withs = t ∷ at.withs }) o

when-exact : (t : Part) (f : Flow) → Moves 0 t 1 → Stays t → Exact f → Exact (when t f)
when-exact t f m q g = λ at o.
    let inner : List Step = (f (t at).next).code o in
    behind_test t at (plain_step (JumpFalse (pos (steps_size inner))) ∷ inner) m q ((refl, λ n. refl), g (t at).next o)

choose-exact : (t : Part) (f other : Flow) → Moves 0 t 1 → Stays t → KeepsHeight f → Exact f → Exact other → Exact (choose t f other)
choose-exact t f other m q k g h = λ at o.
    let s1 : Spot = (t at).next in
    let behind : List Step = (other (f s1).next).code o in
    let n : ℕ = o + steps_size behind + jump_size in
    let inner : List Step = (f s1).code n in
    let last : List Step = plain_step (Jump (pos (steps_size behind))) ∷ behind in
    behind_test t at (plain_step (JumpFalse (pos (steps_size inner + jump_size))) ∷ (inner ++ last)) m q
    ((refl, λ n. refl), behind_flow f s1 n last k g ((refl, λ n. refl), h (f s1).next o))

while-exact : (t : Part) (f : Flow) → Moves 0 t 1 → Stays t → KeepsHeight f → Exact f → Exact (while_true t f)
while-exact t f m q k g = λ at o.
    let s1 : Spot = (t at).next in
    let inner : List Step = (f s1).code (o + jump_size) in
    let last : List Step = back Jump (steps_size (t at).code + jump_size + steps_size inner) ∷ [] in
    behind_test t at (plain_step (JumpFalse (pos (steps_size inner + jump_size))) ∷ (inner ++ last)) m q
    ((refl, λ n. refl), behind_flow f s1 (o + jump_size) last k g ((refl, λ n. refl), tt))

until-exact : (f : Flow) (t : Part) → KeepsHeight f → Exact f → Moves 0 t 1 → Stays t → Exact (until_true f t)
until-exact f t k g m q = λ at o.
    let test : List Step = (t (f at).next).code in
    let n : ℕ = o + steps_size test + jump_size in
    let last : List Step = back JumpFalse (steps_size ((f at).code n) + steps_size test) ∷ [] in
    behind_flow f at n (test ++ last) k g (behind_test t (f at).next last m q ((refl, λ n. refl), tt))

for_ever-exact : (f : Flow) → KeepsHeight f → Exact f → Exact (for_ever f)
for_ever-exact f k g = λ at o. behind_flow f at jump_size (back Jump (steps_size ((f at).code jump_size)) ∷ []) k g ((refl, λ n. refl), tt)

counted-exact : (first : Part) (f : Flow) (again step : Part) → Moves 0 first 1 → Stays first → KeepsHeight f → Exact f → Moves 0 again 1 → Stays again
    → Moves 0 step 0 → Stays step → Exact (counted first f again step)
counted-exact first f again step m q k g m' q' m'' q'' = λ at o.
    let s1 : Spot = (first at).next in
    let s2 : Spot = (f s1).next in
    let s3 : Spot = (again s2).next in
    let a : List Step = (again s2).code in
    let s : List Step = (step s3).code in
    let behind : ℕ = steps_size a + jump_size + steps_size s + jump_size in
    let inner : List Step = (f s1).code (o + behind) in
    let last : List Step = back Jump (steps_size inner + steps_size a + jump_size + steps_size s) ∷ [] in
    let third : List Step = plain_step (JumpFalse (pos (steps_size s + jump_size))) ∷ (s ++ last) in
    behind_test first at (plain_step (JumpFalse (pos (steps_size inner + behind))) ∷ (inner ++ (a ++ third))) m q (
      (refl, λ n. refl),
      behind_flow f s1 (o + behind) (a ++ third) k g
          (behind_test again s2 third m' q' ((refl, λ n. refl), behind_quiet step s3 last m'' q'' ((refl, λ n. refl), tt))),
    )

-- ---- parts of statements

valued : (s : Stand) (e : Expr) → Valued s.context.scene (value_at s e).value
valued s e = as_value-good s.context (expr_at e) (expression s.context s.withs e).value (expression-good s.context s.withs e)

pub quiet_value : (s : Stand) (e : Expr) → Quiet (value_at s e).value
quiet_value s e = value-quiet s.context s.withs e

pub quiet_variable : (s : Stand) (d : Designator) → Quiet (variable s d).value
quiet_variable s d = variable-quiet s.context (designator_at d) (designated s.context s.withs d).value (designated-quiet s.context s.withs d)

store_go : (c : Context) (t : Place) (to : Part) (x : Coded) (o : Operand) → Stays to → Quiet x → Stays (store_by c t to x o)
store_go c t to x InError f g = none-stays
store_go c t to x (StringConstant name l) f g =
    let tail : Part = plain (Move (min (length (characters c.source name) + 1) (size_of c.scene t)) ∷ []) in
    then-stays to (text (characters c.source name) ⨟ tail) f
    (then-stays (text (characters c.source name)) tail (text-stays (characters c.source name))
    (plain-stays (Move (min (length (characters c.source name) + 1) (size_of c.scene t)) ∷ []) refl))
store_go c t to x o f g =
    both_ways Stays (is_structured c.scene t) (to ⨟ value_code c x ⨟ plain (Move (size_of c.scene t) ∷ [])) (to ⨟ fitted_code c t x ⨟ plain (Store ∷ []))
    (then-stays to (value_code c x ⨟ plain (Move (size_of c.scene t) ∷ [])) f
    (then-stays (value_code c x) (plain (Move (size_of c.scene t) ∷ [])) (value-stays c x g) (plain-stays (Move (size_of c.scene t) ∷ []) refl)))
    (then-stays to (fitted_code c t x ⨟ plain (Store ∷ [])) f (then-stays (fitted_code c t x) (plain (Store ∷ [])) (fitted-stays c t x g) (plain-stays (Store ∷ []) refl)))

store-stays : (c : Context) (to x : Coded) → Quiet to → Quiet x → Stays (store_code c to x)
store-stays c to x f g = store_go c (operand_type to.operand) to.code x x.operand f.0 g

pub assignment-stays : (c : Context) (to : Coded) (at : ℕ) (x : Coded) → Quiet to → Quiet x → Stays (assignment c to at x).value
assignment-stays c to at x f g =
    let t : Place = operand_type to.operand in
    both_ways (λ r. Stays r.value) (is_bad to.operand) (gives none) (and_then (assigned_to c t at not_assignable x) (λ y. gives (store_code c to y))) none-stays
    (store-stays c to (assigned_to c t at not_assignable x).value f (assigned-quiet c t at not_assignable x g))

test_code-stays : (c : Context) (at : ℕ) (x : Coded) → Quiet x → Stays (test_code c at x).value
test_code-stays c at x g =
    both_ways (λ r. Stays r.value) (is_bad x.operand) (gives false_code) (if is_boolean c x.operand then gives (value_code c x) else refuse c at not_boolean false_code)
    (plain-stays (Push (pos 0) ∷ []) refl)
    (both_ways (λ r. Stays r.value) (is_boolean c x.operand) (gives (value_code c x)) (refuse c at not_boolean false_code) (value-stays c x g)
    (plain-stays (Push (pos 0) ∷ []) refl))

pub tests-stay : (s : Stand) (e : Expr) → Stays (test s e).value
tests-stay s e = test_code-stays s.context (expr_at e) (value_at s e).value (quiet_value s e)

tests-move : (s : Stand) (e : Expr) → Moves 0 (test s e).value 1
tests-move s e = test-moves s.context (expr_at e) (value_at s e).value (valued s e)

in_cell : (t : ℕ) (p : Part) → Stays p → Stays (plain (Local 0 t ∷ []) ⨟ p ⨟ plain (Store ∷ []))
in_cell t p f =
    then-stays (plain (Local 0 t ∷ [])) (p ⨟ plain (Store ∷ [])) (plain-stays (Local 0 t ∷ []) refl) (then-stays p (plain (Store ∷ [])) f (plain-stays (Store ∷ []) refl))

pub selector-stays : (c : Context) (t : ℕ) (x : Coded) → Quiet x → Stays (selector_code c t x)
selector-stays c t x g =
    in_cell t (selector_value c x) (both_ways Stays (is_bad x.operand) false_code (value_code c x) (plain-stays (Push (pos 0) ∷ []) refl) (value-stays c x g))

label-stays : (t : ℕ) (low : ℤ) (high : Option ℤ) → Stays (label_by t low high)
label-stays t low None = plain-stays (Local 0 t ∷ Load ∷ Push low ∷ Eq ∷ []) refl
label-stays t low (Some high) =
    let p : Part = plain (Local 0 t ∷ Load ∷ Push high ∷ Le ∷ []) in
    then-stays (plain (Local 0 t ∷ Load ∷ Push low ∷ Ge ∷ [])) (skip AndJump p) (plain-stays (Local 0 t ∷ Load ∷ Push low ∷ Ge ∷ []) refl)
    (skip_and-stays p (plain-stays (Local 0 t ∷ Load ∷ Push high ∷ Le ∷ []) refl))

more_labels-stay : (t : ℕ) (ls : List LabelTest) → Stays (more_labels_code t ls)
more_labels-stay t [] = none-stays
more_labels-stay t (l ∷ ls) = then-stays (skip OrJump (label_code t l)) (more_labels_code t ls) (skip_or-stays (label_code t l) (label-stays t l.low l.high)) (more_labels-stay t ls)

pub labels-stay : (t : ℕ) (ls : List LabelTest) → Stays (labels_code t ls)
labels-stay t [] = plain-stays (Push (pos 0) ∷ []) refl
labels-stay t (l ∷ ls) = then-stays (label_code t l) (more_labels_code t ls) (label-stays t l.low l.high) (more_labels-stay t ls)

controls_go : (c : Context) (at : ℕ) (e : Entry) (x : Coded) (o : Operand) → Quiet x → Quiet (controls_by c at e x o).value
controls_go c at e x (Variable t) g =
    both_ways (λ r. Quiet r.value) (can_control c.scene e.0.scope (row_meaning e.1)) (gives x) (refuse c at not_a_control_variable in_error) g error-quiet
controls_go c at e x o g = error-quiet

controls-quiet : (c : Context) (at : ℕ) (e : Option Entry) → Quiet (controls c at e).value
controls-quiet c at None = error-quiet
controls-quiet c at (Some e) = let x : Coded = entry_coded c (Some e) in controls_go c at e x x.operand (entry-quiet c (Some e))

pub control-quiet : (c : Context) (withs : List Place) (i : Ident) → Quiet (control_variable c withs i).value
control-quiet c withs i =
    both_ways (λ r. Quiet r.value) (is_some (with_field c.scene 0 withs i.name)) (refuse c i.at not_a_control_variable in_error)
    (and_then (use_of c None i.name i.at) (controls c i.at)) error-quiet (controls-quiet c i.at (use_of c None i.name i.at).value)

pub bound-quiet : (c : Context) (x : Coded) (at : ℕ) (v : Coded) → Quiet v → Quiet (bound_value c x at v).value
bound-quiet c x at v g =
    both_ways (λ r. Quiet r.value) (is_bad x.operand) (gives in_error) (assigned_to c (operand_type x.operand) at not_assignable v) error-quiet
    (assigned-quiet c (operand_type x.operand) at not_assignable v g)

pub record-quiet : (c : Context) (at : ℕ) (x : Coded) → Quiet x → Quiet (record_variable c at x).value
record-quiet c at x g =
    both_ways (λ r. Quiet r.value) (is_bad x.operand || is_record (kind_of c.scene (operand_type x.operand))) (gives x) (refuse c at not_a_record in_error) g error-quiet

pub with-stays : (t : ℕ) (x : Coded) → Quiet x → Stays (with_code t x)
with-stays t x g = both_ways Stays (is_bad x.operand) none (plain (Local 0 t ∷ []) ⨟ x.code ⨟ plain (Store ∷ [])) none-stays (in_cell t x.code g.0)

pub first-stays : (c : Context) (x first : Coded) → Quiet x → Quiet first → Stays (for_first c x first)
first-stays c x first f g = both_ways Stays (has_code x && has_code first) (store_code c x first) none (store-stays c x first f g) none-stays

pub last-stays : (c : Context) (t : ℕ) (x last : Coded) → Quiet last → Stays (for_last c t x last)
last-stays c t x last g =
    both_ways Stays (has_code x && has_code last) (plain (Local 0 t ∷ []) ⨟ fitted_code c (operand_type x.operand) last ⨟ plain (Store ∷ [])) none
    (in_cell t (fitted_code c (operand_type x.operand) last) (fitted-stays c (operand_type x.operand) last g)) none-stays

pub for_test-stays : (t : ℕ) (x : Coded) (by : ℤ) → Quiet x → Stays (for_test t x by)
for_test-stays t x (pos n) g = then-stays x.code (plain (Load ∷ Local 0 t ∷ Load ∷ Le ∷ [])) g.0 (plain-stays (Load ∷ Local 0 t ∷ Load ∷ Le ∷ []) refl)
for_test-stays t x (negsuc n) g = then-stays x.code (plain (Load ∷ Local 0 t ∷ Load ∷ Ge ∷ [])) g.0 (plain-stays (Load ∷ Local 0 t ∷ Load ∷ Ge ∷ []) refl)

pub for_more-stays : (t : ℕ) (x : Coded) (by : ℤ) → Quiet x → Stays (for_more t x by)
for_more-stays t x by g = then-stays x.code (plain (Load ∷ Local 0 t ∷ Load ∷ More by ∷ [])) g.0 (plain-stays (Load ∷ Local 0 t ∷ Load ∷ More by ∷ []) refl)

pub for_step-stays : (scene : Scene) (x : Coded) (by : ℤ) → Quiet x → Stays (for_step scene x by)
for_step-stays scene x by g =
    then-stays x.code (plain (Dup ∷ Load ∷ Push by ∷ Add (side_of scene (operand_type x.operand)) ∷ Store ∷ [])) g.0
    (plain-stays (Dup ∷ Load ∷ Push by ∷ Add (side_of scene (operand_type x.operand)) ∷ Store ∷ []) refl)

has_none : (b : Bool) → not b ≡ true → b ≡ false
has_none true e = absurd cc
has_none false e = refl

if_true : {A : Type 0} (P : A → Type 0) (t : Bool) (a b : A) → (t ≡ true → P a) → P b → P (if t then a else b)
if_true P true a b p q = p refl
if_true P false a b p q = q

-- ---- FOR, RETURN and the arms of IF

for-exact : (c : Context) (x first last : Coded) (by : ℤ) (f : Flow) → Addressed x → Quiet x → Quiet first → Quiet last → KeepsHeight (straight (for_first c x first))
    → ((t : ℕ) → KeepsHeight (straight (for_last c t x last))) → KeepsHeight f → Exact f → Exact (for_flow c x first last by f)
for-exact c x first last by f a qx qf ql kf kl k g =
    then-exact (straight (for_first c x first)) (with_cell rest) kf (straight-exact (for_first c x first) (first-stays c x first qx qf))
    (with_cell-exact rest (λ t.
    then-exact (straight (for_last c t x last)) (turns t) (kl t) (straight-exact (for_last c t x last) (last-stays c t x last ql))
    (if_true Exact (has_code x) (counted (for_test t x by) f (for_more t x by) (for_step c.scene x by)) f
    (λ e. let m : Moves 0 x.code 1 = a (has_none (is_bad x.operand) e) in
    counted-exact (for_test t x by) f (for_more t x by) (for_step c.scene x by) (for_test-moves t x by m) (for_test-stays t x by qx) k g
    (for_more-moves t x by m) (for_more-stays t x by qx) (for_step-moves c.scene x by m) (for_step-stays c.scene x by qx)) g)))
  where
    turns : ℕ → Flow
    turns t = if has_code x then counted (for_test t x by) f (for_more t x by) (for_step c.scene x by) else f

    rest : ℕ → Flow
    rest t = straight (for_last c t x last) ⨾ turns t

none-exact : Exact nothing
none-exact = λ at o. tt

return_alone-exact : (c : Context) (at : ℕ) (r : Option Place) → Exact (straight (return_alone c at r).value)
return_alone-exact c at None = λ s o. ((refl, λ n. absurd cc), tt)
return_alone-exact c at (Some t) = none-exact

return_value-exact : (c : Context) (at : ℕ) (r : Option Place) (x_at : ℕ) (x : Coded) → Valued c.scene x → Quiet x → Exact (straight (return_value c at r x_at x).value)
return_value-exact c at None x_at x v g = none-exact
return_value-exact c at (Some t) x_at x v g =
    let y : Coded = (assigned_to c t x_at not_assignable x).value in
    unless_true (λ p. Exact (straight p)) (is_bad y.operand) none (fitted_code c t y ⨟ call Return 1 0) none-exact
    (λ b s o.
    behind_test (fitted_code c t y) s (record { instr = Return; takes = 1; leaves = 0 } ∷ [])
    (fitted-moves c t y (assigned-good c t x_at not_assignable x v) b) (fitted-stays c t y (assigned-quiet c t x_at not_assignable x g)) ((refl, λ n. absurd cc), tt))

return-exact : (s : Stand) (at : ℕ) (e : Option Expr) → Exact (straight (return_of s at e).value)
return-exact s at None = return_alone-exact s.context at s.result
return-exact s at (Some e) = return_value-exact s.context at s.result (expr_at e) (value_at s e).value (valued s e) (quiet_value s e)

abbrev ExactAny : Option Flow → Type 0
ExactAny None = Unit {0}
ExactAny (Some f) = Exact f

or_nothing-exact : (f : Option Flow) → ExactAny f → Exact (flow_or_nothing f)
or_nothing-exact None g = none-exact
or_nothing-exact (Some f) g = g

arm-exact : (t : Part) (f : Flow) (other : Option Flow) → Moves 0 t 1 → Stays t → KeepsHeight f → Exact f → ExactAny other → ExactAny (arm_before t f other)
arm-exact t f None m q k g h = when-exact t f m q g
arm-exact t f (Some other) m q k g h = choose-exact t f other m q k g h

else-exact : (ss : Statements) (f : Flow) → Exact f → ExactAny (else_of ss f)
else-exact no_statements f g = tt
else-exact (more_statements s ss) f g = g

-- ---- the induction

mutual
  pub statement-exact : (s : Stand) (st : Statement) → Exact (statement_flow s st).value
  statement-exact s (statement at form) = form-exact s at form

  pub form-exact : (s : Stand) (at : ℕ) (f : StmtForm) → Exact (form_flow s at f).value
  form-exact s at (assign_form d e) =
      straight-exact (assignment s.context (variable s d).value (expr_at e) (value_at s e).value).value
      (assignment-stays s.context (variable s d).value (expr_at e) (value_at s e).value (quiet_variable s d) (quiet_value s e))
  form-exact s at (call_statement d args) =
      let x : Coded = (call_alone s.context s.withs d args).value in
      let g : Quiet x = call_alone-quiet s.context s.withs d args in
      straight-exact (code_unless_bad x) (both_ways Stays (is_bad x.operand) none x.code none-stays g.0)
  form-exact s at (if_form arms other) =
      or_nothing-exact ((arms_flow s arms).value (else_of other (flow_of s other).value))
      (arms-exact s arms (else_of other (flow_of s other).value) (else-exact other (flow_of s other).value (all-exact s other)))
  form-exact s at (loop_form body) = for_ever-exact (flow_of (in_loop s) body).value (all-flows (in_loop s) body) (all-exact (in_loop s) body)
  form-exact s at exit_form =
      both_ways (λ r. Exact r.value) s.looped (gives exit) (refuse s.context at exit_outside_loop nothing) (λ a o. ((refl, λ n. refl), tt)) none-exact
  form-exact s at (case_form e arms other) =
      let x : Coded = (value_at s e).value in
      let typ : Place = (selector_type s.context (expr_at e) x).value in
      let o : Flow = (else_flow s other).value in
      with_cell-exact (λ t. straight (selector_code s.context t x) ⨾ (cases_flow s typ [] arms).value t o)
      (λ t. then-exact (straight (selector_code s.context t x)) ((cases_flow s typ [] arms).value t o)
      (straight-flows (selector_code s.context t x) (selector-moves s.context t x (valued s e)))
      (straight-exact (selector_code s.context t x) (selector-stays s.context t x (quiet_value s e)))
      (cases-exact s typ [] arms t o (case_else-exact s other)))
  form-exact s at (while_form e body) = while-exact (test s e).value (flow_of s body).value (tests-move s e) (tests-stay s e) (all-flows s body) (all-exact s body)
  form-exact s at (repeat_form body e) = until-exact (flow_of s body).value (test s e).value (all-flows s body) (all-exact s body) (tests-move s e) (tests-stay s e)
  form-exact s at (for_form i first last by body) =
      let x : Coded = (control_variable s.context s.withs i).value in
      let f : Coded = (bound_value s.context x (expr_at first) (value_at s first).value).value in
      let l : Coded = (bound_value s.context x (expr_at last) (value_at s last).value).value in
      let a : Addressed x = control-addressed s.context s.withs i in
      for-exact s.context x f l (or_one (by_of s by).value) (flow_of s body).value a (control-quiet s.context s.withs i)
      (bound-quiet s.context x (expr_at first) (value_at s first).value (quiet_value s first))
      (bound-quiet s.context x (expr_at last) (value_at s last).value (quiet_value s last))
      (straight-flows (for_first s.context x f) (first-moves s.context x f a (bound-valued s.context x (expr_at first) (value_at s first).value (valued s first))))
      (λ t. straight-flows (for_last s.context t x l) (last-moves s.context t x l (bound-valued s.context x (expr_at last) (value_at s last).value (valued s last))))
      (all-flows s body) (all-exact s body)
  form-exact s at (with_form d body) =
      let v : Coded = (variable s d).value in
      let x : Coded = (record_variable s.context (designator_at d) v).value in
      let b : Flow = (flow_of (within s x) body).value in
      let a : Addressed x = record-addressed s.context (designator_at d) v
      (variable-addressed s.context (designator_at d) (designated s.context s.withs d).value (designated-good s.context s.withs d)) in
      let g : Exact b = all-exact (within s x) body in
      with_cell-exact (λ t. straight (with_code t x) ⨾ in_with_of x t b)
      (λ t. then-exact (straight (with_code t x)) (in_with_of x t b) (straight-flows (with_code t x) (with-moves t x a))
      (straight-exact (with_code t x) (with-stays t x (record-quiet s.context (designator_at d) v (quiet_variable s d))))
      (both_ways Exact (is_bad x.operand) b (in_with t b) g (in_with-exact t b g)))
  form-exact s at (return_form e) = return-exact s at e
  form-exact s at empty_form = none-exact

  pub all-exact : (s : Stand) (ss : Statements) → Exact (flow_of s ss).value
  all-exact s no_statements = none-exact
  all-exact s (more_statements st ss) =
      then-exact (statement_flow s st).value (flow_of s ss).value (statement-flows s st) (statement-exact s st) (all-exact s ss)

  pub arms-exact : (s : Stand) (as' : IfArms) (other : Option Flow) → ExactAny other → ExactAny ((arms_flow s as').value other)
  arms-exact s no_if_arms other g = g
  arms-exact s (more_if_arms a others) other g = arm_of-exact s a ((arms_flow s others).value other) (arms-exact s others other g)

  pub arm_of-exact : (s : Stand) (a : IfArm) (other : Option Flow) → ExactAny other → ExactAny ((arm_flow s a).value other)
  arm_of-exact s (if_arm e body) other g =
      arm-exact (test s e).value (flow_of s body).value other (tests-move s e) (tests-stay s e) (all-flows s body) (all-exact s body) g

  pub cases-exact : (s : Stand) (typ : Place) (covered : List Range) (as' : CaseArms) (t : ℕ) (other : Flow) → Exact other
      → Exact ((cases_flow s typ covered as').value t other)
  cases-exact s typ covered no_case_arms t other g = g
  cases-exact s typ covered (more_case_arms a others) t other g =
      let first : Arm = (case_flow s typ covered a).value in
      case-exact s typ covered a t ((cases_flow s typ first.covered others).value t other) (cases-exact s typ first.covered others t other g)

  pub case-exact : (s : Stand) (typ : Place) (covered : List Range) (a : CaseArm) (t : ℕ) (other : Flow) → Exact other
      → Exact ((case_flow s typ covered a).value.flow t other)
  case-exact s typ covered (case_arm labels body) t other g =
      let tests : List LabelTest = (labels_of s.context typ covered labels).value.tests in
      choose-exact (labels_code t tests) (flow_of s body).value other (labels-moves t tests) (labels-stay t tests) (all-flows s body) (all-exact s body) g

  pub case_else-exact : (s : Stand) (e : CaseElse) → Exact (else_flow s e).value
  case_else-exact s no_case_else = λ a o. ((refl, λ n. refl), tt)
  case_else-exact s (case_else body) = all-exact s body

-- ---- what a block begins with

copy-stays : (p : ParamCopy) → Stays (copy_code p)
copy-stays (own_copy own cell size) = plain-stays (Local 0 own ∷ Local 0 cell ∷ Load ∷ Move size ∷ []) refl
copy-stays (open_copy cell elem) = plain-stays (OpenCopy cell elem ∷ []) refl

pub prologue-stays : (ps : List ParamCopy) → Stays (prologue ps)
prologue-stays [] = none-stays
prologue-stays (p ∷ ps) = then-stays (copy_code p) (prologue ps) (copy-stays p) (prologue-stays ps)

-- How long the code is that statements are made of.
use Rattle.std.specs.Prelude.{◌≡◌, refl, ℕ, suc, ◌+◌, ◌*◌, ◌≤◌, Bool, true, false, ◌&&◌, ◌||◌, if◌then◌else◌, int_le, ℤ, pos, negsuc, List, [], ◌∷◌, ◌++◌, length, min, Option, Some, None, is_some, nat_le}
use Rattle.std.specs.List.{list_any}
use Rattle.std.proofs.Common.{arith}
use Rattle.code_form.specs.declared.instr.Instr.TheVariants.{Add, AndJump, Dup, Eq, Ge, Le, Load, Local, More, Move, OrJump, Push, Return, Store, Trap}
use Rattle.m2_base.specs.Gives.{Gives, and_then, gives}
use Rattle.m2_base.specs.Rows.{row_meaning}
use Rattle.m2_base.specs.Trees.{Label, Labels, expr_at, more_labels, no_labels, one_label, range_label}
use Rattle.m2_base.specs.Statics.CaseLabels.{CaseLabels, LabelTest, case_labels, cover, label_of, labels_of, one_taken, one_test, overlaps, range_taken, range_test, taken_label}
use Rattle.m2_base.specs.Statics.Compatible.{is_compatible}
use Rattle.m2_base.specs.Statics.Constants.{constant_of}
use Rattle.m2_base.specs.Statics.Contexts.{Context, Scene, refuse}
use Rattle.m2_base.specs.Statics.Diagnostics.{not_a_control_variable, not_a_record, not_assignable, not_boolean, wrong_label}
use Rattle.m2_base.specs.Statics.Lookup.{Entry}
use Rattle.m2_base.specs.Statics.Operands.{constant_of_operand, is_bad, operand_type}
use Rattle.m2_base.specs.Statics.Operations.{is_boolean}
use Rattle.m2_base.specs.Statics.Ranges.{Range, range}
use Rattle.m2_base.specs.Statics.Types.{is_broken, kind_of, size_of}
use Rattle.m2_base.specs.Statics.Uses.{use_of}
use Rattle.m2_base.specs.declared.operands.Operand.{Operand}
use Rattle.m2_base.specs.declared.operands.Operand.TheVariants.{Computed, InError, StringConstant, Variable}
use Rattle.m2_base.specs.declared.rows.Place.{Place}
use Rattle.m2_base.specs.declared.trees.Ident.{Ident}
use Rattle.block_code.specs.Coded.{Coded, characters, in_error, is_structured, value_code}
use Rattle.block_code.specs.Fitting.{fitted_code}
use Rattle.block_code.specs.Lengths.{IsShort}
use Rattle.block_code.specs.Operators.{side_of}
use Rattle.block_code.specs.Parts.{Part, call, none, plain, skip, steps_size, text, ◌⨟◌}
use Rattle.block_code.specs.RecordFields.{with_field}
use Rattle.block_code.specs.Tokens.{label_tokens, labels_tokens}
use Rattle.block_code.specs.Values.{assigned_to}
use Rattle.block_code.specs.Variables.{entry_coded}
use Rattle.block_code.proofs.DesignatorLengths.{entry-roomy}
use Rattle.block_code.proofs.Lengths.{Spares, call-short, none-short, plain-short, short-then, spares-before, spares-behind, spares-less, spares-short, spares-then, text-short}
use Rattle.block_code.proofs.ValueHeights.{both_ways}
use Rattle.block_code.proofs.ValueLengths.{Roomy, assigned-roomy, error-roomy, fitted-spares, value-spares}
use Rattle.block_code.specs.Assignments.{assignment, store_by, store_code, store_value}
use Rattle.block_code.specs.Cases.{label_by, label_code, labels_code, more_labels_code, no_case, selector_code, selector_value}
use Rattle.block_code.specs.Counting.{bound_value, can_control, control_variable, controls, controls_by, for_first, for_last, for_more, for_step, for_test, has_code}
use Rattle.block_code.specs.Returns.{return_alone, return_code, return_value}
use Rattle.block_code.specs.Tests.{false_code, test_code}
use Rattle.block_code.specs.Withs.{is_record, record_variable, with_code}

-- ---- numbers

less : (n s t : ℕ) → t ≤ s → t + 64 * n ≤ s + 64 * n
less n s t e = omega (arith, e)

at_least : (n k : ℕ) → 1 ≤ n → 1 ≤ n + k
at_least n k l = omega (arith, l)

longer_by : (x m n : ℕ) → m ≤ n → x ≤ m → x ≤ n
longer_by x m n e f = omega (arith, e, f)

longer : (p : Part) (m n : ℕ) → m ≤ n → IsShort m p → IsShort n p
longer p m n e f = λ at. longer_by (steps_size (p at).code) m n e (f at)

-- ---- assignment and RETURN

store_value-spares : (c : Context) (t : Place) (n k : ℕ) (to : Part) (x : Coded) → Spares 32 n to → Roomy k x → Spares 37 (n + k) (store_value c t to x)
store_value-spares c t n k to x f g =
    both_ways (Spares 37 (n + k)) (is_structured c.scene t) (to ⨟ value_code c x ⨟ plain (Move (size_of c.scene t) ∷ [])) (to ⨟ fitted_code c t x ⨟ plain (Store ∷ []))
    (spares-less (to ⨟ value_code c x ⨟ plain (Move (size_of c.scene t) ∷ [])) 50 37 (n + k) (n + k) (less (n + k) 50 37 (omega arith))
    (spares-then to (value_code c x ⨟ plain (Move (size_of c.scene t) ∷ [])) 32 18 n k f
    (spares-behind (value_code c x) (plain (Move (size_of c.scene t) ∷ [])) 23 5 18 k refl (value-spares c k x g) (plain-short (Move (size_of c.scene t) ∷ []) 5 refl))))
    (spares-then to (fitted_code c t x ⨟ plain (Store ∷ [])) 32 5 n k f
    (spares-behind (fitted_code c t x) (plain (Store ∷ [])) 6 1 5 k refl (fitted-spares c t k x g) (plain-short (Store ∷ []) 1 refl)))

dropped : (n k : ℕ) → 0 + 64 * n ≤ 22 + 64 * (n + k)
dropped n k = omega arith

store_go : (c : Context) (t : Place) (n k : ℕ) (to : Part) (x : Coded) (o : Operand) → Spares 32 n to → Roomy k x → Spares 0 (n + k) (store_by c t to x o)
store_go c t n k to x InError f g = λ at. omega arith
store_go c t n k to x (StringConstant name l) f g =
    let chars : List ℕ = characters c.source name in
    let tail : Part = text chars ⨟ plain (Move (min (length chars + 1) (size_of c.scene t)) ∷ []) in
    spares-less (to ⨟ tail) 22 0 n (n + k) (dropped n k)
    (spares-behind to tail 32 10 22 n refl f
    (short-then (text chars) (plain (Move (min (length chars + 1) (size_of c.scene t)) ∷ [])) 5 5 (text-short chars)
    (plain-short (Move (min (length chars + 1) (size_of c.scene t)) ∷ []) 5 refl)))
store_go c t n k to x o f g = spares-less (store_value c t to x) 37 0 (n + k) (n + k) (less (n + k) 37 0 (omega arith)) (store_value-spares c t n k to x f g)

pub store-spares : (c : Context) (n k : ℕ) (to x : Coded) → Roomy n to → Roomy k x → Spares 0 (n + k) (store_code c to x)
store-spares c n k to x f g = store_go c (operand_type to.operand) n k to.code x x.operand f.code g

pub assignment-spares : (c : Context) (n : ℕ) (to : Coded) (at k : ℕ) (x : Coded) → Roomy n to → Roomy k x → Spares 0 (n + k) (assignment c to at x).value
assignment-spares c n to at k x f g =
    let t : Place = operand_type to.operand in
    let v : Coded = (assigned_to c t at not_assignable x).value in
    both_ways (λ r. Spares 0 (n + k) r.value) (is_bad to.operand) (gives none) (and_then (assigned_to c t at not_assignable x) (λ y. gives (store_code c to y)))
    (λ s. omega arith) (store-spares c n k to v f (assigned-roomy c t at not_assignable k x g))

pub return_alone-spares : (c : Context) (at : ℕ) (t : Option Place) → Spares 0 1 (return_alone c at t).value
return_alone-spares c at None = spares-short return_code 1 0 1 refl (omega arith) (call-short Return 0 0 1 (omega arith))
return_alone-spares c at (Some t) = λ s. omega arith

pub return_value-spares : (c : Context) (at : ℕ) (t : Option Place) (x_at k : ℕ) (x : Coded) → Roomy k x → Spares 0 k (return_value c at t x_at x).value
return_value-spares c at None x_at k x g = λ s. omega arith
return_value-spares c at (Some t) x_at k x g =
    let v : Coded = (assigned_to c t x_at not_assignable x).value in
    both_ways (Spares 0 k) (is_bad v.operand) none (fitted_code c t v ⨟ call Return 1 0) (λ s. omega arith)
    (spares-behind (fitted_code c t v) (call Return 1 0) 6 1 0 k refl (fitted-spares c t k v (assigned-roomy c t x_at not_assignable k x g))
    (call-short Return 1 0 1 (omega arith)))

-- ---- tests

pub test-spares : (c : Context) (at k : ℕ) (x : Coded) → Roomy k x → Spares 23 k (test_code c at x).value
test-spares c at k x g =
    both_ways (λ r. Spares 23 k r.value) (is_bad x.operand) (gives false_code)
    (if is_boolean c x.operand then gives (value_code c x) else refuse c at not_boolean false_code) wrong
    (both_ways (λ r. Spares 23 k r.value) (is_boolean c x.operand) (gives (value_code c x)) (refuse c at not_boolean false_code) (value-spares c k x g) wrong)
  where
    wrong : Spares 23 k false_code
    wrong = spares-short false_code 9 23 k refl g.some (plain-short (Push (pos 0) ∷ []) 9 refl)

-- ---- CASE

-- what goes to a temporary cell
in_cell : (t r q s n : ℕ) (p : Part) → nat_le (q + 1) r ≡ true → nat_le (s + 9) q ≡ true → Spares r n p → Spares s n (plain (Local 0 t ∷ []) ⨟ p ⨟ plain (Store ∷ []))
in_cell t r q s n p e d f =
    spares-before (plain (Local 0 t ∷ [])) (p ⨟ plain (Store ∷ [])) 9 q s n d (plain-short (Local 0 t ∷ []) 9 refl)
    (spares-behind p (plain (Store ∷ [])) r 1 q n e f (plain-short (Store ∷ []) 1 refl))

pub selector-spares : (c : Context) (t k : ℕ) (x : Coded) → Roomy k x → Spares 13 k (selector_code c t x)
selector-spares c t k x g =
    in_cell t 23 22 13 k (selector_value c x) refl refl
    (both_ways (Spares 23 k) (is_bad x.operand) false_code (value_code c x)
    (spares-short false_code 9 23 k refl g.some (plain-short (Push (pos 0) ∷ []) 9 refl)) (value-spares c k x g))

skip_and-short : (p : Part) (k : ℕ) → IsShort k p → IsShort (5 + k) (skip AndJump p)
skip_and-short p k f = λ at. go (steps_size (p at).code) k (f at)
  where
    go : (x k : ℕ) → x ≤ k → 5 + x ≤ 5 + k
    go x k f = omega (arith, f)

skip_or-short : (p : Part) (k : ℕ) → IsShort k p → IsShort (5 + k) (skip OrJump p)
skip_or-short p k f = λ at. go (steps_size (p at).code) k (f at)
  where
    go : (x k : ℕ) → x ≤ k → 5 + x ≤ 5 + k
    go x k f = omega (arith, f)

label_by-short : (t : ℕ) (low : ℤ) (high : Option ℤ) → IsShort 45 (label_by t low high)
label_by-short t low None = plain-short (Local 0 t ∷ Load ∷ Push low ∷ Eq ∷ []) 45 refl
label_by-short t low (Some high) =
    short-then (plain (Local 0 t ∷ Load ∷ Push low ∷ Ge ∷ [])) (skip AndJump (plain (Local 0 t ∷ Load ∷ Push high ∷ Le ∷ []))) 20 25
    (plain-short (Local 0 t ∷ Load ∷ Push low ∷ Ge ∷ []) 20 refl)
    (skip_and-short (plain (Local 0 t ∷ Load ∷ Push high ∷ Le ∷ [])) 20 (plain-short (Local 0 t ∷ Load ∷ Push high ∷ Le ∷ []) 20 refl))

label-short : (t : ℕ) (l : LabelTest) → IsShort 45 (label_code t l)
label-short t l = label_by-short t l.low l.high

more_labels-short : (t : ℕ) (ls : List LabelTest) → IsShort (50 * length ls) (more_labels_code t ls)
more_labels-short t [] = none-short 0
more_labels-short t (l ∷ ls) =
    longer (skip OrJump (label_code t l) ⨟ more_labels_code t ls) (50 + 50 * length ls) (50 * suc (length ls)) (go (length ls))
    (short-then (skip OrJump (label_code t l)) (more_labels_code t ls) 50 (50 * length ls) (skip_or-short (label_code t l) 45 (label-short t l)) (more_labels-short t ls))
  where
    go : (n : ℕ) → 50 + 50 * n ≤ 50 * suc n
    go n = omega arith

all_labels-short : (t : ℕ) (ls : List LabelTest) → IsShort (50 * length ls + 9) (labels_code t ls)
all_labels-short t [] = plain-short (Push (pos 0) ∷ []) 9 refl
all_labels-short t (l ∷ ls) =
    longer (label_code t l ⨟ more_labels_code t ls) (45 + 50 * length ls) (50 * suc (length ls) + 9) (go (length ls))
    (short-then (label_code t l) (more_labels_code t ls) 45 (50 * length ls) (label-short t l) (more_labels-short t ls))
  where
    go : (n : ℕ) → 45 + 50 * n ≤ 50 * suc n + 9
    go n = omega arith

-- one test at most for each label
abbrev One : Gives CaseLabels → Type 0
One g = length g.value.tests ≤ 1

no_test : (good : Bool) (covered : List Range) → length (case_labels good [] covered).tests ≤ 1
no_test good covered = omega arith

cover-one : (c : Context) (at : ℕ) (t : LabelTest) (r : Range) (covered : List Range) → One (cover c at t r covered)
cover-one c at t r covered =
    both_ways One (int_le r.low r.high)
    (if list_any (overlaps r) covered then refuse c at wrong_label (case_labels false [] (r ∷ covered)) else gives (case_labels true (t ∷ []) (r ∷ covered)))
    (gives (case_labels true (t ∷ []) covered))
    (both_ways One (list_any (overlaps r) covered) (refuse c at wrong_label (case_labels false [] (r ∷ covered))) (gives (case_labels true (t ∷ []) (r ∷ covered)))
    (omega arith) (omega arith)) (omega arith)

one_test-one : (c : Context) (at : ℕ) (v : Option ℤ) (covered : List Range) → One (one_test c at v covered)
one_test-one c at None covered = no_test false covered
one_test-one c at (Some v) covered = cover-one c at (record { low = v; high = None }) (range v v) covered

range_test-one : (c : Context) (at : ℕ) (v w : Option ℤ) (covered : List Range) → One (range_test c at v w covered)
range_test-one c at (Some v) (Some w) covered = cover-one c at (record { low = v; high = Some w }) (range v w) covered
range_test-one c at (Some v) None covered = no_test false covered
range_test-one c at None w covered = no_test false covered

one_taken-one : (c : Context) (at : ℕ) (t : Place) (covered : List Range) (x : Option Operand) → One (one_taken c at t covered x)
one_taken-one c at t covered None = no_test false covered
one_taken-one c at t covered (Some x) =
    both_ways One (is_broken c.scene t) (gives (case_labels false [] covered))
    (if is_compatible c.scene x (Computed t) then one_test c at (constant_of_operand (taken_label c t x)) covered else refuse c at wrong_label (case_labels false [] covered))
    (no_test false covered)
    (both_ways One (is_compatible c.scene x (Computed t)) (one_test c at (constant_of_operand (taken_label c t x)) covered)
    (refuse c at wrong_label (case_labels false [] covered)) (one_test-one c at (constant_of_operand (taken_label c t x)) covered) (no_test false covered))

range_taken-one : (c : Context) (at : ℕ) (t : Place) (covered : List Range) (x y : Option Operand) → One (range_taken c at t covered x y)
range_taken-one c at t covered (Some x) (Some y) =
    both_ways One (is_broken c.scene t) (gives (case_labels false [] covered))
    (if is_compatible c.scene x (Computed t) && is_compatible c.scene y (Computed t) then
    range_test c at (constant_of_operand (taken_label c t x)) (constant_of_operand (taken_label c t y)) covered
    else refuse c at wrong_label (case_labels false [] covered))
    (no_test false covered)
    (both_ways One (is_compatible c.scene x (Computed t) && is_compatible c.scene y (Computed t))
    (range_test c at (constant_of_operand (taken_label c t x)) (constant_of_operand (taken_label c t y)) covered)
    (refuse c at wrong_label (case_labels false [] covered))
    (range_test-one c at (constant_of_operand (taken_label c t x)) (constant_of_operand (taken_label c t y)) covered) (no_test false covered))
range_taken-one c at t covered (Some x) None = no_test false covered
range_taken-one c at t covered None y = no_test false covered

label-one : (c : Context) (t : Place) (covered : List Range) (l : Label) → One (label_of c t covered l)
label-one c t covered (one_label e) = one_taken-one c (expr_at e) t covered (constant_of c e).value
label-one c t covered (range_label low high) = range_taken-one c (expr_at low) t covered (constant_of c low).value (constant_of c high).value

appended : (a b : List LabelTest) → length (a ++ b) ≡ length a + length b
appended [] b = omega arith
appended (x ∷ a) b = let e = appended a b in omega (arith, e)

counted : (x y z l ls : ℕ) → z ≡ x + y → x ≤ 1 → y ≤ ls → z ≤ l + 1 + ls
counted x y z l ls e f g = omega (arith, e, f, g)

-- no more tests than tokens
tests-few : (c : Context) (t : Place) (covered : List Range) (ls : Labels) → length (labels_of c t covered ls).value.tests ≤ labels_tokens ls
tests-few c t covered no_labels = omega arith
tests-few c t covered (more_labels l ls) =
    let first : CaseLabels = (label_of c t covered l).value in
    let rest : CaseLabels = (labels_of c t first.covered ls).value in
    counted (length first.tests) (length rest.tests) (length (first.tests ++ rest.tests)) (label_tokens l) (labels_tokens ls)
    (appended first.tests rest.tests) (label-one c t covered l) (tests-few c t first.covered ls)

labelled : (x k n : ℕ) → k ≤ n → x ≤ 50 * k + 9 → x + 10 ≤ 64 * (1 + n)
labelled x k n e f = omega (arith, e, f)

pub labels-spares : (c : Context) (cell : ℕ) (t : Place) (covered : List Range) (ls : Labels)
    → Spares 10 (1 + labels_tokens ls) (labels_code cell (labels_of c t covered ls).value.tests)
labels-spares c cell t covered ls = λ at.
    let tests : List LabelTest = (labels_of c t covered ls).value.tests in
    labelled (steps_size (labels_code cell tests at).code) (length tests) (labels_tokens ls) (tests-few c t covered ls) (all_labels-short cell tests at)

pub no_case-short : IsShort 2 no_case
no_case-short = plain-short (Trap 8 ∷ []) 2 refl

-- ---- FOR

controls_go : (c : Context) (at : ℕ) (e : Entry) (x : Coded) (o : Operand) → Roomy 1 x → Roomy 1 (controls_by c at e x o).value
controls_go c at e x (Variable t) g =
    both_ways (λ r. Roomy 1 r.value) (can_control c.scene e.0.scope (row_meaning e.1)) (gives x) (refuse c at not_a_control_variable in_error)
    g (error-roomy 1 (omega arith))
controls_go c at e x o g = error-roomy 1 (omega arith)

controls-roomy : (c : Context) (at : ℕ) (e : Option Entry) → Roomy 1 (controls c at e).value
controls-roomy c at None = error-roomy 1 (omega arith)
controls-roomy c at (Some e) =
    let x : Coded = entry_coded c (Some e) in
    controls_go c at e x x.operand (entry-roomy c 1 (Some e) (omega arith))

pub control-roomy : (c : Context) (withs : List Place) (i : Ident) → Roomy 1 (control_variable c withs i).value
control-roomy c withs i =
    both_ways (λ r. Roomy 1 r.value) (is_some (with_field c.scene 0 withs i.name)) (refuse c i.at not_a_control_variable in_error)
    (and_then (use_of c None i.name i.at) (controls c i.at)) (error-roomy 1 (omega arith))
    (controls-roomy c i.at (use_of c None i.name i.at).value)

pub bound-roomy : (c : Context) (x : Coded) (at k : ℕ) (v : Coded) → Roomy k v → Roomy k (bound_value c x at v).value
bound-roomy c x at k v g =
    both_ways (λ r. Roomy k r.value) (is_bad x.operand) (gives in_error) (assigned_to c (operand_type x.operand) at not_assignable v) (error-roomy k g.some)
    (assigned-roomy c (operand_type x.operand) at not_assignable k v g)

pub first-spares : (c : Context) (k : ℕ) (x first : Coded) → Roomy 1 x → Roomy k first → Spares 0 (1 + k) (for_first c x first)
first-spares c k x first f g =
    both_ways (Spares 0 (1 + k)) (has_code x && has_code first) (store_code c x first) none (store-spares c 1 k x first f g) (λ s. omega arith)

one_more : (k : ℕ) → 70 + 64 * k ≤ 6 + 64 * (k + 1)
one_more k = omega arith

pub last-spares : (c : Context) (t k : ℕ) (x last : Coded) → Roomy k last → Spares 0 (k + 1) (for_last c t x last)
last-spares c t k x last g =
    let p : Part = fitted_code c (operand_type x.operand) last in
    both_ways (Spares 0 (k + 1)) (has_code x && has_code last) (plain (Local 0 t ∷ []) ⨟ p ⨟ plain (Store ∷ [])) none
    (in_cell t 70 69 0 (k + 1) p refl refl (spares-less p 6 70 k (k + 1) (one_more k) (fitted-spares c (operand_type x.operand) k last g))) (λ s. omega arith)

single : (x : ℕ) → x + 32 ≤ 64 * 1 → x ≤ 32
single x f = omega (arith, f)

variable-short : (x : Coded) → Roomy 1 x → IsShort 32 x.code
variable-short x g = λ at. let f : Spares 32 1 x.code = g.code in single (steps_size (x.code at).code) (f at)

pub for_test-short : (t : ℕ) (x : Coded) (by : ℤ) → Roomy 1 x → IsShort 52 (for_test t x by)
for_test-short t x (pos n) g =
    short-then x.code (plain (Load ∷ Local 0 t ∷ Load ∷ Le ∷ [])) 32 20 (variable-short x g) (plain-short (Load ∷ Local 0 t ∷ Load ∷ Le ∷ []) 20 refl)
for_test-short t x (negsuc n) g =
    short-then x.code (plain (Load ∷ Local 0 t ∷ Load ∷ Ge ∷ [])) 32 20 (variable-short x g) (plain-short (Load ∷ Local 0 t ∷ Load ∷ Ge ∷ []) 20 refl)

pub for_more-short : (t : ℕ) (x : Coded) (by : ℤ) → Roomy 1 x → IsShort 52 (for_more t x by)
for_more-short t x by g =
    short-then x.code (plain (Load ∷ Local 0 t ∷ Load ∷ More by ∷ [])) 32 20 (variable-short x g) (plain-short (Load ∷ Local 0 t ∷ Load ∷ More by ∷ []) 20 refl)

pub for_step-short : (scene : Scene) (x : Coded) (by : ℤ) → Roomy 1 x → IsShort 52 (for_step scene x by)
for_step-short scene x by g =
    short-then x.code (plain (Dup ∷ Load ∷ Push by ∷ Add (side_of scene (operand_type x.operand)) ∷ Store ∷ [])) 32 20 (variable-short x g)
    (plain-short (Dup ∷ Load ∷ Push by ∷ Add (side_of scene (operand_type x.operand)) ∷ Store ∷ []) 20 refl)

-- ---- WITH

pub record-roomy : (c : Context) (at n : ℕ) (x : Coded) → Roomy n x → Roomy n (record_variable c at x).value
record-roomy c at n x g =
    both_ways (λ r. Roomy n r.value) (is_bad x.operand || is_record (kind_of c.scene (operand_type x.operand))) (gives x) (refuse c at not_a_record in_error)
    g (error-roomy n g.some)

pub with-spares : (t n : ℕ) (x : Coded) → Roomy n x → Spares 0 n (with_code t x)
with-spares t n x g =
    both_ways (Spares 0 n) (is_bad x.operand) none (plain (Local 0 t ∷ []) ⨟ x.code ⨟ plain (Store ∷ [])) (λ s. omega arith)
    (in_cell t 32 31 0 n x.code refl refl g.code)

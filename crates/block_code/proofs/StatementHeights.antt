-- The heights of what statements are made of.
use Rattle.std.specs.Prelude.{◌≡◌, refl, ℕ, ◌+◌, Bool, true, false, not, ◌&&◌, ◌||◌, if◌then◌else◌, ℤ, pos, negsuc, List, [], ◌∷◌, length, min, Option, Some, None, is_some}
use Rattle.m2_base.specs.Gives.{Gives, gives, and_then}
use Rattle.m2_base.specs.Rows.{row_meaning}
use Rattle.m2_base.specs.declared.rows.Place.{Place}
use Rattle.m2_base.specs.declared.trees.Ident.{Ident}
use Rattle.m2_base.specs.Statics.CaseLabels.{LabelTest}
use Rattle.m2_base.specs.Statics.Contexts.{Context, Scene, refuse}
use Rattle.m2_base.specs.Statics.Diagnostics.{not_a_control_variable, not_a_record, not_assignable, not_boolean}
use Rattle.m2_base.specs.Statics.Lookup.{Entry}
use Rattle.m2_base.specs.Statics.Operands.{is_bad, operand_type}
use Rattle.m2_base.specs.Statics.Operations.{is_boolean}
use Rattle.m2_base.specs.Statics.Types.{kind_of, size_of}
use Rattle.m2_base.specs.Statics.Uses.{use_of}
use Rattle.m2_base.specs.declared.operands.Operand.{Operand}
use Rattle.m2_base.specs.declared.operands.Operand.TheVariants.{InError, NotConstant, StringConstant, Variable}
use Rattle.code_form.specs.declared.instr.Instr.{Instr}
use Rattle.code_form.specs.declared.instr.Instr.TheVariants.{Add, AndJump, Dup, Eq, Ge, Le, Load, Local, More, Move, OrJump, Push, Return, Store, Trap}
use Rattle.block_code.specs.Coded.{Coded, characters, in_error, is_structured, value_code}
use Rattle.block_code.specs.Fitting.{fitted_code}
use Rattle.block_code.specs.Heights.{Moves}
use Rattle.block_code.specs.Operators.{side_of}
use Rattle.block_code.specs.Parts.{Part, call, none, plain, skip, text, ◌⨟◌}
use Rattle.block_code.specs.RecordFields.{with_field}
use Rattle.block_code.specs.Values.{assigned_to}
use Rattle.block_code.specs.Variables.{entry_coded}
use Rattle.block_code.proofs.Designators.{entry-good}
use Rattle.block_code.proofs.Functions.{assigned-good, fitted-moves}
use Rattle.block_code.proofs.Moves.{Moves-none, Moves-raise, Moves-then, call-moves, plain-moves, skip-and, skip-or, text-moves}
use Rattle.block_code.proofs.Passing.{unless_true}
use Rattle.block_code.proofs.Proper.{Addressed, Proper, error-addressed}
use Rattle.block_code.proofs.ValueHeights.{GoodAs, Valued, both_ways, value-moves, with_operand}
use Rattle.block_code.specs.Assignments.{assignment, code_unless_bad, store_by, store_code, store_value}
use Rattle.block_code.specs.Cases.{label_by, label_code, labels_code, more_labels_code, no_case, selector_code, selector_value}
use Rattle.block_code.specs.Counting.{bound_value, can_control, control_variable, controls, controls_by, for_first, for_last, for_more, for_step, for_test, has_code}
use Rattle.block_code.specs.Returns.{return_alone, return_code, return_value, returned}
use Rattle.block_code.specs.Tests.{false_code, test_code}
use Rattle.block_code.specs.Withs.{is_record, record_variable, with_code}

-- ---- assignment, calls, RETURN

pub call-moves-none : (x : Coded) → Proper x → Moves 0 (code_unless_bad x) 0
call-moves-none x p = unless_true (λ q. Moves 0 q 0) (is_bad x.operand) none x.code (Moves-none 0) p

stored : (to v : Part) (is : List Instr) → Moves 0 to 1 → Moves 0 v 1 → Moves 2 (plain is) 0 → Moves 0 (to ⨟ v ⨟ plain is) 0
stored to v is f g h = Moves-then to (v ⨟ plain is) 0 1 0 f (Moves-then v (plain is) 1 2 0 (Moves-raise v 0 1 1 g) h)

store_value-moves : (c : Context) (t : Place) (to : Part) (x : Coded) → Moves 0 to 1 → Valued c.scene x → is_bad x.operand ≡ false → Moves 0 (store_value c t to x) 0
store_value-moves c t to x f v b =
    both_ways (λ p. Moves 0 p 0) (is_structured c.scene t) (to ⨟ value_code c x ⨟ plain (Move (size_of c.scene t) ∷ []))
    (to ⨟ fitted_code c t x ⨟ plain (Store ∷ []))
    (stored to (value_code c x) (Move (size_of c.scene t) ∷ []) f (value-moves c x v b) (plain-moves (Move (size_of c.scene t) ∷ []) 2 0 refl))
    (stored to (fitted_code c t x) (Store ∷ []) f (fitted-moves c t x v b) (plain-moves (Store ∷ []) 2 0 refl))

store_go : (c : Context) (t : Place) (to : Part) (o : Operand) (code high : Part) → Moves 0 to 1 → Valued c.scene (with_operand o code high)
    → Moves 0 (store_by c t to (with_operand o code high) o) 0
store_go c t to InError code high f v = Moves-none 0
store_go c t to NotConstant code high f v = absurd v.0
store_go c t to (StringConstant n l) code high f v =
    let chars : List ℕ = characters c.source n in
    let move : List Instr = Move (min (length chars + 1) (size_of c.scene t)) ∷ [] in
    stored to (text chars) move f (text-moves chars) (plain-moves move 2 0 refl)
store_go c t to o code high f v = store_value-moves c t to (with_operand o code high) f v refl

store-moves : (c : Context) (to x : Coded) → Moves 0 to.code 1 → Valued c.scene x → Moves 0 (store_code c to x) 0
store-moves c to x f v = store_go c (operand_type to.operand) to.code x.operand x.code x.high f v

pub assignment-moves : (c : Context) (to : Coded) (at : ℕ) (x : Coded) → Addressed to → Valued c.scene x → Moves 0 (assignment c to at x).value 0
assignment-moves c to at x f v =
    let w : Gives Coded = assigned_to c (operand_type to.operand) at not_assignable x in
    unless_true (λ r. Moves 0 r.value 0) (is_bad to.operand) (gives none) (and_then w (λ y. gives (store_code c to y))) (Moves-none 0)
    (λ b. store-moves c to w.value (f b) (assigned-good c (operand_type to.operand) at not_assignable x v))

pub return-moves : Moves 0 return_code 0
return-moves = call-moves Return 0 0 refl

returned-moves : (c : Context) (t : Place) (x : Coded) → Valued c.scene x → Moves 0 (returned c t x) 0
returned-moves c t x v =
    unless_true (λ p. Moves 0 p 0) (is_bad x.operand) none (fitted_code c t x ⨟ call Return 1 0) (Moves-none 0)
    (λ b. Moves-then (fitted_code c t x) (call Return 1 0) 0 1 0 (fitted-moves c t x v b) (call-moves Return 1 0 refl))

pub return_alone-moves : (c : Context) (at : ℕ) (r : Option Place) → Moves 0 (return_alone c at r).value 0
return_alone-moves c at None = return-moves
return_alone-moves c at (Some t) = Moves-none 0

pub return_value-moves : (c : Context) (at : ℕ) (r : Option Place) (x_at : ℕ) (x : Coded) → Valued c.scene x
    → Moves 0 (return_value c at r x_at x).value 0
return_value-moves c at None x_at x v = Moves-none 0
return_value-moves c at (Some t) x_at x v =
    returned-moves c t (assigned_to c t x_at not_assignable x).value (assigned-good c t x_at not_assignable x v)

-- ---- tests and labels

false-moves : Moves 0 false_code 1
false-moves = plain-moves (Push (pos 0) ∷ []) 0 1 refl

pub test-moves : (c : Context) (at : ℕ) (x : Coded) → Valued c.scene x → Moves 0 (test_code c at x).value 1
test-moves c at x v =
    unless_true (λ r. Moves 0 r.value 1) (is_bad x.operand) (gives false_code)
    (if is_boolean c x.operand then gives (value_code c x) else refuse c at not_boolean false_code)
    false-moves
    (λ b. both_ways (λ r. Moves 0 r.value 1) (is_boolean c x.operand) (gives (value_code c x))
    (refuse c at not_boolean false_code) (value-moves c x v b) false-moves)

in_cell : (t : ℕ) (p : Part) → Moves 0 p 1 → Moves 0 (plain (Local 0 t ∷ []) ⨟ p ⨟ plain (Store ∷ [])) 0
in_cell t p f = stored (plain (Local 0 t ∷ [])) p (Store ∷ []) (plain-moves (Local 0 t ∷ []) 0 1 refl) f (plain-moves (Store ∷ []) 2 0 refl)

pub selector-moves : (c : Context) (t : ℕ) (x : Coded) → Valued c.scene x → Moves 0 (selector_code c t x) 0
selector-moves c t x v =
    in_cell t (selector_value c x)
    (unless_true (λ p. Moves 0 p 1) (is_bad x.operand) false_code (value_code c x) false-moves (λ b. value-moves c x v b))

label_go : (t : ℕ) (low : ℤ) (high : Option ℤ) → Moves 0 (label_by t low high) 1
label_go t low None = plain-moves (Local 0 t ∷ Load ∷ Push low ∷ Eq ∷ []) 0 1 refl
label_go t low (Some high) =
    Moves-then (plain (Local 0 t ∷ Load ∷ Push low ∷ Ge ∷ [])) (skip AndJump (plain (Local 0 t ∷ Load ∷ Push high ∷ Le ∷ []))) 0 1 1
    (plain-moves (Local 0 t ∷ Load ∷ Push low ∷ Ge ∷ []) 0 1 refl)
    (skip-and (plain (Local 0 t ∷ Load ∷ Push high ∷ Le ∷ [])) (plain-moves (Local 0 t ∷ Load ∷ Push high ∷ Le ∷ []) 0 1 refl))

label-moves : (t : ℕ) (l : LabelTest) → Moves 0 (label_code t l) 1
label-moves t l = label_go t l.low l.high

others-moves : (t : ℕ) (ls : List LabelTest) → Moves 1 (more_labels_code t ls) 1
others-moves t [] = Moves-none 1
others-moves t (l ∷ ls) =
    Moves-then (skip OrJump (label_code t l)) (more_labels_code t ls) 1 1 1 (skip-or (label_code t l) (label-moves t l)) (others-moves t ls)

pub labels-moves : (t : ℕ) (ls : List LabelTest) → Moves 0 (labels_code t ls) 1
labels-moves t [] = false-moves
labels-moves t (l ∷ ls) = Moves-then (label_code t l) (more_labels_code t ls) 0 1 1 (label-moves t l) (others-moves t ls)

pub no_case-moves : Moves 0 no_case 0
no_case-moves = plain-moves (Trap 8 ∷ []) 0 0 refl

-- ---- FOR

controls_go : (c : Context) (at : ℕ) (e : Entry) (o : Operand) (code high : Part) → GoodAs c.scene code high o
    → Addressed (controls_by c at e (with_operand o code high) o).value
controls_go c at e (Variable t) code high g =
    both_ways (λ r. Addressed r.value) (can_control c.scene e.0.scope (row_meaning e.1)) (gives (with_operand (Variable t) code high))
    (refuse c at not_a_control_variable in_error) (λ b. g.0) error-addressed
controls_go c at e NotConstant code high g = error-addressed
controls_go c at e o code high g = error-addressed

controls-addressed : (c : Context) (at : ℕ) (e : Option Entry) → Addressed (controls c at e).value
controls-addressed c at None = error-addressed
controls-addressed c at (Some e) =
    let x : Coded = entry_coded c (Some e) in
    controls_go c at e x.operand x.code x.high (entry-good c (Some e))

pub control-addressed : (c : Context) (withs : List Place) (i : Ident) → Addressed (control_variable c withs i).value
control-addressed c withs i =
    both_ways (λ r. Addressed r.value) (is_some (with_field c.scene 0 withs i.name)) (refuse c i.at not_a_control_variable in_error)
    (and_then (use_of c None i.name i.at) (controls c i.at)) error-addressed
    (controls-addressed c i.at (use_of c None i.name i.at).value)

pub bound-valued : (c : Context) (x : Coded) (at : ℕ) (v : Coded) → Valued c.scene v → Valued c.scene (bound_value c x at v).value
bound-valued c x at v g =
    both_ways (λ r. Valued c.scene r.value) (is_bad x.operand) (gives in_error) (assigned_to c (operand_type x.operand) at not_assignable v) (refl, tt)
    (assigned-good c (operand_type x.operand) at not_assignable v g)

not_false : (b : Bool) → not b ≡ true → b ≡ false
not_false true e = absurd cc
not_false false e = refl

-- where both tests hold
if_both : {A : Type 0} (P : A → Type 0) (s t : Bool) (a b : A) → (s ≡ true → t ≡ true → P a) → P b → P (if s && t then a else b)
if_both P true true a b p q = p refl refl
if_both P true false a b p q = q
if_both P false t a b p q = q

pub first-moves : (c : Context) (x first : Coded) → Addressed x → Valued c.scene first → Moves 0 (for_first c x first) 0
first-moves c x first f v =
    if_both (λ p. Moves 0 p 0) (has_code x) (has_code first) (store_code c x first) none
    (λ a b. store-moves c x first (f (not_false (is_bad x.operand) a)) v) (Moves-none 0)

pub last-moves : (c : Context) (t : ℕ) (x last : Coded) → Valued c.scene last → Moves 0 (for_last c t x last) 0
last-moves c t x last v =
    if_both (λ p. Moves 0 p 0) (has_code x) (has_code last) (plain (Local 0 t ∷ []) ⨟ fitted_code c (operand_type x.operand) last ⨟ plain (Store ∷ [])) none
    (λ a b. in_cell t (fitted_code c (operand_type x.operand) last) (fitted-moves c (operand_type x.operand) last v (not_false (is_bad last.operand) b)))
    (Moves-none 0)

pub for_test-moves : (t : ℕ) (x : Coded) (by : ℤ) → Moves 0 x.code 1 → Moves 0 (for_test t x by) 1
for_test-moves t x (pos n) f =
    Moves-then x.code (plain (Load ∷ Local 0 t ∷ Load ∷ Le ∷ [])) 0 1 1 f (plain-moves (Load ∷ Local 0 t ∷ Load ∷ Le ∷ []) 1 1 refl)
for_test-moves t x (negsuc n) f =
    Moves-then x.code (plain (Load ∷ Local 0 t ∷ Load ∷ Ge ∷ [])) 0 1 1 f (plain-moves (Load ∷ Local 0 t ∷ Load ∷ Ge ∷ []) 1 1 refl)

pub for_more-moves : (t : ℕ) (x : Coded) (by : ℤ) → Moves 0 x.code 1 → Moves 0 (for_more t x by) 1
for_more-moves t x by f =
    Moves-then x.code (plain (Load ∷ Local 0 t ∷ Load ∷ More by ∷ [])) 0 1 1 f (plain-moves (Load ∷ Local 0 t ∷ Load ∷ More by ∷ []) 1 1 refl)

pub for_step-moves : (scene : Scene) (x : Coded) (by : ℤ) → Moves 0 x.code 1 → Moves 0 (for_step scene x by) 0
for_step-moves scene x by f =
    Moves-then x.code (plain (Dup ∷ Load ∷ Push by ∷ Add (side_of scene (operand_type x.operand)) ∷ Store ∷ [])) 0 1 0 f
    (plain-moves (Dup ∷ Load ∷ Push by ∷ Add (side_of scene (operand_type x.operand)) ∷ Store ∷ []) 1 0 refl)

-- ---- WITH

pub record-addressed : (c : Context) (at : ℕ) (x : Coded) → Addressed x → Addressed (record_variable c at x).value
record-addressed c at x f =
    both_ways (λ r. Addressed r.value) (is_bad x.operand || is_record (kind_of c.scene (operand_type x.operand))) (gives x)
    (refuse c at not_a_record in_error) f error-addressed

pub with-moves : (t : ℕ) (x : Coded) → Addressed x → Moves 0 (with_code t x) 0
with-moves t x f =
    unless_true (λ p. Moves 0 p 0) (is_bad x.operand) none (plain (Local 0 t ∷ []) ⨟ x.code ⨟ plain (Store ∷ [])) (Moves-none 0) (λ b. in_cell t x.code (f b))

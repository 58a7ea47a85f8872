-- The parts of statements are right.
use Rattle.std.specs.Prelude.{refl, ℕ, ◌+◌, ◌≤◌, ◌&&◌, ◌||◌, not, is_some, ℤ, pos, negsuc, List, [], ◌∷◌, length, map, min, Option, Some, None}
use Rattle.std.proofs.Common.{arith}
use Rattle.code_form.specs.Heights.{Step}
use Rattle.code_form.specs.declared.instr.Instr.TheVariants.{Add, AndJump, Dup, Eq, Ge, Jump, JumpFalse, Le, Load, Local, More, Move, OrJump, Push, Return, Store, Trap}
use Rattle.block_code.specs.Coded.{Coded, characters, in_error, is_structured, value_code}
use Rattle.block_code.specs.Fitting.{fitted_code}
use Rattle.block_code.specs.Operators.{side_of}
use Rattle.block_code.specs.Parts.{Part, call, none, plain, plain_step, skip, text, ◌⨟◌}
use Rattle.block_code.specs.RecordFields.{with_field}
use Rattle.block_code.specs.Values.{assigned_to}
use Rattle.block_code.specs.Variables.{entry_coded}
use Rattle.m2_base.proofs.SoundOperands.{natural-value}
use Rattle.m2_base.proofs.SoundTypes.{either}
use Rattle.m2_base.specs.Gives.{Gives, and_then, gives}
use Rattle.m2_base.specs.Lists.{Each, WhereKept}
use Rattle.m2_base.specs.Rows.{IsValue, row_meaning}
use Rattle.m2_base.specs.declared.rows.Place.{Place}
use Rattle.m2_base.specs.Statics.CaseLabels.{LabelTest}
use Rattle.m2_base.specs.Statics.Compatible.{is_number_type}
use Rattle.m2_base.specs.Statics.Contexts.{Context, refuse}
use Rattle.m2_base.specs.Statics.Diagnostics.{not_a_control_variable, not_a_record, not_assignable, not_boolean, out_of_range, wrong_operands}
use Rattle.m2_base.specs.Statics.Lookup.{Entry}
use Rattle.m2_base.specs.Statics.Operands.{is_bad, operand_type}
use Rattle.m2_base.specs.Statics.Operations.{is_boolean}
use Rattle.m2_base.specs.Statics.Types.{base_of, kind_of, size_of}
use Rattle.m2_base.specs.Statics.Uses.{use_of}
use Rattle.m2_base.specs.declared.trees.Ident.{Ident}
use Rattle.m2_base.specs.declared.operands.Operand.{Operand}
use Rattle.m2_base.specs.declared.operands.Operand.TheVariants.{Constant, InError, StringConstant, Variable}
use Rattle.block_code.specs.Assignments.{assignment, code_unless_bad, store_by, store_code}
use Rattle.block_code.specs.Cases.{label_by, label_code, labels_code, more_labels_code, no_case, selector_code, selector_value}
use Rattle.block_code.specs.Counting.{bound_value, by_constant, can_control, control_variable, controls, controls_by, for_first, for_last, for_more, for_step, for_test, has_code, is_zero, or_one}
use Rattle.block_code.specs.Returns.{return_alone, return_code, return_value}
use Rattle.block_code.specs.Tests.{false_code, test_code}
use Rattle.block_code.specs.Withs.{is_record, record_variable, with_code}
use Rattle.block_laws.proofs.Values.{HasValues, IsEntry, IsProcedure, plain_use, size_is}
use Rattle.block_laws.proofs.Parts.{IsKept, Right, call-right, kept-on, skip-right, steps-if}
use Rattle.block_laws.proofs.Coded.{Setting, W, X, all, assigned-w, error-w, error-x, fitted-right, nothing-right, ok, push, side-small, single, string-right, thn, value-right}
use Rattle.block_laws.proofs.Designators.{entry-x}

module _ (q : Step → Type 0) (seen : ℕ → Type 0) (cells bytes : ℕ) (c : Context) (n from : ℕ) (set : Setting q seen cells bytes c) where
  abbrev R : Part → Type 0
  R p = Right q cells bytes n from p

  abbrev CX : Coded → Type 0
  CX x = X q seen cells bytes c n from set x

  abbrev CW : Coded → Type 0
  CW x = W q seen cells bytes c n from set x

  abbrev GX : Gives Coded → Type 0
  GX g = CX g.value

  abbrev GW : Gives Coded → Type 0
  GW g = CW g.value

  abbrev GP : Gives Part → Type 0
  GP g = R g.value

  then' : (a b : Part) → R a → R b → R (a ⨟ b)
  then' a b f g = thn q seen cells bytes c n from set a b f g

  none' : R none
  none' = nothing-right q seen cells bytes c n from set

  error' : CX in_error
  error' = error-x q seen cells bytes c n from set

  load : q (plain_step Load)
  load = ok q seen cells bytes c n from set Load refl (λ e. tt)

  store : R (plain (Store ∷ []))
  store = single q seen cells bytes c n from set Store refl (λ e. tt)

  -- a step with the address of a cell that is kept
  local : (t : ℕ) → IsKept t from → from ≤ cells → q (plain_step (Local 0 t))
  local t h e = set.leaves.temporary t (kept-on t from cells h e)

  local-right : (t : ℕ) → IsKept t from → R (plain (Local 0 t ∷ []))
  local-right t h = steps-if q cells bytes n from (plain_step (Local 0 t) ∷ []) (λ e. (local t h e, tt))

  pub always : (j : ℤ) → q (plain_step (Jump j))
  always j = ok q seen cells bytes c n from set (Jump j) refl (λ e. absurd cc)

  pub unless : (j : ℤ) → q (plain_step (JumpFalse j))
  unless j = ok q seen cells bytes c n from set (JumpFalse j) refl (λ e. absurd cc)

  -- ** Assignments

  store_go : (t : Place) (to : Part) (x : Coded) (o : Operand) → R to → CW x → R (store_by c t to x o)
  store_go t to x InError f g = none'
  store_go t to x (StringConstant name l) f g =
      let cs : List ℕ = characters c.source name in
      let s = size_is c set.rows t in
      then' to (text cs ⨟ plain (Move (min (length cs + 1) (size_of c.scene t)) ∷ [])) f
      (then' (text cs) (plain (Move (min (length cs + 1) (size_of c.scene t)) ∷ [])) (string-right q seen cells bytes c n from set cs)
      (single q seen cells bytes c n from set (Move (min (length cs + 1) (size_of c.scene t))) refl (λ e. (let m = s.1 in omega (arith, m), tt))))
  store_go t to x o f g =
      either R (is_structured c.scene t) (to ⨟ value_code c x ⨟ plain (Move (size_of c.scene t) ∷ [])) (to ⨟ fitted_code c t x ⨟ plain (Store ∷ []))
      (then' to (value_code c x ⨟ plain (Move (size_of c.scene t) ∷ [])) f
      (then' (value_code c x) (plain (Move (size_of c.scene t) ∷ [])) (value-right q seen cells bytes c n from set x g)
      (single q seen cells bytes c n from set (Move (size_of c.scene t)) refl (λ e. ((size_is c set.rows t).1, tt)))))
      (then' to (fitted_code c t x ⨟ plain (Store ∷ [])) f (then' (fitted_code c t x) (plain (Store ∷ [])) (fitted-right q seen cells bytes c n from set t x g) store))

  pub store-right : (to x : Coded) → CX to → CW x → R (store_code c to x)
  store-right to x f g = store_go (operand_type to.operand) to.code x x.operand f.1.0 g

  pub assignment-right : (to : Coded) (at : ℕ) (x : Coded) → CX to → CW x → GP (assignment c to at x)
  assignment-right to at x f g =
      let v : Coded = (assigned_to c (operand_type to.operand) at not_assignable x).value in
      either GP (is_bad to.operand) (gives none) (and_then (assigned_to c (operand_type to.operand) at not_assignable x) (λ v. gives (store_code c to v))) none'
      (store-right to v f (assigned-w q seen cells bytes c n from set (operand_type to.operand) at not_assignable x g))

  pub unless_bad-right : (x : Coded) → CX x → R (code_unless_bad x)
  unless_bad-right x g = either R (is_bad x.operand) none x.code none' g.1.0

  -- ** Tests and labels

  pub false-right : R false_code
  false-right = all q seen cells bytes c n from set (Push (pos 0) ∷ []) (push q seen cells bytes c n from set (pos 0) (natural-value 0 (omega arith)), tt)

  pub test-right : (at : ℕ) (x : Coded) → CW x → GP (test_code c at x)
  test-right at x g =
      either GP (is_bad x.operand) (gives false_code) _ false-right
      (either GP (is_boolean c x.operand) (gives (value_code c x)) (refuse c at not_boolean false_code) (value-right q seen cells bytes c n from set x g) false-right)

  pub selector-right : (t : ℕ) (x : Coded) → IsKept t from → CW x → R (selector_code c t x)
  selector-right t x h g =
      then' (plain (Local 0 t ∷ [])) (selector_value c x ⨟ plain (Store ∷ [])) (local-right t h)
      (then' (selector_value c x) (plain (Store ∷ []))
      (either R (is_bad x.operand) false_code (value_code c x) false-right (value-right q seen cells bytes c n from set x g)) store)

  -- a comparison of the selector
  compare-right : (t : ℕ) (v : ℤ) → IsKept t from → IsValue v → q (plain_step Eq) × (q (plain_step Ge) × q (plain_step Le))
      → R (plain (Local 0 t ∷ Load ∷ Push v ∷ Eq ∷ [])) × (R (plain (Local 0 t ∷ Load ∷ Push v ∷ Ge ∷ [])) × R (plain (Local 0 t ∷ Load ∷ Push v ∷ Le ∷ [])))
  compare-right t v h k o =
      let p : q (plain_step (Push v)) = push q seen cells bytes c n from set v k in (
        steps-if q cells bytes n from (map plain_step (Local 0 t ∷ Load ∷ Push v ∷ Eq ∷ [])) (λ e. (local t h e, (load, (p, (o.0, tt))))),
        (
          steps-if q cells bytes n from (map plain_step (Local 0 t ∷ Load ∷ Push v ∷ Ge ∷ [])) (λ e. (local t h e, (load, (p, (o.1.0, tt))))),
          steps-if q cells bytes n from (map plain_step (Local 0 t ∷ Load ∷ Push v ∷ Le ∷ [])) (λ e. (local t h e, (load, (p, (o.1.1, tt))))),
        ),
      )

  orders : q (plain_step Eq) × (q (plain_step Ge) × q (plain_step Le))
  orders = (
    ok q seen cells bytes c n from set Eq refl (λ e. tt),
    (ok q seen cells bytes c n from set Ge refl (λ e. tt), ok q seen cells bytes c n from set Le refl (λ e. tt)),
  )

  -- a label's values
  abbrev pub IsTest : LabelTest → Type 0
  IsTest l = IsValue l.low × WhereKept l.high IsValue

  label_go : (t : ℕ) (low : ℤ) (high : Option ℤ) → IsKept t from → IsValue low → WhereKept high IsValue → R (label_by t low high)
  label_go t low None h v w = (compare-right t low h v orders).0
  label_go t low (Some high) h v w =
      then' (plain (Local 0 t ∷ Load ∷ Push low ∷ Ge ∷ [])) (skip AndJump (plain (Local 0 t ∷ Load ∷ Push high ∷ Le ∷ []))) ((compare-right t low h v orders).1.0)
      (skip-right q cells bytes n from AndJump (plain (Local 0 t ∷ Load ∷ Push high ∷ Le ∷ [])) (λ k. ok q seen cells bytes c n from set (AndJump (pos k)) refl (λ e. absurd cc)) ((compare-right t high h w orders).1.1))

  more_labels-right : (t : ℕ) (ls : List LabelTest) → IsKept t from → Each IsTest ls → R (more_labels_code t ls)
  more_labels-right t [] h g = none'
  more_labels-right t (l ∷ ls) h g =
      then' (skip OrJump (label_code t l)) (more_labels_code t ls)
      (skip-right q cells bytes n from OrJump (label_code t l) (λ k. ok q seen cells bytes c n from set (OrJump (pos k)) refl (λ e. absurd cc)) (label_go t l.low l.high h g.0.0 g.0.1))
      (more_labels-right t ls h g.1)

  pub labels-right : (t : ℕ) (ls : List LabelTest) → IsKept t from → Each IsTest ls → R (labels_code t ls)
  labels-right t [] h g = false-right
  labels-right t (l ∷ ls) h g = then' (label_code t l) (more_labels_code t ls) (label_go t l.low l.high h g.0.0 g.0.1) (more_labels-right t ls h g.1)

  trap-right : (k : ℕ) → 7 ≤ k → k ≤ 8 → R (plain (Trap k ∷ []))
  trap-right k h e = single q seen cells bytes c n from set (Trap k) refl (λ f. ((h, e), tt))

  pub no_case-right : R no_case
  no_case-right = trap-right 8 (omega arith) (omega arith)

  pub no_result-right : R (plain (Trap 7 ∷ []))
  no_result-right = trap-right 7 (omega arith) (omega arith)

  -- ** FOR

  controls_go : (at : ℕ) (e : Entry) (x : Coded) (o : Operand) → CX x → GX (controls_by c at e x o)
  controls_go at e x InError g = error'
  controls_go at e x (Variable t) g = either GX (can_control c.scene e.0.scope (row_meaning e.1)) (gives x) (refuse c at not_a_control_variable in_error) g error'
  controls_go at e x o g = error'

  controls-x : (at : ℕ) (e : Option Entry) → WhereKept e (IsEntry seen c.scene) → GX (controls c at e)
  controls-x at None h = error'
  controls-x at (Some e) h =
      controls_go at e (entry_coded c (Some e)) (entry_coded c (Some e)).operand (entry-x q seen cells bytes c n from set (Some e) h)

  pub control-x : (withs : List Place) (i : Ident) → GX (control_variable c withs i)
  control-x withs i =
      either GX (is_some (with_field c.scene 0 withs i.name)) (refuse c i.at not_a_control_variable in_error) (and_then (use_of c None i.name i.at) (controls c i.at)) error'
      (controls-x i.at (use_of c None i.name i.at).value (plain_use seen c set.sees i.name i.at))

  pub bound-w : (x : Coded) (at : ℕ) (v : Coded) → CW v → GW (bound_value c x at v)
  bound-w x at v g =
      either GW (is_bad x.operand) (gives in_error) _ (error-w q seen cells bytes c n from set)
      (assigned-w q seen cells bytes c n from set (operand_type x.operand) at not_assignable v g)

  pub first-right : (x first : Coded) → CX x → CW first → R (for_first c x first)
  first-right x first f g = either R (has_code x && has_code first) (store_code c x first) none (store-right x first f g) none'

  pub last-right : (t : ℕ) (x last : Coded) → IsKept t from → CW last → R (for_last c t x last)
  last-right t x last h g =
      let p : Part = fitted_code c (operand_type x.operand) last in
      either R (has_code x && has_code last) (plain (Local 0 t ∷ []) ⨟ p ⨟ plain (Store ∷ [])) none
      (then' (plain (Local 0 t ∷ [])) (p ⨟ plain (Store ∷ [])) (local-right t h)
      (then' p (plain (Store ∷ [])) (fitted-right q seen cells bytes c n from set (operand_type x.operand) last g) store)) none'

  pub for_test-right : (t : ℕ) (x : Coded) (by : ℤ) → IsKept t from → CX x → R (for_test t x by)
  for_test-right t x (pos k) h g =
      then' x.code (plain (Load ∷ Local 0 t ∷ Load ∷ Le ∷ [])) g.1.0
      (steps-if q cells bytes n from (map plain_step (Load ∷ Local 0 t ∷ Load ∷ Le ∷ [])) (λ e. (load, (local t h e, (load, (orders.1.1, tt))))))
  for_test-right t x (negsuc k) h g =
      then' x.code (plain (Load ∷ Local 0 t ∷ Load ∷ Ge ∷ [])) g.1.0
      (steps-if q cells bytes n from (map plain_step (Load ∷ Local 0 t ∷ Load ∷ Ge ∷ [])) (λ e. (load, (local t h e, (load, (orders.1.0, tt))))))

  pub for_more-right : (t : ℕ) (x : Coded) (by : ℤ) → IsKept t from → CX x → IsValue by → R (for_more t x by)
  for_more-right t x by h g v =
      then' x.code (plain (Load ∷ Local 0 t ∷ Load ∷ More by ∷ [])) g.1.0
      (steps-if q cells bytes n from (map plain_step (Load ∷ Local 0 t ∷ Load ∷ More by ∷ []))
      (λ e. (load, (local t h e, (load, (ok q seen cells bytes c n from set (More by) refl (λ f. (v, tt)), tt))))))

  pub for_step-right : (x : Coded) (by : ℤ) → CX x → IsValue by → R (for_step c.scene x by)
  for_step-right x by g v =
      let b : ℕ = side_of c.scene (operand_type x.operand) in
      then' x.code (plain (Dup ∷ Load ∷ Push by ∷ Add b ∷ Store ∷ [])) g.1.0
      (all q seen cells bytes c n from set (Dup ∷ Load ∷ Push by ∷ Add b ∷ Store ∷ []) (
        ok q seen cells bytes c n from set Dup refl (λ e. tt),
        (
          load,
          (
            push q seen cells bytes c n from set by v,
            (
              ok q seen cells bytes c n from set (Add b) refl (λ e. (side-small q seen cells bytes c n from set (operand_type x.operand), tt)),
              (ok q seen cells bytes c n from set Store refl (λ e. tt), tt),
            ),
          ),
        ),
      ))

  pub by-value : (at : ℕ) (o : Option Operand) → WhereKept o (λ x. HasValues seen (λ name t k s. IsProcedure seen c.scene name t k s) x) → WhereKept (by_constant c at o).value IsValue
  by-value at None h = tt
  by-value at (Some (Constant t v)) h =
      either (λ g. WhereKept g.value IsValue) (not (is_number_type (base_of c.scene t))) (refuse c at wrong_operands None) _ tt
      (either (λ g. WhereKept g.value IsValue) (is_zero v) (refuse c at out_of_range None) (gives (Some v)) tt h)
  by-value at (Some o) h = tt

  -- ** WITH and RETURN

  pub record-x : (at : ℕ) (x : Coded) → CX x → GX (record_variable c at x)
  record-x at x g = either GX (is_bad x.operand || is_record (kind_of c.scene (operand_type x.operand))) (gives x) (refuse c at not_a_record in_error) g error'

  pub with-right : (t : ℕ) (x : Coded) → IsKept t from → CX x → R (with_code t x)
  with-right t x h g =
      either R (is_bad x.operand) none (plain (Local 0 t ∷ []) ⨟ x.code ⨟ plain (Store ∷ [])) none'
      (then' (plain (Local 0 t ∷ [])) (x.code ⨟ plain (Store ∷ [])) (local-right t h) (then' x.code (plain (Store ∷ [])) g.1.0 store))

  pub return-right : R return_code
  return-right = call-right q cells bytes n from Return 0 0 (set.leaves.returns 0)

  pub alone-right : (at : ℕ) (r : Option Place) → GP (return_alone c at r)
  alone-right at None = return-right
  alone-right at (Some t) = none'

  pub return_value-right : (at : ℕ) (r : Option Place) (x_at : ℕ) (x : Coded) → CW x → GP (return_value c at r x_at x)
  return_value-right at None x_at x g = none'
  return_value-right at (Some t) x_at x g =
      let y : Coded = (assigned_to c t x_at not_assignable x).value in
      either R (is_bad y.operand) none (fitted_code c t y ⨟ call Return 1 0) none'
      (then' (fitted_code c t y) (call Return 1 0)
      (fitted-right q seen cells bytes c n from set t y (assigned-w q seen cells bytes c n from set t x_at not_assignable x g)) (call-right q cells bytes n from Return 1 0 (set.leaves.returns 1)))

-- the step, 1 where there is none
pub or_one-value : (o : Option ℤ) → WhereKept o IsValue → IsValue (or_one o)
or_one-value None h = natural-value 1 (omega arith)
or_one-value (Some v) h = h

-- What a value that is called is.
use Rattle.std.proofs.Common.{◌≡◌, ◌≢◌, ℕ, ◌+◌, ◌-◌, Bool, true, false, cond, ltb, eqb, List, length, Option, Some, None, refl, sym, ap, ◌∙◌, subst, ℤ, pos, ◌⊎◌, inl, inr, get_or, FitsSigned, w64, to_z, of_z}
use Rattle.std.specs.Prelude.{slice_get, is_none, ◌&&◌, int_lt, unsigned_abs}
use Rattle.std.proofs.lemmas.Bool.Decides.{eqb_tells}
use Rattle.std.proofs.lemmas.Bool.{false≢true}
use Rattle.std.proofs.lemmas.Int.{to_z-of_z}
use Rattle.std.proofs.lemmas.Option.{slice_get-get_or}
use Rattle.stack_machine.proofs.Links.{within}
use Rattle.stack_machine.specs.declared.code.Routine.{Routine}
use Rattle.stack_machine.specs.declared.code.Origin.{Origin}
use Rattle.stack_machine.specs.declared.code.Callee.{Callee}
use Rattle.stack_machine.specs.declared.code.Callee.TheVariants as callees
use Rattle.stack_machine.specs.declared.op.Service.{Service}
use Rattle.stack_machine.specs.InOut.{params_of, services}
use Rattle.stack_machine.specs.State.{Program}
use Rattle.stack_machine.specs.Ready.{AreBodies, IsSmall}
use Rattle.stack_machine.specs.Step.{body_after, body_behind, routine_if, service_if, numbered, callee_of}

equal_by : (m n : ℕ) → eqb m n ≡ true → m ≡ n
equal_by m n e = chosen (eqb_tells m n) where
  chosen : ((eqb m n ≡ true) × (m ≡ n)) ⊎ ((eqb m n ≡ false) × (m ≢ n)) → m ≡ n
  chosen (inl h) = h.1
  chosen (inr h) = absurd (false≢true (sym h.0 ∙ e))

-- what a chosen value is, where the other one is none
if_some : (b : Bool) (x y : Callee) → cond b (Some x) None ≡ Some y → (b ≡ true) × (x ≡ y)
if_some true x y e = (refl, cc)
if_some false x y e = absurd cc

both : (a b : Bool) → a && b ≡ true → (a ≡ true) × (b ≡ true)
both true b e = (refl, e)
both false b e = absurd cc

-- a procedure of the program, with these parameters and this result and none around it
pub record IsRoutine (p : Program) (n r k : ℕ) : Type 0 where
  pub routine : Routine
  pub is : slice_get p.routines k ≡ Some routine
  pub params : routine.params ≡ n
  pub result : routine.result ≡ r
  pub alone : routine.outer ≡ None

pub record IsService (p : Program) (n r : ℕ) (v : Service) : Type 0 where
  pub params : params_of v ≡ n
  pub result : r ≡ 0
  pub there : p.has_in_out ≡ true

abbrev Means : Program → (n r : ℕ) → Callee → Type 0
Means p n r (callees.Routine k) = IsRoutine p n r k
Means p n r (callees.Service v) = IsService p n r v

none_is : (o : Option ℕ) → is_none o ≡ true → o ≡ None
none_is None e = refl
none_is (Some x) e = absurd cc

routine_means : (p : Program) (k n r : ℕ) (o : Option Routine) (y : Callee) → slice_get p.routines k ≡ o → routine_if k n r o ≡ Some y → Means p n r y
routine_means p k n r None y is e = absurd cc
routine_means p k n r (Some q) y is e =
    let h = if_some _ (callees.Routine k) y e in
    let b = both (eqb q.params n && eqb q.result r) (is_none q.outer) h.0 in
    let ab = both (eqb q.params n) (eqb q.result r) b.0 in
    subst (Means p n r) h.1 (record { routine = q; is = is; params = equal_by q.params n ab.0; result = equal_by q.result r ab.1; alone = none_is q.outer b.1 })

service_means : (p : Program) (n r : ℕ) (o : Option Service) (y : Callee) → p.has_in_out ≡ true → service_if n r o ≡ Some y → Means p n r y
service_means p n r None y there e = absurd cc
service_means p n r (Some v) y there e =
    let h = if_some _ (callees.Service v) y e in
    let ab = both (eqb (params_of v) n) (eqb r 0) h.0 in
    subst (Means p n r) h.1 (record { params = equal_by (params_of v) n ab.0; result = equal_by r 0 ab.1; there = there })

numbered_means : (p : Program) (k n r : ℕ) (y : Callee) → numbered p k n r ≡ Some y → Means p n r y
numbered_means p k n r y e = chosen (ltb k (length p.routines)) e where
  served : (b : Bool) → p.has_in_out ≡ b → cond b (service_if n r (slice_get services (k - length p.routines))) None ≡ Some y → Means p n r y
  served true there e = service_means p n r (slice_get services (k - length p.routines)) y there e
  served false there e = absurd cc

  chosen : (b : Bool) → cond b (routine_if k n r (slice_get p.routines k)) (cond p.has_in_out (service_if n r (slice_get services (k - length p.routines))) None) ≡ Some y → Means p n r y
  chosen true e = routine_means p k n r (slice_get p.routines k) y refl e
  chosen false e = served p.has_in_out refl e

callee_means : (p : Program) (v : ℤ) (n r : ℕ) (y : Callee) → callee_of p v n r ≡ Some y → Means p n r y
callee_means p v n r y e = chosen (int_lt (pos 0) v) e where
  chosen : (b : Bool) → cond b (numbered p (unsigned_abs v - 1) n r) None ≡ Some y → Means p n r y
  chosen true e = numbered_means p (unsigned_abs v - 1) n r y e
  chosen false e = absurd cc

pub callee_routine : (p : Program) (v : ℤ) (n r k : ℕ) → callee_of p v n r ≡ Some (callees.Routine k) → IsRoutine p n r k
callee_routine p v n r k e = callee_means p v n r (callees.Routine k) e

pub callee_service : (p : Program) (v : ℤ) (n r : ℕ) (w : Service) → callee_of p v n r ≡ Some (callees.Service w) → IsService p n r w
callee_service p v n r w e = callee_means p v n r (callees.Service w) e

-- the value is handed on
pub callee_told : (p : Program) (z t : ℤ) (n r : ℕ) (found : Option Callee) → FitsSigned w64 z → z ≡ t → found ≡ callee_of p (to_z w64 (of_z w64 z)) n r → callee_of p t n r ≡ found
callee_told p z t n r found fits e is = ap (λ (v : ℤ). callee_of p v n r) (sym (to_z-of_z w64 z fits ∙ e)) ∙ sym is

-- what stands at a place
pub found : (routines : List Routine) (k : ℕ) (q r : Routine) → slice_get routines k ≡ Some q → r ≡ get_or routines k r → q ≡ r
found routines k q r is e = some_is q r (sym is ∙ slice_get-get_or routines k r (within routines k q is) ∙ ap Some (sym e)) where
  some_is : (x y : Routine) → Some x ≡ Some y → x ≡ y
  some_is x y e = cc

-- the body behind a place is a procedure
pub body_is : (p : Program) (at k : ℕ) → AreBodies p → body_behind p at ≡ Some k → (q : Routine) × (slice_get p.routines k ≡ Some q) × IsSmall q
body_is p at k bodies is = chosen (slice_get p.origins at) is where
  chosen : (o : Option Origin) → body_after p.bodies o ≡ Some k → (q : Routine) × (slice_get p.routines k ≡ Some q) × IsSmall q
  chosen None e = absurd cc
  chosen (Some o) e = bodies (o.«module» + 1) k e

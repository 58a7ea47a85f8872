-- What holds of the end once the sink has handed on what it kept back: it is as before, or writing failed.
use Rattle.std.proofs.Common.{◌≡◌, ◌⊎◌, ◌≤◌, ◌∙◌, inl, inr, ℕ, List, Option, Result, Ok, Err, ap, arith, length, sym, subst, IfSome, IfOk, OnErr}
use Rattle.std.specs.Prelude.{IsErrOf}
use Rattle.std.proofs.lemmas.List.{take_all}
use Rattle.m2_io.specs.Causes.{Rose}
use Rattle.m2_io.specs.Files.{Files}
use Rattle.m2_io.specs.Written.{WritesPart, with_bytes}
use Rattle.m2c_top.specs.Effects.{Effect, Gives, HasInput, Leaves, PrintsPart}
use Rattle.m2c_top.specs.Statuses.{status_number}
use Rattle.m2c_top.specs.declared.ending.Stop.{Stop}
use Rattle.m2c_top.specs.declared.ending.Stop.TheVariants as stop
use Rattle.m2c_top.specs.declared.status.Status.{Status}
use Rattle.m2c_top.proofs.Told.{map_told}

-- ** What held of the end

not_reading : (r : Result Status Stop) → IsErrOf r stop.Write → IsErrOf r stop.Read → ⊥
not_reading r e f = let h : Err stop.Write ≡ Err stop.Read = sym e ∙ f in cc

not_memory : (r : Result Status Stop) → IsErrOf r stop.Write → IsErrOf r stop.Memory → ⊥
not_memory r e f = let h : Err stop.Write ≡ Err stop.Memory = sym e ∙ f in cc

module _ (ended r : Result Status Stop) where
  pub still_ok : (r ≡ ended) ⊎ IsErrOf r stop.Write → (Q : Status → Type 0) → IfOk ended Q → IfOk r Q
  still_ok (inl e) Q h = subst (λ (x : Result Status Stop). IfOk x Q) (sym e) h
  still_ok (inr e) Q h = subst (λ (x : Result Status Stop). IfOk x Q) (sym e) tt

  pub still_read : (r ≡ ended) ⊎ IsErrOf r stop.Write → (P : Type 0) → (IsErrOf ended stop.Read → P) → IsErrOf r stop.Read → P
  still_read (inl e) P h f = h (sym e ∙ f)
  still_read (inr e) P h f = absurd (not_reading r e f)

  pub still_memory : (r ≡ ended) ⊎ IsErrOf r stop.Write → (P : Type 0) → (IsErrOf ended stop.Memory → P) → IsErrOf r stop.Memory → P
  still_memory (inl e) P h f = h (sym e ∙ f)
  still_memory (inr e) P h f = absurd (not_memory r e f)

-- ** Counts of faults

rose_then : (a b c : ℕ) → Rose a b → b ≤ c → Rose a c
rose_then a b c h k = omega (arith, h, k)

rose_later : (a b c : ℕ) → a ≤ b → Rose b c → Rose a c
rose_later a b c h k = omega (arith, h, k)

-- writing failed before, or then
pub writing_failed : (E : Type 0) (Q : Type 0) (a b c : ℕ) → a ≤ b → b ≤ c → (E → Rose a b ⊎ Q) → E ⊎ Rose b c → Rose a c ⊎ Q
writing_failed E Q a b c ab bc h (inr rose) = inl (rose_later a b c ab rose)
writing_failed E Q a b c ab bc h (inl e) = on (h e) where
  on : Rose a b ⊎ Q → Rose a c ⊎ Q
  on (inl rose) = inl (rose_then a b c rose bc)
  on (inr q) = inr q

-- ** What was printed

module _ (words : List (List ℕ)) (one : (files : Files) (left : Option (List ℕ)) (these those : Effect) → Gives words files left these → Gives words files left those → these ≡ those) where
  whole_part : (files : Files) (status : ℕ) (after : Option Files) (before old new left : Option (List ℕ)) → Leaves (Gives words files before) status after old new left → PrintsPart (Gives words files before) old new
  whole_part files status after before old new left h effect given =
      let all : WritesPart old h.effect.printed new = (length h.effect.printed, h.printed_is ∙ ap (with_bytes old) (sym (take_all (length h.effect.printed) h.effect.printed (omega arith)))) in
      subst (λ (x : Effect). WritesPart old x.printed new) (one files before h.effect effect h.is_given given) all

  -- however the work ended, a front was printed
  pub prints_front : {T : Type 0} (r : Result T Stop) (holds after : Option Files) (before old new now left : Option (List ℕ)) (ended : Result Status Stop) → now ≡ new
      → IfOk ended (λ status. IfSome holds (λ files. HasInput words before → Leaves (Gives words files before) (status_number status) after old new left))
      → OnErr ended (IfSome holds (λ files. HasInput words before → PrintsPart (Gives words files before) old new)) → OnErr r (IfSome holds (λ files. HasInput words before → PrintsPart (Gives words files before) old now))
  prints_front r holds after before old new now left ended e leaves prints = on_err r (subst (λ (w : Option (List ℕ)). IfSome holds (λ files. HasInput words before → PrintsPart (Gives words files before) old w)) (sym e) (on ended leaves prints)) where
    on_err : {U : Type 0} (r : Result U Stop) {P : Type 0} → P → OnErr r P
    on_err (Ok x) p = tt
    on_err (Err s) p = p

    on : (x : Result Status Stop) → IfOk x (λ status. IfSome holds (λ files. HasInput words before → Leaves (Gives words files before) (status_number status) after old new left))
        → OnErr x (IfSome holds (λ files. HasInput words before → PrintsPart (Gives words files before) old new)) → IfSome holds (λ files. HasInput words before → PrintsPart (Gives words files before) old new)
    on (Err s) leaves prints = prints
    on (Ok status) leaves prints =
        map_told holds (λ files. HasInput words before → Leaves (Gives words files before) (status_number status) after old new left) (λ files. HasInput words before → PrintsPart (Gives words files before) old new)
        (λ files h has. whole_part files (status_number status) after before old new left (h has)) leaves

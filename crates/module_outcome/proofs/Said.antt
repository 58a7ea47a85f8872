-- What is said of a module goes with what is decided of it.
use Rattle.std.proofs.Common.{◌≡◌, ℕ, List, [], Option, Some, None, Result, Ok, Err, refl, sym, ap, append-nil, IfOk, OnOk}
use Rattle.m2_io.specs.Files.{Files}
use Rattle.m2_io.specs.Written.{with_bytes}
use Rattle.module_outcome.specs.Delivery.{Delivers}
use Rattle.module_outcome.specs.Verdicts.{Decision, answer_to, files_after, printed_of}
use Rattle.module_outcome.specs.declared.answer.Answer.{Answer}
use Rattle.module_outcome.specs.declared.answer.Stop.{Stop}

pub with_nothing : (old : Option (List ℕ)) → old ≡ with_bytes old []
with_nothing None = refl
with_nothing (Some old) = ap Some (sym (append-nil old))

pub on_ok : {T E : Type 0} (r : Result T E) {P : Type 0} → P → OnOk r P
on_ok (Ok x) p = p
on_ok (Err e) p = tt

module _ (name : List ℕ) (d : Decision) (holds after : Option Files) (old new : Option (List ℕ)) where
  pub delivers : (r : Result Answer Stop) → IfOk r (λ answer. answer ≡ answer_to d) → OnOk r (after ≡ files_after name d holds) → OnOk r (new ≡ with_bytes old (printed_of name d))
      → IfOk r (λ answer. Delivers name d answer holds after old new)
  delivers (Err e) answer files printed = tt
  delivers (Ok a) answer files printed = record { answer_is = answer; files_are = files; printed_is = printed }

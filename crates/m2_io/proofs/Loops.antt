-- What the loop that writes keeps.
use Rattle.std.proofs.Common.{◌≡◌, ◌≤◌, ◌+◌, ℕ, List, ◌++◌, Option, Some, None, length, take, drop, ap, sym, ◌∙◌, refl, append_assoc}
use Rattle.std.proofs.Math.Seq.{take-add}
use Rattle.m2_io.specs.Written.{with_bytes}

-- so many bytes are written
pub record IsWriting (old : Option (List ℕ)) (faults : ℕ) (bytes : List ℕ) (new : Option (List ℕ)) (now : ℕ) (done : ℕ) : Type 0 where
  pub within : done ≤ length bytes
  pub written : new ≡ with_bytes old (take done bytes)
  pub later : faults ≤ now

-- a piece after what is written
pub with_bytes-again : (old : Option (List ℕ)) (bytes : List ℕ) (done n : ℕ)
    → with_bytes (with_bytes old (take done bytes)) (take n (drop done bytes)) ≡ with_bytes old (take (done + n) bytes)
with_bytes-again None bytes done n = refl
with_bytes-again (Some old) bytes done n = ap Some (append_assoc old (take done bytes) (take n (drop done bytes)) ∙ ap (λ b. old ++ b) (sym (take-add done n bytes)))

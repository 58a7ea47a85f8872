-- Reading so many entries, one after another.
use Rattle.std.proofs.Common.{◌≡◌, ℕ, suc, ◌+◌, ◌-◌, ◌<◌, ◌≤◌, List, [], ◌∷◌, ◌++◌, Result, Ok, refl, arith}
use Rattle.object_file.specs.declared.fault.Stop.{Stop}
use Rattle.object_file.specs.declared.fault.Stop.TheVariants as stops
use Rattle.object_file.specs.Formats.{Bad}
use Rattle.object_file.specs.Fields.{many_at, Fails}

pub goes_on : {A : Type 0} (one : List A → List ℕ → Result (A × List ℕ) Bad) (before : List A) (count i : ℕ) (bytes : List ℕ) (x : A) (after : List ℕ) → i < count → one before bytes ≡ Ok (x, after)
    → many_at one (count - i) before bytes ≡ many_at one (count - (i + 1)) (before ++ x ∷ []) after
unfolding many_at
goes_on one before count i bytes x after lt h = let k : count - i ≡ suc (count - (i + 1)) = omega arith in rw (k, h) refl

pub stops_at : {A : Type 0} (one : List A → List ℕ → Result (A × List ℕ) Bad) (e : Stop) (before : List A) (count i : ℕ) (bytes : List ℕ) → i < count → Fails e (one before bytes) → Fails e (many_at one (count - i) before bytes)
unfolding many_at
stops_at one stops.Memory before count i bytes lt h = tt
stops_at one (stops.Bad left code) before count i bytes lt h = let k : count - i ≡ suc (count - (i + 1)) = omega arith in rw (k, h) refl

pub is_done : {A : Type 0} (one : List A → List ℕ → Result (A × List ℕ) Bad) (before : List A) (count i : ℕ) (bytes : List ℕ) → count ≤ i → many_at one (count - i) before bytes ≡ Ok (before, bytes)
unfolding many_at
is_done one before count i bytes le = let k : count - i ≡ 0 = omega arith in rw k refl

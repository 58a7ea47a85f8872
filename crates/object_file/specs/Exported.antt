-- What the exports of a procedure ask of it, all together.
use Rattle.std.specs.Prelude.{◌≡◌, ℕ, Bool, true, false, ◌==◌, List, Option, Some, None, if◌then◌else◌}
use Rattle.std.specs.Ordering.{nat_cmp}
use Rattle.std.specs.BTreeMap.{BTreeMap, get}
use Rattle.object_file.specs.declared.wanted.Wanted.{Wanted}
use Rattle.object_file.specs.Contents.{Export}
use Rattle.object_file.specs.ObjectFormat.{as_exported}

-- a number that is known, if another one is asked too
abbrev pub both : Option ℕ → ℕ → Option ℕ
both None n = None
both (Some m) n = if m == n then Some m else None

-- what is asked, with one export more
abbrev pub merged : Option Wanted → Export → Wanted
merged None e = record { params = Some e.1; result = Some e.2 }
merged (Some w) e = record { params = both w.params e.1; result = both w.result e.2 }

-- the one number that is asked
abbrev pub agrees : Option ℕ → ℕ → Bool
agrees None n = false
agrees (Some m) n = n == m

-- what is asked of a procedure allows this
abbrev pub admits_outer : Option Wanted → ℕ → Bool
admits_outer None outer = true
admits_outer (Some w) outer = outer == 0

abbrev pub admits_params : Option Wanted → ℕ → Bool
admits_params None n = true
admits_params (Some w) n = agrees w.params n

abbrev pub admits_result : Option Wanted → ℕ → Bool
admits_result None n = true
admits_result (Some w) n = agrees w.result n

abbrev pub found_in : BTreeMap ℕ Wanted → ℕ → Option Wanted
found_in m k = get nat_cmp m k

-- what is found of each procedure is what its exports ask
pub record IsIndex (exports : List Export) (found : ℕ → Option Wanted) : Type 0 where
  pub outer : (k n : ℕ) → as_exported exports k (λ e. n == 0) ≡ admits_outer (found k) n
  pub params : (k n : ℕ) → as_exported exports k (λ e. n == e.1) ≡ admits_params (found k) n
  pub result : (k n : ℕ) → as_exported exports k (λ e. n == e.2) ≡ admits_result (found k) n

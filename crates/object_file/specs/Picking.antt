-- Objects in another order.
use Rattle.std.specs.Prelude.{◌≢◌, ◌<◌, ℕ, List, [], ◌∷◌}
use Rattle.std.specs.List.{AllByRecursion}

-- numbers of so many objects
abbrev pub AreNumbers : (count : ℕ) → List ℕ → Type 0
AreNumbers count ks = AllByRecursion (λ k. k < count) ks

abbrev pub AllDifferent : List ℕ → Type 0
AllDifferent [] = Unit {0}
AllDifferent (k ∷ ks) = AllByRecursion (λ j. k ≢ j) ks × AllDifferent ks

-- The verbs differ.
use Rattle.std.proofs.Common.{◌≡◌, ℕ, List, arith, get_or, refl, sym, ◌∙◌, ap}
use Rattle.std.specs.Prelude.{codes}

-- in their first letters
first : List ℕ → ℕ
first word = get_or word 0 0

first_of_verbs : (first (codes "compile") ≡ 99) × (first (codes "run") ≡ 114) × (first (codes "dump") ≡ 100) × (first (codes "big") ≡ 98)
unfolding first
first_of_verbs = (refl, refl, refl, refl)

module _ (verb : List ℕ) where
  apart : (x y : List ℕ) (m n : ℕ) → verb ≡ x → verb ≡ y → first x ≡ m → first y ≡ n → m ≡ n
  apart x y m n a b e f = sym e ∙ ap first (sym a ∙ b) ∙ f

  pub no_compile_run : verb ≡ codes "compile" → verb ≡ codes "run" → ⊥
  no_compile_run a b = omega (arith, apart _ _ _ _ a b first_of_verbs.0 first_of_verbs.1)

  pub no_compile_dump : verb ≡ codes "compile" → verb ≡ codes "dump" → ⊥
  no_compile_dump a b = omega (arith, apart _ _ _ _ a b first_of_verbs.0 first_of_verbs.2)

  pub no_compile_big : verb ≡ codes "compile" → verb ≡ codes "big" → ⊥
  no_compile_big a b = omega (arith, apart _ _ _ _ a b first_of_verbs.0 first_of_verbs.3)

  pub no_run_dump : verb ≡ codes "run" → verb ≡ codes "dump" → ⊥
  no_run_dump a b = omega (arith, apart _ _ _ _ a b first_of_verbs.1 first_of_verbs.2)

  pub no_run_big : verb ≡ codes "run" → verb ≡ codes "big" → ⊥
  no_run_big a b = omega (arith, apart _ _ _ _ a b first_of_verbs.1 first_of_verbs.3)

  pub no_dump_big : verb ≡ codes "dump" → verb ≡ codes "big" → ⊥
  no_dump_big a b = omega (arith, apart _ _ _ _ a b first_of_verbs.2 first_of_verbs.3)

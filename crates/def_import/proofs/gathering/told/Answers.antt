use Rattle.std.proofs.Common.{◌≡◌, ◌≢◌, ◌==◌, ℕ, true, false, List, [], ◌∷◌, length, vec_len, refl, sym, ◌∙◌, arith}
use Rattle.def_import.proofs.gathering.told.Goals as goal

none_there : {A : Type 0} (xs : List A) (n : ℕ) → n ≡ length xs → (n == 0) ≡ true → [] ≡ xs
none_there [] n l e = refl
none_there (x ∷ xs) n l e = let no : ⊥ = grind arith in absurd no

some_there : {A : Type 0} (xs : List A) (n : ℕ) → n ≡ length xs → (n == 0) ≡ false → xs ≢ []
some_there [] n l e = let no : ⊥ = grind arith in absurd no
some_there (x ∷ xs) n l e = λ q. cc

pub returns-then-is_empty : goal.returns-then-is_empty
returns-then-is_empty c =
    let count : vec_len c.args.wrongs ≡ length c.args.wrongs.items = omega (arith, c.args.wrongs.ok.0) in
    record { unit = refl; wrongs = none_there c.args.wrongs.items (vec_len c.args.wrongs) count (sym c.is_empty.ensures ∙ c.if-is_empty.true); told = tt }

pub returns-else-is_empty : goal.returns-else-is_empty
returns-else-is_empty c =
    let count : vec_len c.args.wrongs ≡ length c.args.wrongs.items = omega (arith, c.args.wrongs.ok.0) in
    record { unit = refl; wrongs = refl; told = some_there c.args.wrongs.items (vec_len c.args.wrongs) count (sym c.is_empty.ensures ∙ c.if-is_empty.false) }

-- The lines of diagnostics, one behind the other.
use Rattle.std.proofs.Common.{◌≡◌, ◌∙◌, sym, ap, ℕ, ◌+◌, ◌<◌, ◌++◌, List, [], ◌∷◌, append-nil, length, get_or, take}
use Rattle.std.proofs.lemmas.List.{take_more}
use Rattle.std.proofs.lemmas.Grind.{flat_map-append}
use Rattle.std.specs.List.{flat_map}

-- the line of one more element stands behind those of the elements before it
pub one_more : {A B : Type 0} (f : A → List B) (xs : List A) (i : ℕ) (d : A) (old new : List B) → i < length xs
    → new ≡ old ++ f (get_or xs i d) → old ≡ flat_map f (take i xs) → new ≡ flat_map f (take (i + 1) xs)
one_more f xs i d old new below pushed before =
    let one : flat_map f (get_or xs i d ∷ []) ≡ f (get_or xs i d) = append-nil (f (get_or xs i d)) in
    pushed ∙ ap (λ ys. ys ++ f (get_or xs i d)) before ∙ ap (λ ys. flat_map f (take i xs) ++ ys) (sym one)
    ∙ sym (flat_map-append f (take i xs) (get_or xs i d ∷ [])) ∙ ap (flat_map f) (sym (take_more xs i d below))

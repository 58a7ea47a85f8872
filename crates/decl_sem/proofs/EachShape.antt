-- What is made of each element of a list, one behind the other.
use Rattle.std.proofs.Common.{◌≡◌, ◌∙◌, sym, ap, ℕ, ◌+◌, ◌<◌, ◌≤◌, ◌++◌, List, [], ◌∷◌, append_assoc, length, get_or, map, take}
use Rattle.std.proofs.lemmas.List.{flat_map_more, map_more, take_all, take_more}
use Rattle.std.specs.Prelude.{flat_map}

module _ {A B : Type 0} (xs : List A) (i : ℕ) (old now new : List B) where
  -- behind what is made of those before it stands what is made of one more
  pub one_more : (f : A → List B) (x : A) → i < length xs → x ≡ get_or xs i x → now ≡ old ++ flat_map f (take i xs) → new ≡ now ++ f x
      → new ≡ old ++ flat_map f (take (i + 1) xs)
  one_more f x below is before put =
      put ∙ ap (λ ys. ys ++ f x) before ∙ flat_map_more f old (take i xs) x
      ∙ ap (λ ys. old ++ flat_map f ys) (ap (λ y. take i xs ++ y ∷ []) is ∙ sym (take_more xs i x below))

  -- the same, where each makes one
  pub one_more_item : (f : A → B) (x : A) → i < length xs → now ≡ old ++ map f (take i xs) → new ≡ now ++ f (get_or xs i x) ∷ [] → new ≡ old ++ map f (take (i + 1) xs)
  one_more_item f x below before put =
      put ∙ ap (λ ys. ys ++ f (get_or xs i x) ∷ []) before ∙ append_assoc old (map f (take i xs)) (f (get_or xs i x) ∷ [])
      ∙ ap (λ ys. old ++ ys) (sym (map_more f xs i x below))

-- what is made of all of them
pub all_made : {A B : Type 0} (xs : List A) (i : ℕ) (old now : List B) (f : List A → List B) → length xs ≤ i → now ≡ old ++ f (take i xs) → now ≡ old ++ f xs
all_made xs i old now f past before = before ∙ ap (λ ys. old ++ f ys) (take_all i xs past)

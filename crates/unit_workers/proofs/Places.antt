-- Items of lists by their places.
use Rattle.std.specs.Prelude.{◌≡◌, refl, ℕ, zero, suc, ◌<◌, List, [], ◌∷◌, ◌++◌, length, map, slice_get, slice_index_or, Some, All}
use Rattle.std.specs.List.{AllZip, zip}
use Rattle.std.proofs.Common.{ap, subst, sym, ◌∙◌, arith}

-- an item that is there
pub at_or : {A : Type 0} (xs : List A) (k : ℕ) (x d : A) → slice_get xs k ≡ Some x → slice_index_or xs k d ≡ x
at_or [] k x d e = absurd cc
at_or (y ∷ xs) zero x d e = cc
at_or (y ∷ xs) (suc k) x d e = at_or xs k x d e

pub low_of : {A : Type 0} (xs : List A) (k : ℕ) (x : A) → slice_get xs k ≡ Some x → k < length xs
low_of [] k x e = absurd cc
low_of (y ∷ xs) zero x e = omega arith
low_of (y ∷ xs) (suc k) x e = let l = low_of xs k x e in omega (arith, l)

pub got : {A : Type 0} (xs : List A) (k : ℕ) → k < length xs → (x : A) × (slice_get xs k ≡ Some x)
got [] k h = absurd (omega (arith, h))
got (x ∷ xs) zero h = (x, refl)
got (x ∷ xs) (suc k) h = got xs k (omega (arith, h))

-- what holds of each at its place
pub all_from : {A : Type 0} (P : A → Type 0) (xs : List A) → ((k : ℕ) (x : A) → slice_get xs k ≡ Some x → P x) → All P xs
all_from P xs each k d low = let g = got xs k low in subst P (sym (at_or xs k g.0 d g.1)) (each k g.0 g.1)

pub map_zip : {A B : Type 0} (R : A → B → Type 0) {C : Type 0} (f : C → B) (xs : List A) (ys : List C) → AllZip (λ x y. R x (f y)) xs ys → AllZip R xs (map f ys)
map_zip R f [] [] h = tt
map_zip R f [] (y ∷ ys) h = absurd h
map_zip R f (x ∷ xs) [] h = absurd h
map_zip R f (x ∷ xs) (y ∷ ys) h = (h.0, map_zip R f xs ys h.1)

pub unmap_zip : {A B : Type 0} (R : A → B → Type 0) {C : Type 0} (f : C → B) (xs : List A) (ys : List C) → AllZip R xs (map f ys) → AllZip (λ x y. R x (f y)) xs ys
unmap_zip R f [] [] h = tt
unmap_zip R f [] (y ∷ ys) h = absurd h
unmap_zip R f (x ∷ xs) [] h = absurd h
unmap_zip R f (x ∷ xs) (y ∷ ys) h = (h.0, unmap_zip R f xs ys h.1)

pub weaker : {A B : Type 0} (R S : A → B → Type 0) → ((x : A) (y : B) → R x y → S x y) → (xs : List A) (ys : List B) → AllZip R xs ys → AllZip S xs ys
weaker R S f [] [] h = tt
weaker R S f [] (y ∷ ys) h = absurd h
weaker R S f (x ∷ xs) [] h = absurd h
weaker R S f (x ∷ xs) (y ∷ ys) h = (f x y h.0, weaker R S f xs ys h.1)

-- what holds of the pairs of two lists that are as long, by their parts
pub firsts_zip : {A B C : Type 0} (R : A → C → Type 0) (xs : List A) (ys : List B) (zs : List C) → length ys ≡ length xs → AllZip (λ p z. R p.0 z) (zip xs ys) zs → AllZip R xs zs
firsts_zip R [] ys [] e h = tt
firsts_zip R [] ys (z ∷ zs) e h = absurd h
firsts_zip R (x ∷ xs) [] zs e h = absurd (omega (arith, e))
firsts_zip R (x ∷ xs) (y ∷ ys) [] e h = absurd h
firsts_zip R (x ∷ xs) (y ∷ ys) (z ∷ zs) e h = (h.0, firsts_zip R xs ys zs (omega (arith, e)) h.1)

pub seconds_zip : {A B C : Type 0} (R : B → C → Type 0) (xs : List A) (ys : List B) (zs : List C) → length ys ≡ length xs → AllZip (λ p z. R p.1 z) (zip xs ys) zs → AllZip R ys zs
seconds_zip R [] [] [] e h = tt
seconds_zip R [] [] (z ∷ zs) e h = absurd h
seconds_zip R [] (y ∷ ys) zs e h = absurd (omega (arith, e))
seconds_zip R (x ∷ xs) [] zs e h = absurd (omega (arith, e))
seconds_zip R (x ∷ xs) (y ∷ ys) [] e h = absurd h
seconds_zip R (x ∷ xs) (y ∷ ys) (z ∷ zs) e h = (h.0, seconds_zip R xs ys zs (omega (arith, e)) h.1)

-- what holds of all holds of each that is paired
pub second_of : {A B : Type 0} (P : B → Type 0) (xs : List A) (ys : List B) (k : ℕ) (d : A × B) → All P ys → k < length (zip xs ys) → d ≡ slice_index_or (zip xs ys) k d → P d.1
second_of P [] ys k d all low e = absurd (omega (arith, low))
second_of P (x ∷ xs) [] k d all low e = absurd (omega (arith, low))
second_of {A} {B} P (x ∷ xs) (y ∷ ys) zero d all low e = subst (λ (p : A × B). P p.1) (sym e) (all 0 y (omega arith))
second_of P (x ∷ xs) (y ∷ ys) (suc k) d all low e = second_of P xs ys k d (λ i z l. all (suc i) z (omega (arith, l))) (omega (arith, low)) e

-- pairs with a third are what they are
pub triples_same : {A B C : Type 0} (xs : List ((A × B) × C)) → map (λ (p : (A × B) × C). ((p.0.0, p.0.1), p.1)) xs ≡ xs
triples_same [] = refl
triples_same {A} {B} {C} (p ∷ xs) = ap (λ (ys : List ((A × B) × C)). p ∷ ys) (triples_same xs)

-- what holds of all holds of the first, and of the others
pub first_of : {A : Type 0} (P : A → Type 0) (xs : List A) (x : A) (rest : List A) → xs ≡ x ∷ rest → All P xs → P x
first_of P xs x rest e all = subst (λ ys. All P ys) e all 0 x (omega arith)

pub others_of : {A : Type 0} (P : A → Type 0) (xs : List A) (x : A) (rest : List A) → xs ≡ x ∷ rest → All P xs → All P rest
others_of P xs x rest e all k d low = subst (λ ys. All P ys) e all (suc k) d (omega (arith, low))

-- what is made of each, and of one more
pub mapped_more : {A B : Type 0} (f : A → B) (xs : List A) (x : A) (ys : List B) → ys ≡ map f xs → ys ++ f x ∷ [] ≡ map f (xs ++ x ∷ [])
mapped_more {A} f xs x ys e = ap (λ zs. zs ++ f x ∷ []) e ∙ behind xs
  where
    behind : (zs : List A) → map f zs ++ f x ∷ [] ≡ map f (zs ++ x ∷ [])
    behind [] = refl
    behind (z ∷ zs) = ap (λ l. f z ∷ l) (behind zs)

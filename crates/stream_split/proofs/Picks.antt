-- What goes to one stream.
use Rattle.std.proofs.Common.{◌≡◌, ℕ, Bool, true, false, List, [], ◌∷◌, ◌++◌, refl, ap, ◌∙◌, ◌==◌, cond, arith}
use Rattle.m2_base.specs.declared.token.Token.{Token}
use Rattle.stream_split.specs.Cut.{Event, to, pick}

pub same_number : (j : ℕ) → (j == j) ≡ true
same_number j = grind arith

pub pick_append : (j : ℕ) (xs ys : List Event) → pick j (xs ++ ys) ≡ pick j xs ++ pick j ys
pick_append j [] ys = refl
pick_append j (x ∷ xs) ys = by (j == x.0) (pick_append j xs ys)
  where
    by : (b : Bool) → pick j (xs ++ ys) ≡ pick j xs ++ pick j ys
        → cond b (x.1 ∷ pick j (xs ++ ys)) (pick j (xs ++ ys)) ≡ cond b (x.1 ∷ pick j xs) (pick j xs) ++ pick j ys
    by true h = ap (λ z. x.1 ∷ z) h
    by false h = h

pub pick_other : (j k : ℕ) (ts : List Token) → (j == k) ≡ false → pick j (to k ts) ≡ []
pick_other j k [] h = refl
pick_other j k (t ∷ ts) h = ap (λ b. cond b (t ∷ pick j (to k ts)) (pick j (to k ts))) h ∙ pick_other j k ts h

pub pick_own : (j : ℕ) (ts : List Token) → pick j (to j ts) ≡ ts
pick_own j [] = refl
pick_own j (t ∷ ts) = ap (λ b. cond b (t ∷ pick j (to j ts)) (pick j (to j ts))) (same_number j) ∙ ap (λ z. t ∷ z) (pick_own j ts)

pub to_append : (k : ℕ) (xs ys : List Token) → to k (xs ++ ys) ≡ to k xs ++ to k ys
to_append k [] ys = refl
to_append k (x ∷ xs) ys = ap (λ z. (k, x) ∷ z) (to_append k xs ys)

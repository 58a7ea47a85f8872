-- With which token a list begins.
use Rattle.std.proofs.Common.{◌≡◌, ℕ, Bool, true, false, List, [], ◌∷◌, ◌++◌, refl, sym, ap, ◌∙◌, true≢false}
use Rattle.ll_grammar.specs.Grammar.{Grammar}
use Rattle.ll_grammar.specs.LookAhead.{member, disjoint, starts}
use Rattle.ll_grammar.specs.Sentences.{SameHead, Begins}
use Rattle.ll_grammar.proofs.KindSets.{Within, disjoint_not}

module _ {T : Type 0} where
  pub same_refl : (ts : List T) → SameHead ts ts
  same_refl [] = tt
  same_refl (t ∷ ts) = refl

  pub same_sym : (xs ys : List T) → SameHead xs ys → SameHead ys xs
  same_sym [] [] h = tt
  same_sym [] (y ∷ ys) h = absurd h
  same_sym (x ∷ xs) [] h = absurd h
  same_sym (x ∷ xs) (y ∷ ys) h = sym h

  pub same_front : (u xs ys : List T) → SameHead xs ys → SameHead (u ++ xs) (u ++ ys)
  same_front [] xs ys h = h
  same_front (t ∷ u) xs ys h = refl

  pub begins_less : (u v rest ts : List T) → Begins (u ++ v) rest ts → Begins u (v ++ rest) ts
  begins_less [] [] rest ts h = h
  begins_less [] (t ∷ v) rest [] h = h
  begins_less [] (t ∷ v) rest (x ∷ ts) h = h.0
  begins_less (t ∷ u) v rest [] h = h
  begins_less (t ∷ u) v rest (x ∷ ts) h = (h.0, begins_less u v rest ts h.1)

  pub begins_drop : (u v rest ts : List T) → Begins (u ++ v) rest (u ++ ts) → Begins v rest ts
  begins_drop [] v rest ts h = h
  begins_drop (t ∷ u) v rest ts h = begins_drop u v rest ts h.1

  pub begins_head : (u rest ts : List T) → Begins u rest ts → SameHead ts (u ++ rest)
  begins_head u rest ts h = begins_less [] u rest ts h

  pub begins_self : (u rest ts : List T) → SameHead ts rest → Begins u rest (u ++ ts)
  begins_self [] rest ts h = h
  begins_self (t ∷ u) rest ts h = (refl, begins_self u rest ts h)

  -- a list that begins with itself and a rest has none
  pub begins_whole : (u rest : List T) → Begins u rest u → rest ≡ []
  begins_whole [] [] h = refl
  begins_whole [] (x ∷ rest) h = absurd h
  begins_whole (t ∷ u) rest h = begins_whole u rest h.1

  -- the list is not empty
  abbrev pub IsFilled : List T → Type 0
  IsFilled [] = ⊥
  IsFilled (t ∷ ts) = Unit {0}

  pub filled_left : (xs ys : List T) → IsFilled xs → IsFilled (xs ++ ys)
  filled_left [] ys h = absurd h
  filled_left (x ∷ xs) ys h = tt

  pub filled_right : (xs ys : List T) → IsFilled ys → IsFilled (xs ++ ys)
  filled_right [] ys h = h
  filled_right (x ∷ xs) ys h = tt

module _ {T : Type 0} (g : Grammar T) where
  -- the list is empty, or begins with one of these kinds
  abbrev pub MayStart : List ℕ → List T → Type 0
  MayStart ks [] = Unit {0}
  MayStart ks (t ∷ ts) = member (g.kind t) ks ≡ true

  pub may_within : (xs ys : List ℕ) → Within xs ys → (ts : List T) → MayStart xs ts → MayStart ys ts
  may_within xs ys h [] m = tt
  may_within xs ys h (t ∷ ts) m = h (g.kind t) m

  pub starts_nil : (ks : List ℕ) → starts g ks [] ≡ false
  unfolding starts
  starts_nil ks = refl

  pub starts_cons : (ks : List ℕ) (t : T) (ts : List T) (b : Bool) → member (g.kind t) ks ≡ b → starts g ks (t ∷ ts) ≡ b
  unfolding starts
  starts_cons ks t ts b h = h

  -- the first token of a list that starts with one of the kinds
  pub starts_some : (ks : List ℕ) (ts : List T) → starts g ks ts ≡ true
      → (t : T) × (v : List T) × (ts ≡ t ∷ v) × (member (g.kind t) ks ≡ true)
  unfolding starts
  starts_some ks [] h = absurd (true≢false (sym h))
  starts_some ks (t ∷ ts) h = (t, ts, refl, h)

  pub starts_filled : (ks : List ℕ) (ts rest : List T) → IsFilled ts → MayStart ks (ts ++ rest) → starts g ks (ts ++ rest) ≡ true
  unfolding starts
  starts_filled ks [] rest h m = absurd h
  starts_filled ks (t ∷ ts) rest h m = m

  pub starts_same : (ks : List ℕ) (xs ys : List T) → SameHead xs ys → starts g ks xs ≡ starts g ks ys
  unfolding starts
  starts_same ks [] [] h = refl
  starts_same ks [] (y ∷ ys) h = absurd h
  starts_same ks (x ∷ xs) [] h = absurd h
  starts_same ks (x ∷ xs) (y ∷ ys) h = ap (λ t. member (g.kind t) ks) h

  -- no list starts with kinds of two disjoint sets
  pub starts_apart : (xs ys : List ℕ) (ts : List T) → disjoint xs ys ≡ true → starts g xs ts ≡ true → MayStart ys ts → ⊥
  unfolding starts
  starts_apart xs ys [] d h m = true≢false (sym h)
  starts_apart xs ys (t ∷ ts) d h m = disjoint_not (g.kind t) xs ys d h m

  -- of two lists that begin alike, none starts with a kind that the other does not start with
  pub same_apart : (ks : List ℕ) (xs ys : List T) → SameHead xs ys → starts g ks ys ≡ false → starts g ks xs ≡ true → ⊥
  same_apart ks xs ys h f e = true≢false (sym e ∙ starts_same ks xs ys h ∙ f)

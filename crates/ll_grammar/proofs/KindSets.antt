-- Sets of kinds, as lists.
use Rattle.std.proofs.Common.{◌≡◌, ℕ, Bool, true, false, List, [], ◌∷◌, ◌++◌, refl, sym, ap, ◌∙◌, ◌||◌, ◌&&◌, not, ◌==◌, true≢false, ◌⊎◌, inl, inr, ⊎_elim, eqb-true}
use Rattle.ll_grammar.specs.LookAhead.{member, disjoint, subset, if_so}

pub and_l : (a b : Bool) → (a && b) ≡ true → a ≡ true
and_l true b h = refl
and_l false b h = h

pub and_r : (a b : Bool) → (a && b) ≡ true → b ≡ true
and_r true b h = h
and_r false b h = absurd (true≢false (sym h))

pub or_cases : (a b : Bool) → (a || b) ≡ true → (a ≡ true) ⊎ (b ≡ true)
or_cases true b h = inl refl
or_cases false b h = inr h

pub or_l : (a b : Bool) → a ≡ true → (a || b) ≡ true
or_l true b h = refl
or_l false b h = absurd (true≢false (sym h))

pub or_r : (a b : Bool) → b ≡ true → (a || b) ≡ true
or_r true b h = refl
or_r false b h = h

pub and_false : (a b : Bool) → (a && b) ≡ false → (a ≡ false) ⊎ (b ≡ false)
and_false true b h = inr h
and_false false b h = inl refl

pub or_false_l : (a b : Bool) → (a || b) ≡ false → a ≡ false
or_false_l true b h = absurd (true≢false h)
or_false_l false b h = refl

pub or_false_r : (a b : Bool) → (a || b) ≡ false → b ≡ false
or_false_r true b h = absurd (true≢false h)
or_false_r false b h = h

pub or_false : (a : Bool) → (a || false) ≡ a
or_false true = refl
or_false false = refl

pub not_is : (a : Bool) → not a ≡ true → a ≡ false
not_is true h = absurd (true≢false (sym h))
not_is false h = refl

pub not_true : (a : Bool) → not a ≡ true → a ≡ true → ⊥
not_true true h g = true≢false (sym h)
not_true false h g = true≢false (sym g)

pub member_left : (k : ℕ) (xs ys : List ℕ) → member k xs ≡ true → member k (xs ++ ys) ≡ true
member_left k [] ys h = absurd (true≢false (sym h))
member_left k (x ∷ xs) ys h =
    ⊎_elim (λ e. or_l (k == x) _ e) (λ e. or_r (k == x) _ (member_left k xs ys e)) (or_cases (k == x) (member k xs) h)

pub member_right : (k : ℕ) (xs ys : List ℕ) → member k ys ≡ true → member k (xs ++ ys) ≡ true
member_right k [] ys h = h
member_right k (x ∷ xs) ys h = or_r (k == x) _ (member_right k xs ys h)

pub member_cases : (k : ℕ) (xs ys : List ℕ) → member k (xs ++ ys) ≡ true → (member k xs ≡ true) ⊎ (member k ys ≡ true)
member_cases k [] ys h = inr h
member_cases k (x ∷ xs) ys h =
    ⊎_elim (λ e. inl (or_l (k == x) _ e)) (λ e. ⊎_elim (λ f. inl (or_r (k == x) _ f)) (λ f. inr f) (member_cases k xs ys e)) (or_cases (k == x) (member k (xs ++ ys)) h)

-- what holds of a kind holds of an equal one
member_same : (k x : ℕ) (ys : List ℕ) → (k == x) ≡ true → member k ys ≡ member x ys
member_same k x ys e = ap (λ n. member n ys) (eqb-true k x e)

pub disjoint_not : (k : ℕ) (xs ys : List ℕ) → disjoint xs ys ≡ true → member k xs ≡ true → member k ys ≡ true → ⊥
disjoint_not k [] ys d h g = true≢false (sym h)
disjoint_not k (x ∷ xs) ys d h g =
    ⊎_elim (λ e. not_true (member x ys) (and_l _ _ d) (sym (member_same k x ys e) ∙ g)) (λ e. disjoint_not k xs ys (and_r (not (member x ys)) _ d) e g) (or_cases (k == x) (member k xs) h)

-- each kind of the first set is in the second
abbrev pub Within : List ℕ → List ℕ → Type 0
Within xs ys = (k : ℕ) → member k xs ≡ true → member k ys ≡ true

pub subset_within : (xs ys : List ℕ) → subset xs ys ≡ true → Within xs ys
subset_within [] ys d k h = absurd (true≢false (sym h))
subset_within (x ∷ xs) ys d k h =
    ⊎_elim (λ e. member_same k x ys e ∙ and_l _ _ d) (λ e. subset_within xs ys (and_r (member x ys) _ d) k e) (or_cases (k == x) (member k xs) h)

within_join : (xs ys zs : List ℕ) → Within xs zs → Within ys zs → Within (xs ++ ys) zs
within_join xs ys zs f g k h = ⊎_elim (f k) (g k) (member_cases k xs ys h)

within_nil : (zs : List ℕ) → Within [] zs
within_nil zs k h = absurd (true≢false (sym h))

-- How the kinds that may come first grow with the right side: `a`, `b` are first sets, `m`, `n` say which may be empty, `f` is what follows.
pub within_then : (m n : Bool) (a b f : List ℕ) → Within (a ++ if_so m (b ++ if_so n f)) ((a ++ if_so m b) ++ if_so (m && n) f)
within_then true n a b f =
    within_join a (b ++ if_so n f) _ (λ k h. member_left k (a ++ b) _ (member_left k a b h))
    (within_join b (if_so n f) _ (λ k h. member_left k (a ++ b) _ (member_right k a b h)) (λ k h. member_right k (a ++ b) _ h))
within_then false n a b f = λ k h. member_left k (a ++ []) [] h

pub within_left : (m n : Bool) (a b f : List ℕ) → Within (a ++ if_so m f) ((a ++ b) ++ if_so (m || n) f)
within_left true n a b f =
    within_join a f _ (λ k h. member_left k (a ++ b) _ (member_left k a b h)) (λ k h. member_right k (a ++ b) _ h)
within_left false n a b f = within_join a [] _ (λ k h. member_left k (a ++ b) _ (member_left k a b h)) (within_nil _)

pub within_right : (m n : Bool) (a b f : List ℕ) → Within (b ++ if_so n f) ((a ++ b) ++ if_so (m || n) f)
within_right true n a b f =
    within_join b (if_so n f) _ (λ k h. member_left k (a ++ b) _ (member_right k a b h)) (λ k h. member_right k (a ++ b) _ (if_less n k h))
  where
    if_less : (n : Bool) (k : ℕ) → member k (if_so n f) ≡ true → member k f ≡ true
    if_less true k h = h
    if_less false k h = absurd (true≢false (sym h))
within_right false n a b f =
    within_join b (if_so n f) _ (λ k h. member_left k (a ++ b) _ (member_right k a b h)) (λ k h. member_right k (a ++ b) _ h)

pub within_more : (m : Bool) (a f : List ℕ) → Within (a ++ if_so m (a ++ f)) (a ++ f)
within_more true a f = within_join a (a ++ f) (a ++ f) (λ k h. member_left k a f h) (λ k h. h)
within_more false a f = within_join a [] (a ++ f) (λ k h. member_left k a f h) (within_nil _)

pub within_solid : (m : Bool) (a f b : List ℕ) → m ≡ false → Within a b → Within (a ++ if_so m f) b
within_solid true a f b h g = absurd (true≢false h)
within_solid false a f b h g = within_join a [] b g (within_nil _)

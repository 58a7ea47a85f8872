-- Diagnostics that are sorted, and then each once, are those in order: two lists in order that have the same members are one.
use Rattle.std.proofs.Common.{◌≡◌, ◌⊎◌, inl, inr, ◌+◌, Bool, true, false, List, [], ◌∷◌, refl, sym, ◌∙◌, subst, arith, cond, if◌then◌else◌}
use Rattle.std.proofs.lemmas.Bool.{false≢true}
use native.Mathlib.Numerals.{unary_clauses}
use Rattle.std.specs.List.{dedup, dedup_from}
use Rattle.std.specs.List.Sorted.{IsPermutation, IsSortedBy}
use Rattle.std.proofs.lemmas.List.Elements.{All-from_recursion, recursion_from_All}
use Rattle.std.proofs.lemmas.List.Sorted.{All-permutation, IsPermutation-sym}
use Rattle.m2_base.specs.Lists.{Each, IsIn}
use Rattle.m2_base.specs.declared.notes.Diag.{Diag}
use Rattle.listings.specs.Ordering.{comes_before, in_order, is_same, with_diag}
use Rattle.listings.proofs.Orders.{Before, before_irrefl, before_of, before_total, before_trans, of_before, same_by_fields, same_self}

-- each is listed before all behind it
abbrev pub Rises : List Diag → Type 0
Rises [] = Unit {0}
Rises (d ∷ ds) = Each (Before d) ds × Rises ds

abbrev Within : List Diag → List Diag → Type 0
Within xs ys = (d : Diag) → IsIn d xs → IsIn d ys

each_in : (P : Diag → Type 0) (ds : List Diag) (d : Diag) → Each P ds → IsIn d ds → P d
each_in P [] d h i = absurd i
each_in P (x ∷ xs) d h (inl e) = subst P (sym e) h.0
each_in P (x ∷ xs) d h (inr i) = each_in P xs d h.1 i

each_of : (P : Diag → Type 0) (ds : List Diag) → ((d : Diag) → IsIn d ds → P d) → Each P ds
each_of P [] f = tt
each_of P (x ∷ xs) f = (f x (inl refl), each_of P xs (λ d i. f d (inr i)))

-- ** Two lists in order with the same members are one

heads : (x y : Diag) (xs ys : List Diag) → Rises (x ∷ xs) → Rises (y ∷ ys) → IsIn x (y ∷ ys) → IsIn y (x ∷ xs) → x ≡ y
heads x y xs ys p q (inl e) j = e
heads x y xs ys p q (inr i) (inl e) = sym e
heads x y xs ys p q (inr i) (inr j) = absurd (before_irrefl x (before_trans x y x (each_in (Before x) xs y p.0 j) (each_in (Before y) ys x q.0 i)))

tails : (x y : Diag) (xs ys : List Diag) → x ≡ y → Rises (x ∷ xs) → Within (x ∷ xs) (y ∷ ys) → Within xs ys
tails x y xs ys e p w d i = elim (w d (inr i)) as (λ _. IsIn d ys) [
  | inl s ↦ absurd (before_irrefl x (subst (Before x) (s ∙ sym e) (each_in (Before x) xs d p.0 i)))
  | inr j ↦ j
]

one_list : (xs ys : List Diag) → Rises xs → Rises ys → Within xs ys → Within ys xs → xs ≡ ys
one_list [] [] p q v w = refl
one_list [] (y ∷ ys) p q v w = absurd (w y (inl refl))
one_list (x ∷ xs) [] p q v w = absurd (v x (inl refl))
one_list (x ∷ xs) (y ∷ ys) p q v w =
    let e : x ≡ y = heads x y xs ys p q (v x (inl refl)) (w y (inl refl)) in
    λ k. e k ∷ one_list xs ys p.1 q.1 (tails x y xs ys e p v) (tails y x ys xs (sym e) q w) k

-- ** In order

test_else : (d e : Diag) → comes_before d e ≡ false → is_same d e ≡ false → Before e d
test_else d e p q = elim (before_total d e) as (λ _. Before e d) [
  | inl b ↦ absurd (false≢true (sym p ∙ of_before d e b))
  | inr (inl b) ↦ b
  | inr (inr s) ↦ absurd (false≢true (sym q ∙ subst (λ x. is_same d x ≡ true) s (same_self d)))
]

-- the diagnostic and the others are the members
record IsAdded (d : Diag) (es made : List Diag) : Type 0 where
  pub forth : (x : Diag) → IsIn x made → (x ≡ d) ⊎ IsIn x es
  pub back : (x : Diag) → (x ≡ d) ⊎ IsIn x es → IsIn x made
  pub rises : Rises es → Rises made

abbrev placed : Diag → Diag → List Diag → List Diag → (before same : Bool) → List Diag
placed d e es made before same = if before then d ∷ e ∷ es else if same then e ∷ es else e ∷ made

added_to : (d e : Diag) (es made : List Diag) → IsAdded d es made → (before same : Bool) → comes_before d e ≡ before → is_same d e ≡ same
    → IsAdded d (e ∷ es) (placed d e es made before same)
added_to d e es made rest true same p s = record {
  forth = λ x i. i;
  back = λ x i. i;
  rises = λ r. ((before_of d e p, each_of (Before d) es (λ x i. before_trans d e x (before_of d e p) (each_in (Before e) es x r.0 i))), r);
}
added_to d e es made rest false true p s = record {
  forth = λ x i. inr i;
  back = λ x i. elim i as (λ _. IsIn x (e ∷ es)) [ inl t ↦ inl (t ∙ same_by_fields d e s) | inr j ↦ j ];
  rises = λ r. r;
}
added_to d e es made rest false false p s = record {
  forth = λ x i. elim i as (λ _. (x ≡ d) ⊎ IsIn x (e ∷ es)) [
    | inl t ↦ inr (inl t)
    | inr j ↦ elim (rest.forth x j) as (λ _. (x ≡ d) ⊎ IsIn x (e ∷ es)) [ inl t ↦ inl t | inr k ↦ inr (inr k) ]
  ];
  back = λ x i. elim i as (λ _. IsIn x (e ∷ made)) [
    | inl t ↦ inr (rest.back x (inl t))
    | inr (inl t) ↦ inl t
    | inr (inr k) ↦ inr (rest.back x (inr k))
  ];
  rises = λ r. (
    each_of (Before e) made (λ x i. elim (rest.forth x i) as (λ _. Before e x) [
      | inl t ↦ subst (Before e) (sym t) (test_else d e p s)
      | inr j ↦ each_in (Before e) es x r.0 j
    ]),
    rest.rises r.1,
  );
}

added : (d : Diag) (es : List Diag) → IsAdded d es (with_diag d es)
added d [] = record { forth = λ x i. i; back = λ x i. i; rises = λ r. (tt, tt) }
added d (e ∷ es) = added_to d e es (with_diag d es) (added d es) (comes_before d e) (is_same d e) refl refl

pub ordered_rises : (ds : List Diag) → Rises (in_order ds)
ordered_rises [] = tt
ordered_rises (d ∷ ds) = (added d (in_order ds)).rises (ordered_rises ds)

pub ordered_from : (ds : List Diag) → Within (in_order ds) ds
ordered_from [] x i = i
ordered_from (d ∷ ds) x i = elim ((added d (in_order ds)).forth x i) as (λ _. IsIn x (d ∷ ds)) [ inl t ↦ inl t | inr j ↦ inr (ordered_from ds x j) ]

pub ordered_to : (ds : List Diag) → Within ds (in_order ds)
ordered_to [] x i = i
ordered_to (d ∷ ds) x i = elim i as (λ _. IsIn x (in_order (d ∷ ds))) [
  | inl t ↦ (added d (in_order ds)).back x (inl t)
  | inr j ↦ (added d (in_order ds)).back x (inr (ordered_to ds x j))
]

-- what is in order stays so
pub ordered_twice : (ds : List Diag) → in_order (in_order ds) ≡ in_order ds
ordered_twice ds = one_list (in_order (in_order ds)) (in_order ds) (ordered_rises (in_order ds)) (ordered_rises ds) (ordered_from (in_order ds)) (ordered_to (in_order ds))

-- ** Sorted, and then each once

-- a test of the order, and one of equality
pub record AreTests (lt same : Diag → Diag → Bool) : Type 0 where
  pub before : (d e : Diag) → Before d e → lt d e ≡ true
  pub equal : (d : Diag) → same d d ≡ true
  pub one : (d e : Diag) → same d e ≡ true → d ≡ e

abbrev AtMost : Diag → Diag → Type 0
AtMost d e = Before d e ⊎ (d ≡ e)

-- none is before the one that it follows
abbrev Climbs : Diag → List Diag → Type 0
Climbs d [] = Unit {0}
Climbs d (e ∷ es) = AtMost d e × Climbs e es

module _ (lt same : Diag → Diag → Bool) (tests : AreTests lt same) where
  at_most : (d e : Diag) → lt e d ≡ false → AtMost d e
  at_most d e h = elim (before_total d e) as (λ _. AtMost d e) [
    | inl b ↦ inl b
    | inr (inl b) ↦ absurd (false≢true (sym h ∙ tests.before e d b))
    | inr (inr s) ↦ inr s
  ]

  climbs : (d : Diag) (es : List Diag) → IsSortedBy lt (d ∷ es) → Climbs d es
  climbs d [] h = tt
  climbs d (e ∷ es) h = (at_most d e (h 0 d (omega arith) (omega arith)), climbs e es (λ k x a b. simp unary_clauses (simp unary_clauses at (h (k + 1) x (omega arith) (omega (arith, b))))))

  at_most_trans : (d e f : Diag) → AtMost d e → AtMost e f → AtMost d f
  at_most_trans d e f (inl p) (inl q) = inl (before_trans d e f p q)
  at_most_trans d e f (inl p) (inr q) = inl (subst (Before d) q p)
  at_most_trans d e f (inr p) q = subst (λ x. AtMost x f) (sym p) q

  all_at_most : (d : Diag) (es : List Diag) (x : Diag) → Climbs d es → IsIn x es → AtMost d x
  all_at_most d [] x h i = absurd i
  all_at_most d (e ∷ es) x h (inl t) = subst (AtMost d) (sym t) h.0
  all_at_most d (e ∷ es) x h (inr i) = at_most_trans d e x h.0 (all_at_most e es x h.1 i)

  record IsOnce (d : Diag) (es made : List Diag) : Type 0 where
    pub forth : (x : Diag) → IsIn x made → (x ≡ d) ⊎ IsIn x es
    pub back : (x : Diag) → (x ≡ d) ⊎ IsIn x es → IsIn x made
    pub rises : Rises made

  strictly : (d e x : Diag) → same e d ≡ false → AtMost d e → AtMost e x → Before d x
  strictly d e x n (inl p) (inl q) = before_trans d e x p q
  strictly d e x n (inl p) (inr q) = subst (Before d) q p
  strictly d e x n (inr p) q = absurd (false≢true (sym n ∙ subst (λ y. same e y ≡ true) (sym p) (tests.equal e)))

  once_more : (d e : Diag) (es kept other : List Diag) → Climbs d (e ∷ es) → IsOnce d es kept → IsOnce e es other → (b : Bool) → same e d ≡ b
      → IsOnce d (e ∷ es) (cond b kept (d ∷ other))
  once_more d e es kept other h p q true s = record {
    forth = λ x i. elim (p.forth x i) as (λ _. (x ≡ d) ⊎ IsIn x (e ∷ es)) [ inl t ↦ inl t | inr j ↦ inr (inr j) ];
    back = λ x i. elim i as (λ _. IsIn x kept) [
      | inl t ↦ p.back x (inl t)
      | inr (inl t) ↦ p.back x (inl (t ∙ tests.one e d s))
      | inr (inr j) ↦ p.back x (inr j)
    ];
    rises = p.rises;
  }
  once_more d e es kept other h p q false s = record {
    forth = λ x i. elim i as (λ _. (x ≡ d) ⊎ IsIn x (e ∷ es)) [
      | inl t ↦ inl t
      | inr j ↦ elim (q.forth x j) as (λ _. (x ≡ d) ⊎ IsIn x (e ∷ es)) [ inl t ↦ inr (inl t) | inr k ↦ inr (inr k) ]
    ];
    back = λ x i. elim i as (λ _. IsIn x (d ∷ other)) [
      | inl t ↦ inl t
      | inr (inl t) ↦ inr (q.back x (inl t))
      | inr (inr j) ↦ inr (q.back x (inr j))
    ];
    rises = (
      each_of (Before d) other (λ x i. elim (q.forth x i) as (λ _. Before d x) [
        | inl t ↦ strictly d e x s h.0 (inr (sym t))
        | inr j ↦ strictly d e x s h.0 (all_at_most e es x h.1 j)
      ]),
      q.rises,
    );
  }

  skipped : (d e : Diag) (es : List Diag) → Climbs d (e ∷ es) → Climbs d es
  skipped d e [] h = tt
  skipped d e (f ∷ es) h = (at_most_trans d e f h.0 h.1.0, h.1.1)

  once : (d : Diag) (es : List Diag) → Climbs d es → IsOnce d es (dedup_from same d es)
  once d [] h = record { forth = λ x i. i; back = λ x i. i; rises = (tt, tt) }
  once d (e ∷ es) h =
      once_more d e es (dedup_from same d es) (dedup_from same e es) h (once d es (skipped d e es h)) (once e es h.1) (same e d) refl

  -- sorted diagnostics, each once, are in order
  sorted_once : (ds : List Diag) → IsSortedBy lt ds → dedup same ds ≡ in_order ds
  sorted_once [] h = refl
  sorted_once (d ∷ ds) h =
      let made = once d ds (climbs d ds h) in
      one_list (dedup_from same d ds) (in_order (d ∷ ds)) made.rises (ordered_rises (d ∷ ds))
      (λ x i. ordered_to (d ∷ ds) x (made.forth x i))
      (λ x i. made.back x (ordered_from (d ∷ ds) x i))

-- ** A permutation

moved : (xs ys : List Diag) → IsPermutation xs ys → Within ys xs
moved xs ys p x i =
    each_in (λ d. IsIn d xs) ys x
    (recursion_from_All (λ d. IsIn d xs) ys (All-permutation (λ d. IsIn d xs) xs ys p (All-from_recursion (λ d. IsIn d xs) xs (each_of (λ d. IsIn d xs) xs (λ d j. j))))) i

permuted : (xs ys : List Diag) → IsPermutation xs ys → in_order ys ≡ in_order xs
permuted xs ys p =
    one_list (in_order ys) (in_order xs) (ordered_rises ys) (ordered_rises xs)
    (λ x i. ordered_to xs x (moved xs ys p x (ordered_from ys x i)))
    (λ x i. ordered_to ys x (moved ys xs (IsPermutation-sym xs ys p) x (ordered_from xs x i)))

-- what sorting and then leaving out each that is the same as the one before it gives
pub put_in_order : (lt same : Diag → Diag → Bool) → AreTests lt same → (xs ys zs : List Diag) → IsPermutation xs ys → IsSortedBy lt ys → zs ≡ dedup same ys → zs ≡ in_order xs
put_in_order lt same tests xs ys zs p sorted kept = kept ∙ sorted_once lt same tests ys sorted ∙ permuted xs ys p

-- Steps of ranges: what a map tells of them, how they change, and what they tell of the ranges.
use Rattle.std.specs.BTreeMap.{BTreeMap, get}
use Rattle.std.specs.BTreeMap.Range.{IsEntryInRange, IsLeBy, IsRangeOf}
use Rattle.std.specs.Bool.{Decides}
use Rattle.std.specs.List.{Any, Contains, list_any}
use Rattle.std.specs.Option.{IfSome, MatchOption}
use Rattle.std.specs.Ordering.{MatchOrdering, int_cmp, is_eq, is_gt, is_lt}
use Rattle.std.specs.Prelude.{◌≡◌, ◌⊎◌, ℤ, ◌<ℤ◌, ◌≤ℤ◌, Bool, true, false, cond, ◌&&◌, int_le, is_some, List, [], ◌∷◌, ◌++◌, slice_get, Option, None, Some}
use Rattle.std.specs.declared.cmp.Ordering.{Ordering}
use Rattle.std.specs.declared.cmp.Ordering.TheVariants.{Less, Equal, Greater}
use Rattle.std.specs.declared.ops.Bound.TheVariants.{Included, Unbounded}
use Rattle.std.proofs.Common.{refl, sym, ap, ◌∙◌, subst, T, arith, inl, inr, true≢false}
use Rattle.std.proofs.lemmas.Bool.{and_parts}
use Rattle.std.proofs.lemmas.Cmp.{int_cmp_total, int_ranked, tied_itself}
use Rattle.std.proofs.lemmas.Int.{by_lt_z, ints}
use Rattle.std.proofs.lemmas.List.Elements.{Contains-append_left, Contains-push, Contains-push_cases}
use Rattle.std.proofs.lemmas.List.Folds.{Any-from_list_any, list_any_at}
use Rattle.std.proofs.lemmas.Option.{none-some, same_Some}
use Rattle.m2_base.specs.Statics.CaseLabels.{overlaps}
use Rattle.m2_base.specs.Statics.Ranges.{range}
use Rattle.case_labels.specs.Steps.{AreSteps, BeginsWithin, LoseWithin, NoneWithin, Reaches, Rises, Steps}

-- ** Whole numbers

same_le : {a b : ℤ} → a ≡ b → a ≤ℤ b
same_le h = omega (arith, ints, h)

chain : {a b c : ℤ} → a ≤ℤ b → b ≤ℤ c → a ≤ℤ c
chain h k = omega (arith, ints, h, k)

below_then : {a b c : ℤ} → a <ℤ b → b ≤ℤ c → a <ℤ c
below_then h k = omega (arith, ints, h, k)

below_le : {a b : ℤ} → a <ℤ b → a ≤ℤ b
below_le h = omega (arith, ints, h)

apart-ends : {a b : ℤ} → a <ℤ b → b ≤ℤ a → ⊥
apart-ends h k = omega (arith, ints, h, k)

from_true : (t : Bool) → t ≡ true → T t
from_true t e = subst T (sym e) tt

to_true : (t : Bool) → T t → t ≡ true
to_true true h = refl
to_true false h = absurd h

le_test : (a b : ℤ) → int_le a b ≡ true → a ≤ℤ b
le_test a b e = record { le = from_true (int_le a b) e }

test_le : (a b : ℤ) → a ≤ℤ b → int_le a b ≡ true
test_le a b h = to_true (int_le a b) h.le

past_test : (a b : ℤ) → int_le a b ≡ false → b <ℤ a
past_test a b e = by_lt_z b a (λ h. h) (λ h. absurd (true≢false (sym (test_le a b h) ∙ e)))

-- what an order says of two numbers
not_gt : (a b : ℤ) → is_gt (int_cmp a b) ≡ false → a ≤ℤ b
not_gt a b = go (int_cmp a b) (int_ranked a b (int_cmp a b) refl)
  where
    go : (r : Ordering) → MatchOrdering r (a <ℤ b) (a ≡ b) (b <ℤ a) → is_gt r ≡ false → a ≤ℤ b
    go Less h e = below_le h
    go Equal h e = same_le h
    go Greater h e = absurd (true≢false e)

gt_not : (a b : ℤ) → a ≤ℤ b → is_gt (int_cmp a b) ≡ false
gt_not a b k = go (int_cmp a b) (int_ranked a b (int_cmp a b) refl)
  where
    go : (r : Ordering) → MatchOrdering r (a <ℤ b) (a ≡ b) (b <ℤ a) → is_gt r ≡ false
    go Less h = refl
    go Equal h = refl
    go Greater h = absurd (apart-ends h k)

not_lt : (a b : ℤ) → is_lt (int_cmp a b) ≡ false → b ≤ℤ a
not_lt a b = go (int_cmp a b) (int_ranked a b (int_cmp a b) refl)
  where
    go : (r : Ordering) → MatchOrdering r (a <ℤ b) (a ≡ b) (b <ℤ a) → is_lt r ≡ false → b ≤ℤ a
    go Less h e = absurd (true≢false e)
    go Equal h e = same_le (sym h)
    go Greater h e = below_le h

-- a key is the one that is looked for, or another
by_key : {A : Type 0} (a b : ℤ) → (a ≡ b → is_eq (int_cmp a b) ≡ true → A) → (is_eq (int_cmp a b) ≡ false → A) → A
by_key {A} a b same other = go (int_cmp a b) refl (int_ranked a b (int_cmp a b) refl)
  where
    go : (r : Ordering) → int_cmp a b ≡ r → MatchOrdering r (a <ℤ b) (a ≡ b) (b <ℤ a) → A
    go Less e h = other (ap is_eq e)
    go Equal e h = same h (ap is_eq e)
    go Greater e h = other (ap is_eq e)

there : {o : Option ℤ} {v : ℤ} → o ≡ Some v → is_some o ≡ true
there e = ap (λ (o : Option ℤ). is_some o) e

-- ** Steps that rise

-- a step that begins no earlier reaches no less far
no_less : {f : Steps} {a b v w : ℤ} → Rises f → f a ≡ Some v → f b ≡ Some w → a ≤ℤ b → v ≤ℤ w
no_less {f} {a} {b} {v} {w} rise p q h = go (int_cmp a b) (int_ranked a b (int_cmp a b) refl)
  where
    go : (r : Ordering) → MatchOrdering r (a <ℤ b) (a ≡ b) (b <ℤ a) → v ≤ℤ w
    go Less k = below_le (rise a v b w p q k)
    go Equal k = same_le (same_Some v w (sym p ∙ ap f k ∙ q))
    go Greater k = absurd (apart-ends k h)

-- ** What lies in a part of a map

-- the last step that begins up to a value tells how far the steps reach
pub reached : (m : BTreeMap ℤ ℤ) {r : List (ℤ × ℤ)} {x y z : ℤ} (from to : ℤ) (t : List (ℤ × ℤ)) (e : ℤ × ℤ) → x ≡ from → y ≡ to → z ≡ e.1 → IsRangeOf int_cmp Unbounded (Included x) m r → r ≡ t ++ e ∷ [] → Rises (get int_cmp m)
    → Decides (int_le y z) (Reaches (get int_cmp m) from to)
reached m {r} {x} {y} {z} from to t e is same end part split rise = (yes, no)
  where
    here : IsEntryInRange int_cmp Unbounded (Included x) m e
    here = part.3 e t split

    yes : int_le y z ≡ true → Reaches (get int_cmp m) from to
    yes h = (e.0, e.1, here.1, chain (not_gt e.0 x here.0.1) (same_le is), chain (same_le (sym same)) (chain (le_test y z h) (same_le end)))

    no : Reaches (get int_cmp m) from to → int_le y z ≡ true
    no s =
        let before : s.0 ≤ℤ e.0 = not_lt e.0 s.0 (part.4 e t split s.0 (tt, gt_not s.0 x (chain s.3 (same_le (sym is)))) (there s.2)) in
        test_le y z (chain (same_le same) (chain s.4 (chain (no_less rise s.2 here.1 before) (same_le (sym end)))))

-- where the first step that begins from a value on reaches past another, none lies between them
pub first_past : (m : BTreeMap ℤ ℤ) {r : List (ℤ × ℤ)} {x y z : ℤ} (low high : ℤ) (t : List (ℤ × ℤ)) (e : ℤ × ℤ) → x ≡ low → y ≡ high → z ≡ e.1 → IsRangeOf int_cmp (Included x) Unbounded m r → r ≡ e ∷ t → Rises (get int_cmp m)
    → int_le z y ≡ false → NoneWithin (get int_cmp m) low high
first_past m {r} {x} {y} {z} low high t e is same end part split rise past = λ at to found from.
    let least : is_gt (int_cmp e.0 at) ≡ false = subst (λ (xs : List (ℤ × ℤ)). IfSome (slice_get xs 0) (λ (d : ℤ × ℤ). IsLeBy int_cmp d.0 at)) split (part.2 at (gt_not x at (chain (same_le is) from), tt) (there found)) in
    below_then (past_high (past_test z y past)) (no_less rise first.1 found (not_gt e.0 at least))
  where
    first : IsEntryInRange int_cmp (Included x) Unbounded m e
    first = subst (λ (xs : List (ℤ × ℤ)). IfSome (slice_get xs 0) (IsEntryInRange int_cmp (Included x) Unbounded m)) split part.1

    past_high : y <ℤ z → high <ℤ e.1
    past_high h = subst (λ (c : ℤ). high <ℤ c) end (subst (λ (c : ℤ). c <ℤ z) same h)

-- ** Steps that are lost

pub none_lost : {f : Steps} (low high : ℤ) → LoseWithin low high f f
none_lost low high = record { among = λ at to e. e; kept = λ at to e. inl e }

pub still_rise : {f g : Steps} {low high : ℤ} → LoseWithin low high f g → Rises f → Rises g
still_rise lost rise = λ low high later further p q h. rise low high later further (lost.among low high p) (lost.among later further q) h

-- none is left
pub none_left : {l h : ℤ} (f : Steps) (low high : ℤ) (at : Option ℤ) → l ≡ low → h ≡ high → MatchOption at (NoneWithin f l h) (BeginsWithin f l h) → ((k : ℤ) → at ≡ Some k → ⊥) → NoneWithin f low high
none_left f low high None e k none gone = λ at to found from. subst (λ (c : ℤ). c <ℤ to) k (none at to found (chain (same_le e) from))
none_left f low high (Some at) e k none gone = absurd (gone at refl)

-- one more
pub one_lost : {f g n : Steps} {low high k j : ℤ} → j ≡ k → LoseWithin low high f g → BeginsWithin g low high k → ((q : ℤ) → n q ≡ cond (is_eq (int_cmp j q)) None (g q)) → LoseWithin low high f n
one_lost {f} {g} {n} {low} {high} {k} {j} key lost goes is = record { among = among; kept = λ at to e. kept at to (lost.kept at to e) }
  where
    read : (at : ℤ) (b : Bool) → is_eq (int_cmp k at) ≡ b → n at ≡ cond b None (g at)
    read at b e = is at ∙ ap (λ (q : ℤ). cond (is_eq (int_cmp q at)) None (g at)) key ∙ ap (λ (c : Bool). cond c None (g at)) e

    among : (at to : ℤ) → n at ≡ Some to → f at ≡ Some to
    among at to e = by_key k at (λ same yes. absurd (none-some to (sym (read at true yes) ∙ e))) (λ no. lost.among at to (sym (read at false no) ∙ e))

    kept : (at to : ℤ) → (g at ≡ Some to) ⊎ ((low ≤ℤ at) × (to ≤ℤ high)) → (n at ≡ Some to) ⊎ ((low ≤ℤ at) × (to ≤ℤ high))
    kept at to (inl e) =
        by_key k at
        (λ same yes. inr (chain goes.2 (same_le same), chain (same_le (sym (same_Some goes.0 to (sym goes.1 ∙ ap g same ∙ e)))) goes.3))
        (λ no. inl (read at false no ∙ e))
    kept at to (inr h) = inr h

-- ** One more range

-- within a step
pub more_within : {f : Steps} {ranges : List (ℤ × ℤ)} {l h : ℤ} (low high : ℤ) → l ≡ low → h ≡ high → AreSteps f ranges → Reaches f l h → AreSteps f (ranges ++ (low, high) ∷ [])
more_within {f} {ranges} {l} {h} low high e k steps reaches = record { among = λ a b e. Contains-append_left ranges ((low, high) ∷ []) (a, b) (steps.among a b e); within = λ a b c. within a b (Contains-push_cases ranges (low, high) (a, b) c); rise = steps.rise }
  where
    here : Reaches f low high
    here = (reaches.0, reaches.1, reaches.2, chain reaches.3 (same_le e), chain (same_le (sym k)) reaches.4)

    within : (a b : ℤ) → Contains ranges (a, b) ⊎ (◌≡◌ {A = ℤ × ℤ} (low, high) (a, b)) → Reaches f a b
    within a b (inl c) = steps.within a b c
    within a b (inr e) = subst (λ (x : ℤ × ℤ). Reaches f x.0 x.1) e here

-- beyond all steps
pub beyond_steps : {f g n : Steps} {ranges : List (ℤ × ℤ)} {low high : ℤ} → AreSteps f ranges → (Reaches f low high → ⊥) → LoseWithin low high f g → NoneWithin g low high → ((q : ℤ) → n q ≡ cond (is_eq (int_cmp low q)) (Some high) (g q))
    → AreSteps n (ranges ++ (low, high) ∷ [])
beyond_steps {f} {g} {n} {ranges} {low} {high} steps beyond lost none is =
    record {
      among = λ a b e. among a b (split a b e);
      within = λ a b c. within a b (Contains-push_cases ranges (low, high) (a, b) c);
      rise = λ a v b w p q h. rise a v b w (split a v p) (split b w q) h;
    }
  where
    more : List (ℤ × ℤ)
    more = ranges ++ (low, high) ∷ []

    read : (at : ℤ) (b : Bool) → is_eq (int_cmp low at) ≡ b → n at ≡ cond b (Some high) (g at)
    read at b e = is at ∙ ap (λ (c : Bool). cond c (Some high) (g at)) e

    new : n low ≡ Some high
    new = read low true (ap is_eq (tied_itself int_cmp_total low))

    split : (a v : ℤ) → n a ≡ Some v → ((low ≡ a) × (high ≡ v)) ⊎ (g a ≡ Some v)
    split a v e = by_key low a (λ same yes. inl (same, same_Some high v (sym (read a true yes) ∙ e))) (λ no. inr (sym (read a false no) ∙ e))

    among : (a v : ℤ) → ((low ≡ a) × (high ≡ v)) ⊎ (g a ≡ Some v) → Contains more (a, v)
    among a v (inl e) = subst (λ (c : ℤ). Contains more (c, v)) e.0 (subst (λ (c : ℤ). Contains more (low, c)) e.1 (Contains-push ranges (low, high)))
    among a v (inr e) = Contains-append_left ranges ((low, high) ∷ []) (a, v) (steps.among a v (lost.among a v e))

    by_new : (a b : ℤ) → low ≤ℤ a → b ≤ℤ high → Reaches n a b
    by_new a b h k = (low, high, new, h, k)

    old : (a b k v : ℤ) → f k ≡ Some v → k ≤ℤ a → b ≤ℤ v → (g k ≡ Some v) ⊎ ((low ≤ℤ k) × (v ≤ℤ high)) → Reaches n a b
    old a b k v e h j (inl still) =
        by_key low k
        (λ same yes. absurd (beyond (k, v, e, same_le (sym same), below_le (none k v still (same_le same)))))
        (λ no. (k, v, read k false no ∙ still, h, j))
    old a b k v e h j (inr gone) = by_new a b (chain gone.0 h) (chain j gone.1)

    within : (a b : ℤ) → Contains ranges (a, b) ⊎ (◌≡◌ {A = ℤ × ℤ} (low, high) (a, b)) → Reaches n a b
    within a b (inl c) = let s = steps.within a b c in old a b s.0 s.1 s.2 s.3 s.4 (lost.kept s.0 s.1 s.2)
    within a b (inr e) = subst (λ (x : ℤ × ℤ). Reaches n x.0 x.1) e (by_new low high (same_le refl) (same_le refl))

    rise : (a v b w : ℤ) → ((low ≡ a) × (high ≡ v)) ⊎ (g a ≡ Some v) → ((low ≡ b) × (high ≡ w)) ⊎ (g b ≡ Some w) → a <ℤ b → v <ℤ w
    rise a v b w (inl p) (inl q) h = absurd (apart-ends h (same_le (sym q.0 ∙ p.0)))
    rise a v b w (inl p) (inr q) h = subst (λ (c : ℤ). c <ℤ w) p.1 (none b w q (below_le (subst (λ (c : ℤ). c <ℤ b) (sym p.0) h)))
    rise a v b w (inr p) (inl q) h =
        by_lt_z v w (λ k. k)
        (λ k. absurd (beyond (a, v, lost.among a v p, below_le (subst (λ (c : ℤ). a <ℤ c) (sym q.0) h), subst (λ (c : ℤ). c ≤ℤ v) (sym q.1) k)))
    rise a v b w (inr p) (inr q) h = steps.rise a v b w (lost.among a v p) (lost.among b w q) h

pub more_steps : {f g n : Steps} {ranges : List (ℤ × ℤ)} {l h : ℤ} (low high : ℤ) → l ≡ low → h ≡ high → AreSteps f ranges → (Reaches f l h → ⊥) → LoseWithin l h f g → NoneWithin g l h → ((q : ℤ) → n q ≡ cond (is_eq (int_cmp l q)) (Some h) (g q))
    → AreSteps n (ranges ++ (low, high) ∷ [])
more_steps {f} {g} {n} {ranges} {l} {h} low high e k steps beyond lost none is =
    subst (λ (v : ℤ). AreSteps n (ranges ++ (v, high) ∷ [])) e
    (subst (λ (w : ℤ). AreSteps n (ranges ++ (l, w) ∷ [])) k (beyond_steps steps beyond lost none is))

-- ** What steps tell of the ranges

pub overlap_told : {f : Steps} {ranges : List (ℤ × ℤ)} (low high : ℤ) → AreSteps f ranges → Decides (list_any (λ (ends : ℤ × ℤ). overlaps (range low high) (range ends.0 ends.1)) ranges) (Reaches f high low)
overlap_told {f} {ranges} low high steps = (λ e. yes (Any-from_list_any test ranges e), no)
  where
    test : ℤ × ℤ → Bool
    test ends = overlaps (range low high) (range ends.0 ends.1)

    yes : Any (λ (x : ℤ × ℤ). test x ≡ true) ranges → Reaches f high low
    yes a =
        let x = a.1 in
        let s = steps.within x.0 x.1 (a.0, a.2, a.3) in
        let both = and_parts (int_le low x.1) (int_le x.0 high) a.4 in
        (s.0, s.1, s.2, chain s.3 (le_test x.0 high both.1), chain (le_test low x.1 both.0) s.4)

    no : Reaches f high low → list_any test ranges ≡ true
    no s =
        let c = steps.among s.0 s.1 s.2 in
        list_any_at test ranges c.0 (s.0, s.1) c.1
        (ap test c.2 ∙ ap (λ (b : Bool). b && int_le s.0 high) (test_le low s.1 s.4) ∙ test_le s.0 high s.3)

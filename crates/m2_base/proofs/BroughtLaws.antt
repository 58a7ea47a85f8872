-- The names that were brought: how many come before an item, and the first entry of each name.
use Rattle.std.proofs.Common.{◌≡◌, ℕ, zero, suc, ◌+◌, ◌<◌, ◌≤◌, refl, sym, ap, ◌∙◌, cond, Bool, true, false, nat_eq, nat_lt, List, [], ◌∷◌, ◌++◌, length, take, filter, Option, Some, None, slice_index_or, arith}
use Rattle.std.specs.List.Sorted.{IsNonDecreasingBy, IsPartitionPoint, IsPartitionedBy}
use Rattle.std.proofs.lemmas.List.Sorted.{IsPartitionedBy-ltb}
use Rattle.std.proofs.lemmas.List.{take_all, take_more}
use Rattle.m2_base.specs.Lists.{Each}
use Rattle.m2_base.specs.Statics.Layouts.{Ascend, AreBrought}
use Rattle.m2_base.specs.Statics.Lookup.{brought_before, entry_named, entry_or}
use Rattle.m2_base.specs.declared.sites.Named.{Named}
use Rattle.m2_base.specs.declared.limits.TheConstants.{MOST_BROUGHT}
use Rattle.m2_base.proofs.EachLaws.{each_append}

-- ** The order

-- a fact of each is one of that at a place
each_at : (P : Named → Type 0) (xs : List Named) (i : ℕ) (d : Named) → Each P xs → i < length xs → P (slice_index_or xs i d)
each_at P [] i d h lt = absurd (omega (arith, lt))
each_at P (x ∷ xs) zero d h lt = h.0
each_at P (x ∷ xs) (suc i) d h lt = each_at P xs i d h.1 (omega (arith, lt))

-- their items don't fall
rises : (xs : List Named) → Ascend xs → IsNonDecreasingBy (λ (b : Named). b.item) xs
rises [] h i j d le lt = absurd (omega (arith, lt))
rises (x ∷ xs) h zero zero d le lt = omega arith
rises (x ∷ xs) h zero (suc j) d le lt = each_at (λ b. x.item ≤ b.item) xs j d h.0 (omega (arith, lt))
rises (x ∷ xs) h (suc i) zero d le lt = absurd (omega (arith, le))
rises (x ∷ xs) h (suc i) (suc j) d le lt = rises xs h.1 i j d (omega (arith, le)) (omega (arith, lt))

-- so those of earlier items come first
pub parted : (xs : List Named) (item : ℕ) → Ascend xs → IsPartitionedBy (λ (b : Named). nat_lt b.item item) xs
parted xs item h = IsPartitionedBy-ltb (λ (b : Named). b.item) xs item (rises xs h)

-- those that pass a test all come before this place, and no other
counted : (p : Named → Bool) (xs : List Named) (k : ℕ) → k ≤ length xs → IsPartitionPoint (λ y. p y ≡ true) (λ y. p y ≡ false) xs k → k ≡ length (filter p xs)
counted p [] k le h = omega (arith, le)
counted p (x ∷ xs) zero le h =
    let e : p x ≡ false = h.1 0 x (omega arith) (omega arith) in
    rw e
    (counted p xs 0 (omega arith) ((λ j d lo hi. absurd (omega (arith, hi))), λ j d lo hi. h.1 (suc j) d (omega arith) (omega (arith, hi))))
counted p (x ∷ xs) (suc k) le h =
    let e : p x ≡ true = h.0 0 x (omega arith) (omega arith) in
    let rest = counted p xs k (omega (arith, le)) ((λ j d lo hi. h.0 (suc j) d (omega arith) (omega (arith, hi))), λ j d lo hi. h.1 (suc j) d (omega (arith, lo)) (omega (arith, hi))) in
    rw e (omega (arith, rest))

-- where earlier items' names end
pub point_counts : (xs : List Named) (item k : ℕ) → k ≤ length xs
    → IsPartitionPoint (λ (y : Named). nat_lt y.item item ≡ true) (λ (y : Named). nat_lt y.item item ≡ false) xs k → k ≡ brought_before xs item
point_counts xs item k le h = counted (λ (b : Named). nat_lt b.item item) xs k le h

-- ** One more item

each_up : (item : ℕ) (xs : List Named) → Each (λ (b : Named). b.item ≡ item) xs → Each (λ (b : Named). item ≤ b.item) xs
each_up item [] h = tt
each_up item (x ∷ xs) h = (let e : x.item ≡ item = h.0 in omega (arith, e), each_up item xs h.1)

same_ascend : (item : ℕ) (xs : List Named) → Each (λ (b : Named). b.item ≡ item) xs → Ascend xs
same_ascend item [] h = tt
same_ascend item (x ∷ xs) h = (rw (h.0) (each_up item xs h.1), same_ascend item xs h.1)

each_from : (a b : ℕ) (xs : List Named) → a ≤ b → Each (λ (x : Named). x.item ≡ b) xs → Each (λ (x : Named). a ≤ x.item) xs
each_from a b [] le h = tt
each_from a b (x ∷ xs) le h = (let e : x.item ≡ b = h.0 in omega (arith, e), each_from a b xs le h.1)

ascend_append : (item : ℕ) (xs ys : List Named) → Ascend xs → Each (λ (b : Named). b.item ≤ item) xs → Each (λ (b : Named). b.item ≡ item) ys → Ascend (xs ++ ys)
ascend_append item [] ys h low same = same_ascend item ys same
ascend_append item (x ∷ xs) ys h low same =
    (each_append (λ (d : Named). x.item ≤ d.item) xs ys h.0 (each_from x.item item ys low.0 same), ascend_append item xs ys h.1 low.1 same)

length_append : (xs ys : List Named) → length (xs ++ ys) ≡ length xs + length ys
length_append [] ys = omega arith
length_append (x ∷ xs) ys = omega (arith, length_append xs ys)

pub more_brought : (item : ℕ) (xs ys : List Named) → AreBrought xs → Each (λ (b : Named). b.item ≤ item) xs → Each (λ (b : Named). b.item ≡ item) ys
    → length xs + length ys ≤ MOST_BROUGHT → AreBrought (xs ++ ys)
more_brought item xs ys h low same few =
    record { order = ascend_append item xs ys h.order low same; few = omega (arith, length_append xs ys, few) }

-- ** The first entry of each name

or_none : (o : Option Named) → entry_or o None ≡ o
or_none None = refl
or_none (Some n) = refl

or_assoc : (a b c : Option Named) → entry_or (entry_or a b) c ≡ entry_or a (entry_or b c)
or_assoc None b c = refl
or_assoc (Some n) b c = refl

named_cons : (b : Bool) (x : Named) (o p : Option Named) → cond b (Some x) (entry_or o p) ≡ entry_or (cond b (Some x) o) p
named_cons true x o p = refl
named_cons false x o p = refl

pub named_append : (xs ys : List Named) (name : ℕ) → entry_named (xs ++ ys) name ≡ entry_or (entry_named xs name) (entry_named ys name)
named_append [] ys name = refl
named_append (x ∷ xs) ys name = ap (cond (nat_eq x.name name) (Some x)) (named_append xs ys name) ∙ named_cons (nat_eq x.name name) x (entry_named xs name) (entry_named ys name)

-- The index has the first entries of what it had and of the first i of these names, and room for the others.
pub record IsIndexedTo (before after : ℕ → Option Named) (names : List Named) (i left : ℕ) : Type 0 where
  pub first : (name : ℕ) → after name ≡ entry_or (before name) (entry_named (take i names) name)
  pub room : length names ≤ i + left

-- at first
pub none_yet : (before : ℕ → Option Named) (names : List Named) (left : ℕ) → length names ≤ left → IsIndexedTo before before names 0 left
none_yet before names left h = record { first = λ name. sym (or_none (before name)); room = omega (arith, h) }

-- one more
pub one_further : (before between after : ℕ → Option Named) (names : List Named) (i left rest : ℕ) (d : Named) → IsIndexedTo before between names i left
    → i < length names → left ≤ rest + 1
    → ((name : ℕ) → after name ≡ entry_or (between name) (entry_named (slice_index_or names i d ∷ []) name)) → IsIndexedTo before after names (i + 1) rest
one_further before between after names i left rest d so lt few updated =
    let x = slice_index_or names i d in
    let more : take (i + 1) names ≡ take i names ++ x ∷ [] = take_more names i d lt in
    let first : (name : ℕ) → after name ≡ entry_or (before name) (entry_named (take (i + 1) names) name) =
    λ name. updated name ∙ ap (λ o. entry_or o (entry_named (x ∷ []) name)) (so.first name)
    ∙ or_assoc (before name) (entry_named (take i names) name) (entry_named (x ∷ []) name)
    ∙ ap (entry_or (before name)) (sym (named_append (take i names) (x ∷ []) name) ∙ ap (λ xs. entry_named xs name) (sym more)) in
    record { first = first; room = omega (arith, so.room, few) }

-- all
pub all_indexed : (before after : ℕ → Option Named) (names : List Named) (i left : ℕ) → length names ≤ i → IsIndexedTo before after names i left
    → (name : ℕ) → after name ≡ entry_or (before name) (entry_named names name)
all_indexed before after names i left le so name = so.first name ∙ ap (λ xs. entry_or (before name) (entry_named xs name)) (take_all i names le)

-- an index of these with the first entries of those behind them
pub still_indexed : (before after : ℕ → Option Named) (xs ys : List Named) → ((name : ℕ) → before name ≡ entry_named xs name)
    → ((name : ℕ) → after name ≡ entry_or (before name) (entry_named ys name)) → (name : ℕ) → after name ≡ entry_named (xs ++ ys) name
still_indexed before after xs ys h k name = k name ∙ ap (λ o. entry_or o (entry_named ys name)) (h name) ∙ sym (named_append xs ys name)

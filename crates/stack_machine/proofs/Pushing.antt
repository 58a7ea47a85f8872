-- Loops that push something for each item, and ends for want of memory.
use Rattle.std.proofs.Common.{◌≡◌, ◌∙◌, ℕ, ◌+◌, ◌<◌, ◌≤◌, List, [], ◌∷◌, ◌++◌, Result, Ok, Err, length, get_or, map, take, drop, sym, ap, append_assoc, arith, refl}
use Rattle.std.specs.Prelude.{IfOk, IsErr, OnOk}
use Rattle.object_file.specs.Contents.{Contents}
use Rattle.stack_machine.specs.Loading.{bodies_from, count_of}
use Rattle.std.proofs.lemmas.List.{append-nil, at_drop_all, at_drop_more, map-append, take_all, take_more}

module _ {A B C : Type 0} (f : A → B) (g : B → C) (old : List C) (xs : List A) where
  seen_more : (i : ℕ) (x : A) → i < length xs → x ≡ get_or xs i x → map g (map f (take (i + 1) xs)) ≡ map g (map f (take i xs)) ++ g (f x) ∷ []
  seen_more i x lt is =
      ap (λ (t : List A). map g (map f t)) (take_more xs i x lt) ∙ ap (λ (t : List B). map g t) (map-append f (take i xs) (get_or xs i x ∷ []))
      ∙ map-append g (map f (take i xs)) (f (get_or xs i x) ∷ []) ∙ ap (λ (y : A). map g (map f (take i xs)) ++ g (f y) ∷ []) (sym is)

  -- one item more
  pub pushed_more : (i : ℕ) (x : A) (r : C) {all new : List C} → i < length xs → x ≡ get_or xs i x → all ≡ old ++ map g (map f (take i xs)) → new ≡ all ++ r ∷ [] → r ≡ g (f x) → new ≡ old ++ map g (map f (take (i + 1) xs))
  pushed_more i x r lt is so_far pushed made =
      let seen = map g (map f (take i xs)) in
      pushed ∙ ap (λ (t : List C). t ++ r ∷ []) so_far ∙ append_assoc old seen (r ∷ []) ∙ ap (λ (y : C). old ++ (seen ++ y ∷ [])) made
      ∙ ap (λ (t : List C). old ++ t) (sym (seen_more i x lt is))

  -- behind the last item
  pub pushed_all : (i : ℕ) {all : List C} → length xs ≤ i → all ≡ old ++ map g (map f (take i xs)) → all ≡ old ++ map g (map f xs)
  pushed_all i end so_far = so_far ∙ ap (λ (t : List A). old ++ map g (map f t)) (take_all i xs end)

-- what a list becomes is what its first item does and what the rest does, and the loop has what is to come behind what is there
module _ {A C : Type 0} (f : List A → List C) (xs : List A) where
  -- one item more
  pub part_more : (i : ℕ) (x : A) (all new part whole : List C) → i < length xs → x ≡ get_or xs i x → f (x ∷ drop (i + 1) xs) ≡ part ++ f (drop (i + 1) xs) → all ++ f (drop i xs) ≡ whole → new ≡ all ++ part → new ++ f (drop (i + 1) xs) ≡ whole
  part_more i x all new part whole lt is first so_far pushed =
      let rest = f (drop (i + 1) xs) in
      ap (λ (t : List C). t ++ rest) pushed ∙ append_assoc all part rest ∙ ap (λ (t : List C). all ++ t) (sym first) ∙ ap (λ (y : A). all ++ f (y ∷ drop (i + 1) xs)) is
      ∙ ap (λ (t : List C). all ++ t) (sym (at_drop_more f xs i x lt)) ∙ so_far

  -- behind the last item
  pub part_all : (i : ℕ) (all whole : List C) → f [] ≡ [] → length xs ≤ i → all ++ f (drop i xs) ≡ whole → all ≡ whole
  part_all i all whole none end so_far = sym (append-nil all) ∙ ap (λ (t : List C). all ++ t) (sym none ∙ sym (at_drop_all f xs i end)) ∙ so_far

-- ---- the procedures of objects, counted

pub counted_more : (os : List Contents) (i : ℕ) (o : Contents) (count more whole : ℕ) → i < length os → o ≡ get_or os i o → more ≡ length o.procedures → count + count_of (drop i os) ≡ whole → count + more + count_of (drop (i + 1) os) ≡ whole
counted_more os i o count more whole lt is added so_far =
    let next : count_of (drop i os) ≡ more + count_of (drop (i + 1) os) =
    at_drop_more count_of os i o lt ∙ ap (λ (x : Contents). length x.procedures + count_of (drop (i + 1) os)) (sym is) ∙ ap (λ (k : ℕ). k + count_of (drop (i + 1) os)) (sym added) in
    omega (arith, next, so_far)

pub counted_all : (os : List Contents) (i count whole : ℕ) → length os ≤ i → count + count_of (drop i os) ≡ whole → count ≡ whole
counted_all os i count whole end so_far = let none = at_drop_all count_of os i end in omega (arith, none, so_far)

pub bodies_more : (os : List Contents) (i : ℕ) (o : Contents) (count more : ℕ) (all new whole : List ℕ) → i < length os → o ≡ get_or os i o → more ≡ length o.procedures → new ≡ all ++ count ∷ [] → all ++ bodies_from count (drop i os) ≡ whole → new ++ bodies_from (count + more) (drop (i + 1) os) ≡ whole
bodies_more os i o count more all new whole lt is added pushed so_far =
    ap (λ (t : List ℕ). t ++ bodies_from (count + more) (drop (i + 1) os)) pushed ∙ append_assoc all (count ∷ []) (bodies_from (count + more) (drop (i + 1) os))
    ∙ ap (λ (k : ℕ). all ++ count ∷ bodies_from (count + k) (drop (i + 1) os)) added ∙ ap (λ (x : Contents). all ++ bodies_from count (x ∷ drop (i + 1) os)) is
    ∙ ap (λ (t : List ℕ). all ++ t) (sym (at_drop_more (bodies_from count) os i o lt)) ∙ so_far

pub bodies_all : (os : List Contents) (i count : ℕ) (all whole : List ℕ) → length os ≤ i → all ++ bodies_from count (drop i os) ≡ whole → all ≡ whole
bodies_all os i count all whole end so_far = part_all (bodies_from count) os i all whole refl end so_far

-- where memory ran out, nothing is asked of the result
pub none_asked : {T E : Type 0} (r : Result T E) (P : T → Type 0) → IsErr r → IfOk r P
none_asked (Ok x) P is = absurd (cc)
none_asked (Err e) P is = tt

pub not_ok : {T E : Type 0} (r : Result T E) (P : Type 0) → IsErr r → OnOk r P
not_ok (Ok x) P is = absurd (cc)
not_ok (Err e) P is = tt

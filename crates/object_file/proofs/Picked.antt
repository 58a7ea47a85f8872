-- Objects that are taken out of their places.
use Rattle.std.proofs.Common.{◌≡◌, ◌≢◌, ℕ, zero, suc, ◌+◌, ◌<◌, ◌≤◌, Bool, true, false, List, [], ◌∷◌, ◌++◌, length, get_or, map, take, Option, Some, None, refl, sym, ap, subst, ◌∙◌, arith}
use Rattle.std.specs.Prelude.{slice_get, slice_set}
use Rattle.std.specs.List.{AllByRecursion}
use Rattle.std.proofs.lemmas.Option.{get_or_from_slice_get, slice_get-get_or}
use Rattle.std.proofs.lemmas.List.{length-set, take_all}
use Rattle.object_file.specs.Contents.{Contents}
use Rattle.object_file.specs.Picking.{AreNumbers, AllDifferent}
use Rattle.object_file.specs.Running.{picked}
use Rattle.object_file.specs.Validity.{IsValid}
use Rattle.object_file.proofs.Joined.{picked_more}

-- so many numbers were gone through: the objects with them are picked, and each other one is in its place
pub record Picks (os : List Contents) (order : List ℕ) (i : ℕ) (places : List (Option Contents)) (chosen : List Contents) : Type 0 where
  pub chosen_are : chosen ≡ picked os (take i order)
  pub valid : AllByRecursion IsValid chosen
  pub there : (j : ℕ) (o : Contents) → slice_get os j ≡ Some o → AllByRecursion (λ k. k ≢ j) (take i order) → slice_get places j ≡ Some (Some o)
  pub places_are : length places ≡ length os

in_place : (os : List Contents) (j : ℕ) (o : Contents) → slice_get os j ≡ Some o → slice_get (map Some os) j ≡ Some (Some o)
in_place [] j o e = absurd cc
in_place (p ∷ os) zero o e = ap Some e
in_place (p ∷ os) (suc j) o e = in_place os j o e

all_some : (os : List Contents) → length (map (λ (o : Contents). Some o) os) ≡ length os
all_some [] = refl
all_some (o ∷ os) = ap suc (all_some os)

pub picks_start : (os : List Contents) (order : List ℕ) (places : List (Option Contents)) (chosen : List Contents) → places ≡ map Some os → chosen ≡ [] → Picks os order 0 places chosen
picks_start os order places chosen all none = record {
  chosen_are = none;
  valid = subst (AllByRecursion IsValid) (sym none) tt;
  there = λ j o e h. ap (λ (xs : List (Option Contents)). slice_get xs j) all ∙ in_place os j o e;
  places_are = ap length all ∙ all_some os;
}

take_more : {A : Type 0} (xs : List A) (i : ℕ) (x : A) → slice_get xs i ≡ Some x → take (i + 1) xs ≡ take i xs ++ x ∷ []
take_more [] i x e = absurd cc
take_more {A} (y ∷ xs) zero x e = ap (λ (z : A). z ∷ []) (one e) where
  one : ◌≡◌ {A = Option A} (Some y) (Some x) → y ≡ x
  one e = cc
take_more {A} (y ∷ xs) (suc i) x e =
    let n : suc i + 1 ≡ suc (i + 1) = omega arith in
    ap (λ (m : ℕ). take m (y ∷ xs)) n ∙ ap (λ (zs : List A). y ∷ zs) (take_more xs i x e)

all_at : {A : Type 0} (P : A → Type 0) (xs : List A) (i : ℕ) (x : A) → AllByRecursion P xs → slice_get xs i ≡ Some x → P x
all_at P [] i x h e = absurd cc
all_at {A} P (y ∷ xs) zero x h e = subst P (one e) h.0 where
  one : ◌≡◌ {A = Option A} (Some y) (Some x) → y ≡ x
  one e = cc
all_at P (y ∷ xs) (suc i) x h e = all_at P xs i x h.1 e

-- an earlier number isn't this one
pub earlier : (order : List ℕ) (i k : ℕ) → AllDifferent order → slice_get order i ≡ Some k → AllByRecursion (λ m. m ≢ k) (take i order)
earlier [] i k d e = absurd cc
earlier (x ∷ order) zero k d e = tt
earlier (x ∷ order) (suc i) k d e = (all_at (λ j. x ≢ j) order i k d.0 e, earlier order i k d.1 e)

get_other : {A : Type 0} (xs : List A) (k j : ℕ) (x : A) → k ≢ j → slice_get (slice_set xs k x) j ≡ slice_get xs j
get_other [] k j x d = refl
get_other (y ∷ xs) zero zero x d = absurd (d refl)
get_other (y ∷ xs) zero (suc j) x d = refl
get_other (y ∷ xs) (suc k) zero x d = refl
get_other (y ∷ xs) (suc k) (suc j) x d = get_other xs k j x (λ e. d (ap suc e))

all_parts : {A : Type 0} (P : A → Type 0) (xs ys : List A) → AllByRecursion P (xs ++ ys) → AllByRecursion P xs × AllByRecursion P ys
all_parts P [] ys h = (tt, h)
all_parts P (x ∷ xs) ys h = let r = all_parts P xs ys h.1 in ((h.0, r.0), r.1)

all_joined : {A : Type 0} (P : A → Type 0) (xs : List A) (x : A) → AllByRecursion P xs → P x → AllByRecursion P (xs ++ x ∷ [])
all_joined P [] x h p = (p, tt)
all_joined P (y ∷ xs) x h p = (h.0, all_joined P xs x h.1 p)

-- an object is taken out of its place
pub picks_more : (os : List Contents) (order : List ℕ) (i k : ℕ) (o : Contents) (places after : List (Option Contents)) (chosen more : List Contents) → slice_get order i ≡ Some k → slice_get os k ≡ Some o → Picks os order i places chosen
    → after ≡ slice_set places k None → more ≡ chosen ++ o ∷ [] → IsValid o → Picks os order (i + 1) after more
picks_more os order i k o places after chosen more at there p after_is more_is valid = record {
  chosen_are = more_is ∙ ap (λ (xs : List Contents). xs ++ o ∷ []) p.chosen_are ∙ sym (picked_more os (take i order) k o there) ∙ ap (picked os) (sym (take_more order i k at));
  valid = subst (AllByRecursion IsValid) (sym more_is) (all_joined IsValid chosen o p.valid valid);
  there = λ j x s h.
      let parts = all_parts (λ m. m ≢ j) (take i order) (k ∷ []) (subst (AllByRecursion (λ m. m ≢ j)) (take_more order i k at) h) in
      ap (λ (xs : List (Option Contents)). slice_get xs j) after_is ∙ get_other places k j None parts.1.0 ∙ p.there j x s parts.0;
  places_are = ap length after_is ∙ length-set places k None ∙ p.places_are;
}

pub picks_over : (os : List Contents) (order : List ℕ) (i : ℕ) (places : List (Option Contents)) (chosen : List Contents) → length order ≤ i → Picks os order i places chosen → chosen ≡ picked os order
picks_over os order i places chosen le p = p.chosen_are ∙ ap (picked os) (take_all i order le)

-- the next object is in its place
pub record Waits (os : List Contents) (places : List (Option Contents)) (order : List ℕ) (i k : ℕ) : Type 0 where
  pub o : Contents
  pub at : slice_get order i ≡ Some k
  pub is : slice_get os k ≡ Some o
  pub there : slice_get places k ≡ Some (Some o)
  pub within : k < length places

some_at : (os : List Contents) (k : ℕ) → k < length os → (o : Contents) × (slice_get os k ≡ Some o)
some_at [] k lt = absurd (omega (arith, lt))
some_at (o ∷ os) zero lt = (o, refl)
some_at (o ∷ os) (suc k) lt = some_at os k (omega (arith, lt))

pub waits : (os : List Contents) (order : List ℕ) (i : ℕ) (places : List (Option Contents)) (chosen : List Contents) → AreNumbers (length os) order → AllDifferent order → i < length order → Picks os order i places chosen → Waits os places order i (get_or order i 0)
waits os order i places chosen numbers differ lt p =
    let at = slice_get-get_or order i 0 lt in
    let k = get_or order i 0 in
    let within : k < length os = all_at (λ n. n < length os) order i k numbers at in
    let o = some_at os k within in
    record { o = o.0; at = at; is = o.1; there = p.there k o.0 o.1 (earlier order i k differ at); within = subst (λ n. k < n) (sym p.places_are) within }

-- what is taken out is the object
pub waits_some : (os : List Contents) (places : List (Option Contents)) (order : List ℕ) (i k : ℕ) (found : Option Contents) (w : Waits os places order i k) → found ≡ get_or places k None → found ≡ Some w.o
waits_some os places order i k found w e = e ∙ get_or_from_slice_get places k (Some w.o) None w.there

-- the next object is taken out
pub picks_next : (os : List Contents) (order : List ℕ) (i : ℕ) (places after : List (Option Contents)) (chosen more : List Contents) (found : Option Contents) (object : Contents) → AreNumbers (length os) order → AllDifferent order → i < length order
    → Picks os order i places chosen → found ≡ get_or places (get_or order i 0) None → found ≡ Some object → after ≡ slice_set places (get_or order i 0) None → more ≡ chosen ++ object ∷ [] → IsValid object → Picks os order (i + 1) after more
picks_next os order i places after chosen more found object numbers differ lt p value is after_is more_is valid =
    let w = waits os order i places chosen numbers differ lt p in
    let same : object ≡ w.o = one object w.o (sym is ∙ waits_some os places order i (get_or order i 0) found w value) in
    picks_more os order i (get_or order i 0) w.o places after chosen more w.at w.is p after_is (more_is ∙ ap (λ (o : Contents). chosen ++ o ∷ []) same) (subst IsValid same valid)
  where
    one : (x y : Contents) → ◌≡◌ {A = Option Contents} (Some x) (Some y) → x ≡ y
    one x y e = cc

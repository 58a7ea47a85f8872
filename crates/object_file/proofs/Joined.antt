-- The objects that a walk comes to are a program.
use Rattle.std.proofs.Common.{◌≡◌, ◌≢◌, ◌⊎◌, inl, inr, ℕ, zero, suc, ◌+◌, ◌-◌, ◌<◌, ◌≤◌, ◌^◌, Bool, true, false, cond, List, [], ◌∷◌, ◌++◌, length, map, take, Option, Some, None, refl, sym, ap, subst, ◌∙◌, arith, append_assoc, append-nil}
use Rattle.std.proofs.lemmas.Bool.{cases_lt, false≢true}
use Rattle.std.specs.Prelude.{slice_get, replicate, is_some}
use Rattle.std.specs.List.{AllByRecursion}
use Rattle.std.specs.Option.{option_to_list}
use Rattle.std.specs.Str.{bytes_eq}
use Rattle.std.proofs.lemmas.Option.{slice_get_within}
use Rattle.std.proofs.lemmas.Slice.Eq.{bytes_eq-Decides}
use Rattle.code_form.specs.Modules.{Import}
use Rattle.object_file.specs.Contents.{Contents, definitions_of}
use Rattle.object_file.specs.Naming.{object_named, taken_again, name_again}
use Rattle.object_file.specs.Picking.{AreNumbers, AllDifferent}
use Rattle.object_file.specs.Programs.{in_out, IsMet, apart, by, AllDiffer, IsProgram, AreLinked}
use Rattle.object_file.specs.Running.{IsRunningOrder, object_of, objects_of, picked}
use Rattle.object_file.specs.Validity.{IsValid}
use Rattle.object_file.proofs.Directing.{named_is, named_there}
use Rattle.object_file.proofs.Walked.{Has, has_left, has_right, not_has, falses, never, all_false, none_true, Walked, walked}

one : {A : Type 0} (x y : A) → ◌≡◌ {A = Option A} (Some x) (Some y) → x ≡ y
one x y e = cc

-- ---- names differ

free_at : (before os : List Contents) (j : ℕ) (o : Contents) → taken_again before os ≡ None → slice_get os j ≡ Some o → object_named (before ++ take j os) o.name ≡ None
free_at before [] j o e s = absurd cc
free_at before (p ∷ os) j o e s = chosen (object_named before p.name) refl e (λ f i t. free_at (before ++ p ∷ []) os i o f t) j s where
  chosen : (x : Option ℕ) → object_named before p.name ≡ x → cond (is_some x) (Some p.name) (taken_again (before ++ p ∷ []) os) ≡ None
      → (taken_again (before ++ p ∷ []) os ≡ None → (i : ℕ) → slice_get os i ≡ Some o → object_named ((before ++ p ∷ []) ++ take i os) o.name ≡ None) → (j : ℕ) → slice_get (p ∷ os) j ≡ Some o → object_named (before ++ take j (p ∷ os)) o.name ≡ None
  chosen (Some k) is e more j s = absurd cc
  chosen None is e more zero s = ap (λ (xs : List Contents). object_named xs o.name) (append-nil before) ∙ ap (λ (x : Contents). object_named before x.name) (sym (one p o s)) ∙ is
  chosen None is e more (suc j) s = ap (λ (xs : List Contents). object_named xs o.name) (sym (append_assoc before (p ∷ []) (take j os))) ∙ more e j s

take_get : {A : Type 0} (xs : List A) (i j : ℕ) (x : A) → i < j → slice_get xs i ≡ Some x → slice_get (take j xs) i ≡ Some x
take_get [] i j x lt e = absurd cc
take_get (y ∷ xs) i zero x lt e = absurd (omega (arith, lt))
take_get (y ∷ xs) zero (suc j) x lt e = e
take_get (y ∷ xs) (suc i) (suc j) x lt e = take_get xs i j x (omega (arith, lt)) e

not_before : (os : List Contents) (i j : ℕ) (a b : Contents) → name_again os ≡ None → slice_get os i ≡ Some a → slice_get os j ≡ Some b → a.name ≡ b.name → i < j → ⊥
not_before os i j a b e s t same lt =
    named_there (take j os) i a (take_get os i j a lt s) (ap (object_named (take j os)) same ∙ free_at [] os j b e t)

unique : (os : List Contents) (i j : ℕ) (a b : Contents) → name_again os ≡ None → slice_get os i ≡ Some a → slice_get os j ≡ Some b → a.name ≡ b.name → i ≡ j
unique os i j a b e s t same =
    elim (cases_lt i j) [
      | inl lt ↦ absurd (not_before os i j a b e s t same lt)
      | inr le ↦ (elim (cases_lt j i) [
        | inl lt ↦ absurd (not_before os j i b a e t s (sym same) lt)
        | inr ge ↦ omega (arith, le, ge)
      ])
    ]

-- ---- the picked ones

picked_is : (os : List Contents) (k : ℕ) (ks : List ℕ) (o : Contents) → slice_get os k ≡ Some o → picked os (k ∷ ks) ≡ o ∷ picked os ks
picked_is os k ks o e = ap (λ (x : Option Contents). option_to_list x ++ picked os ks) e

pub picked_more : (os : List Contents) (ks : List ℕ) (k : ℕ) (o : Contents) → slice_get os k ≡ Some o → picked os (ks ++ k ∷ []) ≡ picked os ks ++ o ∷ []
picked_more os [] k o e = picked_is os k [] o e
picked_more os (j ∷ ks) k o e = ap (λ (xs : List Contents). option_to_list (slice_get os j) ++ xs) (picked_more os ks k o e) ∙ sym (append_assoc (option_to_list (slice_get os j)) (picked os ks) (o ∷ []))

has_picked : (os : List Contents) (ks : List ℕ) (j : ℕ) (o : Contents) → Has ks j → slice_get os j ≡ Some o → (i : ℕ) × (slice_get (picked os ks) i ≡ Some o)
has_picked os [] j o h s = absurd h
has_picked os (k ∷ ks) j o (inl e) s = (0, ap (λ (xs : List Contents). slice_get xs 0) (picked_is os k ks o (ap (slice_get os) (sym e) ∙ s)))
has_picked os (k ∷ ks) j o (inr h) s = on (slice_get os k) (has_picked os ks j o h s) where
  on : (x : Option Contents) → (i : ℕ) × (slice_get (picked os ks) i ≡ Some o) → (i : ℕ) × (slice_get (option_to_list x ++ picked os ks) i ≡ Some o)
  on None r = r
  on (Some p) r = (suc r.0, r.1)

few_picked : (os : List Contents) (ks : List ℕ) → length (picked os ks) ≤ length ks
few_picked os [] = omega arith
few_picked os (k ∷ ks) = on (slice_get os k) (few_picked os ks) where
  on : (x : Option Contents) → length (picked os ks) ≤ length ks → length (option_to_list x ++ picked os ks) ≤ suc (length ks)
  on None h = omega (arith, h)
  on (Some p) h = omega (arith, h)

-- the names of the picked ones differ from that of another
name_differs : (os : List Contents) (k : ℕ) (a : Contents) (ks : List ℕ) → name_again os ≡ None → slice_get os k ≡ Some a → AllByRecursion (λ j. k ≢ j) ks → AllByRecursion (λ n. a.name ≢ n) (map (λ o. o.name) (picked os ks))
name_differs os k a [] e s h = tt
name_differs os k a (j ∷ ks) e s h = on (slice_get os j) refl (name_differs os k a ks e s h.1) where
  on : (x : Option Contents) → slice_get os j ≡ x → AllByRecursion (λ n. a.name ≢ n) (map (λ o. o.name) (picked os ks)) → AllByRecursion (λ n. a.name ≢ n) (map (λ o. o.name) (option_to_list x ++ picked os ks))
  on None t more = more
  on (Some b) t more = ((λ same. h.0 (unique os k j a b e s t same)), more)

names_differ : (os : List Contents) (ks : List ℕ) → name_again os ≡ None → AllDifferent ks → AllDiffer (map (λ o. o.name) (picked os ks))
names_differ os [] e d = tt
names_differ os (k ∷ ks) e d = on (slice_get os k) refl (names_differ os ks e d.1) where
  on : (x : Option Contents) → slice_get os k ≡ x → AllDiffer (map (λ o. o.name) (picked os ks)) → AllDiffer (map (λ o. o.name) (option_to_list x ++ picked os ks))
  on None s more = more
  on (Some a) s more = (name_differs os k a ks e s d.0, more)

-- ---- imports are met among them

-- the object to which an import leads
leads_to : (os : List Contents) (i : Import) (k : ℕ) (p : Contents) → name_again os ≡ None → slice_get os k ≡ Some p → i.name ≢ in_out.name → p.name ≡ i.name → object_of os i ≡ Some k
leads_to os i k p e s other same = ap (λ (b : Bool). cond b None (object_named os i.name)) (apart_from (bytes_eq i.name in_out.name) refl) ∙ found (object_named os i.name) refl where
  apart_from : (b : Bool) → bytes_eq i.name in_out.name ≡ b → b ≡ false
  apart_from true t = absurd (other ((bytes_eq-Decides i.name in_out.name).0 t))
  apart_from false t = refl

  found : (x : Option ℕ) → object_named os i.name ≡ x → x ≡ Some k
  found None t = absurd (named_there os k p s (ap (object_named os) same ∙ t))
  found (Some j) t = let h = named_is os i.name j t in ap Some (unique os j k h.0 p e h.2 s (sym h.3 ∙ sym same))

met_all : (os ps : List Contents) (is : List Import) → name_again os ≡ None → ((t : ℕ) (p : Contents) → Has (objects_of os is) t → slice_get os t ≡ Some p → (n : ℕ) × (slice_get ps n ≡ Some p)) → AllByRecursion (IsMet os) is → AllByRecursion (IsMet ps) is
met_all os ps [] e near m = tt
met_all os ps (i ∷ is) e near m = (first m.0, met_all os ps is e (λ t p h. near t p (has_right (option_to_list (object_of os i)) (objects_of os is) t h)) m.1) where
  first : IsMet os i → IsMet ps i
  first (apart a) = apart a
  first (by k p s other same cells headings) =
      let here : Has (objects_of os (i ∷ is)) k = subst (λ (x : Option ℕ). Has (option_to_list x ++ objects_of os is) k) (sym (leads_to os i k p e s other same)) (inl refl) in
      let n = near k p here s in
      by n.0 p n.1 other same cells headings

all_at : {A : Type 0} (P : A → Type 0) (xs : List A) (k : ℕ) (x : A) → AllByRecursion P xs → slice_get xs k ≡ Some x → P x
all_at P [] k x h e = absurd cc
all_at P (y ∷ xs) zero x h e = subst P (one y x e) h.0
all_at P (y ∷ xs) (suc k) x h e = all_at P xs k x h.1 e

-- ---- the program

module _ (os : List Contents) (after : List Bool) (order : List ℕ) (linked : AreLinked os) (w : Walked os (replicate (length os) false) (0 ∷ []) after order) where
  in_order : (t : ℕ) → slice_get after t ≡ Some true → Has order t
  in_order t e = on (w.left t e) where
    on : (slice_get (replicate (length os) false) t ≡ Some true) ⊎ Has order t → Has order t
    on (inl x) = absurd (none_true (length os) t x)
    on (inr h) = h

  near : (j : ℕ) → Has order j → (o : Contents) → slice_get os j ≡ Some o → (t : ℕ) (p : Contents) → Has (objects_of os (definitions_of o)) t → slice_get os t ≡ Some p → (n : ℕ) × (slice_get (picked os order) n ≡ Some p)
  near j h o s t p x there =
      let c = w.closed j h in
      has_picked os order t p (in_order t (c.2 t (subst (λ (q : Contents). Has (objects_of os (definitions_of q)) t) (one o c.0 (sym s ∙ c.1)) x))) there

  all_met : (ks : List ℕ) → ((j : ℕ) → Has ks j → Has order j) → AllByRecursion (λ o. AllByRecursion (IsMet (picked os order)) (definitions_of o)) (picked os ks)
  all_met [] within = tt
  all_met (k ∷ ks) within = on (slice_get os k) refl (all_met ks (λ j h. within j (inr h))) where
    on : (x : Option Contents) → slice_get os k ≡ x → AllByRecursion (λ o. AllByRecursion (IsMet (picked os order)) (definitions_of o)) (picked os ks) → AllByRecursion (λ o. AllByRecursion (IsMet (picked os order)) (definitions_of o)) (option_to_list x ++ picked os ks)
    on None s more = more
    on (Some o) s more = (
      met_all os (picked os order) (definitions_of o) linked.names_differ (near k (within k (inl refl)) o s) (all_at (λ (q : Contents). AllByRecursion (IsMet os) (definitions_of q)) os k o linked.met s),
      more,
    )

  pub joined_in : AllByRecursion IsValid (picked os order) → IsProgram (picked os order)
  joined_in valid =
      let first = w.closed 0 (in_order 0 (w.reached 0 (inl refl))) in
      let there = has_picked os order 0 first.0 (in_order 0 (w.reached 0 (inl refl))) first.1 in
      let lt = slice_get_within (picked os order) there.0 first.0 there.1 in
      let few = few_picked os order in
      let count = w.few in
      let all = all_false (length os) in
      let small = linked.few in
      record {
        some = omega (arith, lt);
        few = omega (arith, few, count, all, small);
        valid = valid;
        names_differ = names_differ os order linked.names_differ w.differ;
        met = all_met order (λ j h. h);
      }

  numbers_in : (ks : List ℕ) → ((j : ℕ) → Has ks j → Has order j) → AreNumbers (length os) ks
  numbers_in [] within = tt
  numbers_in (k ∷ ks) within = (let c = w.closed k (within k (inl refl)) in slice_get_within os k c.0 c.1, numbers_in ks (λ j h. within j (inr h)))

-- the objects that a running order picks are a program
pub joined : (os : List Contents) (order : List ℕ) → AreLinked os → IsRunningOrder os order → AllByRecursion IsValid (picked os order) → IsProgram (picked os order)
joined os order linked r valid = joined_in os r.0 order linked (walked os (replicate (length os) false) (0 ∷ []) r.0 order r.1) valid

pub order_numbers : (os : List Contents) (order : List ℕ) → AreLinked os → IsRunningOrder os order → AreNumbers (length os) order
order_numbers os order linked r = numbers_in os r.0 order linked (walked os (replicate (length os) false) (0 ∷ []) r.0 order r.1) order (λ j h. h)

pub order_differs : (os : List Contents) (order : List ℕ) → IsRunningOrder os order → AllDifferent order
order_differs os order r = (walked os (replicate (length os) false) (0 ∷ []) r.0 order r.1).differ

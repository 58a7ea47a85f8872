-- The dependency order: striking off what is taken changes nothing of what is taken next.
use Rattle.std.proofs.Common.{◌≡◌, ℕ, zero, suc, ◌+◌, ◌-◌, ◌<◌, ◌≤◌, Bool, true, false, ◌&&◌, ◌||◌, not, List, [], ◌∷◌, ◌++◌, Option, Some, None, length, take, drop, set, get_or, refl, sym, ◌∙◌, ap, subst, arith, append_assoc, if◌then◌else◌, nat_eq, Vec, Global}
use Rattle.std.proofs.lemmas.Bool.{and_parts, false≢true}
use Rattle.std.proofs.lemmas.List.{append-nil, drop-set-lt, get_or-map, length-map, map-append, map-set, take_all, take_more, drop_all}
use Rattle.std.proofs.Math.Seq.{drop-cons}
use Rattle.std.proofs.lemmas.List.Folds.{list_all-append}
use Rattle.m2_base.specs.declared.trees.Ident.{Ident}
use Rattle.def_import.specs.Closure.{Found, Progress, names_of, text_of_module}
use Rattle.def_import.specs.Dependencies.{AreStruck, IsStruck, all_in, all_needs, and_taken, definitions, dependency_order, first_free, first_ready, is_in, is_ready, items_of, needs_of, next_taken, one_number, taken_in, texts_of_modules}

both_true : (a b : Bool) → a ≡ true → b ≡ true → (a && b) ≡ true
both_true true b e f = f
both_true false b e f = e

and_true : (a b : Bool) → b ≡ true → (a && b) ≡ a
and_true true b e = e
and_true false b e = refl

-- ** Needs

-- what one more text needs
pub more_needs : (p : Progress) (found : List Found) (i : ℕ) (d : Found) (old new : List (Vec ℕ Global)) (needs : Vec ℕ Global) → i < length found → items_of old ≡ all_needs p (take i found)
    → new ≡ old ++ needs ∷ [] → needs.items ≡ needs_of p (get_or found i d) → items_of new ≡ all_needs p (take (i + 1) found)
more_needs p found i d old new needs within so_far pushed is =
    ap items_of pushed ∙ map-append (λ (v : Vec ℕ Global). v.items) old (needs ∷ []) ∙ ap (λ o. o ++ needs.items ∷ []) so_far ∙ ap (λ n. all_needs p (take i found) ++ n ∷ []) is
    ∙ sym (map-append (needs_of p) (take i found) (get_or found i d ∷ [])) ∙ ap (all_needs p) (sym (take_more found i d within))

texts-append : (p : Progress) (xs ys : List ℕ) → texts_of_modules p (xs ++ ys) ≡ texts_of_modules p xs ++ texts_of_modules p ys
texts-append p [] ys = refl
texts-append p (x ∷ xs) ys = ap (λ n. one_number (text_of_module p x) ++ n) (texts-append p xs ys) ∙ sym (append_assoc (one_number (text_of_module p x)) (texts_of_modules p xs) (texts_of_modules p ys))

pub needs_more : (p : Progress) (imports : List Ident) (i : ℕ) (d : Ident) → i < length imports
    → texts_of_modules p (names_of (take (i + 1) imports)) ≡ texts_of_modules p (names_of (take i imports)) ++ one_number (text_of_module p (get_or imports i d).name)
needs_more p imports i d inside =
    let x = get_or imports i d in
    ap (λ front. texts_of_modules p (names_of front)) (take_more imports i d inside) ∙ ap (texts_of_modules p) (map-append (λ (n : Ident). n.name) (take i imports) (x ∷ []))
    ∙ texts-append p (names_of (take i imports)) (x.name ∷ []) ∙ ap (λ n. texts_of_modules p (names_of (take i imports)) ++ n) (append-nil (one_number (text_of_module p x.name)))

-- ** What is struck off

pub struck_not : (taken xs : List ℕ) → IsStruck taken xs xs
struck_not taken xs = record { struck = []; joined = sym (append-nil xs); taken_all = refl }

pub struck_twice : (taken xs ys zs : List ℕ) → IsStruck taken xs ys → IsStruck taken ys zs → IsStruck taken xs zs
struck_twice taken xs ys zs a b = record {
  struck = b.struck ++ a.struck;
  joined = a.joined ∙ ap (λ l. l ++ a.struck) b.joined ∙ append_assoc zs b.struck a.struck;
  taken_all = list_all-append (is_in taken) b.struck a.struck ∙ both_true (all_in taken b.struck) (all_in taken a.struck) b.taken_all a.taken_all;
}

-- the rest tells the same
pub struck_same : (taken xs ys : List ℕ) → IsStruck taken xs ys → all_in taken xs ≡ all_in taken ys
struck_same taken xs ys a =
    ap (all_in taken) a.joined ∙ list_all-append (is_in taken) ys a.struck ∙ and_true (all_in taken ys) (all_in taken a.struck) a.taken_all

still_in : (taken : List ℕ) (t k : ℕ) → is_in taken k ≡ true → is_in (taken ++ t ∷ []) k ≡ true
still_in [] t k h = absurd (false≢true h)
still_in (x ∷ taken) t k h = go (nat_eq x k) h (still_in taken t k)
  where
    go : (b : Bool) → (b || is_in taken k) ≡ true → (is_in taken k ≡ true → is_in (taken ++ t ∷ []) k ≡ true) → (b || is_in (taken ++ t ∷ []) k) ≡ true
    go true h next = refl
    go false h next = next h

all_still_in : (taken : List ℕ) (t : ℕ) (needs : List ℕ) → all_in taken needs ≡ true → all_in (taken ++ t ∷ []) needs ≡ true
all_still_in taken t [] h = refl
all_still_in taken t (k ∷ needs) h =
    let p = and_parts (is_in taken k) (all_in taken needs) h in both_true (is_in (taken ++ t ∷ []) k) (all_in (taken ++ t ∷ []) needs) (still_in taken t k p.0) (all_still_in taken t needs p.1)

-- ** Of all texts

pub none_struck : (taken : List ℕ) (xs : List (List ℕ)) → AreStruck taken xs xs
none_struck taken [] = tt
none_struck taken (x ∷ xs) = (struck_not taken x, none_struck taken xs)

pub all_struck_twice : (taken : List ℕ) (xs ys zs : List (List ℕ)) → AreStruck taken xs ys → AreStruck taken ys zs → AreStruck taken xs zs
all_struck_twice taken [] [] [] a b = tt
all_struck_twice taken [] [] (z ∷ zs) a b = absurd b
all_struck_twice taken [] (y ∷ ys) zs a b = absurd a
all_struck_twice taken (x ∷ xs) [] zs a b = absurd a
all_struck_twice taken (x ∷ xs) (y ∷ ys) [] a b = absurd b
all_struck_twice taken (x ∷ xs) (y ∷ ys) (z ∷ zs) a b = (struck_twice taken x y z a.0 b.0, all_struck_twice taken xs ys zs a.1 b.1)

pub struck_with_more : (taken : List ℕ) (t : ℕ) (xs ys : List (List ℕ)) → AreStruck taken xs ys → AreStruck (taken ++ t ∷ []) xs ys
struck_with_more taken t [] [] a = tt
struck_with_more taken t [] (y ∷ ys) a = absurd a
struck_with_more taken t (x ∷ xs) [] a = absurd a
struck_with_more taken t (x ∷ xs) (y ∷ ys) a =
    (record { struck = a.0.struck; joined = a.0.joined; taken_all = all_still_in taken t a.0.struck a.0.taken_all }, struck_with_more taken t xs ys a.1)

pub free_same : (taken : List ℕ) (k : ℕ) (xs ys : List (List ℕ)) → AreStruck taken xs ys → first_free taken k xs ≡ first_free taken k ys
free_same taken k [] [] a = refl
free_same taken k [] (y ∷ ys) a = absurd a
free_same taken k (x ∷ xs) [] a = absurd a
free_same taken k (x ∷ xs) (y ∷ ys) a =
    ap (λ b. if not (is_in taken k) && b then Some k else first_free taken (k + 1) xs) (struck_same taken x y a.0)
    ∙ ap (λ n. if not (is_in taken k) && all_in taken y then Some k else n) (free_same taken (k + 1) xs ys a.1)

behind_struck : (taken : List ℕ) (xs ys : List (List ℕ)) → AreStruck taken xs ys → AreStruck taken (drop 1 xs) (drop 1 ys)
behind_struck taken [] [] a = tt
behind_struck taken [] (y ∷ ys) a = absurd a
behind_struck taken (x ∷ xs) [] a = absurd a
behind_struck taken (x ∷ xs) (y ∷ ys) a = a.1

ready_free : (p : Progress) (taken : List ℕ) (k : ℕ) (found : List Found) → first_free taken k (all_needs p found) ≡ first_ready p taken k found
ready_free p taken k [] = refl
ready_free p taken k (f ∷ found) = ap (λ n. if is_ready p taken k f then Some k else n) (ready_free p taken (k + 1) found)

behind_main : (p : Progress) (found : List Found) → drop 1 (all_needs p found) ≡ all_needs p (definitions found)
behind_main p [] = refl
behind_main p (f ∷ found) = refl

-- the text that is free is the next that is taken
pub next_free : (p : Progress) (taken : List ℕ) (news : List (List ℕ)) → AreStruck taken (all_needs p p.found) news → first_free taken 1 (drop 1 news) ≡ next_taken p taken
next_free p taken news a =
    sym (free_same taken 1 (drop 1 (all_needs p p.found)) (drop 1 news) (behind_struck taken (all_needs p p.found) news a)) ∙ ap (first_free taken 1) (behind_main p p.found)
    ∙ ready_free p taken 1 (definitions p.found)

-- ** Rounds

-- where nothing is left to take, no round takes more
pub stays : (p : Progress) (i more : ℕ) → next_taken p (taken_in p i) ≡ None → taken_in p (more + i) ≡ taken_in p i
stays p i zero none = let e : 0 + i ≡ i = omega arith in ap (taken_in p) e
stays p i (suc more) none =
    let so_far = stays p i more none in
    let e : suc more + i ≡ suc (more + i) = omega arith in
    ap (taken_in p) e ∙ ap (λ t. and_taken t (next_taken p t)) so_far ∙ ap (and_taken (taken_in p i)) none

-- so it is the order
pub is_order : (p : Progress) (i : ℕ) (taken : List ℕ) → taken ≡ taken_in p i → i ≤ length p.found → next_taken p taken ≡ None → taken ≡ dependency_order p
is_order p i taken is within none =
    let e : length p.found ≡ (length p.found - i) + i = omega arith in
    is ∙ sym (stays p i (length p.found - i) (ap (next_taken p) (sym is) ∙ none)) ∙ ap (taken_in p) (sym e)

pub more_taken : (p : Progress) (i text : ℕ) (taken new : List ℕ) → taken ≡ taken_in p i → next_taken p taken ≡ Some text → new ≡ taken ++ text ∷ [] → new ≡ taken_in p (i + 1)
more_taken p i text taken new is next pushed =
    let e : i + 1 ≡ suc i = omega arith in
    pushed ∙ sym (ap (and_taken taken) next) ∙ ap (λ t. and_taken t (next_taken p t)) is ∙ sym (ap (taken_in p) e)

struck_length : (taken : List ℕ) (xs ys : List (List ℕ)) → AreStruck taken xs ys → length ys ≡ length xs
struck_length taken [] [] a = refl
struck_length taken [] (y ∷ ys) a = absurd a
struck_length taken (x ∷ xs) [] a = absurd a
struck_length taken (x ∷ xs) (y ∷ ys) a = ap suc (struck_length taken xs ys a.1)

-- there are as many as there are texts
pub as_many : (p : Progress) (taken : List ℕ) (all : List (Vec ℕ Global)) → AreStruck taken (all_needs p p.found) (items_of all) → length all ≡ length p.found
as_many p taken all a =
    sym (length-map all (λ (v : Vec ℕ Global). v.items)) ∙ struck_length taken (all_needs p p.found) (items_of all) a ∙ length-map p.found (needs_of p)

-- ** One text after another

module _ (taken : List ℕ) where
  set_struck : (xs ys : List (List ℕ)) (i : ℕ) (d new : List ℕ) → i < length ys → AreStruck taken xs ys → IsStruck taken (get_or ys i d) new → AreStruck taken xs (set ys i new)
  set_struck xs [] i d new within a h = absurd (omega (arith, within))
  set_struck [] (y ∷ ys) i d new within a h = absurd a
  set_struck (x ∷ xs) (y ∷ ys) zero d new within a h = (struck_twice taken x y new a.0 h, a.1)
  set_struck (x ∷ xs) (y ∷ ys) (suc i) d new within a h = (a.0, set_struck xs ys i d new (omega (arith, within)) a.1 h)

  pub one_struck : (xs : List (List ℕ)) (all : List (Vec ℕ Global)) (i : ℕ) (d new : Vec ℕ Global) → i < length all → AreStruck taken xs (items_of all) → IsStruck taken (get_or all i d).items new.items
      → AreStruck taken xs (items_of (set all i new))
  one_struck xs all i d new within a h =
      let items = λ (w : Vec ℕ Global). w.items in
      let at : get_or (items_of all) i d.items ≡ (get_or all i d).items = get_or-map items all i d d.items within in
      subst (λ (ys : List (List ℕ)). AreStruck taken xs ys) (sym (map-set items all i new))
      (set_struck xs (items_of all) i d.items new.items (omega (arith, within, length-map all items)) a (subst (λ (y : List ℕ). IsStruck taken y new.items) (sym at) h))

  free_at : (all : List (Vec ℕ Global)) (i : ℕ) (d : Vec ℕ Global) → i < length all
      → first_free taken i (drop i (items_of all)) ≡ (if not (is_in taken i) && all_in taken (get_or all i d).items then Some i else first_free taken (i + 1) (drop (i + 1) (items_of all)))
  free_at all i d within =
      let items = λ (w : Vec ℕ Global). w.items in
      let at : get_or (items_of all) i d.items ≡ (get_or all i d).items = get_or-map items all i d d.items within in
      let inside : i < length (items_of all) = omega (arith, within, length-map all items) in
      let next : suc i ≡ i + 1 = omega arith in
      ap (first_free taken i) (drop-cons (items_of all) i d.items inside)
      ∙ ap (λ (y : List ℕ). if not (is_in taken i) && all_in taken y then Some i else first_free taken (i + 1) (drop (suc i) (items_of all))) at
      ∙ ap (λ n. if not (is_in taken i) && all_in taken (get_or all i d).items then Some i else first_free taken (i + 1) (drop n (items_of all))) next

  pub is_free_at : (first : Option ℕ) (all : List (Vec ℕ Global)) (i : ℕ) (d : Vec ℕ Global) (free : Bool) → i < length all → first ≡ first_free taken i (drop i (items_of all))
      → free ≡ (not (is_in taken i) && all_in taken (get_or all i d).items) → free ≡ true → Some i ≡ first
  is_free_at first all i d free within so_far is so =
      sym (so_far ∙ free_at all i d within ∙ ap (λ b. if b then Some i else first_free taken (i + 1) (drop (i + 1) (items_of all))) (sym is ∙ so))

  pub not_free_at : (first : Option ℕ) (all : List (Vec ℕ Global)) (i : ℕ) (d new : Vec ℕ Global) (free : Bool) → i < length all → first ≡ first_free taken i (drop i (items_of all))
      → free ≡ (not (is_in taken i) && all_in taken (get_or all i d).items) → free ≡ false → first ≡ first_free taken (i + 1) (drop (i + 1) (items_of (set all i new)))
  not_free_at first all i d new free within so_far is so =
      let items = λ (w : Vec ℕ Global). w.items in
      let less : i < i + 1 = omega arith in
      so_far ∙ free_at all i d within ∙ ap (λ b. if b then Some i else first_free taken (i + 1) (drop (i + 1) (items_of all))) (sym is ∙ so)
      ∙ ap (first_free taken (i + 1)) (sym (ap (drop (i + 1)) (map-set items all i new) ∙ drop-set-lt (i + 1) (items_of all) i new.items less))

-- what a slice of a whole list writes back
written : (n : ℕ) (xs ys : List (Vec ℕ Global)) → length xs ≡ length ys → n ≡ length ys → take n (xs ++ drop (length xs) ys) ≡ xs
written n xs ys same all =
    let most : length ys ≤ length xs = omega (arith, same) in
    let none : drop (length xs) ys ≡ [] = drop_all (length xs) ys most in
    ap (λ b. take n (xs ++ b)) none ∙ ap (take n) (append-nil xs) ∙ take_all n xs (omega (arith, same, all))

-- one more text is taken
pub still_struck : (p : Progress) (taken now : List ℕ) (text n : ℕ) (all lent new : List (Vec ℕ Global)) → now ≡ taken → lent ≡ all → n ≡ length all → AreStruck taken (all_needs p p.found) (items_of all)
    → AreStruck now (items_of lent) (items_of new) → (after : List ℕ) → after ≡ taken ++ text ∷ [] → AreStruck after (all_needs p p.found) (items_of (take n (new ++ drop (length new) all)))
still_struck p taken now text n all lent new is_taken is_all count a b after pushed =
    let b' : AreStruck taken (items_of all) (items_of new) =
    subst (λ t. AreStruck t (items_of all) (items_of new)) is_taken (subst (λ l. AreStruck now (items_of l) (items_of new)) is_all b) in
    let c = all_struck_twice taken (all_needs p p.found) (items_of all) (items_of new) a b' in
    let same : length new ≡ length all = as_many p taken new c ∙ sym (as_many p taken all a) in
    subst (λ t. AreStruck t (all_needs p p.found) (items_of (take n (new ++ drop (length new) all)))) (sym pushed)
    (subst (λ l. AreStruck (taken ++ text ∷ []) (all_needs p p.found) (items_of l)) (sym (written n new all same count)) (struck_with_more taken text (all_needs p p.found) (items_of new) c))

-- Where the rows of an item begin and end, by the layout.
use Rattle.std.specs.Prelude.{◌≡◌, ℕ, suc, ◌+◌, ◌<◌, ◌≤◌, ◌==◌, Bool, true, false, if◌then◌else◌, List, [], ◌∷◌, ◌++◌, length, flat_map, slice_get, cond, filter, nat_lt, option_map, Option, None, Some}
use Rattle.std.proofs.Common.{refl, sym, ap, ◌∙◌, subst, arith}
use Rattle.std.proofs.lemmas.List.{length-append}
use Rattle.m2_base.specs.Lists.{Each}
use Rattle.m2_base.specs.Statics.Items.{Item}
use Rattle.m2_base.specs.Statics.Layouts.{firsts_from, names_from, names_of_item}
use Rattle.m2_base.specs.Statics.Contexts.{Layout}
use Rattle.m2_base.specs.Statics.Lookup.{brought_before, entry_named, entry_or, moved}
use Rattle.m2_base.specs.Statics.Shapes.{Shape, item_shapes}
use Rattle.m2_base.specs.declared.sites.Named.{Named}
use Rattle.m2_base.proofs.EachLaws.{each_append}
use Rattle.decl_sem.specs.Pieces.{BeginsAt}

-- the rows of these items
abbrev pub rows_of : List Item → ℕ
rows_of items = length (flat_map item_shapes items)

rows_more : (x : Item) (items : List Item) → rows_of (x ∷ items) ≡ length (item_shapes x) + rows_of items
rows_more x items = length-append (item_shapes x) (flat_map item_shapes items)

-- the first ordinal of an item
pub first_of : (before rest : List Item) (x : Item) (o : ℕ) → slice_get (firsts_from o (before ++ x ∷ rest)) (length before) ≡ Some (o + rows_of before)
first_of [] rest x o = ap (λ (n : ℕ). Some n) (let e : o ≡ o + 0 = omega arith in e)
first_of (y ∷ before) rest x o =
    first_of before rest x (o + length (item_shapes y))
    ∙ ap (λ (n : ℕ). Some n) (let e = rows_more y before in let g : o + length (item_shapes y) + rows_of before ≡ o + rows_of (y ∷ before) = omega arith in g)

head_of : (items : List Item) (o : ℕ) → slice_get (firsts_from o items) 0 ≡ Some o
head_of [] o = refl
head_of (x ∷ items) o = refl

-- and the ordinal behind its last row
pub end_of : (before rest : List Item) (x : Item) (o : ℕ) → slice_get (firsts_from o (before ++ x ∷ rest)) (length before + 1) ≡ Some (o + rows_of before + length (item_shapes x))
end_of [] rest x o = head_of rest (o + length (item_shapes x)) ∙ ap (λ (n : ℕ). Some n) (let e : o + length (item_shapes x) ≡ o + 0 + length (item_shapes x) = omega arith in e)
end_of (y ∷ before) rest x o =
    (let at : suc (length before) + 1 ≡ suc (length before + 1) = omega arith in ap (λ (n : ℕ). slice_get (firsts_from o ((y ∷ before) ++ x ∷ rest)) n) at)
    ∙ end_of before rest x (o + length (item_shapes y))
    ∙ ap (λ (n : ℕ). Some n) (let e = rows_more y before in let g : o + length (item_shapes y) + rows_of before + length (item_shapes x) ≡ o + rows_of (y ∷ before) + length (item_shapes x) = omega arith in g)

-- ** Earlier items' names have rows before

abbrev IsEarly : (item first : ℕ) → Named → Type 0
IsEarly item first e = e.item < item → e.ordinal < first

-- the names of one item
pub of_item : (P : Named → Type 0) (i o : ℕ) (ss : List Shape) → ((name n kind at : ℕ) → o ≤ n → n < o + length ss → P (record { name = name; ordinal = n; kind = kind; at = at; item = i })) → Each P (names_of_item i o ss)
of_item P i o [] h = tt
of_item P i o (s ∷ ss) h =
    go (s.name == 0) (of_item P i (o + 1) ss (λ name n kind at m k. h name n kind at (omega (arith, m)) (let e : o + length (s ∷ ss) ≡ o + 1 + length ss = omega arith in omega arith)))
  where
    go : (b : Bool) → Each P (names_of_item i (o + 1) ss) → Each P (if b then names_of_item i (o + 1) ss else record { name = s.name; ordinal = o; kind = s.kind; at = s.at; item = i } ∷ names_of_item i (o + 1) ss)
    go true rest = rest
    go false rest = (h s.name o s.kind s.at (omega arith) (omega arith), rest)

-- the names of the items from this one on stand in it or in later ones
later : (item first : ℕ) (items : List Item) (i o : ℕ) → item ≤ i → Each (IsEarly item first) (names_from i o items)
later item first [] i o h = tt
later item first (x ∷ items) i o h =
    each_append (IsEarly item first) (names_of_item i o (item_shapes x)) (names_from (i + 1) (o + length (item_shapes x)) items)
    (of_item (IsEarly item first) i o (item_shapes x) (λ name n kind at m k early. absurd (omega arith)))
    (later item first items (i + 1) (o + length (item_shapes x)) (omega arith))

early : (before rest : List Item) (i o : ℕ) → Each (IsEarly (i + length before) (o + rows_of before)) (names_from i o (before ++ rest))
early [] rest i o = later (i + 0) (o + 0) rest i o (omega arith)
early (x ∷ before) rest i o =
    let n : i + 1 + length before ≡ i + length (x ∷ before) = omega arith in
    let e = rows_more x before in
    let g : o + length (item_shapes x) + rows_of before ≡ o + rows_of (x ∷ before) = omega arith in
    each_append (IsEarly (i + length (x ∷ before)) (o + rows_of (x ∷ before))) (names_of_item i o (item_shapes x)) (names_from (i + 1) (o + length (item_shapes x)) (before ++ rest))
    (of_item (IsEarly (i + length (x ∷ before)) (o + rows_of (x ∷ before))) i o (item_shapes x) (λ name m kind at p k h. omega arith))
    (subst (λ (k : ℕ). Each (IsEarly k (o + rows_of (x ∷ before))) (names_from (i + 1) (o + length (item_shapes x)) (before ++ rest))) n
    (subst (λ (k : ℕ). Each (IsEarly (i + 1 + length before) k) (names_from (i + 1) (o + length (item_shapes x)) (before ++ rest))) g (early before rest (i + 1) (o + length (item_shapes x)))))

-- ** Later items' names have rows behind

abbrev IsLate : (item first : ℕ) → Named → Type 0
IsLate item first e = item ≤ e.item → first ≤ e.ordinal

-- no row of these items stands before the first
behind_first : (items : List Item) (i o first item : ℕ) → first ≤ o → Each (IsLate item first) (names_from i o items)
behind_first [] i o first item h = tt
behind_first (x ∷ items) i o first item h =
    each_append (IsLate item first) (names_of_item i o (item_shapes x)) (names_from (i + 1) (o + length (item_shapes x)) items)
    (of_item (IsLate item first) i o (item_shapes x) (λ name n kind at m k late. omega (arith, h, m)))
    (behind_first items (i + 1) (o + length (item_shapes x)) first item (omega (arith, h)))

late : (before rest : List Item) (i o : ℕ) → Each (IsLate (i + length before) (o + rows_of before)) (names_from i o (before ++ rest))
late [] rest i o = behind_first rest i o (o + 0) (i + 0) (omega arith)
late (x ∷ before) rest i o =
    let n : i + 1 + length before ≡ i + length (x ∷ before) = omega arith in
    let e = rows_more x before in
    let g : o + length (item_shapes x) + rows_of before ≡ o + rows_of (x ∷ before) = omega arith in
    each_append (IsLate (i + length (x ∷ before)) (o + rows_of (x ∷ before))) (names_of_item i o (item_shapes x)) (names_from (i + 1) (o + length (item_shapes x)) (before ++ rest))
    (of_item (IsLate (i + length (x ∷ before)) (o + rows_of (x ∷ before))) i o (item_shapes x) (λ name m kind at p k h. absurd (omega (arith, h))))
    (subst (λ (k : ℕ). Each (IsLate k (o + rows_of (x ∷ before))) (names_from (i + 1) (o + length (item_shapes x)) (before ++ rest))) n
    (subst (λ (k : ℕ). Each (IsLate (i + 1 + length before) k) (names_from (i + 1) (o + length (item_shapes x)) (before ++ rest))) g (late before rest (i + 1) (o + length (item_shapes x)))))

-- ** Entries that are found

pub entry_of : (P : Named → Type 0) (names : List Named) (name : ℕ) (e : Named) → Each P names → entry_named names name ≡ Some e → P e
entry_of P [] name e all is = absurd (cc)
entry_of P (x ∷ names) name e all is = go (x.name == name) (λ h. entry_of P names name e all.1 h) is
  where
    go : (b : Bool) → (entry_named names name ≡ Some e → P e) → (if b then Some x else entry_named names name) ≡ Some e → P e
    go true rest h = let same : x ≡ e = cc in subst P same all.0
    go false rest h = rest h

-- a name of an earlier item, and of this one or a later one
pub early_entry : (before rest : List Item) (name : ℕ) (n : Named) → entry_named (names_from 0 0 (before ++ rest)) name ≡ Some n → n.item < length before → n.ordinal < rows_of before
early_entry before rest name n is h =
    let all = entry_of (IsEarly (0 + length before) (0 + rows_of before)) (names_from 0 0 (before ++ rest)) name n (early before rest 0 0) is in
    let r = all (omega (arith, h)) in
    omega (arith, r)

pub late_entry : (before rest : List Item) (name : ℕ) (n : Named) → entry_named (names_from 0 0 (before ++ rest)) name ≡ Some n → length before ≤ n.item → rows_of before ≤ n.ordinal
late_entry before rest name n is h =
    let all = entry_of (IsLate (0 + length before) (0 + rows_of before)) (names_from 0 0 (before ++ rest)) name n (late before rest 0 0) is in
    let r = all (omega (arith, h)) in
    omega (arith, r)

-- ** How many names were brought

pub before_few : (brought : List Named) (item : ℕ) → brought_before brought item ≤ length brought
before_few [] item = omega arith
before_few (b ∷ brought) item = go (nat_lt b.item item) (before_few brought item)
  where
    go : (c : Bool) → brought_before brought item ≤ length brought → length (cond c (b ∷ filter (λ d. nat_lt d.item item) brought) (filter (λ d. nat_lt d.item item) brought)) ≤ suc (length brought)
    go true h = omega (arith, h)
    go false h = omega (arith, h)

pub before_all : (brought : List Named) (item : ℕ) → Each (λ b. b.item < item) brought → brought_before brought item ≡ length brought
before_all [] item h = refl
before_all (b ∷ brought) item h =
    let b0 = h.0 in
    let yes : nat_lt b.item item ≡ true = grind (arith, b0) in
    ap (λ (c : Bool). length (cond c (b ∷ filter (λ d. nat_lt d.item item) brought) (filter (λ d. nat_lt d.item item) brought))) yes ∙ ap suc (before_all brought item h.1)

pub before_none : (brought : List Named) (item : ℕ) → Each (λ b. item ≤ b.item) brought → brought_before brought item ≡ 0
before_none [] item h = refl
before_none (b ∷ brought) item h =
    let b0 = h.0 in
    let no : nat_lt b.item item ≡ false = grind (arith, b0) in
    ap (λ (c : Bool). length (cond c (b ∷ filter (λ d. nat_lt d.item item) brought) (filter (λ d. nat_lt d.item item) brought))) no ∙ before_none brought item h.1

pub before_append : (xs ys : List Named) (item : ℕ) → brought_before (xs ++ ys) item ≡ brought_before xs item + brought_before ys item
before_append [] ys item = omega arith
before_append (b ∷ xs) ys item = go (nat_lt b.item item) (before_append xs ys item)
  where
    go : (c : Bool) → brought_before (xs ++ ys) item ≡ brought_before xs item + brought_before ys item
        → length (cond c (b ∷ filter (λ d. nat_lt d.item item) (xs ++ ys)) (filter (λ d. nat_lt d.item item) (xs ++ ys)))
        ≡ length (cond c (b ∷ filter (λ d. nat_lt d.item item) xs) (filter (λ d. nat_lt d.item item) xs)) + brought_before ys item
    go true h = omega (arith, h)
    go false h = h

-- ** The begin of an item

-- the item begins behind the rows of those before, and of what they have brought
pub begins_behind : (l : Layout) (before rest : List Item) (first : ℕ) → l.names ≡ names_from 0 0 (before ++ rest) → first ≡ rows_of before + length l.brought → Each (λ b. b.ordinal < first) l.brought → BeginsAt l (length before) first
begins_behind l before rest first names count old =
    record { before = λ name e some is h. go name e (entry_named l.brought name) (entry_named l.names name) refl refl is h }
  where
    by_syntax : (name : ℕ) (e n : Named) → entry_named l.names name ≡ Some n → moved l.brought n ≡ e → e.item < length before → e.ordinal < first
    by_syntax name e n found same h =
        let at : e.ordinal ≡ n.ordinal + brought_before l.brought n.item = ap (λ (m : Named). m.ordinal) (sym same) in
        let of : e.item ≡ n.item = ap (λ (m : Named). m.item) (sym same) in
        let r = early_entry before rest name n (ap (λ (ns : List Named). entry_named ns name) (sym names) ∙ found) (omega (arith, of, h)) in
        let f = before_few l.brought n.item in
        omega (arith, at, r, f, count)

    go : (name : ℕ) (e : Named) (b n : Option Named) → entry_named l.brought name ≡ b → entry_named l.names name ≡ n → entry_or b (option_map (moved l.brought) n) ≡ Some e → e.item < length before → e.ordinal < first
    go name e (Some b) n found in_names is h =
        let same : b ≡ e = cc in
        subst (λ (d : Named). d.ordinal < first) same (entry_of (λ d. d.ordinal < first) l.brought name b old found)
    go name e None (Some n) found in_names is h = let same : moved l.brought n ≡ e = cc in by_syntax name e n in_names same h
    go name e None None found in_names is h = absurd (cc)

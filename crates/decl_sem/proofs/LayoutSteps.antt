-- The layout of a block grows by the names that an item brings: it stays right.
use Rattle.std.specs.List.{AllZip}
use Rattle.std.specs.Prelude.{◌≡◌, ◌≢◌, ◌⊎◌, ℕ, zero, suc, ◌+◌, ◌-◌, ◌<◌, ◌≤◌, ◌==◌, nat_lt, Bool, true, false, cond, if◌then◌else◌, List, [], ◌∷◌, ◌++◌, length, map, take, flat_map, Option, None, Some, option_map}
use Rattle.std.proofs.Common.{refl, sym, ap, ◌∙◌, subst, arith, inl, inr}
use Rattle.std.proofs.lemmas.List.{append_assoc, append-nil, length-append, length-map}
use Rattle.m2_base.specs.Lists.{Each}
use Rattle.m2_base.specs.Standard.{is_standard}
use Rattle.m2_base.specs.Statics.Bringing.{BringsIts}
use Rattle.m2_base.specs.Statics.Contexts.{Layout}
use Rattle.m2_base.specs.Statics.Items.{Item, items_of}
use Rattle.m2_base.specs.Statics.Layouts.{all_brought, brought_shape, extended, extended_by, firsts_from, laid_shapes, layout_of, names_from, with_brought}
use Rattle.m2_base.specs.Statics.Lookup.{brought_before, entry_named, entry_or, first_entry, moved}
use Rattle.m2_base.specs.Statics.Shapes.{Shape, item_shapes}
use Rattle.m2_base.specs.Trees.{Stream}
use Rattle.m2_base.specs.declared.limits.TheConstants.{MOST_BROUGHT}
use Rattle.m2_base.specs.declared.rows.Row.{Row}
use Rattle.m2_base.specs.declared.sites.Named.{Named}
use Rattle.m2_base.proofs.EachLaws.{each_append, each_then}
use Rattle.decl_sem.specs.LaidRows.{AreLaid, HasFirsts, IsLaid, first_shape, is_of, kept_name, more_laid, none_laid}
use Rattle.decl_sem.specs.Layouts.{IsLayoutAt, rows_before}
use Rattle.decl_sem.specs.NewNames.{AreNewNames, AreRowsOf, IsNewName, ordinal_before}
use Rattle.decl_sem.proofs.FirstNames.{AreLaid-append, layout_firsts, not_before}
use Rattle.decl_sem.proofs.FirstOrdinals.{before_all, before_append, before_few, before_none, early_entry, entry_of, late_entry, rows_of}

-- ** First shapes

shape_front : (name : ℕ) (xs ys zs : List Shape) (o k : ℕ) → first_shape name (xs ++ ys) o ≡ Some k → k < o + length xs → first_shape name (xs ++ zs) o ≡ Some k
shape_front name [] ys zs o k h below = let n = not_before name ys o k h in absurd (omega (arith, n, below))
shape_front name (s ∷ xs) ys zs o k h below =
    go (s.name == name) h (λ e. shape_front name xs ys zs (o + 1) k e (let m : o + suc (length xs) ≡ o + 1 + length xs = omega arith in omega (arith, below, m)))
  where
    go : (b : Bool) → (if b then Some o else first_shape name (xs ++ ys) (o + 1)) ≡ Some k → (first_shape name (xs ++ ys) (o + 1) ≡ Some k → first_shape name (xs ++ zs) (o + 1) ≡ Some k)
        → (if b then Some o else first_shape name (xs ++ zs) (o + 1)) ≡ Some k
    go true e later = e
    go false e later = later e

shape_behind : (name : ℕ) (xs ys : List Shape) (o : ℕ) → first_shape name xs o ≡ None → first_shape name (xs ++ ys) o ≡ first_shape name ys (o + length xs)
shape_behind name [] ys o h = ap (first_shape name ys) (let e : o ≡ o + 0 = omega arith in e)
shape_behind name (s ∷ xs) ys o h = go (s.name == name) h (λ e. shape_behind name xs ys (o + 1) e)
  where
    go : (b : Bool) → (if b then Some o else first_shape name xs (o + 1)) ≡ None → (first_shape name xs (o + 1) ≡ None → first_shape name (xs ++ ys) (o + 1) ≡ first_shape name ys (o + 1 + length xs))
        → (if b then Some o else first_shape name (xs ++ ys) (o + 1)) ≡ first_shape name ys (o + suc (length xs))
    go true e later = absurd (cc)
    go false e later = later e ∙ ap (first_shape name ys) (let m : o + 1 + length xs ≡ o + suc (length xs) = omega arith in m)

shape_below : (name : ℕ) (xs : List Shape) (o k : ℕ) → first_shape name xs o ≡ Some k → k < o + length xs
shape_below name [] o k h = absurd (cc)
shape_below name (s ∷ xs) o k h = go (s.name == name) h (λ e. shape_below name xs (o + 1) k e)
  where
    go : (b : Bool) → (if b then Some o else first_shape name xs (o + 1)) ≡ Some k → (first_shape name xs (o + 1) ≡ Some k → k < o + 1 + length xs) → k < o + suc (length xs)
    go true e later = let same : o ≡ k = cc in omega (arith, same)
    go false e later = let l = later e in omega (arith, l)

shape_in_front : (name : ℕ) (xs ys : List Shape) (o k : ℕ) → first_shape name xs o ≡ Some k → first_shape name (xs ++ ys) o ≡ Some k
shape_in_front name [] ys o k h = absurd (cc)
shape_in_front name (s ∷ xs) ys o k h = go (s.name == name) h (λ e. shape_in_front name xs ys (o + 1) k e)
  where
    go : (b : Bool) → (if b then Some o else first_shape name xs (o + 1)) ≡ Some k → (first_shape name xs (o + 1) ≡ Some k → first_shape name (xs ++ ys) (o + 1) ≡ Some k)
        → (if b then Some o else first_shape name (xs ++ ys) (o + 1)) ≡ Some k
    go true e later = e
    go false e later = later e

abbrev shift : (m : ℕ) → Option ℕ → Option ℕ
shift m o = option_map (λ k. k + m) o

shape_shifted : (name : ℕ) (xs : List Shape) (o m : ℕ) → first_shape name xs (o + m) ≡ shift m (first_shape name xs o)
shape_shifted name [] o m = refl
shape_shifted name (s ∷ xs) o m =
    go (s.name == name) (ap (first_shape name xs) (let e : o + m + 1 ≡ o + 1 + m = omega arith in e) ∙ shape_shifted name xs (o + 1) m)
  where
    go : (b : Bool) → first_shape name xs (o + m + 1) ≡ shift m (first_shape name xs (o + 1)) → (if b then Some (o + m) else first_shape name xs (o + m + 1)) ≡ shift m (if b then Some o else first_shape name xs (o + 1))
    go true h = refl
    go false h = h

-- ** Entries

entry_append : (xs ys : List Named) (name : ℕ) → entry_named (xs ++ ys) name ≡ entry_or (entry_named xs name) (entry_named ys name)
entry_append [] ys name = refl
entry_append (x ∷ xs) ys name = go (x.name == name) (entry_append xs ys name)
  where
    go : (b : Bool) → entry_named (xs ++ ys) name ≡ entry_or (entry_named xs name) (entry_named ys name) → cond b (Some x) (entry_named (xs ++ ys) name) ≡ entry_or (cond b (Some x) (entry_named xs name)) (entry_named ys name)
    go true h = refl
    go false h = h

-- the first new name of this name
new_found : (l : Layout) (name i limit o : ℕ) (b : List Named) (d : Named) (ys : List Shape) → AreNewNames l i limit o b → entry_named b name ≡ Some d → first_shape name (map brought_shape b ++ ys) o ≡ Some d.ordinal
new_found l name i limit o [] d ys new h = absurd (cc)
new_found l name i limit o (c ∷ b) d ys new h = go (c.name == name) h (λ e. new_found l name i limit (o + 1) b d ys new.1.1 e)
  where
    go : (t : Bool) → cond t (Some c) (entry_named b name) ≡ Some d → (entry_named b name ≡ Some d → first_shape name (map brought_shape b ++ ys) (o + 1) ≡ Some d.ordinal)
        → (if t then Some o else first_shape name (map brought_shape b ++ ys) (o + 1)) ≡ Some d.ordinal
    go true e later = let same : c ≡ d = cc in ap (λ (k : ℕ). Some k) (sym new.0.at ∙ ap (λ (n : Named). n.ordinal) same)
    go false e later = later e

new_lacking : (name o : ℕ) (b : List Named) → entry_named b name ≡ None → first_shape name (map brought_shape b) o ≡ None
new_lacking name o [] h = refl
new_lacking name o (c ∷ b) h = go (c.name == name) h (λ e. new_lacking name (o + 1) b e)
  where
    go : (t : Bool) → cond t (Some c) (entry_named b name) ≡ None → (entry_named b name ≡ None → first_shape name (map brought_shape b) (o + 1) ≡ None) → (if t then Some o else first_shape name (map brought_shape b) (o + 1)) ≡ None
    go true e later = absurd (cc)
    go false e later = later e

-- what is found is known to be new
new_unknown : (l : Layout) (name i limit o : ℕ) (b : List Named) (d : Named) → AreNewNames l i limit o b → entry_named b name ≡ Some d → ordinal_before limit (first_entry l name) ≡ None
new_unknown l name i limit o [] d new h = absurd (cc)
new_unknown l name i limit o (c ∷ b) d new h = go (c.name == name) refl h (λ e. new_unknown l name i limit (o + 1) b d new.1.1 e)
  where
    go : (t : Bool) → (c.name == name) ≡ t → cond t (Some c) (entry_named b name) ≡ Some d → (entry_named b name ≡ Some d → ordinal_before limit (first_entry l name) ≡ None) → ordinal_before limit (first_entry l name) ≡ None
    go true q e later = let same : c.name ≡ name = grind (arith, q) in subst (λ (n : ℕ). ordinal_before limit (first_entry l n) ≡ None) same new.0.unknown
    go false q e later = later e

pub new_items : (l : Layout) (i limit o : ℕ) (b : List Named) → AreNewNames l i limit o b → Each (λ d. d.item ≡ i) b
new_items l i limit o [] new = tt
new_items l i limit o (c ∷ b) new = (new.0.of_item, new_items l i limit (o + 1) b new.1.1)

known_ordinal : (limit k : ℕ) (e : Option Named) → option_map (λ n. n.ordinal) e ≡ Some k → k < limit → ordinal_before limit e ≡ None → ⊥
known_ordinal limit k None h below none = let bad : None ≡ Some k = h in absurd (cc)
known_ordinal limit k (Some n) h below none =
    let same : n.ordinal ≡ k = cc in
    let yes : nat_lt n.ordinal limit ≡ true = grind (arith, same, below) in
    let bad : Some n.ordinal ≡ None = sym (ap (λ (b : Bool). if b then Some n.ordinal else None) yes) ∙ none in
    absurd (cc)

at_most_or_more : (m n : ℕ) → (m ≤ n) ⊎ (n < m)
at_most_or_more m n = grind arith

-- ** One more item's names

module _ (l : Layout) (xs ys : List Shape) (item : ℕ) (b : List Named) (firsts : HasFirsts l (xs ++ ys)) (new : AreNewNames l item (length xs) (length xs) b)
    (old : Each (λ d. d.ordinal < length xs) l.brought)
    (early : (name : ℕ) (n : Named) → entry_named l.names name ≡ Some n → n.item ≤ item → n.ordinal + brought_before l.brought n.item < length xs)
    (late : (name : ℕ) (n : Named) → entry_named l.names name ≡ Some n → item < n.item → length xs ≤ n.ordinal + brought_before l.brought n.item) where
  -- the entry by what is brought before, what is brought now, and what the syntax declares
  abbrev by_three : Option Named → Option Named → Option Named → Option Named
  by_three e f s = entry_or (entry_or e f) (option_map (moved (l.brought ++ b)) s)

  abbrev by_two : Option Named → Option Named → Option Named
  by_two e s = entry_or e (option_map (moved l.brought) s)

  abbrev ordinal_of : Option Named → Option ℕ
  ordinal_of o = option_map (λ (n : Named). n.ordinal) o

  absent_before : (name : ℕ) → ordinal_of (first_entry l name) ≡ first_shape name (xs ++ ys) 0 → ordinal_before (length xs) (first_entry l name) ≡ None → first_shape name xs 0 ≡ None
  absent_before name h unknown = go (first_shape name xs 0) refl
    where
      go : (o : Option ℕ) → first_shape name xs 0 ≡ o → o ≡ None
      go None e = refl
      go (Some k) e =
          let below = shape_below name xs 0 k e in
          absurd (known_ordinal (length xs) k (first_entry l name) (h ∙ shape_in_front name xs ys 0 k e) (omega (arith, below)) unknown)

  lacking_before : (name k : ℕ) → first_shape name (xs ++ ys) 0 ≡ Some k → length xs ≤ k → first_shape name xs 0 ≡ None
  lacking_before name k h past = go (first_shape name xs 0) refl
    where
      go : (o : Option ℕ) → first_shape name xs 0 ≡ o → o ≡ None
      go None e = refl
      go (Some j) e =
          let below = shape_below name xs 0 j e in
          let there : Some j ≡ Some k = sym (shape_in_front name xs ys 0 j e) ∙ h in
          let same : j ≡ k = cc in
          absurd (omega (arith, below, same, past))

  none_there : (name : ℕ) → first_shape name (xs ++ ys) 0 ≡ None → first_shape name xs 0 ≡ None
  none_there name h = go (first_shape name xs 0) refl
    where
      go : (o : Option ℕ) → first_shape name xs 0 ≡ o → o ≡ None
      go None e = refl
      go (Some j) e = let bad : Some j ≡ None = sym (shape_in_front name xs ys 0 j e) ∙ h in absurd (cc)

  behind_new : (name : ℕ) → first_shape name xs 0 ≡ None → entry_named b name ≡ None → first_shape name (xs ++ (map brought_shape b ++ ys)) 0 ≡ shift (length b) (first_shape name (xs ++ ys) 0)
  behind_new name none lacks =
      shape_behind name xs (map brought_shape b ++ ys) 0 none
      ∙ shape_behind name (map brought_shape b) ys (0 + length xs) (new_lacking name (0 + length xs) b lacks)
      ∙ ap (λ n. first_shape name ys (0 + length xs + n)) (length-map b brought_shape)
      ∙ shape_shifted name ys (0 + length xs) (length b)
      ∙ ap (shift (length b)) (sym (shape_behind name xs ys 0 none))

  of_syntax : (name : ℕ) (n : Named) → entry_named l.names name ≡ Some n → entry_named b name ≡ None → Some (n.ordinal + brought_before l.brought n.item) ≡ first_shape name (xs ++ ys) 0
      → (n.item ≤ item) ⊎ (item < n.item) → Some (n.ordinal + brought_before (l.brought ++ b) n.item) ≡ first_shape name (xs ++ (map brought_shape b ++ ys)) 0
  of_syntax name n found lacks h (inl here) =
      let none : brought_before b n.item ≡ 0 = before_none b n.item (each_then (λ d. d.item ≡ item) (λ d. n.item ≤ d.item) b (λ d e. omega (arith, e, here)) (new_items l item (length xs) (length xs) b new)) in
      let both = before_append l.brought b n.item in
      let same : n.ordinal + brought_before (l.brought ++ b) n.item ≡ n.ordinal + brought_before l.brought n.item = omega (arith, none, both) in
      let below = early name n found here in
      ap (λ (k : ℕ). Some k) same ∙ sym (shape_front name xs ys (map brought_shape b ++ ys) 0 (n.ordinal + brought_before l.brought n.item) (sym h) (omega (arith, below)))
  of_syntax name n found lacks h (inr past) =
      let all : brought_before b n.item ≡ length b = before_all b n.item (each_then (λ d. d.item ≡ item) (λ d. d.item < n.item) b (λ d e. omega (arith, e, past)) (new_items l item (length xs) (length xs) b new)) in
      let both = before_append l.brought b n.item in
      let same : n.ordinal + brought_before (l.brought ++ b) n.item ≡ n.ordinal + brought_before l.brought n.item + length b = omega (arith, all, both) in
      let none = lacking_before name (n.ordinal + brought_before l.brought n.item) (sym h) (late name n found past) in
      ap (λ (k : ℕ). Some k) same ∙ ap (shift (length b)) h ∙ sym (behind_new name none lacks)

  by_cases : (name : ℕ) → name ≢ 0 → (e f s : Option Named) → entry_named l.brought name ≡ e → entry_named b name ≡ f → entry_named l.names name ≡ s
      → ordinal_of (by_two e s) ≡ first_shape name (xs ++ ys) 0 → ordinal_before (length xs) (by_two e s) ≡ ordinal_before (length xs) (first_entry l name)
      → ordinal_of (first_entry l name) ≡ first_shape name (xs ++ ys) 0
      → ordinal_of (by_three e f s) ≡ first_shape name (xs ++ (map brought_shape b ++ ys)) 0
  by_cases name some (Some e) f s p q r h u w =
      let below = entry_of (λ d. d.ordinal < length xs) l.brought name e old p in
      sym (shape_front name xs ys (map brought_shape b ++ ys) 0 e.ordinal (sym h) (omega (arith, below)))
  by_cases name some None (Some d) s p q r h u w =
      let none = absent_before name w (new_unknown l name item (length xs) (length xs) b d new q) in
      sym (shape_behind name xs (map brought_shape b ++ ys) 0 none
      ∙ ap (first_shape name (map brought_shape b ++ ys)) (let e : 0 + length xs ≡ length xs = omega arith in e)
      ∙ new_found l name item (length xs) (length xs) b d ys new q)
  by_cases name some None None (Some n) p q r h u w = of_syntax name n r q h (at_most_or_more n.item item)
  by_cases name some None None None p q r h u w = sym (behind_new name (none_there name (sym h)) q ∙ ap (shift (length b)) (sym h))

  more_firsts : (brought : List Named) → brought ≡ l.brought ++ b → HasFirsts (record l { brought = brought }) (xs ++ (map brought_shape b ++ ys))
  more_firsts brought same name some =
      let e = entry_named l.brought name in
      let s = entry_named l.names name in
      ap (λ (bs : List Named). ordinal_of (entry_or (entry_named bs name) (option_map (moved bs) s))) same
      ∙ ap (λ (o : Option Named). ordinal_of (entry_or o (option_map (moved (l.brought ++ b)) s))) (entry_append l.brought b name)
      ∙ by_cases name some e (entry_named b name) s refl refl refl (firsts name some) refl (firsts name some)

-- the layout with these names has the first of each among all shapes
pub extended_firsts : (l : Layout) (xs ys : List Shape) (item : ℕ) (b : List Named) → HasFirsts l (xs ++ ys) → AreNewNames l item (length xs) (length xs) b
    → Each (λ d. d.ordinal < length xs) l.brought
    → ((name : ℕ) (n : Named) → entry_named l.names name ≡ Some n → n.item ≤ item → n.ordinal + brought_before l.brought n.item < length xs)
    → ((name : ℕ) (n : Named) → entry_named l.names name ≡ Some n → item < n.item → length xs ≤ n.ordinal + brought_before l.brought n.item)
    → HasFirsts (extended l b) (xs ++ (map brought_shape b ++ ys))
extended_firsts l xs ys item [] firsts new old early late = firsts
extended_firsts l xs ys item (d ∷ b) firsts new old early late = more_firsts l xs ys item (d ∷ b) firsts new old early late (l.brought ++ d ∷ b) refl

-- ** Rows that are laid stay so

abbrev is_at : (o : ℕ) → Option ℕ → Bool
is_at o None = false
is_at o (Some k) = k == o

of_ordinal : (o : ℕ) (e : Option Named) → is_of o e ≡ is_at o (option_map (λ n. n.ordinal) e)
of_ordinal o None = refl
of_ordinal o (Some n) = refl

not_at : (o limit : ℕ) (k : Option ℕ) → o < limit → ((m : ℕ) → k ≡ Some m → limit ≤ m) → is_at o k ≡ false
not_at o limit None below past = refl
not_at o limit (Some k) below past = let p = past k refl in grind (arith, p, below)

module _ (l m : Layout) (xs ys zs : List Shape) (firsts : HasFirsts l (xs ++ ys)) (more : HasFirsts m (xs ++ zs)) where
  same_at : (o name : ℕ) → name ≢ 0 → o < length xs → (k : Option ℕ) → first_shape name xs 0 ≡ k → is_at o (first_shape name (xs ++ ys) 0) ≡ is_at o (first_shape name (xs ++ zs) 0)
  same_at o name some below (Some k) e = ap (is_at o) (shape_in_front name xs ys 0 k e) ∙ sym (ap (is_at o) (shape_in_front name xs zs 0 k e))
  same_at o name some below None e =
      not_at o (length xs) (first_shape name (xs ++ ys) 0) below
      (λ k h. let n = not_before name ys (0 + length xs) k (sym (shape_behind name xs ys 0 e) ∙ h) in omega (arith, n))
      ∙ sym (not_at o (length xs) (first_shape name (xs ++ zs) 0) below
      (λ k h. let n = not_before name zs (0 + length xs) k (sym (shape_behind name xs zs 0 e) ∙ h) in omega (arith, n)))

  kept_same : (o name : ℕ) → o < length xs → kept_name l o name ≡ kept_name m o name
  kept_same o name below = go (name == 0) refl
    where
      either : (a b d : Bool) → name ≡ 0 → (if a then 0 else if b then name else 0) ≡ (if a then 0 else if d then name else 0)
      either true b d e = refl
      either false true true e = refl
      either false true false e = e
      either false false true e = sym e
      either false false false e = refl

      go : (t : Bool) → (name == 0) ≡ t → kept_name l o name ≡ kept_name m o name
      go true q = either (is_standard name) (is_of o (first_entry l name)) (is_of o (first_entry m name)) (grind (arith, q))
      go false q =
          let some : name ≢ 0 = (λ e. let yes : (name == 0) ≡ true = grind (arith, e) in let bad : true ≡ false = sym yes ∙ q in absurd (cc)) in
          ap (λ (b : Bool). if is_standard name then 0 else if b then name else 0)
          (of_ordinal o (first_entry l name) ∙ ap (is_at o) (firsts name some)
          ∙ same_at o name some below (first_shape name xs 0) refl
          ∙ sym (ap (is_at o) (more name some)) ∙ sym (of_ordinal o (first_entry m name)))

  laid_same : {o : ℕ} {ss : List Shape} {rows : List Row} → AreLaid l o ss rows → o + length ss ≤ length xs → AreLaid m o ss rows
  laid_same none_laid h = none_laid
  laid_same {o} (more_laid {s = s} {ss = ss} k rest) h =
      more_laid (record { kind = k.kind; at = k.at; name = k.name ∙ kept_same o s.name (omega (arith, h)) }) (laid_same rest (omega (arith, h)))

-- ** Rows of new names

no_other : (pre c : List Named) (d : Named) → Each (λ e. entry_named pre e.name ≡ None) c → Each (λ e. e.name ≢ d.name) c → Each (λ e. entry_named (pre ++ d ∷ []) e.name ≡ None) c
no_other pre [] d h k = tt
no_other pre (e ∷ c) d h k =
    (entry_append pre (d ∷ []) e.name ∙ ap (λ (o : Option Named). entry_or o (entry_named (d ∷ []) e.name)) h.0 ∙ ap (λ (b : Bool). cond b (Some d) None) (other d.name e.name (λ q. k.0 (sym q))), no_other pre c d h.1 k.1)
  where
    other : (m n : ℕ) → m ≢ n → (m == n) ≡ false
    other m n h = grind arith

module _ (l : Layout) (xs ys : List Shape) (item : ℕ) (b : List Named) (firsts : HasFirsts l (xs ++ ys)) (new : AreNewNames l item (length xs) (length xs) b) (m : Layout) (more : HasFirsts m (xs ++ (map brought_shape b ++ ys))) where
  absent : (name : ℕ) → name ≢ 0 → ordinal_before (length xs) (first_entry l name) ≡ None → first_shape name xs 0 ≡ None
  absent name some unknown = go (first_shape name xs 0) refl
    where
      go : (o : Option ℕ) → first_shape name xs 0 ≡ o → o ≡ None
      go None e = refl
      go (Some k) e =
          let below = shape_below name xs 0 k e in
          absurd (known_ordinal (length xs) k (first_entry l name) (firsts name some ∙ shape_in_front name xs ys 0 k e) (omega (arith, below)) unknown)

  new_kept : (d : Named) (o : ℕ) → entry_named b d.name ≡ Some d → IsNewName l item (length xs) o d → kept_name m o d.name ≡ d.name
  new_kept d o found is =
      let there : option_map (λ n. n.ordinal) (first_entry m d.name) ≡ Some o =
      more d.name is.named ∙ shape_behind d.name xs (map brought_shape b ++ ys) 0 (absent d.name is.named is.unknown)
      ∙ ap (first_shape d.name (map brought_shape b ++ ys)) (let e : 0 + length xs ≡ length xs = omega arith in e)
      ∙ new_found l d.name item (length xs) (length xs) b d ys new found ∙ ap (λ (k : ℕ). Some k) is.at in
      let of : is_of o (first_entry m d.name) ≡ true = of_ordinal o (first_entry m d.name) ∙ ap (is_at o) there ∙ itself o in
      ap (λ (t : Bool). if t then 0 else if is_of o (first_entry m d.name) then d.name else 0) is.plain ∙ ap (λ (t : Bool). if t then d.name else 0) of
    where
      itself : (n : ℕ) → (n == n) ≡ true
      itself n = grind arith

  new_laid : (pre c : List Named) (rows : List Row) (o : ℕ) → b ≡ pre ++ c → Each (λ e. entry_named pre e.name ≡ None) c → AreNewNames l item (length xs) o c → AreRowsOf c rows → AreLaid m o (map brought_shape c) rows
  new_laid pre [] [] o e lacks are of = none_laid
  new_laid pre [] (r ∷ rows) o e lacks are of = absurd of
  new_laid pre (d ∷ c) [] o e lacks are of = absurd of
  new_laid pre (d ∷ c) (r ∷ rows) o e lacks are of =
      let found : entry_named b d.name ≡ Some d = ap (λ (ns : List Named). entry_named ns d.name) e ∙ entry_append pre (d ∷ c) d.name ∙ ap (λ (k : Option Named). entry_or k (entry_named (d ∷ c) d.name)) lacks.0 ∙ ap (λ (t : Bool). cond t (Some d) (entry_named c d.name)) (itself d.name) in
      more_laid (record { kind = of.0; at = of.1; name = of.2 ∙ sym (new_kept d o found are.0) })
      (new_laid (pre ++ d ∷ []) c rows (o + 1) (e ∙ sym (append_assoc pre (d ∷ []) c)) (no_other pre c d lacks.1 are.1.0) are.1.1 of.3)
    where
      itself : (n : ℕ) → (n == n) ≡ true
      itself n = grind arith

each_any : (P : Named → Type 0) (c : List Named) → ((n : Named) → P n) → Each P c
each_any P [] h = tt
each_any P (n ∷ c) h = (h n, each_any P c h)

-- ** The shapes of items

with_is : (shapes : List Shape) (b : List Named) → with_brought shapes b ≡ shapes ++ map brought_shape b
with_is shapes [] = sym (append-nil shapes)
with_is shapes (d ∷ b) = refl

laid_none : (items : List Item) → laid_shapes items [] ≡ flat_map item_shapes items
laid_none [] = refl
laid_none (x ∷ items) = ap (λ (ss : List Shape). item_shapes x ++ ss) (laid_none items)

laid_split : (before rest : List Item) (x : Item) (bs : List (List Named)) → length bs ≡ length before → laid_shapes (before ++ x ∷ rest) bs ≡ (laid_shapes before bs ++ item_shapes x) ++ flat_map item_shapes rest
laid_split [] rest x [] e = ap (λ (ss : List Shape). item_shapes x ++ ss) (laid_none rest)
laid_split [] rest x (b ∷ bs) e = absurd (omega (arith, e))
laid_split (y ∷ before) rest x [] e = absurd (omega (arith, e))
laid_split (y ∷ before) rest x (b ∷ bs) e =
    let one = with_brought (item_shapes y) b in
    ap (λ (ss : List Shape). one ++ ss) (laid_split before rest x bs (omega (arith, e)))
    ∙ sym (append_assoc one (laid_shapes before bs ++ item_shapes x) (flat_map item_shapes rest))
    ∙ ap (λ (ss : List Shape). ss ++ flat_map item_shapes rest) (sym (append_assoc one (laid_shapes before bs) (item_shapes x)))

laid_next : (before rest : List Item) (x : Item) (bs : List (List Named)) (b : List Named) → length bs ≡ length before
    → laid_shapes (before ++ x ∷ rest) (bs ++ b ∷ []) ≡ (laid_shapes before bs ++ item_shapes x) ++ (map brought_shape b ++ flat_map item_shapes rest)
laid_next [] rest x [] b e =
    ap (λ (ss : List Shape). with_brought (item_shapes x) b ++ ss) (laid_none rest)
    ∙ ap (λ (ss : List Shape). ss ++ flat_map item_shapes rest) (with_is (item_shapes x) b)
    ∙ append_assoc (item_shapes x) (map brought_shape b) (flat_map item_shapes rest)
laid_next [] rest x (c ∷ bs) b e = absurd (omega (arith, e))
laid_next (y ∷ before) rest x [] b e = absurd (omega (arith, e))
laid_next (y ∷ before) rest x (c ∷ bs) b e =
    let one = with_brought (item_shapes y) c in
    let more = map brought_shape b ++ flat_map item_shapes rest in
    ap (λ (ss : List Shape). one ++ ss) (laid_next before rest x bs b (omega (arith, e)))
    ∙ sym (append_assoc one (laid_shapes before bs ++ item_shapes x) more)
    ∙ ap (λ (ss : List Shape). ss ++ more) (sym (append_assoc one (laid_shapes before bs) (item_shapes x)))

pub laid_done : (before : List Item) (x : Item) (bs : List (List Named)) (b : List Named) → length bs ≡ length before
    → laid_shapes (before ++ x ∷ []) (bs ++ b ∷ []) ≡ laid_shapes before bs ++ with_brought (item_shapes x) b
laid_done before x bs b e =
    laid_next before [] x bs b e
    ∙ ap (λ (ss : List Shape). (laid_shapes before bs ++ item_shapes x) ++ ss) (append-nil (map brought_shape b))
    ∙ append_assoc (laid_shapes before bs) (item_shapes x) (map brought_shape b)
    ∙ ap (λ (ss : List Shape). laid_shapes before bs ++ ss) (sym (with_is (item_shapes x) b))

with_length : (shapes : List Shape) (b : List Named) → length (with_brought shapes b) ≡ length shapes + length b
with_length shapes b = let e = ap length (with_is shapes b) in let l = length-append shapes (map brought_shape b) in let m = length-map b brought_shape in omega (arith, e, l, m)

pub laid_count : (before : List Item) (bs : List (List Named)) → length bs ≡ length before → length (laid_shapes before bs) ≡ rows_of before + length (all_brought bs)
laid_count [] [] e = refl
laid_count [] (b ∷ bs) e = absurd (omega (arith, e))
laid_count (y ∷ before) [] e = absurd (omega (arith, e))
laid_count (y ∷ before) (b ∷ bs) e =
    let one = with_length (item_shapes y) b in
    let more = laid_count before bs (omega (arith, e)) in
    let shapes = length-append (with_brought (item_shapes y) b) (laid_shapes before bs) in
    let own = length-append (item_shapes y) (flat_map item_shapes before) in
    let brought = length-append b (all_brought bs) in
    omega (arith, one, more, shapes, own, brought)

-- ** The layout after items

extended_names : (l : Layout) (b : List Named) → (extended l b).names ≡ l.names
extended_names l [] = refl
extended_names l (d ∷ b) = refl

extended_items : (l : Layout) (b : List Named) → (extended l b).firsts ≡ l.firsts
extended_items l [] = refl
extended_items l (d ∷ b) = refl

pub extended_brought : (l : Layout) (b : List Named) → (extended l b).brought ≡ l.brought ++ b
extended_brought l [] = sym (append-nil l.brought)
extended_brought l (d ∷ b) = refl

by_names : (l : Layout) (bs : List (List Named)) → (extended_by l bs).names ≡ l.names
by_names l [] = refl
by_names l (b ∷ bs) = by_names (extended l b) bs ∙ extended_names l b

by_firsts : (l : Layout) (bs : List (List Named)) → (extended_by l bs).firsts ≡ l.firsts
by_firsts l [] = refl
by_firsts l (b ∷ bs) = by_firsts (extended l b) bs ∙ extended_items l b

by_brought : (l : Layout) (bs : List (List Named)) → (extended_by l bs).brought ≡ l.brought ++ all_brought bs
by_brought l [] = sym (append-nil l.brought)
by_brought l (b ∷ bs) = by_brought (extended l b) bs ∙ ap (λ (ns : List Named). ns ++ all_brought bs) (extended_brought l b) ∙ append_assoc l.brought b (all_brought bs)

by_next : (l : Layout) (bs : List (List Named)) (b : List Named) → extended_by l (bs ++ b ∷ []) ≡ extended (extended_by l bs) b
by_next l [] b = refl
by_next l (c ∷ bs) b = by_next (extended l c) bs b

take_front : (xs ys : List Item) (n : ℕ) → n ≡ length xs → take n (xs ++ ys) ≡ xs
take_front [] ys zero e = refl
take_front [] ys (suc n) e = absurd (omega (arith, e))
take_front (x ∷ xs) ys zero e = absurd (omega (arith, e))
take_front (x ∷ xs) ys (suc n) e = ap (λ (zs : List Item). x ∷ zs) (take_front xs ys n (omega (arith, e)))

zip_more : (xs : List Item) (bs : List (List Named)) (x : Item) (b : List Named) → AllZip BringsIts xs bs → BringsIts x b → AllZip BringsIts (xs ++ x ∷ []) (bs ++ b ∷ [])
zip_more [] [] x b h k = (k, tt)
zip_more [] (c ∷ bs) x b h k = absurd h
zip_more (y ∷ xs) [] x b h k = absurd h
zip_more (y ∷ xs) (c ∷ bs) x b h k = (h.0, zip_more xs bs x b h.1 k)

new_below : (l : Layout) (i limit o : ℕ) (b : List Named) → AreNewNames l i limit o b → Each (λ d. d.ordinal < o + length b) b
new_below l i limit o [] new = tt
new_below l i limit o (d ∷ b) new =
    let at = new.0.at in
    (omega (arith, at), each_then (λ e. e.ordinal < o + 1 + length b) (λ e. e.ordinal < o + suc (length b)) b (λ e h. omega (arith, h)) (new_below l i limit (o + 1) b new.1.1))

-- a layout at its first item
pub layout_at_start : (stream : Stream) → IsLayoutAt (layout_of stream) stream []
layout_at_start stream =
    record {
      layout = refl;
      only = tt;
      firsts = subst (λ (ss : List Shape). HasFirsts (layout_of stream) ss) (sym (laid_none (items_of stream))) (layout_firsts (items_of stream) (firsts_from 0 (items_of stream)));
      earlier = tt;
      behind = tt;
      few = omega arith;
    }

rows_joined : (ys : List Item) (x : Item) → rows_of (ys ++ x ∷ []) ≡ rows_of ys + length (item_shapes x)
rows_joined [] x = let e = length-append (item_shapes x) (let none : List Shape = [] in none) in omega (arith, e)
rows_joined (y ∷ ys) x =
    let r = rows_joined ys x in
    let e = length-append (item_shapes y) (flat_map item_shapes (ys ++ x ∷ [])) in
    let g = length-append (item_shapes y) (flat_map item_shapes ys) in
    omega (arith, r, e, g)

module _ {l : Layout} {stream : Stream} {bs : List (List Named)} (at : IsLayoutAt l stream bs) (before rest : List Item) (x : Item) (items : items_of stream ≡ before ++ x ∷ rest) (count : length bs ≡ length before) where
  pub names_are : l.names ≡ names_from 0 0 (before ++ x ∷ rest)
  names_are = ap (λ (m : Layout). m.names) at.layout ∙ by_names (layout_of stream) bs ∙ ap (names_from 0 0) items

  pub firsts_are : l.firsts ≡ firsts_from 0 (before ++ x ∷ rest)
  firsts_are = ap (λ (m : Layout). m.firsts) at.layout ∙ by_firsts (layout_of stream) bs ∙ ap (firsts_from 0) items

  brought_are : l.brought ≡ all_brought bs
  brought_are = ap (λ (m : Layout). m.brought) at.layout ∙ by_brought (layout_of stream) bs

  pub rows_are : length (laid_shapes before bs) ≡ rows_of before + length l.brought
  rows_are = laid_count before bs count ∙ ap (λ (ns : List Named). rows_of before + length ns) (sym brought_are)

  items_before : take (length bs) (items_of stream) ≡ before
  items_before = ap (take (length bs)) items ∙ take_front before (x ∷ rest) (length bs) count

  pub brought_behind : Each (λ d. d.ordinal < length (laid_shapes before bs)) l.brought
  brought_behind = subst (λ (xs : List Item). Each (λ d. d.ordinal < length (laid_shapes xs bs)) l.brought) items_before at.behind

  pub firsts_ahead : HasFirsts l ((laid_shapes before bs ++ item_shapes x) ++ flat_map item_shapes rest)
  firsts_ahead = subst (λ (ss : List Shape). HasFirsts l ss) (ap (λ (xs : List Item). laid_shapes xs bs) items ∙ laid_split before rest x bs count) at.firsts

  -- those of this item, with what is before
  front : List Shape
  front = laid_shapes before bs ++ item_shapes x

  front_length : length (laid_shapes before bs ++ item_shapes x) ≡ rows_of before + length l.brought + length (item_shapes x)
  front_length = let e = length-append (laid_shapes before bs) (item_shapes x) in let r = rows_are in omega (arith, e, r)

  whole : before ++ x ∷ rest ≡ (before ++ x ∷ []) ++ rest
  whole = sym (append_assoc before (x ∷ []) rest)

  joined_length : length (before ++ x ∷ []) ≡ length before + 1
  joined_length = let e = length-append before (x ∷ []) in omega (arith, e)

  names_joined : l.names ≡ names_from 0 0 ((before ++ x ∷ []) ++ rest)
  names_joined = names_are ∙ ap (names_from 0 0) whole

  early_here : (name : ℕ) (n : Named) → entry_named l.names name ≡ Some n → n.item ≤ length before → n.ordinal + brought_before l.brought n.item < length (laid_shapes before bs ++ item_shapes x)
  early_here name n found h =
      let j = joined_length in
      let r = early_entry (before ++ x ∷ []) rest name n (ap (λ (ns : List Named). entry_named ns name) (sym names_joined) ∙ found) (omega (arith, h, j)) in
      let k = rows_joined before x in
      let f = before_few l.brought n.item in
      let g = front_length in
      omega (arith, r, k, f, g)

  late_here : (name : ℕ) (n : Named) → entry_named l.names name ≡ Some n → length before < n.item → length (laid_shapes before bs ++ item_shapes x) ≤ n.ordinal + brought_before l.brought n.item
  late_here name n found h =
      let j = joined_length in
      let r = late_entry (before ++ x ∷ []) rest name n (ap (λ (ns : List Named). entry_named ns name) (sym names_joined) ∙ found) (omega (arith, h, j)) in
      let k = rows_joined before x in
      let all = before_all l.brought n.item (each_then (λ d. d.item < length bs) (λ d. d.item < n.item) l.brought (λ d e. let c = count in omega (arith, e, c, h)) at.earlier) in
      let g = front_length in
      omega (arith, r, k, all, g)

  old_here : Each (λ d. d.ordinal < length (laid_shapes before bs ++ item_shapes x)) l.brought
  old_here = let e = length-append (laid_shapes before bs) (item_shapes x) in
      each_then (λ d. d.ordinal < length (laid_shapes before bs)) (λ d. d.ordinal < length (laid_shapes before bs ++ item_shapes x)) l.brought (λ d h. omega (arith, e, h)) brought_behind

  module _ (b : List Named) (limit : ℕ) (behind : limit ≡ length (laid_shapes before bs) + length (item_shapes x)) (named : AreNewNames l (length before) limit limit b) where
    limit_is : limit ≡ length (laid_shapes before bs ++ item_shapes x)
    limit_is = let e = length-append (laid_shapes before bs) (item_shapes x) in omega (arith, e, behind)

    named_here : AreNewNames l (length before) (length (laid_shapes before bs ++ item_shapes x)) (length (laid_shapes before bs ++ item_shapes x)) b
    named_here = subst (λ (n : ℕ). AreNewNames l (length before) n n b) limit_is named

    firsts_next : HasFirsts (extended l b) ((laid_shapes before bs ++ item_shapes x) ++ (map brought_shape b ++ flat_map item_shapes rest))
    firsts_next = extended_firsts l (laid_shapes before bs ++ item_shapes x) (flat_map item_shapes rest) (length before) b firsts_ahead named_here old_here early_here late_here

    count_next : length (bs ++ b ∷ []) ≡ length (before ++ x ∷ [])
    count_next = let e = length-append bs (b ∷ []) in let g = length-append before (x ∷ []) in let c = count in omega (arith, e, g, c)

    items_next : take (length (bs ++ b ∷ [])) (items_of stream) ≡ before ++ x ∷ []
    items_next = ap (take (length (bs ++ b ∷ []))) (items ∙ whole) ∙ take_front (before ++ x ∷ []) rest (length (bs ++ b ∷ [])) count_next

    rows_next : length (laid_shapes (before ++ x ∷ []) (bs ++ b ∷ [])) ≡ limit + length b
    rows_next = let e = ap length (laid_done before x bs b count) in
        let g = length-append (laid_shapes before bs) (with_brought (item_shapes x) b) in
        let w = with_length (item_shapes x) b in
        omega (arith, e, g, w, behind)

    behind_next : Each (λ d. d.ordinal < length (laid_shapes (before ++ x ∷ []) (bs ++ b ∷ []))) (l.brought ++ b)
    behind_next =
        let r = rows_next in
        each_append (λ d. d.ordinal < length (laid_shapes (before ++ x ∷ []) (bs ++ b ∷ []))) l.brought b
        (each_then (λ d. d.ordinal < length (laid_shapes before bs)) (λ d. d.ordinal < length (laid_shapes (before ++ x ∷ []) (bs ++ b ∷ []))) l.brought (λ d h. omega (arith, r, h, behind)) brought_behind)
        (each_then (λ d. d.ordinal < limit + length b) (λ d. d.ordinal < length (laid_shapes (before ++ x ∷ []) (bs ++ b ∷ []))) b (λ d h. omega (arith, r, h)) (new_below l (length before) limit limit b named))

    earlier_next : Each (λ d. d.item < length (bs ++ b ∷ [])) (l.brought ++ b)
    earlier_next =
        let e = length-append bs (b ∷ []) in
        let c = count in
        each_append (λ d. d.item < length (bs ++ b ∷ [])) l.brought b
        (each_then (λ d. d.item < length bs) (λ d. d.item < length (bs ++ b ∷ [])) l.brought (λ d h. omega (arith, e, h)) at.earlier)
        (each_then (λ d. d.item ≡ length before) (λ d. d.item < length (bs ++ b ∷ [])) b (λ d h. omega (arith, e, h, c)) (new_items l (length before) limit limit b named))

    -- the layout at the next item
    pub next_layout : BringsIts x b → length l.brought + length b ≤ MOST_BROUGHT → IsLayoutAt (extended l b) stream (bs ++ b ∷ [])
    next_layout only few =
        record {
          layout = ap (λ (m : Layout). extended m b) at.layout ∙ sym (by_next (layout_of stream) bs b);
          only = subst (λ (xs : List Item). AllZip BringsIts xs (bs ++ b ∷ [])) (sym items_next) (zip_more before bs x b (subst (λ (xs : List Item). AllZip BringsIts xs bs) items_before at.only) only);
          firsts = subst (λ (ss : List Shape). HasFirsts (extended l b) ss) (sym (ap (λ (xs : List Item). laid_shapes xs (bs ++ b ∷ [])) items ∙ laid_next before rest x bs b count)) firsts_next;
          earlier = subst (λ (ns : List Named). Each (λ d. d.item < length (bs ++ b ∷ [])) ns) (sym (extended_brought l b)) earlier_next;
          behind = subst (λ (ns : List Named). Each (λ d. d.ordinal < rows_before stream (bs ++ b ∷ [])) ns) (sym (extended_brought l b))
              (subst (λ (xs : List Item). Each (λ d. d.ordinal < length (laid_shapes xs (bs ++ b ∷ []))) (l.brought ++ b)) (sym items_next) behind_next);
          few = let e = ap length (extended_brought l b) in let g = length-append l.brought b in omega (arith, e, g, few);
        }

    -- the rows of the item, with those of the names that it has brought
    pub laid_with : {o : ℕ} (own rows : List Row) → o ≡ length (laid_shapes before bs) → AreLaid l o (item_shapes x) own → length own ≡ length (item_shapes x) → AreRowsOf b rows
        → AreLaid (extended l b) o (with_brought (item_shapes x) b) (own ++ rows)
    laid_with {o} own rows at_end laid count of =
        let front = length-append (laid_shapes before bs) (item_shapes x) in
        let first : AreLaid (extended l b) o (item_shapes x) own =
        laid_same l (extended l b) (laid_shapes before bs ++ item_shapes x) (flat_map item_shapes rest) (map brought_shape b ++ flat_map item_shapes rest) firsts_ahead firsts_next laid (omega (arith, at_end, front)) in
        let behind_them : AreLaid (extended l b) (o + length own) (map brought_shape b) rows =
        subst (λ (n : ℕ). AreLaid (extended l b) n (map brought_shape b) rows) (let l = limit_is in let e : length (laid_shapes before bs ++ item_shapes x) ≡ o + length own = omega (arith, front, at_end, count) in e)
        (new_laid l (laid_shapes before bs ++ item_shapes x) (flat_map item_shapes rest) (length before) b firsts_ahead named_here (extended l b) firsts_next [] b rows (length (laid_shapes before bs ++ item_shapes x)) refl
        (each_any (λ e. entry_named [] e.name ≡ None) b (λ n. refl)) named_here of) in
        subst (λ (ss : List Shape). AreLaid (extended l b) o ss (own ++ rows)) (sym (with_is (item_shapes x) b)) (AreLaid-append first behind_them)

-- what is entered stays laid, and the rows of the item with what it has brought are laid behind
pub laid_on : {l : Layout} {stream : Stream} {bs : List (List Named)} (before rest : List Item) (x : Item) (b : List Named) {entered rows : List Row} → IsLayoutAt l stream bs → IsLayoutAt (extended l b) stream (bs ++ b ∷ [])
    → items_of stream ≡ before ++ x ∷ rest → length bs ≡ length before → length entered ≡ length (laid_shapes before bs) → AreLaid l 0 (laid_shapes before bs) entered
    → AreLaid (extended l b) (length entered) (with_brought (item_shapes x) b) rows → AreLaid (extended l b) 0 (laid_shapes (before ++ x ∷ []) (bs ++ b ∷ [])) (entered ++ rows)
laid_on {l} {stream} {bs} before rest x b {entered} {rows} at next items count long laid more =
    let front = length-append (laid_shapes before bs) (item_shapes x) in
    let firsts : HasFirsts (extended l b) ((laid_shapes before bs ++ item_shapes x) ++ (map brought_shape b ++ flat_map item_shapes rest)) =
    subst (λ (ss : List Shape). HasFirsts (extended l b) ss) (ap (λ (xs : List Item). laid_shapes xs (bs ++ b ∷ [])) items ∙ laid_next before rest x bs b count) next.firsts in
    let first : AreLaid (extended l b) 0 (laid_shapes before bs) entered =
    laid_same l (extended l b) (laid_shapes before bs ++ item_shapes x) (flat_map item_shapes rest) (map brought_shape b ++ flat_map item_shapes rest) (firsts_ahead at before rest x items count) firsts laid (omega (arith, front)) in
    subst (λ (ss : List Shape). AreLaid (extended l b) 0 ss (entered ++ rows)) (sym (laid_done before x bs b count))
    (AreLaid-append first (subst (λ (n : ℕ). AreLaid (extended l b) n (with_brought (item_shapes x) b) rows) (let e : length entered ≡ 0 + length entered = omega arith in e) more))

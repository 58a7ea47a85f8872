-- Where the rows so far are as the layout gives them, one of them has a name exactly where the layout has it at an earlier
-- ordinal.
use Rattle.std.specs.Prelude.{◌≡◌, ◌≢◌, ℕ, suc, ◌+◌, ◌==◌, Bool, true, false, not, is_some, ◌-◌, ◌<◌, ◌≤◌, nat_lt, slice_index_or, if◌then◌else◌, List, [], ◌∷◌, ◌++◌, length, flat_map, Option, None, Some, option_map}
use Rattle.std.proofs.Common.{refl, sym, ap, ◌∙◌, subst, arith}
use Rattle.std.proofs.lemmas.List.{append_assoc}
use Rattle.m2_base.specs.declared.rows.Row.{Row}
use Rattle.m2_base.specs.Rows.{row_of}
use Rattle.m2_base.specs.declared.rows.RowMeaning.TheVariants.{Broken}
use Rattle.m2_base.specs.Standard.{is_standard}
use Rattle.m2_base.specs.declared.sites.Named.{Named}
use Rattle.m2_base.specs.Statics.Contexts.{Layout}
use Rattle.m2_base.specs.Statics.Items.{Item}
use Rattle.m2_base.specs.Statics.Layouts.{names_of_item, names_from}
use Rattle.m2_base.specs.Statics.Lookup.{entry_named, first_entry, moved}
use Rattle.m2_base.specs.Statics.Shapes.{Shape, item_shapes}
use Rattle.m2_base.specs.Tables.{first_named}
use Rattle.decl_sem.specs.LaidRows.{is_of, kept_name, AreLaid, none_laid, more_laid, first_shape, HasFirsts, IsAhead}
use Rattle.decl_sem.specs.NewNames.{earlier_row, ordinal_before}

-- ** Tests of numbers

same : (m n : ℕ) → (m == n) ≡ true → m ≡ n
same m n h = grind arith

differs : (m n : ℕ) → m ≢ n → (m == n) ≡ false
differs m n h = grind arith

itself : (n : ℕ) → (n == n) ≡ true
itself n = grind arith

-- ** The layout has the first of each name

in_item : (name i o : ℕ) → name ≢ 0 → (ss tail : List Shape) (rest : List Named)
    → option_map (λ n. n.ordinal) (entry_named rest name) ≡ first_shape name tail (o + length ss)
    → option_map (λ n. n.ordinal) (entry_named (names_of_item i o ss ++ rest) name) ≡ first_shape name (ss ++ tail) o
in_item name i o some [] tail rest h = h ∙ ap (first_shape name tail) (let e : o + 0 ≡ o = omega arith in e)
in_item name i o some (s ∷ ss) tail rest h =
    go (s.name == 0) (s.name == name) refl refl
    (in_item name i (o + 1) some ss tail rest (h ∙ ap (first_shape name tail) (let e : o + length (s ∷ ss) ≡ o + 1 + length ss = omega arith in e)))
  where
    here : Named
    here = record { name = s.name; ordinal = o; kind = s.kind; at = s.at; item = i }

    go : (a b : Bool) → (s.name == 0) ≡ a → (s.name == name) ≡ b
        → option_map (λ n. n.ordinal) (entry_named (names_of_item i (o + 1) ss ++ rest) name) ≡ first_shape name (ss ++ tail) (o + 1)
        → option_map (λ n. n.ordinal) (entry_named ((if a then names_of_item i (o + 1) ss else record { name = s.name; ordinal = o; kind = s.kind; at = s.at; item = i } ∷ names_of_item i (o + 1) ss) ++ rest) name)
        ≡ (if b then Some o else first_shape name (ss ++ tail) (o + 1))
    go true true p q k = absurd (some (sym (same s.name name q) ∙ same s.name 0 p))
    go true false p q k = k
    go false true p q k = ap (λ (t : Bool). option_map (λ n. n.ordinal) (if t then Some (record { name = s.name; ordinal = o; kind = s.kind; at = s.at; item = i }) else entry_named (names_of_item i (o + 1) ss ++ rest) name)) q
    go false false p q k = ap (λ (t : Bool). option_map (λ n. n.ordinal) (if t then Some (record { name = s.name; ordinal = o; kind = s.kind; at = s.at; item = i }) else entry_named (names_of_item i (o + 1) ss ++ rest) name)) q ∙ k

in_items : (name : ℕ) → name ≢ 0 → (items : List Item) (i o : ℕ)
    → option_map (λ n. n.ordinal) (entry_named (names_from i o items) name) ≡ first_shape name (flat_map item_shapes items) o
in_items name some [] i o = refl
in_items name some (x ∷ items) i o =
    in_item name i o some (item_shapes x) (flat_map item_shapes items) (names_from (i + 1) (o + length (item_shapes x)) items)
    (in_items name some items (i + 1) (o + length (item_shapes x)))

unmoved : (o : Option Named) → option_map (λ n. n.ordinal) (option_map (moved []) o) ≡ option_map (λ n. n.ordinal) o
unmoved None = refl
unmoved (Some n) = ap (λ k. Some k) (let e : n.ordinal + 0 ≡ n.ordinal = omega arith in e)

-- the layout of items has the first of each name, as long as nothing is brought
pub layout_firsts : (items : List Item) (firsts : List ℕ) → HasFirsts (record { names = names_from 0 0 items; firsts = firsts; brought = [] }) (flat_map item_shapes items)
layout_firsts items firsts name some = unmoved (entry_named (names_from 0 0 items) name) ∙ in_items name some items 0 0

-- ** A name among the rows so far

not_of : (o n : ℕ) (e : Option Named) → option_map (λ n. n.ordinal) e ≡ Some o → is_of (o + suc n) e ≡ false
not_of o n None h = absurd (cc)
not_of o n (Some e) h = differs e.ordinal (o + suc n) (let k : e.ordinal ≡ o = cc in omega arith)

of_this : (o : ℕ) (e : Option Named) → option_map (λ n. n.ordinal) e ≡ Some o → is_of o e ≡ true
of_this o None h = absurd (cc)
of_this o (Some e) h = let k : e.ordinal ≡ o = cc in ap (λ m. m == o) k ∙ itself o

kept_or_none : (layout : Layout) (o name other : ℕ) → other ≢ 0 → (name == other) ≡ false → (kept_name layout o name == other) ≡ false
kept_or_none layout o name other some h = go (is_standard name) (is_of o (first_entry layout name))
  where
    go : (a b : Bool) → ((if a then 0 else if b then name else 0) == other) ≡ false
    go true b = differs 0 other (λ e. some (sym e))
    go false true = h
    go false false = differs 0 other (λ e. some (sym e))

kept_here : (layout : Layout) (o name : ℕ) → is_standard name ≡ false → option_map (λ n. n.ordinal) (first_entry layout name) ≡ Some o → kept_name layout o name ≡ name
kept_here layout o name plain h =
    ap (λ (t : Bool). if t then 0 else if is_of o (first_entry layout name) then name else 0) plain
    ∙ ap (λ (t : Bool). if t then name else 0) (of_this o (first_entry layout name) h)

module _ (layout : Layout) (s : Shape) (rest : List Shape) (some : s.name ≢ 0) (plain : is_standard s.name ≡ false) where
  from_here : {o : ℕ} {before : List Shape} {rows : List Row} → AreLaid layout o before rows
      → option_map (λ n. n.ordinal) (first_entry layout s.name) ≡ first_shape s.name (before ++ s ∷ rest) o
      → is_some (first_named s.name rows o) ≡ not (is_of (o + length rows) (first_entry layout s.name))
  from_here {o} none_laid h =
      let first : option_map (λ n. n.ordinal) (first_entry layout s.name) ≡ Some o = h ∙ ap (λ (t : Bool). if t then Some o else first_shape s.name rest (o + 1)) (itself s.name) in
      let e : o + 0 ≡ o = omega arith in
      sym (ap (λ m. not (is_of m (first_entry layout s.name))) e ∙ ap not (of_this o (first_entry layout s.name) first))
  from_here {o} (more_laid {s = t} {ss = ss} {r = r} {rs = rs} l more) h = go (t.name == s.name) refl (λ k. from_here more k)
    where
      entry : Option Named
      entry = first_entry layout s.name

      go : (b : Bool) → (t.name == s.name) ≡ b
          → (option_map (λ n. n.ordinal) (first_entry layout s.name) ≡ first_shape s.name (ss ++ s ∷ rest) (o + 1) → is_some (first_named s.name rs (o + 1)) ≡ not (is_of (o + 1 + length rs) (first_entry layout s.name)))
          → is_some (if r.name == s.name then Some (o, r) else first_named s.name rs (o + 1)) ≡ not (is_of (o + suc (length rs)) (first_entry layout s.name))
      go true q later =
          let first : option_map (λ n. n.ordinal) (first_entry layout s.name) ≡ Some o = h ∙ ap (λ (b : Bool). if b then Some o else first_shape s.name (ss ++ s ∷ rest) (o + 1)) q in
          let kept : r.name ≡ s.name = l.name ∙ ap (kept_name layout o) (same t.name s.name q) ∙ kept_here layout o s.name plain first in
          ap (λ (b : Bool). is_some (if b then Some (o, r) else first_named s.name rs (o + 1))) (ap (λ m. m == s.name) kept ∙ itself s.name)
          ∙ sym (ap not (not_of o (length rs) (first_entry layout s.name) first))
      go false q later =
          let other : (r.name == s.name) ≡ false = ap (λ m. m == s.name) l.name ∙ kept_or_none layout o t.name s.name some q in
          ap (λ (b : Bool). is_some (if b then Some (o, r) else first_named s.name rs (o + 1))) other
          ∙ later (h ∙ ap (λ (b : Bool). if b then Some o else first_shape s.name (ss ++ s ∷ rest) (o + 1)) q)
          ∙ ap (λ m. not (is_of m (first_entry layout s.name))) (let e : o + 1 + length rs ≡ o + suc (length rs) = omega arith in e)

-- One of the rows so far has the name of the next exactly where the layout has it at an earlier ordinal.
pub known_before : (layout : Layout) (rows : List Row) (s : Shape) (ss : List Shape) → s.name ≢ 0 → is_standard s.name ≡ false
    → IsAhead layout rows (s ∷ ss) → is_some (first_named s.name rows 0) ≡ not (is_of (length rows) (first_entry layout s.name))
known_before layout rows s ss some plain ahead =
    subst (λ (m : ℕ). is_some (first_named s.name rows 0) ≡ not (is_of m (first_entry layout s.name))) (let e : 0 + length rows ≡ length rows = omega arith in e)
    (from_here layout s (ss ++ ahead.rest) some plain ahead.laid (ahead.firsts s.name some))

-- ** Going on

pub AreLaid-append : {layout : Layout} {o : ℕ} {xs ys : List Shape} {rs qs : List Row} → AreLaid layout o xs rs → AreLaid layout (o + length rs) ys qs → AreLaid layout o (xs ++ ys) (rs ++ qs)
AreLaid-append {layout} {o} {ys = ys} {qs = qs} none_laid h = subst (λ m. AreLaid layout m ys qs) (let e : o + 0 ≡ o = omega arith in e) h
AreLaid-append {layout} {o} {ys = ys} {qs = qs} (more_laid {rs = rs} l more) h =
    more_laid l (AreLaid-append more (subst (λ m. AreLaid layout m ys qs) (let e : o + suc (length rs) ≡ o + 1 + length rs = omega arith in e) h))

-- when some of the shapes ahead are made
pub gone_on : {layout : Layout} {rows made : List Row} (xs ys : List Shape) → IsAhead layout rows (xs ++ ys) → AreLaid layout (length rows) xs made → IsAhead layout (rows ++ made) ys
gone_on {layout} {rows} {made} xs ys ahead laid =
    record {
      before = ahead.before ++ xs;
      rest = ahead.rest;
      laid = AreLaid-append ahead.laid (subst (λ m. AreLaid layout m xs made) (let e : length rows ≡ 0 + length rows = omega arith in e) laid);
      firsts = subst (λ shapes. HasFirsts layout shapes) (ap (λ zs. ahead.before ++ zs) (append_assoc xs ys ahead.rest) ∙ sym (append_assoc ahead.before xs (ys ++ ahead.rest))) ahead.firsts;
    }

-- ** The row that has a name

-- no row has a standard name
lacks_standard : {layout : Layout} (name : ℕ) → name ≢ 0 → is_standard name ≡ true → {o : ℕ} {ss : List Shape} {rows : List Row} → AreLaid layout o ss rows → (k : ℕ) → first_named name rows k ≡ None
lacks_standard name some standard none_laid k = refl
lacks_standard {layout} name some standard {o} (more_laid {s = s} {r = r} {rs = rs} l more) k =
    let other : (r.name == name) ≡ false = ap (λ m. m == name) l.name ∙ go (is_standard s.name) (is_of o (first_entry layout s.name)) (s.name == name) refl refl in
    ap (λ (b : Bool). if b then Some (k, r) else first_named name rs (k + 1)) other ∙ lacks_standard name some standard more (k + 1)
  where
    go : (a b d : Bool) → is_standard s.name ≡ a → (s.name == name) ≡ d → ((if a then 0 else if b then s.name else 0) == name) ≡ false
    go true b d p q = differs 0 name (λ e. some (sym e))
    go false false d p q = differs 0 name (λ e. some (sym e))
    go false true false p q = q
    go false true true p q = absurd (let bad : true ≡ false = sym standard ∙ ap is_standard (sym (same s.name name q)) ∙ p in cc)

-- the first shape of a name doesn't stand before the first
pub not_before : (name : ℕ) (ss : List Shape) (o k : ℕ) → first_shape name ss o ≡ Some k → o ≤ k
not_before name [] o k h = absurd (cc)
not_before name (s ∷ ss) o k h = go (s.name == name) (λ e. not_before name ss (o + 1) k e) h
  where
    go : (b : Bool) → (first_shape name ss (o + 1) ≡ Some k → o + 1 ≤ k) → (if b then Some o else first_shape name ss (o + 1)) ≡ Some k → o ≤ k
    go true later e = let same : o ≡ k = cc in omega (arith, same)
    go false later e = let n = later e in omega (arith, n)

-- the ordinal of a row that is made, and the row
abbrev hit : (o : ℕ) → List Row → Option ℕ → Option (ℕ × Row)
hit o rows None = None
hit o rows (Some k) = Some (k, slice_index_or rows (k - o) (row_of 0 0 Broken))

at_start : (o next : ℕ) (e : Option Named) (k : Option ℕ) → option_map (λ n. n.ordinal) e ≡ k → ((m : ℕ) → k ≡ Some m → next ≤ m) → ordinal_before next e ≡ None
at_start o next None k h past = refl
at_start o next (Some n) k h past =
    let later = past n.ordinal (sym h) in
    let no : nat_lt n.ordinal next ≡ false = grind (arith, later) in
    ap (λ (b : Bool). if b then Some n.ordinal else None) no

at_this : (o next : ℕ) (e : Option Named) → option_map (λ n. n.ordinal) e ≡ Some o → o < next → ordinal_before next e ≡ Some o
at_this o next None h below = absurd (cc)
at_this o next (Some n) h below =
    let e : n.ordinal ≡ o = cc in
    let yes : nat_lt n.ordinal next ≡ true = grind (arith, e, below) in
    ap (λ (b : Bool). if b then Some n.ordinal else None) yes ∙ ap (λ k. Some k) e

hit_further : (o : ℕ) (r : Row) (rs : List Row) (next : ℕ) (e : Option Named) → ((m : ℕ) → option_map (λ n. n.ordinal) e ≡ Some m → o + 1 ≤ m)
    → hit (o + 1) rs (ordinal_before next e) ≡ hit o (r ∷ rs) (ordinal_before next e)
hit_further o r rs next None later = refl
hit_further o r rs next (Some n) later = go (nat_lt n.ordinal next)
  where
    go : (b : Bool) → hit (o + 1) rs (if b then Some n.ordinal else None) ≡ hit o (r ∷ rs) (if b then Some n.ordinal else None)
    go false = refl
    go true =
        let l = later n.ordinal refl in
        let e : n.ordinal - o ≡ suc (n.ordinal - (o + 1)) = omega (arith, l) in
        ap (λ k. Some (n.ordinal, slice_index_or (r ∷ rs) k (row_of 0 0 Broken))) (sym e)

module _ (layout : Layout) (name : ℕ) (rest : List Shape) (some : name ≢ 0) (plain : is_standard name ≡ false) where
  row_from : {o : ℕ} {before : List Shape} {rows : List Row} → AreLaid layout o before rows
      → option_map (λ n. n.ordinal) (first_entry layout name) ≡ first_shape name (before ++ rest) o
      → first_named name rows o ≡ hit o rows (ordinal_before (o + length rows) (first_entry layout name))
  row_from {o} none_laid h =
      sym (ap (hit o []) (at_start o (o + 0) (first_entry layout name) (first_shape name rest o) h (λ m e. let n = not_before name rest o m e in omega (arith, n))))
  row_from {o} (more_laid {s = t} {ss = ss} {r = r} {rs = rs} l more) h = go (t.name == name) refl (λ k. row_from more k)
    where
      entry : Option Named
      entry = first_entry layout name

      go : (b : Bool) → (t.name == name) ≡ b → (option_map (λ n. n.ordinal) entry ≡ first_shape name (ss ++ rest) (o + 1) → first_named name rs (o + 1) ≡ hit (o + 1) rs (ordinal_before (o + 1 + length rs) entry)) → first_named name (r ∷ rs) o ≡ hit o (r ∷ rs) (ordinal_before (o + suc (length rs)) entry)
      go true q later =
          let first : option_map (λ n. n.ordinal) entry ≡ Some o = h ∙ ap (λ (b : Bool). if b then Some o else first_shape name (ss ++ rest) (o + 1)) q in
          let kept : r.name ≡ name = l.name ∙ ap (kept_name layout o) (same t.name name q) ∙ kept_here layout o name plain first in
          ap (λ (b : Bool). if b then Some (o, r) else first_named name rs (o + 1)) (ap (λ m. m == name) kept ∙ itself name)
          ∙ ap (λ k. Some (o, slice_index_or (r ∷ rs) k (row_of 0 0 Broken))) (let e : 0 ≡ o - o = omega arith in e)
          ∙ sym (ap (hit o (r ∷ rs)) (at_this o (o + suc (length rs)) entry first (omega arith)))
      go false q later =
          let other : (r.name == name) ≡ false = ap (λ m. m == name) l.name ∙ kept_or_none layout o t.name name some q in
          let next : option_map (λ n. n.ordinal) entry ≡ first_shape name (ss ++ rest) (o + 1) = h ∙ ap (λ (b : Bool). if b then Some o else first_shape name (ss ++ rest) (o + 1)) q in
          ap (λ (b : Bool). if b then Some (o, r) else first_named name rs (o + 1)) other
          ∙ later next
          ∙ ap (λ m. hit (o + 1) rs (ordinal_before m entry)) (let e : o + 1 + length rs ≡ o + suc (length rs) = omega arith in e)
          ∙ hit_further o r rs (o + suc (length rs)) entry (λ m e. not_before name (ss ++ rest) (o + 1) m (sym next ∙ e))

-- the row that has a name is that which the layout has before the next
pub row_of_name : (layout : Layout) (rows : List Row) (shapes : List Shape) (name : ℕ) → name ≢ 0 → IsAhead layout rows shapes
    → first_named name rows 0 ≡ option_map (λ k. (k, slice_index_or rows k (row_of 0 0 Broken))) (earlier_row layout (length rows) name)
row_of_name layout rows shapes name some ahead = go (is_standard name) refl
  where
    unzero : (o : Option ℕ) → hit 0 rows o ≡ option_map (λ k. (k, slice_index_or rows k (row_of 0 0 Broken))) o
    unzero None = refl
    unzero (Some k) = ap (λ m. Some (k, slice_index_or rows m (row_of 0 0 Broken))) (let e : k - 0 ≡ k = omega arith in e)

    go : (b : Bool) → is_standard name ≡ b → first_named name rows 0 ≡ option_map (λ k. (k, slice_index_or rows k (row_of 0 0 Broken))) (if b then None else ordinal_before (length rows) (first_entry layout name))
    go true standard = lacks_standard name some standard ahead.laid 0
    go false plain =
        row_from layout name (shapes ++ ahead.rest) some plain ahead.laid (ahead.firsts name some)
        ∙ ap (λ m. hit 0 rows (ordinal_before m (first_entry layout name))) (let e : 0 + length rows ≡ length rows = omega arith in e)
        ∙ unzero (ordinal_before (length rows) (first_entry layout name))

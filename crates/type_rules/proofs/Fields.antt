-- The field of a record that a selection gives is the definition's.
use Rattle.std.proofs.Common.{◌≡◌, ◌∙◌, inl, inr, ℕ, zero, suc, ◌+◌, ◌-◌, ◌*◌, ◌^◌, ◌<◌, ◌≤◌, Bool, true, false, List, [], ◌∷◌, ◌++◌, Option, Some, None, length, take, drop, refl, sym, ap, subst, arith, cond, if◌then◌else◌}
use Rattle.std.specs.Prelude.{find}
use Rattle.std.proofs.lemmas.Bool.{cases_lt}
use Rattle.std.proofs.lemmas.List.{drop-take, drop_all, length-take, take-append-le}
use Rattle.m2_base.specs.Finished.{IsFinished}
use Rattle.m2_base.specs.Keys.{field_before, first_keyed, is_keyed, row_key}
use Rattle.m2_base.specs.Lists.{Each, IsPrefixOf}
use Rattle.m2_base.specs.Rows.{at_place, row_meaning, Fits}
use Rattle.m2_base.specs.Scopes.{IsSelected, Selected}
use Rattle.m2_base.specs.States.{State, Frame, texts_of}
use Rattle.m2_base.specs.Statics.TypeParts.{is_field, rows_between}
use Rattle.m2_base.specs.Tables.{rows_at}
use Rattle.m2_base.specs.declared.replies.Ask.TheVariants.{Known}
use Rattle.m2_base.specs.declared.rows.Place.{Place}
use Rattle.m2_base.specs.declared.rows.Row.{Row}
use Rattle.m2_base.specs.declared.rows.RowKey.TheVariants.{Member}
use Rattle.m2_base.specs.declared.rows.RowMeaning.{RowMeaning}
use Rattle.m2_base.specs.declared.rows.RowMeaning.TheVariants.{Field}
use Rattle.m2_base.specs.declared.sites.Around.{Around}
use Rattle.m2_base.proofs.FieldRows.{finished_plain}
use Rattle.m2_base.proofs.KeyLaws.{member_keyed, IsPlain}
use Rattle.m2_base.proofs.NoRepeats.{some_is}
use Rattle.m2_base.proofs.RowLaws.{HasSmallNumbers-fits}
use Rattle.type_rules.specs.Members.{IsFieldThere}
use Rattle.type_rules.specs.Scenes.{Agrees, AreInHand, Hand, IsHere, IsThere, Suits, rows_of, scene_of}
use Rattle.type_rules.proofs.Counting.{below_or_same, counted_below, counted_closed, counted_own}
use Rattle.type_rules.proofs.Walks.{between_none}

-- ** The first row of a key, and the first field of a name

module _ (own x : ℕ) where
  -- nothing is found before the first ordinal
  first_past : (rows : List Row) (n i : ℕ) (r : Row) → first_keyed (Member own x) rows n ≡ Some (i, r) → n ≤ i
  first_past [] n i r h = absurd (cc)
  first_past (y ∷ rows) n i r h = go (is_keyed (Member own x) (row_key y)) h (first_past rows (n + 1) i r)
    where
      go : (b : Bool) → (if b then Some (n, y) else first_keyed (Member own x) rows (n + 1)) ≡ Some (i, r) → (first_keyed (Member own x) rows (n + 1) ≡ Some (i, r) → n + 1 ≤ i) → n ≤ i
      go true e rest = let same : n ≡ i = ap (λ (h : ℕ × Row). h.0) (some_is (n, y) (i, r) e) in omega (arith, same)
      go false e rest = let l = rest e in omega (arith, l)

  field_behind : (rows : List Row) (n f i : ℕ) (r : Row) → Each IsPlain rows → first_keyed (Member own x) rows n ≡ Some (i, r) → n + f ≤ i → find (is_field own x) (drop f rows) ≡ Some r
  field_behind [] n f i r plain h le = absurd (cc)
  field_behind (y ∷ rows) n f i r plain h le = go (is_keyed (Member own x) (row_key y)) refl h (λ k e l. field_behind rows (n + 1) k i r plain.1 e l)
    where
      found : (f : ℕ) → n + f ≤ i → is_keyed (Member own x) (row_key y) ≡ true → ◌≡◌ {A = Option (ℕ × Row)} (Some (n, y)) (Some (i, r)) → find (is_field own x) (drop f (y ∷ rows)) ≡ Some r
      found zero le same e = ap (λ (b : Bool). cond b (Some y) (find (is_field own x) rows)) (sym (member_keyed own x y plain.0) ∙ same) ∙ ap (λ (h : ℕ × Row). Some h.1) (some_is (n, y) (i, r) e)
      found (suc f) le same e = absurd (let at : n ≡ i = ap (λ (h : ℕ × Row). h.0) (some_is (n, y) (i, r) e) in omega (arith, at, le))

      later : (f : ℕ) → n + f ≤ i → is_keyed (Member own x) (row_key y) ≡ false → first_keyed (Member own x) rows (n + 1) ≡ Some (i, r)
          → ((k : ℕ) → first_keyed (Member own x) rows (n + 1) ≡ Some (i, r) → n + 1 + k ≤ i → find (is_field own x) (drop k rows) ≡ Some r) → find (is_field own x) (drop f (y ∷ rows)) ≡ Some r
      later zero le other e rest =
          ap (λ (b : Bool). cond b (Some y) (find (is_field own x) rows)) (sym (member_keyed own x y plain.0) ∙ other) ∙ rest 0 e (let l = first_past rows (n + 1) i r e in omega (arith, l))
      later (suc f) le other e rest = rest f e (omega (arith, le))

      go : (b : Bool) → is_keyed (Member own x) (row_key y) ≡ b → (if b then Some (n, y) else first_keyed (Member own x) rows (n + 1)) ≡ Some (i, r)
          → ((k : ℕ) → first_keyed (Member own x) rows (n + 1) ≡ Some (i, r) → n + 1 + k ≤ i → find (is_field own x) (drop k rows) ≡ Some r) → find (is_field own x) (drop f (y ∷ rows)) ≡ Some r
      go true same e rest = found f le same e
      go false other e rest = later f le other e rest

  none_behind : (rows : List Row) (n f : ℕ) → Each IsPlain rows → first_keyed (Member own x) rows n ≡ None → find (is_field own x) (drop f rows) ≡ None
  none_behind [] n zero plain h = refl
  none_behind [] n (suc f) plain h = refl
  none_behind (y ∷ rows) n f plain h = go (is_keyed (Member own x) (row_key y)) refl h (λ k e. none_behind rows (n + 1) k plain.1 e)
    where
      later : (f : ℕ) → is_keyed (Member own x) (row_key y) ≡ false → ((k : ℕ) → find (is_field own x) (drop k rows) ≡ None) → find (is_field own x) (drop f (y ∷ rows)) ≡ None
      later zero other rest = ap (λ (b : Bool). cond b (Some y) (find (is_field own x) rows)) (sym (member_keyed own x y plain.0) ∙ other) ∙ rest 0
      later (suc f) other rest = rest f

      go : (b : Bool) → is_keyed (Member own x) (row_key y) ≡ b → (if b then Some (n, y) else first_keyed (Member own x) rows (n + 1)) ≡ None
          → ((k : ℕ) → first_keyed (Member own x) rows (n + 1) ≡ None → find (is_field own x) (drop k rows) ≡ None) → find (is_field own x) (drop f (y ∷ rows)) ≡ None
      go true same e rest = absurd (cc)
      go false other e rest = later f other (λ k. rest k e)

-- the rows from an ordinal up to another, cut at the other end first
between_taken : (xs : List Row) (from upto : ℕ) → take (upto - from) (drop from xs) ≡ drop from (take upto xs)
between_taken xs from upto = elim (cases_lt upto from) as (λ _. take (upto - from) (drop from xs) ≡ drop from (take upto xs)) [
  | inl past ↦ (let short = length-take upto xs in between_none xs from upto (omega (arith, past)) ∙ sym (drop_all from (take upto xs) (omega (arith, short, past))))
  | inr le ↦ (let e : from + (upto - from) ≡ upto = omega (arith, le) in sym (drop-take from (upto - from) xs) ∙ ap (λ (n : ℕ). drop from (take n xs)) e)
]

each_taken : (n : ℕ) (rows : List Row) → Each IsPlain rows → Each IsPlain (take n rows)
each_taken zero [] h = tt
each_taken (suc n) [] h = tt
each_taken zero (r ∷ rows) h = tt
each_taken (suc n) (r ∷ rows) h = (h.0, each_taken n rows h.1)

each_front : (xs ys : List Row) → Each IsPlain (xs ++ ys) → Each IsPlain xs
each_front [] ys h = tt
each_front (x ∷ xs) ys h = (h.0, each_front xs ys h.1)

-- ** A selection

module _ (old new : State) (a : Around) (of : Place) (name : ℕ) (made : Hand) (suits : Suits old.frame a) (there : IsThere old.frame of) (in_hand : AreInHand old.frame made) (told : IsFinished (texts_of old) made.finished) where
  -- the rows that count of the record's scope
  abbrev counted : List Row
  counted = rows_at (rows_of old.frame made) of.scope

  -- the rows before the record's own are these, which have their names and no others
  record IsFront (rows : List Row) : Type 0 where
    same : take of.ordinal counted ≡ take of.ordinal rows
    plain : Each IsPlain rows

  front_below : of.scope < old.frame.setting.fills → IsFront (rows_at made.finished of.scope)
  front_below below =
      record {
        same = ap (take of.ordinal) (counted_below old.frame made of.scope (suits.told made.finished told) below);
        plain = finished_plain (texts_of old) made.finished told of.scope;
      }

  front_own : of.scope ≡ old.frame.setting.fills → IsFront old.frame.entered
  front_own same =
      record {
        same = ap (λ (s : ℕ). take of.ordinal (rows_at (rows_of f made) s)) same ∙ by_mark f.closed refl;
        plain = each_front f.entered agrees.entered.rest (subst (Each IsPlain) (sym agrees.entered.joined) (finished_plain (texts_of old) made.finished told f.setting.fills));
      }
    where
      f : Frame
      f = old.frame

      agrees : Agrees old.frame made.finished
      agrees = suits.told made.finished told

      by_mark : (b : Bool) → old.frame.closed ≡ b → take of.ordinal (rows_at (rows_of old.frame made) old.frame.setting.fills) ≡ take of.ordinal old.frame.entered
      by_mark true closed = ap (take of.ordinal) (counted_closed old.frame made agrees in_hand closed)
      by_mark false open_yet =
          let l = there.entered same open_yet in
          ap (take of.ordinal) (counted_own old.frame made agrees) ∙ take-append-le of.ordinal old.frame.entered made.rows (omega (arith, l))

  -- what a selection gives is the first among them
  first_selected : (o : Option (ℕ × Row)) → Selected old new of name (Known o) → (rows : List Row) × IsFront rows × (field_before rows of.ordinal name ≡ o)
  first_selected o selected = elim (below_or_same of.scope old.frame.setting.fills there.scope) as (λ _. (rows : List Row) × IsFront rows × (field_before rows of.ordinal name ≡ o)) [
    | inl below ↦ (rows_at made.finished of.scope, front_below below, by_finished o selected)
    | inr same ↦ (old.frame.entered, front_own same, by_entered same o selected)
  ]
    where
      by_finished : (o : Option (ℕ × Row)) → Selected old new of name (Known o) → field_before (rows_at made.finished of.scope) of.ordinal name ≡ o
      by_finished None selected = selected.says.told made.finished told
      by_finished (Some hit) selected = selected.says.told made.finished told

      by_entered : of.scope ≡ old.frame.setting.fills → (o : Option (ℕ × Row)) → Selected old new of name (Known o) → field_before old.frame.entered of.ordinal name ≡ o
      by_entered same None selected =
          subst (λ (f : Frame). field_before f.entered of.ordinal name ≡ None) selected.keeps.frame (selected.says.own (same ∙ ap (λ (f : Frame). f.setting.fills) (sym selected.keeps.frame)))
      by_entered same (Some hit) selected =
          subst (λ (f : Frame). field_before f.entered of.ordinal name ≡ Some hit) selected.keeps.frame (selected.says.own (same ∙ ap (λ (f : Frame). f.setting.fills) (sym selected.keeps.frame)))

  -- the rows from an ordinal up to the record's
  between_front : (rows : List Row) (first : ℕ) → IsFront rows → rows_between (scene_of old.frame made a) of.scope first of.ordinal ≡ drop first (take of.ordinal rows)
  between_front rows first front = between_taken counted first of.ordinal ∙ ap (drop first) front.same

  pub selected_none : (first : ℕ) → Selected old new of name (Known None) → None ≡ find (is_field of.ordinal name) (rows_between (scene_of old.frame made a) of.scope first of.ordinal)
  selected_none first selected =
      let s = first_selected None selected in
      sym (ap (find (is_field of.ordinal name)) (between_front s.0 first s.1) ∙ none_behind of.ordinal name (take of.ordinal s.0) 0 first (each_taken of.ordinal s.0 s.1.plain) s.2)

  pub selected_some : (first : ℕ) (hit : ℕ × Row) → Selected old new of name (Known (Some hit)) → first ≤ hit.0 → Some hit.1 ≡ find (is_field of.ordinal name) (rows_between (scene_of old.frame made a) of.scope first of.ordinal)
  selected_some first hit selected le =
      let s = first_selected (Some hit) selected in
      sym (ap (find (is_field of.ordinal name)) (between_front s.0 first s.1)
      ∙ field_behind of.ordinal name (take of.ordinal s.0) 0 first hit.0 hit.1 (each_taken of.ordinal s.0 s.1.plain) s.2 (omega (arith, le)))

-- ** The row of a field

-- the type of a field whose row fits a place that can be asked for
field_there : (f : Frame) (names : ℕ) (p : Place) (m : RowMeaning) → p.ordinal < 2 ^ 32 → IsThere f p → Fits names p m → IsFieldThere f m
field_there f names p (Field t o q n) small there fits =
    let before = fits.0 in
    let scope : t.scope ≤ p.scope = omega (arith, before, small) in
    let within = there.scope in
    record {
      scope = omega (arith, scope, within);
      entered = λ same open_yet.
          let here : p.scope ≡ f.setting.fills = omega (arith, scope, within, same) in
          let l = there.entered here open_yet in
          omega (arith, before, same, here, l);
    }
field_there f names p other small there fits = tt

pub found_here : (old new : State) (a : Around) (of : Place) (name : ℕ) (hit : ℕ × Row) → Suits old.frame a → IsThere old.frame of → of.scope < 2 ^ 32 → hit.0 < 2 ^ 32 → Selected old new of name (Known (Some hit))
    → IsHere old.frame hit.1 × IsFieldThere old.frame (row_meaning hit.1)
found_here old new a of name hit suits there scope small selected =
    let says : IsSelected old new of name hit = selected.says in
    let p = at_place of.scope hit.0 in
    let place : IsThere old.frame p = record { scope = there.scope; entered = λ same open_yet. let l = there.entered same open_yet in let b = says.before in omega (arith, l, b) } in
    let fits : Fits (length old.frame.setting.texts.names) p (row_meaning hit.1) =
    subst (λ (f : Frame). Fits (length f.setting.texts.names) p (row_meaning hit.1)) selected.keeps.frame says.shown.formed.fits in (
      record {
        place = p;
        row = record { there = place; said = record { fits = fits; small = HasSmallNumbers-fits (length old.frame.setting.texts.names) p (row_meaning hit.1) suits.names scope small fits } };
      },
      field_there old.frame (length old.frame.setting.texts.names) p (row_meaning hit.1) small place fits,
    )

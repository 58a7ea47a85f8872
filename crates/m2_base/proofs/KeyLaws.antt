-- The keys of rows, and the first row of a key.
use Rattle.std.specs.Prelude.{◌≡◌, ◌≢◌, ℕ, zero, suc, ◌+◌, ◌<◌, ◌≤◌, ◌==◌, Bool, true, false, ◌&&◌, if◌then◌else◌, List, [], ◌∷◌, length, take, slice_get, Option, Some, None}
use Rattle.std.proofs.Common.{refl, sym, ap, ◌∙◌, subst, arith}
use Rattle.std.proofs.lemmas.Bool.{eq-eqb, ne_eqb, eqb-true, true≢false, lt-ltb, le-ltb}
use Rattle.std.proofs.lemmas.List.{take-append-le}
use Rattle.std.proofs.lemmas.Bool.Decides.{Decides-and, Decides-eqb}
use mathlib.Core.Logic.{dite}
use native.Mathlib.Decide.{ℕ_discrete}
use Rattle.m2_base.specs.Keys.{RowKey, Name, Member, before_only, field_before, first_keyed, is_keyed, is_same_key, row_key}
use Rattle.m2_base.specs.Lists.{IsPrefixOf}
use Rattle.m2_base.specs.Rows.{Row, RowMeaning, basic_of, field_kind, natural}
use Rattle.m2_base.specs.Statics.TypeParts.{is_field, is_field_meaning}
use Rattle.m2_base.specs.Tables.{first_named}
use Rattle.m2_base.proofs.NoRepeats.{some_is}

-- ** Whether a key is this one

same_is : (k l : RowKey) → is_same_key l k ≡ true → l ≡ k
same_is (Name x) (Name y) e = ap Name (eqb-true y x e)
same_is (Member p x) (Member q y) e =
    let both = (Decides-and (q == p) (y == x) (Decides-eqb q p) (Decides-eqb y x)).0 e in
    λ i. Member (both.0 i) (both.1 i)
same_is (Name x) (Member q y) e = absurd (cc)
same_is (Member p x) (Name y) e = absurd (cc)

same_self : (k : RowKey) → is_same_key k k ≡ true
same_self (Name x) = eq-eqb x x refl
same_self (Member p x) = (Decides-and (p == p) (x == x) (Decides-eqb p p) (Decides-eqb x x)).1 (refl, refl)

pub keyed_is : (k : RowKey) (o : Option RowKey) → is_keyed k o ≡ true → o ≡ Some k
keyed_is k None e = absurd (cc)
keyed_is k (Some l) e = ap Some (same_is k l e)

pub is_keyed-key : (k : RowKey) (o : Option RowKey) → o ≡ Some k → is_keyed k o ≡ true
is_keyed-key k o e = ap (is_keyed k) e ∙ same_self k

pub unkeyed : (k : RowKey) (o : Option RowKey) → is_keyed k o ≡ false → o ≢ Some k
unkeyed k o e is = true≢false (sym (is_keyed-key k o is) ∙ e)

-- ** Rows with a name

pub name_key : (r : Row) → r.name ≢ 0 → row_key r ≡ Some (Name r.name)
unfolding row_key
name_key r named = go (r.name == 0) (ne_eqb r.name 0 named)
  where
    go : (b : Bool) → b ≡ false → (if b then (if r.kind == field_kind then Some (Member (natural r.c) (natural r.e)) else None) else Some (Name r.name)) ≡ Some (Name r.name)
    go true e = absurd (cc)
    go false e = refl

no_name_key : (x : ℕ) (r : Row) → r.name ≡ 0 → is_keyed (Name x) (row_key r) ≡ false
unfolding row_key
no_name_key x r none = go (r.name == 0) (r.kind == field_kind) (eq-eqb r.name 0 none)
  where
    go : (a b : Bool) → a ≡ true → is_keyed (Name x) (if a then (if b then Some (Member (natural r.c) (natural r.e)) else None) else Some (Name r.name)) ≡ false
    go true true e = refl
    go true false e = refl
    go false b e = absurd (cc)

named_keyed : (x : ℕ) → x ≢ 0 → (r : Row) → (r.name == x) ≡ is_keyed (Name x) (row_key r)
named_keyed x named r = dite (ℕ_discrete r.name 0)
    (λ none. ne_eqb r.name x (λ same. named (sym same ∙ none)) ∙ sym (no_name_key x r none))
    (λ some. sym (ap (is_keyed (Name x)) (name_key r some)))

-- the first row of a name
pub first_named-keyed : (x : ℕ) → x ≢ 0 → (rows : List Row) (n : ℕ) → first_named x rows n ≡ first_keyed (Name x) rows n
first_named-keyed x named [] n = refl
first_named-keyed x named (r ∷ rows) n = λ i. if named_keyed x named r i then Some (n, r) else first_named-keyed x named rows (n + 1) i

-- ** Fields

-- a field's row has no name
abbrev pub IsPlain : Row → Type 0
IsPlain r = r.kind ≡ field_kind → r.name ≡ 0

-- of two meanings the one that a test chooses
chosen : (P : RowMeaning → Type 0) (b : Bool) (m n : RowMeaning) → P m → P n → P (if b then m else n)
chosen P true m n p q = p
chosen P false m n p q = q

other : (P : RowMeaning → Type 0) (b : Bool) (m n : RowMeaning) → b ≡ false → P n → P (if b then m else n)
other P true m n e q = absurd (cc)
other P false m n e q = q

module _ (own x : ℕ) where
  abbrev NotField : RowMeaning → Type 0
  NotField m = is_field_meaning own x m ≡ false

  no_basic : (n : ℕ) → NotField (basic_of n)
  no_basic n = chosen NotField (n == 1) _ _ refl (chosen NotField (n == 2) _ _ refl (chosen NotField (n == 3) _ _ refl
      (chosen NotField (n == 4) _ _ refl (chosen NotField (n == 5) _ _ refl (chosen NotField (n == 6) _ _ refl refl)))))

  no_field : (r : Row) → r.kind ≢ field_kind → is_field own x r ≡ false
  no_field r n =
      let at : ℕ → Bool = λ k. r.kind == k in
      chosen NotField (at 1) _ _ refl (chosen NotField (at 2) _ _ refl (chosen NotField (at 3) _ _ refl (chosen NotField (at 4) _ _ refl
      (chosen NotField (at 5) _ _ refl (chosen NotField (at 6) _ _ refl (other NotField (at 7) _ _ (ne_eqb r.kind 7 n)
      (chosen NotField (at 8) _ _ refl (chosen NotField (at 9) _ _ refl (chosen NotField (at 10) _ _ (no_basic (natural r.a))
      (chosen NotField (at 11) _ _ refl (chosen NotField (at 12) _ _ refl (chosen NotField (at 13) _ _ refl (chosen NotField (at 14) _ _ refl
      (chosen NotField (at 15) _ _ refl (chosen NotField (at 16) _ _ refl (chosen NotField (at 17) _ _ refl (chosen NotField (at 18) _ _ refl
      (chosen NotField (at 19) _ _ refl refl))))))))))))))))))

  a_field : (r : Row) → r.kind ≡ field_kind → is_field own x r ≡ ((natural r.c == own) && (natural r.e == x))
  a_field r e = ap (λ (k : ℕ). is_field own x (record r { kind = k })) e

  field_key : (r : Row) → r.kind ≡ field_kind → r.name ≡ 0 → is_keyed (Member own x) (row_key r) ≡ ((natural r.c == own) && (natural r.e == x))
  unfolding row_key
  field_key r e none = go (r.name == 0) (r.kind == field_kind) (eq-eqb r.name 0 none) (eq-eqb r.kind field_kind e)
    where
      go : (a b : Bool) → a ≡ true → b ≡ true → is_keyed (Member own x) (if a then (if b then Some (Member (natural r.c) (natural r.e)) else None) else Some (Name r.name)) ≡ ((natural r.c == own) && (natural r.e == x))
      go true true p q = refl
      go true false p q = absurd (cc)
      go false b p q = absurd (cc)

  no_field_key : (r : Row) → r.kind ≢ field_kind → is_keyed (Member own x) (row_key r) ≡ false
  unfolding row_key
  no_field_key r n = go (r.name == 0) (r.kind == field_kind) (ne_eqb r.kind field_kind n)
    where
      go : (a b : Bool) → b ≡ false → is_keyed (Member own x) (if a then (if b then Some (Member (natural r.c) (natural r.e)) else None) else Some (Name r.name)) ≡ false
      go true true e = absurd (cc)
      go true false e = refl
      go false b e = refl

  -- among rows whose fields have no names, the fields of a name are the rows of its key
  pub member_keyed : (r : Row) → IsPlain r → is_keyed (Member own x) (row_key r) ≡ is_field own x r
  member_keyed r plain = dite (ℕ_discrete r.kind field_kind)
      (λ e. field_key r e (plain e) ∙ sym (a_field r e))
      (λ n. no_field_key r n ∙ sym (no_field r n))

-- ** The first row of a key

-- the row of this ordinal has the key, and no row before it has
pub record IsFirstKeyed (k : RowKey) (rows : List Row) (i : ℕ) (r : Row) : Type 0 where
  pub at : slice_get rows i ≡ Some r
  pub keyed : row_key r ≡ Some k
  pub before : (j : ℕ) (x : Row) → j < i → slice_get rows j ≡ Some x → row_key x ≢ Some k

pub first_hit : (k : RowKey) (rows : List Row) (n i : ℕ) (r : Row) → first_keyed k rows n ≡ Some (i, r) → (d : ℕ) × (i ≡ n + d) × IsFirstKeyed k rows d r
first_hit k [] n i r h = absurd (cc)
first_hit k (x ∷ rows) n i r h = go (is_keyed k (row_key x)) refl h (first_hit k rows (n + 1) i r)
  where
    here : is_keyed k (row_key x) ≡ true → ◌≡◌ {A = Option (ℕ × Row)} (Some (n, x)) (Some (i, r)) → (d : ℕ) × (i ≡ n + d) × IsFirstKeyed k (x ∷ rows) d r
    here same e =
        let hit : ◌≡◌ {A = ℕ × Row} (n, x) (i, r) = some_is (n, x) (i, r) e in
        let row : x ≡ r = ap (λ (p : ℕ × Row). p.1) hit in
        let ordinal : n ≡ i = ap (λ (p : ℕ × Row). p.0) hit in
        (0, omega (arith, ordinal), record { at = ap Some row; keyed = ap row_key (sym row) ∙ keyed_is k (row_key x) same; before = λ j y l at. absurd (omega arith) })

    later : is_keyed k (row_key x) ≡ false → (d : ℕ) × (i ≡ n + 1 + d) × IsFirstKeyed k rows d r → (d : ℕ) × (i ≡ n + d) × IsFirstKeyed k (x ∷ rows) d r
    later none f = (suc f.0, (let e = f.1 in omega (arith, e)), record { at = f.2.at; keyed = f.2.keyed; before = before })
      where
        before : (j : ℕ) (y : Row) → j < suc f.0 → slice_get (x ∷ rows) j ≡ Some y → row_key y ≢ Some k
        before zero y l at = subst (λ (z : Row). row_key z ≢ Some k) (some_is x y at) (unkeyed k (row_key x) none)
        before (suc j) y l at = f.2.before j y (omega (arith, l)) at

    go : (b : Bool) → is_keyed k (row_key x) ≡ b → (if b then Some (n, x) else first_keyed k rows (n + 1)) ≡ Some (i, r)
        → (first_keyed k rows (n + 1) ≡ Some (i, r) → (d : ℕ) × (i ≡ n + 1 + d) × IsFirstKeyed k rows d r) → (d : ℕ) × (i ≡ n + d) × IsFirstKeyed k (x ∷ rows) d r
    go true same e rest = here same e
    go false none e rest = later none (rest e)

pub first_lacks : (k : RowKey) (rows : List Row) (n : ℕ) → first_keyed k rows n ≡ None → (j : ℕ) (x : Row) → slice_get rows j ≡ Some x → row_key x ≢ Some k
first_lacks k [] n h j x at = absurd (cc)
first_lacks k (y ∷ rows) n h j x at = go (is_keyed k (row_key y)) refl h (first_lacks k rows (n + 1)) j at
  where
    go : (b : Bool) → is_keyed k (row_key y) ≡ b → (if b then Some (n, y) else first_keyed k rows (n + 1)) ≡ None
        → (first_keyed k rows (n + 1) ≡ None → (j : ℕ) (x : Row) → slice_get rows j ≡ Some x → row_key x ≢ Some k)
        → (j : ℕ) → slice_get (y ∷ rows) j ≡ Some x → row_key x ≢ Some k
    go true same e rest j at = absurd (cc)
    go false none e rest zero at = subst (λ (z : Row). row_key z ≢ Some k) (some_is y x at) (unkeyed k (row_key y) none)
    go false none e rest (suc j) at = rest e j x at

-- the first rows alone

-- nothing is found before the first ordinal
none_before : (k : RowKey) (rows : List Row) (n m : ℕ) → m ≤ n → before_only m (first_keyed k rows n) ≡ None
none_before k [] n m le = refl
none_before k (x ∷ rows) n m le = go (is_keyed k (row_key x)) (none_before k rows (n + 1) m (omega (arith, le)))
  where
    go : (b : Bool) → before_only m (first_keyed k rows (n + 1)) ≡ None → before_only m (if b then Some (n, x) else first_keyed k rows (n + 1)) ≡ None
    go true rest = ap (λ (b : Bool). if b then Some (n, x) else None) (le-ltb n m le)
    go false rest = rest

pub first_taken : (k : RowKey) (rows : List Row) (n m : ℕ) → first_keyed k (take m rows) n ≡ before_only (n + m) (first_keyed k rows n)
first_taken k [] n zero = refl
first_taken k [] n (suc m) = refl
first_taken k (x ∷ rows) n zero = sym (none_before k (x ∷ rows) n (n + 0) (omega arith))
first_taken k (x ∷ rows) n (suc m) = go (is_keyed k (row_key x)) (first_taken k rows (n + 1) m ∙ ap (λ (e : ℕ). before_only e (first_keyed k rows (n + 1))) (omega arith))
  where
    go : (b : Bool) → first_keyed k (take m rows) (n + 1) ≡ before_only (n + suc m) (first_keyed k rows (n + 1))
        → (if b then Some (n, x) else first_keyed k (take m rows) (n + 1)) ≡ before_only (n + suc m) (if b then Some (n, x) else first_keyed k rows (n + 1))
    go true rest = sym (ap (λ (b : Bool). if b then Some (n, x) else None) (lt-ltb n (n + suc m) (omega arith)))
    go false rest = rest

-- ** The fields before a record's row

-- they are those that are found before it
pub field_only : (rows : List Row) (own x : ℕ) → field_before rows own x ≡ before_only own (first_keyed (Member own x) rows 0)
field_only rows own x = first_taken (Member own x) rows 0 own ∙ ap (λ (m : ℕ). before_only m (first_keyed (Member own x) rows 0)) (omega arith)

taken_at : (rows : List Row) (m i : ℕ) (r : Row) → slice_get (take m rows) i ≡ Some r → (i < m) × (slice_get rows i ≡ Some r)
taken_at [] zero i r e = absurd (cc)
taken_at [] (suc m) i r e = absurd (cc)
taken_at (x ∷ rows) zero i r e = absurd (cc)
taken_at (x ∷ rows) (suc m) zero r e = (omega arith, e)
taken_at (x ∷ rows) (suc m) (suc i) r e = let h = taken_at rows m i r e in (omega (arith, h.0), h.1)

-- a field that is found is one of the rows
pub field_hit : (rows : List Row) (own x : ℕ) (hit : ℕ × Row) → field_before rows own x ≡ Some hit → (hit.0 < own) × (slice_get rows hit.0 ≡ Some hit.1) × (row_key hit.1 ≡ Some (Member own x))
field_hit rows own x hit e =
    let f = first_hit (Member own x) (take own rows) 0 hit.0 hit.1 e in
    let same : f.0 ≡ hit.0 = (let o = f.1 in omega (arith, o)) in
    let at = taken_at rows own hit.0 hit.1 (subst (λ (i : ℕ). slice_get (take own rows) i ≡ Some hit.1) same f.2.at) in
    (at.0, at.1, f.2.keyed)

-- further rows change nothing of it
pub field_front : (rows full : List Row) (own x : ℕ) → IsPrefixOf rows full → own ≤ length rows → field_before full own x ≡ field_before rows own x
field_front rows full own x front le =
    ap (λ (l : List Row). first_keyed (Member own x) l 0) (ap (take own) (sym front.joined) ∙ take-append-le own rows front.rest le)

-- Rows whose names follow each other may be entered one after another.
use Rattle.std.proofs.Common.{◌≡◌, ◌≢◌, ◌∙◌, ℕ, zero, suc, ◌+◌, ◌*◌, ◌/◌, ◌-◌, ◌<◌, ◌≤◌, false, List, [], ◌∷◌, ◌++◌, Some, length, get_or, refl, sym, ap, subst, arith, add-zero, length-append}
use Rattle.std.specs.List.{slice_get, slice_index}
use Rattle.std.specs.Prelude.{Option, unwrap_or}
use Rattle.m2_base.specs.Finished.{IsFinished}
use Rattle.m2_base.specs.Lists.{HasNoRepeats}
use Rattle.m2_base.specs.Rows.{IsWellFormed, at_place}
use Rattle.m2_base.specs.Scopes.{CanComplete, CanEnter, Entered}
use Rattle.m2_base.specs.States.{Frame, State, areas_of, fills_of, texts_of}
use Rattle.m2_base.specs.Units.{UnitTexts}
use Rattle.m2_base.specs.declared.rows.Row.{Row}
use Rattle.search_tests.specs.Named.{HasNamed, first_name, row_named, rows_named}

-- ** Rows

pub rows_more : (n k m : ℕ) → rows_named n k ++ rows_named (n + k) m ≡ rows_named n (k + m)
rows_more n zero m = (let a : n + 0 ≡ n = omega arith in let b : 0 + m ≡ m = omega arith in λ i. rows_named (a i) (sym b i))
rows_more n (suc k) m =
    let a : n + suc k ≡ suc n + k = omega arith in
    let b : suc k + m ≡ suc (k + m) = omega arith in
    (λ i. row_named n ∷ rows_named (suc n) k ++ rows_named (a i) m)
    ∙ (ap (λ (rows : List Row). row_named n ∷ rows) (rows_more (suc n) k m) ∙ ap (λ (j : ℕ). rows_named n j) (sym b))

pub length-rows : (n k : ℕ) → length (rows_named n k) ≡ k
length-rows n zero = refl
length-rows n (suc k) = ap suc (length-rows (suc n) k)

-- the row at an ordinal
record IsNamed (n k i : ℕ) (r : Row) : Type 0 where
  pub within : i < k
  pub is : r ≡ row_named (n + i)

row_at : (n k i : ℕ) (r : Row) → slice_get (rows_named n k) i ≡ Some r → IsNamed n k i r
row_at n zero i r e = absurd (cc)
row_at n (suc k) zero r e =
    let same : row_named n ≡ r = ap (λ (o : Option Row). unwrap_or o r) e in
    let at : n ≡ n + 0 = omega arith in
    record { within = omega arith; is = sym same ∙ ap row_named at }
row_at n (suc k) (suc i) r e =
    let rest = row_at (suc n) k i r e in
    let at : suc n + i ≡ n + suc i = omega arith in
    record { within = (let w = rest.within in omega (arith, w)); is = rest.is ∙ ap row_named at }

formed_row : (names n o : ℕ) → n < names → IsWellFormed names (at_place 1 o) (row_named n)
formed_row names n o h = record { named = h; written = refl; fits = (omega arith, omega arith) }

-- no name comes twice
once : (n k : ℕ) → HasNoRepeats (λ (r : Row). r.name) (rows_named n k)
once n k i j x y less a b some same =
    let at = row_at n k i x a in
    let by = row_at n k j y b in
    let e : n + i ≡ n + j = sym (ap (λ (r : Row). r.name) at.is) ∙ (same ∙ ap (λ (r : Row). r.name) by.is) in
    omega (arith, e, less)

-- ** Entering

pub can_enter : (st : State) (names room many more : ℕ) → HasNamed st names room many → many + more ≤ room → first_name + many + more ≤ names → CanEnter st (rows_named (first_name + many) more)
can_enter st names room many more has fits there =
    let count : length st.frame.entered ≡ many = ap length has.entered ∙ length-rows first_name many in
    let new : length (rows_named (first_name + many) more) ≡ more = length-rows (first_name + many) more in
    record {
      open_yet = has.open_yet;
      room = subst (λ (s : ℕ). length st.frame.entered + length (rows_named (first_name + many) more) ≤ slice_index (areas_of st) s) (sym has.fills) (let a = has.area in omega (arith, count, new, a, fits));
      formed = λ k r e. let at = row_at (first_name + many) more k r e in
          subst (λ (s : ℕ). IsWellFormed (length (texts_of st).names) (at_place s (length st.frame.entered + k)) r) (sym has.fills)
          (subst (λ (x : Row). IsWellFormed (length (texts_of st).names) (at_place 1 (length st.frame.entered + k)) x) (sym at.is)
          (formed_row (length (texts_of st).names) (first_name + many + k) (length st.frame.entered + k) (let n = has.there in let w = at.within in omega (arith, n, w, there))));
      once = subst (HasNoRepeats (λ (r : Row). r.name)) (sym ((λ i. has.entered i ++ rows_named (first_name + many) more) ∙ rows_more first_name many more)) (once first_name (many + more));
      next = λ tables h. absurd (has.unread tables h);
    }

pub has_more : (st new : State) (names room many more : ℕ) → HasNamed st names room many → many + more ≤ room → Entered st new (rows_named (first_name + many) more) → HasNamed new names room (many + more)
has_more st new names room many more has fits done =
    let frame = done.frame in
    record {
      there = subst (λ (f : Frame). names ≤ length f.setting.texts.names) (sym frame) has.there;
      unread = λ tables h. has.unread tables (subst (λ (u : UnitTexts). IsFinished u tables) (ap (λ (f : Frame). f.setting.texts) frame) h);
      fills = ap (λ (f : Frame). f.setting.fills) frame ∙ has.fills;
      area = ap (λ (f : Frame). slice_index f.setting.areas 1) frame ∙ has.area;
      entered = ap (λ (f : Frame). f.entered) frame ∙ ((λ i. has.entered i ++ rows_named (first_name + many) more) ∙ rows_more first_name many more);
      open_yet = ap (λ (f : Frame). f.closed) frame ∙ has.open_yet;
      fits = fits;
      small = has.small;
    }

pub can_complete : (st : State) (names room many : ℕ) → HasNamed st names room many → CanComplete st
can_complete st names room many has = record { open_yet = has.open_yet; all = λ tables h. absurd (has.unread tables h) }

-- one row more behind others
pub rows_step : (first n : ℕ) (rows more : List Row) (r : Row) → first ≤ n → rows ≡ rows_named first (n - first) → rows_named n 1 ≡ r ∷ [] → more ≡ rows ++ r ∷ [] → more ≡ rows_named first (n + 1 - first)
rows_step first n rows more r up are one is =
    let at : first + (n - first) ≡ n = omega (arith, up) in
    let count : n - first + 1 ≡ n + 1 - first = omega (arith, up) in
    is
    ∙ ((λ i. are i ++ sym one i)
    ∙ ((λ i. rows_named first (n - first) ++ rows_named (sym at i) 1)
    ∙ (rows_more first (n - first) 1 ∙ ap (λ (k : ℕ). rows_named first k) count)))

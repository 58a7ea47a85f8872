-- Each step keeps the rule.
use Rattle.std.proofs.Common.{◌≡◌, ◌≢◌, ℕ, zero, suc, ◌+◌, ◌-◌, ◌*◌, ◌/◌, ◌%◌, ◌<◌, ◌≤◌, true, false, Some, slice_get, eqb, List, [], ◌∷◌, ◌++◌, length, get_or, set, sym, refl, ap, ◌∙◌, subst, arith, length-set, get_or-set_same, get_or-set_other, length-append, ne_eqb, eq-eqb, append-nil, true≢false, zero-add}
use mathlib.Core.Logic.{dite}
use mathlib.Core.Option.{none}
use native.Mathlib.Decide.{ℕ_discrete, dec_le}
use lib.ListN.{get_or-append}
use lib.Seq.{get_or-append_seam}
use Rattle.atomic_table.specs.Table.{step, keeps, stepped, Allows}
use Rattle.m2_base.specs.declared.rows.Row.{Row}
use Rattle.scope_table.specs.declared.view.Shown.{Shown}
use Rattle.scope_table.specs.declared.view.About.{About}
use Rattle.scope_table.specs.declared.view.View.{View}
use Rattle.m2_base.specs.Rows.{at_place, IsWellFormed}
use Rattle.scope_table.specs.Cells.{IsIndexed, HasOneEach}
use Rattle.scope_table.specs.Rows.{row_at, rows_at, rows_of, row_of, words_at, Stand, IsField}
use Rattle.scope_table.specs.Rule.{base, mid, width, scopes, texts_in, is_odd, table_at, nothing, shown_at, weight, Begins, IsBefore, times, IsGood, IsFair, AreFormed, Fills, Knows, IsLaid, IsKept}
use Rattle.scope_table.proofs.Rows.{length-rows_at, rows_at-same, rows_at-more, rows_at-words, get_or-rows_at, words_at-same, field_at}
use Rattle.scope_table.specs.Plays.{Sat, sees, head_loaded, row_loaded, puts, word_put, shows, rows_shown, seals, is_sealed, grown, ended}
use Rattle.scope_table.proofs.Frames.{St, view_step, store_step, Moves, seen_moves, looks_move, length_begins, before_refl, same_parts}

-- what a view knows, where it has seen the scope as it stands
pub knows_seen : (a : About) (ws : List ℕ) (v : View) (j : ℕ) → j < scopes a → Knows a ws v → Knows a ws (sees v j (table_at a ws j))
knows_seen a ws v j l r =
    let wide = r.wide in let here : shown_at (sees v j (table_at a ws j)) j ≡ table_at a ws j = get_or-set_same v.seen j (table_at a ws j) nothing (omega arith) in record {
      about = r.about;
      wide = length-set v.seen j (table_at a ws j) ∙ r.wide;
      seen = λ k lk. dite (ℕ_discrete k j) (λ e. subst (λ (z : ℕ). IsBefore (shown_at (sees v j (table_at a ws j)) z) (table_at a ws z)) (sym e) (subst (λ (t : Shown). IsBefore t (table_at a ws j)) (sym here) (before_refl (table_at a ws j))))
          (λ n. subst (λ (t : Shown). IsBefore t (table_at a ws k)) (sym (get_or-set_other v.seen j k (table_at a ws j) nothing n)) (r.seen k lk));
      fills = λ k has. let f = r.fills k has in let now : table_at a ws k ≡ shown_at (sees v j (table_at a ws j)) k = dite (ℕ_discrete k j) (λ e. subst (λ (z : ℕ). table_at a ws z ≡ shown_at (sees v j (table_at a ws j)) z) (sym e) (sym here))
          (λ n. f.same ∙ sym (get_or-set_other v.seen j k (table_at a ws j) nothing n)) in record {
            there = f.there;
            same = now;
            put = f.put;
            room = f.room;
            cells = subst (λ (y : Shown). (c : ℕ) → 8 * get_or y.cells c 0 ≤ 8 * length y.rows + length v.put) (sym f.same ∙ now) f.cells;
          };
      looks = r.looks;
    }

pub loads_head : (a : About) (slots id : ℕ) (me : Sat) (j : ℕ) → j < scopes a → Allows (IsKept a) slots id me j (λ n. n) (head_loaded (step slots j 0 0 none) me)
loads_head a slots id me j l s r _ at _ =
    let t : Shown = table_at a s.words j in let mine = r.knows id me.0 at in (
      sees me.0 j t,
      keeps,
      tt,
      view_step a s j id me.1 me.0 (sees me.0 j t) r at (λ k. refl) (knows_seen a s.words me.0 j l mine),
      (
        refl,
        λ h. (
          t,
          refl,
          record {
            count = sym (length-rows_at s.words (base a j) (get_or s.words j 0 / 2));
            complete = refl;
            later = mine.seen j l;
            good = subst (λ (b : About). IsGood b j t) (sym mine.about) (r.good j l);
            wide = subst (λ (b : About). length me.0.seen ≡ scopes b) (sym mine.about) mine.wide;
            mine = λ has. (mine.fills j has).same;
          },
        ),
      ),
    )

pub row_begins : (xs ys : List Row) (i : ℕ) → Begins xs ys → i < length xs → row_of xs i ≡ row_of ys i
row_begins [] ys i b h = absurd (omega arith)
row_begins (x ∷ xs) ys zero b h = ap (λ (l : List Row). row_of l 0) b.1
row_begins (x ∷ xs) ys (suc i) b h = row_begins xs (xs ++ b.0) i (b.0, refl) (omega arith) ∙ ap (λ (l : List Row). row_of l (suc i)) b.1

-- the row of an ordinal is got
pub got_row : (rows : List Row) (i : ℕ) → i < length rows → slice_get rows i ≡ Some (row_of rows i)
got_row [] i h = absurd (omega arith)
got_row (r ∷ rows) zero h = refl
got_row (r ∷ rows) (suc i) h = got_row rows i (omega arith)

-- A word of a row that was seen is loaded
pub loads_row : (a : About) (slots id : ℕ) (me : Sat) (p : ℕ) → Allows (IsKept a) slots id me p (λ n. n) (row_loaded (step slots p 0 0 none) me)
loads_row a slots id me p s r _ at _ =
    let mine = r.knows id me.0 at in
    let inside : (j i : ℕ) → j < scopes a → i < length (shown_at me.0 j).rows → i < get_or s.words j 0 / 2 = (λ j i l h. let len = length_begins (shown_at me.0 j).rows (table_at a s.words j).rows (mine.seen j l).rows in let n = length-rows_at s.words (base a j) (get_or s.words j 0 / 2) in omega arith) in
    let begins : (j i : ℕ) → j < scopes a → i < length (shown_at me.0 j).rows → row_of (shown_at me.0 j).rows i ≡ row_of (table_at a s.words j).rows i = (λ j i l h. row_begins (shown_at me.0 j).rows (table_at a s.words j).rows i (mine.seen j l).rows h) in
    let is : (j i : ℕ) → j < scopes a → i < length (shown_at me.0 j).rows → row_of (shown_at me.0 j).rows i ≡ row_at s.words (base a j + 8 * i) = (λ j i l h. begins j i l h ∙ get_or-rows_at s.words (base a j) (get_or s.words j 0 / 2) i (inside j i l h)) in (
      me.0,
      keeps,
      tt,
      view_step a s p id me.1 me.0 me.0 r at (λ k. refl) mine,
      (
        refl,
        λ j i l h.
            let lj : j < scopes a = subst (λ (b : About). j < scopes b) mine.about l in record {
              field = λ f lf e.
                  let q : p ≡ base a j + 8 * i + f = e ∙ ap (λ (b : About). base b j + 8 * i + f) mine.about in
                  subst (λ (w : ℕ). IsField (row_of (shown_at me.0 j).rows i) f w) (ap (λ (z : ℕ). get_or s.words z 0) (sym q))
                  (subst (λ (y : Row). IsField y f (get_or s.words (base a j + 8 * i + f) 0)) (sym (is j i lj h)) (field_at s.words (base a j + 8 * i) f lf));
              formed = subst (λ (b : About). IsWellFormed (length (texts_in b).names) (at_place j i) (row_of (shown_at me.0 j).rows i)) (sym mine.about)
                  (subst (λ (y : Row). IsWellFormed (length (texts_in a).names) (at_place j i) y) (sym (begins j i lj h))
                  (subst (λ (z : ℕ). IsWellFormed (length (texts_in a).names) (at_place j z) (row_of (table_at a s.words j).rows i)) (zero-add i) (r.formed j lj i (row_of (table_at a s.words j).rows i) (got_row (table_at a s.words j).rows i (let n = length-rows_at s.words (base a j) (get_or s.words j 0 / 2) in let z = inside j i lj h in omega arith)))));
            },
      ),
    )

-- two places in the areas of two scopes
pub apart : (a : About) (j k p q : ℕ) → IsLaid a → j < scopes a → k < scopes a → k ≢ j → base a j ≤ p → p < base a (suc j) → base a k ≤ q → q < base a (suc k) → q ≢ p
apart a j k p q laid lj lk n lo hi lo' hi' e = elim (dec_le k j) [
  | yes d ↦ let u = laid.up (suc k) j (omega arith) (omega arith) in absurd (omega arith)
  | no d ↦ let u = laid.up (suc j) k (omega arith) (omega arith) in absurd (omega arith)
]

pub only : (k j : ℕ) (v : View) → v.rights ≡ j ∷ [] → 0 < times k v.rights → k ≡ j
only k j v is h = dite (ℕ_discrete k j) (λ e. e) (λ n. let z : times k v.rights ≡ 0 = ap (times k) is ∙ ap (λ b. weight b + 0) (ne_eqb k j n) in absurd (omega arith))

pub has_one : (j : ℕ) (v : View) → v.rights ≡ j ∷ [] → 0 < times j v.rights
has_one j v is = let z : times j v.rights ≡ 1 = ap (times j) is ∙ ap (λ b. weight b + 0) (eq-eqb j j refl) in omega arith

-- K5. A word past the shown rows
module _ (a : About) (s : St) (j x : ℕ) (v : View) (r : IsKept a s) (l : j < scopes a) (f : Fills a s.words v j) (room : base a j + 8 * (get_or s.words j 0 / 2) + length v.put < mid a j) where
  abbrev here : ℕ
  here = base a j + 8 * (get_or s.words j 0 / 2) + length v.put

  abbrev after : List ℕ
  after = set s.words here x

  above : scopes a ≤ base a j
  above = let u = r.laid.up 0 j (omega arith) (omega arith) in let z = r.laid.first in omega arith

  inside : here < length s.words
  inside = let u = r.laid.up (suc j) (scopes a) (omega arith) (omega arith) in let w = r.wide in let b = (r.good j l).behind in omega arith

  head_stays : (k : ℕ) → k < scopes a → get_or after k 0 ≡ get_or s.words k 0
  head_stays k lk = let u = above in get_or-set_other s.words here k x 0 (λ e. omega arith)

  put_table : table_at a after j ≡ table_at a s.words j
  put_table = let h = head_stays j l in let e : rows_at after (base a j) (get_or s.words j 0 / 2) ≡ rows_at s.words (base a j) (get_or s.words j 0 / 2) =
      rows_at-same s.words after (base a j) (get_or s.words j 0 / 2) (λ p lo hi. get_or-set_other s.words here p x 0 (λ e. omega arith)) in
      same_parts a s.words after j h e (words_at-same s.words after (mid a j) (width a j) (λ p lo hi. get_or-set_other s.words here p x 0 (λ e. omega arith)))

  put_moves : Moves a s.words after j
  put_moves = record {
    wide = length-set s.words here x;
    heads = λ k lk n. head_stays k lk;
    others = λ k p lk n lo hi. get_or-set_other s.words here p x 0 (let b = (r.good j l).behind in apart a j k here p r.laid l lk n (omega arith) (omega arith) lo hi);
    grows = subst (IsBefore (table_at a s.words j)) (sym put_table) (before_refl (table_at a s.words j));
  }

  put_knows : v.rights ≡ j ∷ [] → Knows a s.words v → Knows a after (puts v (x ∷ []))
  put_knows is known = record {
    about = known.about;
    wide = known.wide;
    seen = seen_moves a s.words after j (shown_at v) put_moves r.good known.seen;
    looks = looks_move a s.words after j v.looks put_moves r.good known.looks;
    fills = λ k has. let e = only k j v is has in subst (Fills a after (puts v (x ∷ []))) (sym e) record {
      there = l;
      same = put_table ∙ f.same;
      put = λ q lt. let len : length (v.put ++ x ∷ []) ≡ length v.put + 1 = length-append v.put (x ∷ []) in
          ap (λ (y : ℕ). get_or after (base a j + 8 * (y / 2) + q) 0) (head_stays j l) ∙ dite (ℕ_discrete q (length v.put))
          (λ e. ap (λ (z : ℕ). get_or after (base a j + 8 * (get_or s.words j 0 / 2) + z) 0) e ∙ (get_or-set_same s.words here x 0 inside ∙ (sym (get_or-append_seam v.put x [] 0) ∙ ap (λ (z : ℕ). get_or (v.put ++ x ∷ []) z 0) (sym e))))
          (λ n. get_or-set_other s.words here (base a j + 8 * (get_or s.words j 0 / 2) + q) x 0 (λ e. n (omega arith)) ∙ (f.put q (omega arith) ∙ sym (get_or-append v.put (x ∷ []) 0 q (omega arith))));
      room = let len : length (v.put ++ x ∷ []) ≡ length v.put + 1 = length-append v.put (x ∷ []) in let h = head_stays j l in
          subst (λ (y : ℕ). base a j + 8 * (y / 2) + length (v.put ++ x ∷ []) ≤ mid a j) (sym h) (omega arith);
      cells = λ c. let o = f.cells c in let len : length (v.put ++ x ∷ []) ≡ length v.put + 1 = length-append v.put (x ∷ []) in omega arith;
    };
  }

pub puts_word : (a : About) (slots id : ℕ) (me : Sat) (j p x : ℕ) → me.0.rights ≡ j ∷ [] → p ≡ base a j + 8 * length (shown_at me.0 j).rows + length me.0.put → p < mid a j
    → Allows (IsKept a) slots id me p (λ _. x) (λ _. word_put (step slots p x 0 none) me x)
puts_word a slots id me j p x is at_p room s r _ at _ =
    let mine = r.knows id me.0 at in let has = has_one j me.0 is in let f = mine.fills j has in
    let n : length (shown_at me.0 j).rows ≡ get_or s.words j 0 / 2 = ap (λ (t : Shown). length t.rows) (sym f.same) ∙ length-rows_at s.words (base a j) (get_or s.words j 0 / 2) in
    let e : p ≡ base a j + 8 * (get_or s.words j 0 / 2) + length me.0.put = omega arith in let room' : base a j + 8 * (get_or s.words j 0 / 2) + length me.0.put < mid a j = omega arith in (
      puts me.0 (x ∷ []),
      keeps,
      tt,
      subst (λ (q : ℕ). IsKept a (stepped s q x id me.1 (puts me.0 (x ∷ [])) keeps)) (sym e)
          (store_step a s (base a j + 8 * (get_or s.words j 0 / 2) + length me.0.put) x id j me.1 me.0 (puts me.0 (x ∷ [])) r at (put_moves a s j x me.0 r f.there f room') has (λ k. refl)
          (subst (IsGood a j) (sym (put_table a s j x me.0 r f.there f room')) (r.good j f.there)) (subst (λ (t : Shown). AreFormed a j 0 t.rows) (sym (put_table a s j x me.0 r f.there f room')) (r.formed j f.there)) (put_knows a s j x me.0 r f.there f room' is mine)),
      (refl, refl),
    )

-- K6 and K7. A store at the head of scope j
module _ (a : About) (s : St) (j x : ℕ) (v : View) (t : Shown) (r : IsKept a s) (cells_are : t.cells ≡ (shown_at v j).cells) (f : Fills a s.words v j) (going : (shown_at v j).complete ≡ false) (is : v.rights ≡ j ∷ []) where
  abbrev headed : List ℕ
  headed = set s.words j x

  low : scopes a ≤ base a j
  low = let l = f.there in let u = r.laid.up 0 j (omega arith) (omega arith) in let z = r.laid.first in omega arith

  wide_enough : j < length s.words
  wide_enough = let l = f.there in let u = r.laid.up j (scopes a) (omega arith) (omega arith) in let z = low in let w = r.wide in omega arith

  rows_stay : (b n : ℕ) → j < b → rows_at headed b n ≡ rows_at s.words b n
  rows_stay b n h = rows_at-same s.words headed b n (λ p lo hi. get_or-set_other s.words j p x 0 (λ e. omega arith))

  cells_stay : words_at headed (mid a j) (width a j) ≡ words_at s.words (mid a j) (width a j)
  cells_stay = let z = low in let g = (r.good j f.there).room in words_at-same s.words headed (mid a j) (width a j) (λ p lo hi. get_or-set_other s.words j p x 0 (λ e. omega arith))

  head_moves : Begins (shown_at v j).rows t.rows → table_at a headed j ≡ t → Moves a s.words headed j
  head_moves more new = record {
    wide = length-set s.words j x;
    heads = λ k lk n. get_or-set_other s.words j k x 0 n;
    others = λ k p lk n lo hi. let z = low in let l = f.there in let u = r.laid.up 0 k (omega arith) (omega arith) in let z0 = r.laid.first in get_or-set_other s.words j p x 0 (λ e. omega arith);
    grows = subst (λ (y : Shown × Shown). IsBefore y.0 y.1) (λ i. (sym f.same i, sym new i)) record { rows = more; cells = λ c h. ap (λ (cs : List ℕ). get_or cs c 0) cells_are; done = λ d. absurd (true≢false (sym d ∙ going)) };
  }

  -- the view that has seen it, with these words put
  abbrev headed_view : List ℕ → View
  headed_view ws = record { about = v.about; rights = v.rights; seen = set v.seen j t; put = ws; loads = v.loads; looks = v.looks }

  head_knows : (ws : List ℕ) → Begins (shown_at v j).rows t.rows → table_at a headed j ≡ t → ws ≡ [] → IsGood a j t → ((c : ℕ) → 8 * get_or t.cells c 0 ≤ 8 * length t.rows + length ws) → Knows a s.words v → Knows a headed (headed_view ws)
  head_knows ws more new none_put good of_rows known = let l = f.there in let wide = known.wide in let sees_it : shown_at (headed_view ws) j ≡ t = get_or-set_same v.seen j t nothing (omega arith) in record {
    about = known.about;
    wide = length-set v.seen j t ∙ known.wide;
    seen = λ k lk. dite (ℕ_discrete k j) (λ e. subst (λ (z : ℕ). IsBefore (shown_at (headed_view ws) z) (table_at a headed z)) (sym e) (subst (λ (y : Shown × Shown). IsBefore y.0 y.1) (λ i. (sym sees_it i, sym new i)) (before_refl t)))
        (λ n. subst (λ (y : Shown). IsBefore y (table_at a headed k)) (sym (get_or-set_other v.seen j k t nothing n)) (seen_moves a s.words headed j (shown_at v) (head_moves more new) r.good known.seen k lk));
    looks = looks_move a s.words headed j v.looks (head_moves more new) r.good known.looks;
    fills = λ k has. let e = only k j v is has in subst (Fills a headed (headed_view ws)) (sym e) record {
      there = l;
      same = new ∙ sym sees_it;
      put = subst (Stand headed (base a j + 8 * (get_or headed j 0 / 2))) (sym none_put) (λ q lt. absurd (omega arith));
      cells = subst (λ (y : Shown). (c : ℕ) → 8 * get_or y.cells c 0 ≤ 8 * length y.rows + length ws) (sym sees_it) of_rows;
      room = let g = good.room in let n : get_or headed j 0 / 2 ≡ length t.rows = sym (length-rows_at headed (base a j) (get_or headed j 0 / 2)) ∙ ap (λ (y : Shown). length y.rows) new in
          let z : length ws ≡ 0 = ap length none_put in omega arith;
    };
  }

got_before : (xs ys : List Row) (k : ℕ) → k < length xs → slice_get (xs ++ ys) k ≡ slice_get xs k
got_before [] ys k h = absurd (omega arith)
got_before (x ∷ xs) ys zero h = refl
got_before (x ∷ xs) ys (suc k) h = got_before xs ys k (omega arith)

got_behind : (xs ys : List Row) (k : ℕ) → slice_get (xs ++ ys) (length xs + k) ≡ slice_get ys k
got_behind [] ys k = ap (slice_get ys) (omega arith)
got_behind (x ∷ xs) ys k = ap (slice_get (x ∷ (xs ++ ys))) (let e : suc (length xs) + k ≡ suc (length xs + k) = omega arith in e) ∙ got_behind xs ys k

-- rows that are formed, and more behind them
formed_more : (a : About) (j : ℕ) (xs ys : List Row) → AreFormed a j 0 xs → AreFormed a j (length xs) ys → AreFormed a j 0 (xs ++ ys)
formed_more a j xs ys p q k r e = elim (dec_le (length xs) k) [
  | yes d ↦ let at : length xs + (k - length xs) ≡ k = omega arith in
      subst (λ (z : ℕ). IsWellFormed (length (texts_in a).names) (at_place j z) r) (at ∙ sym (zero-add k)) (q (k - length xs) r (sym (got_behind xs ys (k - length xs)) ∙ (ap (slice_get (xs ++ ys)) at ∙ e)))
  | no d ↦ p k r (sym (got_before xs ys k (omega arith)) ∙ e)
]

pub shows_rows : (a : About) (slots id : ℕ) (me : Sat) (j m x : ℕ) → me.0.rights ≡ j ∷ [] → (shown_at me.0 j).complete ≡ false → length me.0.put ≡ 8 * m → x ≡ 2 * (length (shown_at me.0 j).rows + m) → IsFair a j (grown me.0 j).rows false → IsIndexed (width a j) (grown me.0 j).rows (grown me.0 j).cells → AreFormed a j (length (shown_at me.0 j).rows) (rows_of me.0.put)
    → Allows (IsKept a) slots id me j (λ _. x) (λ _. rows_shown (step slots j x 0 none) me x)
shows_rows a slots id me j m x is going len is_x fair index put_formed s r _ at _ =
    let mine = r.knows id me.0 at in let f = mine.fills j (has_one j me.0 is) in let t : Shown = grown me.0 j in let c : ℕ = get_or s.words j 0 / 2 in
    let n : length (shown_at me.0 j).rows ≡ c = ap (λ (t : Shown). length t.rows) (sym f.same) ∙ length-rows_at s.words (base a j) c in
    let half : x / 2 ≡ c + m = omega arith in let even : x % 2 ≡ 0 = omega arith in let l = f.there in let z = low a s j x me.0 t r refl f going is in
    let old : rows_at s.words (base a j) c ≡ (shown_at me.0 j).rows = ap (λ (t : Shown). t.rows) f.same in
    let rows : rows_at (set s.words j x) (base a j) (x / 2) ≡ (shown_at me.0 j).rows ++ rows_of me.0.put = ap (rows_at (set s.words j x) (base a j)) half ∙ (rows_stay a s j x me.0 t r refl f going is (base a j) (c + m) (omega arith)
    ∙ (rows_at-more s.words (base a j) c m ∙ (λ i. old i ++ rows_at-words s.words (base a j + 8 * c) m me.0.put len f.put i))) in
    let word : get_or (set s.words j x) j 0 ≡ x = get_or-set_same s.words j x 0 (wide_enough a s j x me.0 t r refl f going is) in
    let new : table_at a (set s.words j x) j ≡ t = ap (λ (y : ℕ). record { rows = rows_at (set s.words j x) (base a j) (y / 2); complete = is_odd y; cells = words_at (set s.words j x) (mid a j) (width a j) }) word ∙ (λ i. record { rows = rows i; complete = eqb (even i) 1; cells = (cells_stay a s j x me.0 t r refl f going is ∙ ap (λ (t : Shown). t.cells) f.same) i }) in
    let more : Begins (shown_at me.0 j).rows t.rows = (rows_of me.0.put, refl) in
    let many : length t.rows ≡ c + m = length-append (shown_at me.0 j).rows (rows_of me.0.put) ∙ (λ i. n i + (ap length (sym (rows_at-words s.words (base a j + 8 * c) m me.0.put len f.put)) ∙ length-rows_at s.words (base a j + 8 * c) m) i) in
    let good : IsGood a j t = record { room = let room = f.room in omega arith; behind = (r.good j l).behind; many = ap (λ (t : Shown). length t.cells) (sym f.same) ∙ (r.good j l).many; fair = fair; index = index; one = subst (λ (y : Shown). HasOneEach y.cells) f.same (r.good j l).one; ordinals = subst (λ (y : Shown). (c : ℕ) → base a j + 8 * get_or y.cells c 0 ≤ mid a j) f.same (r.good j l).ordinals } in
    let formed : AreFormed a j 0 t.rows = formed_more a j (shown_at me.0 j).rows (rows_of me.0.put) (subst (λ (y : Shown). AreFormed a j 0 y.rows) f.same (r.formed j l)) put_formed in
    let of_rows : (c : ℕ) → 8 * get_or t.cells c 0 ≤ 8 * length t.rows + 0 = (λ q. let o = f.cells q in omega arith) in (
      shows me.0 j,
      keeps,
      tt,
      store_step a s j x id j me.1 me.0 (shows me.0 j) r at (head_moves a s j x me.0 t r refl f going is more new) (has_one j me.0 is) (λ k. refl) (subst (IsGood a j) (sym new) good) (subst (λ (y : Shown). AreFormed a j 0 y.rows) (sym new) formed) (head_knows a s j x me.0 t r refl f going is [] more new refl good of_rows mine),
      (refl, refl),
    )

pub seals_scope : (a : About) (slots id : ℕ) (me : Sat) (j x : ℕ) → me.0.rights ≡ j ∷ [] → (shown_at me.0 j).complete ≡ false → me.0.put ≡ [] → x ≡ 2 * length (shown_at me.0 j).rows + 1 → IsFair a j (ended me.0 j).rows true
    → Allows (IsKept a) slots id me j (λ _. x) (λ _. is_sealed (step slots j x 0 none) me x)
seals_scope a slots id me j x is going none_put is_x fair s r _ at _ =
    let mine = r.knows id me.0 at in let f = mine.fills j (has_one j me.0 is) in let t : Shown = ended me.0 j in let c : ℕ = get_or s.words j 0 / 2 in
    let n : length (shown_at me.0 j).rows ≡ c = ap (λ (t : Shown). length t.rows) (sym f.same) ∙ length-rows_at s.words (base a j) c in
    let half : x / 2 ≡ c = omega arith in let odd : x % 2 ≡ 1 = omega arith in let l = f.there in let z = low a s j x me.0 t r refl f going is in
    let old : rows_at s.words (base a j) c ≡ (shown_at me.0 j).rows = ap (λ (t : Shown). t.rows) f.same in
    let rows : rows_at (set s.words j x) (base a j) (x / 2) ≡ (shown_at me.0 j).rows = ap (rows_at (set s.words j x) (base a j)) half ∙ (rows_stay a s j x me.0 t r refl f going is (base a j) c (omega arith) ∙ old) in
    let word : get_or (set s.words j x) j 0 ≡ x = get_or-set_same s.words j x 0 (wide_enough a s j x me.0 t r refl f going is) in
    let new : table_at a (set s.words j x) j ≡ t = ap (λ (y : ℕ). record { rows = rows_at (set s.words j x) (base a j) (y / 2); complete = is_odd y; cells = words_at (set s.words j x) (mid a j) (width a j) }) word ∙ (λ i. record { rows = rows i; complete = eqb (odd i) 1; cells = (cells_stay a s j x me.0 t r refl f going is ∙ ap (λ (t : Shown). t.cells) f.same) i }) in
    let more : Begins (shown_at me.0 j).rows t.rows = ([], append-nil t.rows) in let good : IsGood a j t = record { room = let room = (r.good j l).room in let q = length-rows_at s.words (base a j) c in omega arith; behind = (r.good j l).behind; many = ap (λ (t : Shown). length t.cells) (sym f.same) ∙ (r.good j l).many; fair = fair; index = λ i lt. subst (λ (y : Shown). IsIndexed (width a j) y.rows y.cells) f.same (r.good j l).index i lt; one = subst (λ (y : Shown). HasOneEach y.cells) f.same (r.good j l).one; ordinals = subst (λ (y : Shown). (c : ℕ) → base a j + 8 * get_or y.cells c 0 ≤ mid a j) f.same (r.good j l).ordinals } in (
      seals me.0 j,
      keeps,
      tt,
      store_step a s j x id j me.1 me.0 (seals me.0 j) r at (head_moves a s j x me.0 t r refl f going is more new) (has_one j me.0 is) (λ k. refl) (subst (IsGood a j) (sym new) good) (subst (λ (y : Shown). AreFormed a j 0 y.rows) (sym new) (subst (λ (y : Shown). AreFormed a j 0 y.rows) f.same (r.formed j l))) (head_knows a s j x me.0 t r refl f going is me.0.put more new none_put good f.cells mine),
      (refl, refl),
    )

-- Cells are loaded and put.
use Rattle.std.proofs.Common.{◌≡◌, ◌≢◌, ℕ, zero, suc, ◌+◌, ◌*◌, ◌/◌, ◌<◌, ◌≤◌, Bool, false, List, [], ◌∷◌, length, get_or, set, sym, refl, ap, ◌∙◌, subst, arith, length-set, get_or-set_same, get_or-set_other, append-nil, true≢false}
use mathlib.Core.Logic.{dite}
use mathlib.Core.Option.{none}
use native.Mathlib.Decide.{ℕ_discrete, dec_le}
use Rattle.atomic_table.specs.Table.{step, keeps, stepped, Allows}
use Rattle.m2_base.specs.declared.rows.Row.{Row}
use Rattle.scope_table.specs.declared.view.Shown.{Shown}
use Rattle.scope_table.specs.declared.view.About.{About}
use Rattle.scope_table.specs.declared.view.View.{View}
use Rattle.m2_base.specs.declared.rows.RowKey.{RowKey}
use Rattle.scope_table.specs.Cells.{probe, seed, IsHidden, IsIndexed, IsPassed, HasOneEach, HasNoCell, Stays}
use Rattle.scope_table.specs.Rows.{rows_at, words_at}
use Rattle.scope_table.specs.Rule.{base, mid, width, scopes, is_odd, table_at, nothing, shown_at, IsBefore, IsGood, AreFormed, Fills, Knows, IsLaid, IsKept, IsSeated}
use Rattle.scope_table.proofs.Rows.{length-rows_at, rows_at-same, get_or-words_at, words_at-set}
use Rattle.scope_table.specs.Plays.{Sat, cell_loaded, marked, marks, cell_put}
use Rattle.scope_table.proofs.Frames.{St, view_step, store_step, Moves, seen_moves, looks_move, before_refl}
use Rattle.scope_table.proofs.Steps.{apart, only, has_one}
use Rattle.scope_table.proofs.Rooms.{good_set, seen_same, zero_stays}

-- A cell is loaded
pub loads_cell : (a : About) (slots id : ℕ) (me : Sat) (p : ℕ) → Allows (IsKept a) slots id me p (λ n. n) (cell_loaded (step slots p 0 0 none) me)
loads_cell a slots id me p s r _ at _ = let mine = r.knows id me.0 at in (
  me.0,
  keeps,
  tt,
  view_step a s p id me.1 me.0 me.0 r at (λ k. refl) mine,
  (
    refl,
    λ j c l lc e.
        let l' : j < scopes a = subst (λ (b : About). j < scopes b) mine.about l in let lc' : c < width a j = subst (λ (b : About). c < width b j) mine.about lc in
        let e' : p ≡ mid a j + c = e ∙ ap (λ (b : About). mid b j + c) mine.about in
        let w : get_or s.words p 0 ≡ get_or (table_at a s.words j).cells c 0 = ap (λ (q : ℕ). get_or s.words q 0) e' ∙ sym (get_or-words_at s.words (mid a j) (width a j) c lc') in record {
          filled = λ n. w ∙ (mine.seen j l').cells c n;
          mine = λ has. w ∙ ap (λ (t : Shown). get_or t.cells c 0) (mine.fills j has).same;
          ordinal = subst (λ (b : About). base b j + 8 * get_or s.words p 0 ≤ mid b j) (sym mine.about) (let o = (r.good j l').ordinals c in omega arith);
        },
  ),
)

pub reads_mid : (a : About) (mids : List ℕ) (j r : ℕ) → mids ≡ a.mids.value → r ≡ get_or mids j 0 → r ≡ mid a j
reads_mid a mids j r e h = h ∙ ap (λ (xs : List ℕ). get_or xs j 0) e

-- a cell of scope j is a word
pub cell_within : (a : About) (j c words : ℕ) → IsLaid a → j < scopes a → words ≡ base a (scopes a) → c < width a j → mid a j + c < words
cell_within a j c words laid l w h = let u = laid.up (suc j) (scopes a) (omega arith) (omega arith) in omega arith

set-past : (cs : List ℕ) (c x : ℕ) → length cs ≤ c → set cs c x ≡ cs
set-past [] c x h = refl
set-past (y ∷ cs) zero x h = absurd (omega arith)
set-past (y ∷ cs) (suc c) x h = ap (λ (l : List ℕ). y ∷ l) (set-past cs c x (omega arith))

-- an empty cell is put: nothing else is lost
pub stays_set : (cs : List ℕ) (c x : ℕ) → get_or cs c 0 ≡ 0 → Stays cs (set cs c x)
stays_set cs c x e d n = get_or-set_other cs c d x 0 (λ q. n (ap (λ (z : ℕ). get_or cs z 0) q ∙ e))

passed_stays : (k : RowKey) (rows : List Row) (cs ds : List ℕ) (c : ℕ) → Stays cs ds → IsPassed k rows cs c → IsPassed k rows ds c
passed_stays k rows cs ds c st p = record {
  some = λ z. p.some (sym (st c p.some) ∙ z);
  other = λ i l e. p.other i l (sym (st c p.some) ∙ e);
}

-- what hides a row with more cells hides it without
pub hidden_stays : (w : ℕ) (k : RowKey) (i : ℕ) (rows : List Row) (cs ds : List ℕ) → Stays cs ds → IsHidden w rows ds k i → IsHidden w rows cs k i
hidden_stays w k i rows cs ds st hid d ld e run =
    let p : ℕ = probe w (seed k) d in
    hid d ld (st p (λ z. absurd (omega (arith, e, z))) ∙ e) (λ q lq. passed_stays k rows cs ds (probe w (seed k) q) st (run q lq))

pub indexed_stays : (w : ℕ) (rows : List Row) (cs ds : List ℕ) → Stays cs ds → IsIndexed w rows cs → IsIndexed w rows ds
indexed_stays w rows cs ds st ix k i first hid = ix k i first (hidden_stays w k i rows cs ds st hid)

-- one more cell, whose ordinal has none
one_set : (cs : List ℕ) (c o : ℕ) → HasOneEach cs → get_or cs c 0 ≡ 0 → HasNoCell cs o → HasOneEach (set cs c (o + 1))
one_set cs c o one empty new d e n is = dite (ℕ_discrete d c)
    (λ p. dite (ℕ_discrete e c) (λ q. q ∙ sym p) (λ q. absurd (by_new d e n is p q)))
    (λ p. dite (ℕ_discrete e c) (λ q. absurd (by_old d e n is p q)) (λ q. one d e (λ z. n (get_or-set_other cs c d (o + 1) 0 p ∙ z)) (sym (get_or-set_other cs c e (o + 1) 0 q) ∙ (is ∙ get_or-set_other cs c d (o + 1) 0 p))))
  where
    put : (k : ℕ) → k ≡ c → get_or (set cs c (o + 1)) k 0 ≢ 0 → get_or (set cs c (o + 1)) k 0 ≡ o + 1
    put k e n = elim (dec_le (length cs) c) [
      | yes far ↦ absurd (n (ap (λ (l : List ℕ). get_or l k 0) (set-past cs c (o + 1) far) ∙ (ap (λ (z : ℕ). get_or cs z 0) e ∙ empty)))
      | no near ↦ ap (λ (z : ℕ). get_or (set cs c (o + 1)) z 0) e ∙ get_or-set_same cs c (o + 1) 0 (omega arith)
    ]

    by_new : (d e : ℕ) → get_or (set cs c (o + 1)) d 0 ≢ 0 → get_or (set cs c (o + 1)) e 0 ≡ get_or (set cs c (o + 1)) d 0 → d ≡ c → e ≢ c → ⊥
    by_new d e n is p q = new e (sym (get_or-set_other cs c e (o + 1) 0 q) ∙ (is ∙ put d p n))

    by_old : (d e : ℕ) → get_or (set cs c (o + 1)) d 0 ≢ 0 → get_or (set cs c (o + 1)) e 0 ≡ get_or (set cs c (o + 1)) d 0 → d ≢ c → e ≡ c → ⊥
    by_old d e n is p q = new d (sym (get_or-set_other cs c d (o + 1) 0 p) ∙ (sym is ∙ put e q (λ z. n (sym is ∙ z))))

-- what holds of each cell, where one was put
cells_set : (P : ℕ → Type 0) (cs : List ℕ) (c x : ℕ) → ((d : ℕ) → P (get_or cs d 0)) → P x → (d : ℕ) → P (get_or (set cs c x) d 0)
cells_set P cs c x old new d = dite (ℕ_discrete d c)
    (λ e. elim (dec_le (length cs) c) [
      | yes far ↦ subst (λ (l : List ℕ). P (get_or l d 0)) (sym (set-past cs c x far)) (old d)
      | no near ↦ subst P (sym (ap (λ (z : ℕ). get_or (set cs c x) z 0) e ∙ get_or-set_same cs c x 0 (omega arith))) new
    ])
    (λ n. subst P (sym (get_or-set_other cs c d x 0 n)) (old d))

pub good_marked : (a : About) (j : ℕ) (t : Shown) (c o : ℕ) → get_or t.cells c 0 ≡ 0 → HasNoCell t.cells o → base a j + 8 * (o + 1) ≤ mid a j → IsGood a j t → IsGood a j (marked t c (o + 1))
good_marked a j t c o e new room g = record {
  room = g.room;
  behind = g.behind;
  many = length-set t.cells c (o + 1) ∙ g.many;
  fair = g.fair;
  index = indexed_stays (width a j) t.rows t.cells (set t.cells c (o + 1)) (stays_set t.cells c (o + 1) e) g.index;
  one = one_set t.cells c o g.one e new;
  ordinals = cells_set (λ y. base a j + 8 * y ≤ mid a j) t.cells c (o + 1) g.ordinals room;
}

-- An empty cell of scope j is put
module _ (a : About) (s : St) (j c x : ℕ) (v : View) (r : IsKept a s) (f : Fills a s.words v j) (lc : c < width a j) (empty : get_or (shown_at v j).cells c 0 ≡ 0) (going : (shown_at v j).complete ≡ false) (of_row : 8 * x ≤ 8 * length (shown_at v j).rows + length v.put) where
  abbrev here : ℕ
  here = mid a j + c

  abbrev after : List ℕ
  after = set s.words here x

  abbrev count : ℕ
  count = get_or s.words j 0 / 2

  room : base a j + 8 * count ≤ mid a j
  room = let g = (r.good j f.there).room in let n = length-rows_at s.words (base a j) count in omega arith

  above : scopes a ≤ base a j
  above = let l = f.there in let u = r.laid.up 0 j (omega arith) (omega arith) in let z = r.laid.first in omega arith

  inside : here < length s.words
  inside = let l = f.there in let u = r.laid.up (suc j) (scopes a) (omega arith) (omega arith) in let w = r.wide in omega arith

  head_stays : (k : ℕ) → k < scopes a → get_or after k 0 ≡ get_or s.words k 0
  head_stays k lk = let u = above in let m = room in get_or-set_other s.words here k x 0 (λ e. omega arith)

  marked_table : table_at a after j ≡ marked (shown_at v j) c x
  marked_table =
      let m = room in
      let rows : rows_at after (base a j) count ≡ rows_at s.words (base a j) count = rows_at-same s.words after (base a j) count (λ p lo hi. get_or-set_other s.words here p x 0 (λ e. omega arith)) in
      ap (λ (y : ℕ). record { rows = rows_at after (base a j) (y / 2); complete = is_odd y; cells = words_at after (mid a j) (width a j) }) (head_stays j f.there)
      ∙ (λ i. record { rows = (rows ∙ ap (λ (t : Shown). t.rows) f.same) i; complete = ap (λ (t : Shown). t.complete) f.same i; cells = (words_at-set s.words (mid a j) (width a j) c x lc inside ∙ ap (λ (t : Shown). set t.cells c x) f.same) i })

  mark_moves : Moves a s.words after j
  mark_moves = record {
    wide = length-set s.words here x;
    heads = λ k lk n. head_stays k lk;
    others = λ k p lk n lo hi. let m = room in get_or-set_other s.words here p x 0 (apart a j k here p r.laid f.there lk n (omega arith) (omega arith) lo hi);
    grows = subst (λ (y : Shown × Shown). IsBefore y.0 y.1) (λ i. (sym f.same i, sym marked_table i)) record { rows = ([], append-nil (shown_at v j).rows); cells = stays_set (shown_at v j).cells c x empty; done = λ d. absurd (true≢false (sym d ∙ going)) };
  }

  mark_knows : v.rights ≡ j ∷ [] → Knows a s.words v → Knows a after (marks v j c x)
  mark_knows is known = let l = f.there in let wide = known.wide in let t : Shown = marked (shown_at v j) c x in let sees_it : shown_at (marks v j c x) j ≡ t = get_or-set_same v.seen j t nothing (omega arith) in record {
    about = known.about;
    wide = length-set v.seen j t ∙ known.wide;
    seen = λ k lk. dite (ℕ_discrete k j) (λ e. subst (λ (z : ℕ). IsBefore (shown_at (marks v j c x) z) (table_at a after z)) (sym e) (subst (λ (y : Shown × Shown). IsBefore y.0 y.1) (λ i. (sym sees_it i, sym marked_table i)) (before_refl t)))
        (λ n. subst (λ (y : Shown). IsBefore y (table_at a after k)) (sym (get_or-set_other v.seen j k t nothing n)) (seen_moves a s.words after j (shown_at v) mark_moves r.good known.seen k lk));
    looks = looks_move a s.words after j v.looks mark_moves r.good known.looks;
    fills = λ k has. let e = only k j v is has in subst (Fills a after (marks v j c x)) (sym e) record {
      there = l;
      same = marked_table ∙ sym sees_it;
      put = λ q lt. let fits = f.room in ap (λ (y : ℕ). get_or after (base a j + 8 * (y / 2) + q) 0) (head_stays j l) ∙ (get_or-set_other s.words here (base a j + 8 * count + q) x 0 (λ e. omega arith) ∙ f.put q lt);
      room = let h = head_stays j l in subst (λ (y : ℕ). base a j + 8 * (y / 2) + length v.put ≤ mid a j) (sym h) f.room;
      cells = subst (λ (y : Shown). (q : ℕ) → 8 * get_or y.cells q 0 ≤ 8 * length y.rows + length v.put) (sym sees_it) (cells_set (λ y. 8 * y ≤ 8 * length (shown_at v j).rows + length v.put) (shown_at v j).cells c x f.cells of_row);
    };
  }

same_mark : (a b : About) (v : View) (j k c d p x : ℕ) → b ≡ a → v.rights ≡ j ∷ [] → v.rights ≡ k ∷ [] → p ≡ mid a j + c → p ≡ mid b k + d → marks v j c x ≡ marks v k d x
same_mark a b v j k c d p x about is is' e e' =
    let ej : j ≡ k = ap (λ (l : List ℕ). get_or l 0 0) (sym is ∙ is') in let m : mid a j ≡ mid b k = (let ba : a ≡ b = sym about in λ i. mid (ba i) (ej i)) in let ec : c ≡ d = omega arith in λ i. marks v (ej i) (ec i) x

pub puts_cell : (a : About) (slots id : ℕ) (me : Sat) (j c p o : ℕ) → me.0.rights ≡ j ∷ [] → (shown_at me.0 j).complete ≡ false → c < width a j → get_or (shown_at me.0 j).cells c 0 ≡ 0 → p ≡ mid a j + c
    → HasNoCell (shown_at me.0 j).cells o → 8 * (o + 1) ≤ 8 * length (shown_at me.0 j).rows + length me.0.put
    → Allows (IsKept a) slots id me p (λ _. o + 1) (λ _. cell_put (step slots p (o + 1) 0 none) me (o + 1))
puts_cell a slots id me j c p o is going lc empty at_p new of_row s r _ at _ =
    let mine = r.knows id me.0 at in let has = has_one j me.0 is in let f = mine.fills j has in let x : ℕ = o + 1 in
    let n : length (shown_at me.0 j).rows ≡ get_or s.words j 0 / 2 = ap (λ (t : Shown). length t.rows) (sym f.same) ∙ length-rows_at s.words (base a j) (get_or s.words j 0 / 2) in let room = f.room in (
      marks me.0 j c x,
      keeps,
      tt,
      subst (λ (q : ℕ). IsKept a (stepped s q x id me.1 (marks me.0 j c x) keeps)) (sym at_p)
          (store_step a s (mid a j + c) x id j me.1 me.0 (marks me.0 j c x) r at (mark_moves a s j c x me.0 r f lc empty going of_row) has (λ k. refl)
          (subst (IsGood a j) (sym (marked_table a s j c x me.0 r f lc empty going of_row)) (good_marked a j (shown_at me.0 j) c o empty new (omega arith) (subst (IsGood a j) f.same (r.good j f.there))))
          (subst (λ (t : Shown). AreFormed a j 0 t.rows) (sym (marked_table a s j c x me.0 r f lc empty going of_row)) (subst (λ (t : Shown). AreFormed a j 0 t.rows) f.same (r.formed j f.there)))
          (mark_knows a s j c x me.0 r f lc empty going of_row is mine)),
      (refl, λ k d is' e. same_mark a me.0.about me.0 j k c d p x mine.about is is' at_p e),
    )

pub seated_marks : (v : View) (scope shown waiting c o : ℕ) (closed : Bool) → IsSeated v scope shown waiting closed → get_or (shown_at v scope).cells c 0 ≡ 0 → HasNoCell (shown_at v scope).cells o → o < shown + waiting
    → IsSeated (marks v scope c (o + 1)) scope shown waiting closed
seated_marks v scope shown waiting c o closed is empty new less =
    let t : Shown = marked (shown_at v scope) c (o + 1) in let wide = is.wide in let l = is.there in let own = is.own_room in let k = is.shown_is in let w = is.waiting_is in let there : shown_at (marks v scope c (o + 1)) scope ≡ t = seen_same v.seen scope t (omega arith) in record {
      mine = is.mine;
      wide = length-set v.seen scope t ∙ is.wide;
      there = is.there;
      shown_is = is.shown_is ∙ ap (λ (y : Shown). length y.rows) (sym there);
      waiting_is = is.waiting_is;
      closed_is = is.closed_is ∙ ap (λ (y : Shown). y.complete) (sym there);
      rooms = good_set v scope t is.there is.wide is.rooms (good_marked v.about scope (shown_at v scope) c o empty new (omega arith) (is.rooms scope is.there));
      own_room = is.own_room;
      own_cells = subst (λ (y : Shown). (q : ℕ) → 8 * get_or y.cells q 0 ≤ 8 * length y.rows + length v.put) (sym there) (cells_set (λ y. 8 * y ≤ 8 * length (shown_at v scope).rows + length v.put) (shown_at v scope).cells c (o + 1) is.own_cells (omega arith));
      zero = λ n. zero_stays v scope t is.zero n;
    }

-- Rows that are put with their cells.
use Rattle.std.proofs.Common.{◌-◌, ◌/◌, ◌%◌, ◌≤◌, ◌≡◌, ◌≢◌, ℕ, zero, suc, refl, ◌+◌, ◌*◌, ◌<◌, List, [], ◌∷◌, ◌++◌, Some, None, length, get_or, set, sym, ap, ◌∙◌, subst, ⊎_elim, arith, length-append, get_or-set_same, get_or-set_other}
use lib.ListN.{get_or-append}
use lib.Seq.{get_or-append_seam}
use Rattle.std.proofs.Math.Nat.{mod-lt, mod-eq_of_lt, add-mod_right, mod-add-div, mul-add-mod_self_left}
use mathlib.Core.Logic.{dite, ◌⊎◌, inl, inr}
use native.Mathlib.Decide.{ℕ_discrete, dec_le}
use Rattle.m2_base.specs.declared.rows.Row.{Row}
use Rattle.m2_base.specs.Keys.{row_key}
use Rattle.m2_base.specs.declared.rows.RowKey.{RowKey}
use Rattle.m2_base.proofs.NoRepeats.{some_is}
use Rattle.scope_table.specs.Cells.{home, probe, seed, HasNoCell, HasOneEach, IsAmong, IsFirstEmpty, IsFirstOf, IsFull, IsHidden, IsIndexed, IsPassed, Stays}
use Rattle.scope_table.specs.Rows.{words_of, blank, row_of, rows_of}
use Rattle.scope_table.specs.Rule.{shown_at, nothing, Begins}
use Rattle.scope_table.specs.declared.view.Shown.{Shown}
use Rattle.scope_table.specs.declared.view.View.{View}
use Rattle.scope_table.specs.Plays.{puts, grown, marked, marks, HasPut}
use Rattle.scope_table.proofs.Cells.{hidden_stays, stays_set}

row-before : (rows : List Row) (row : Row) (i : ℕ) → i < length rows → row_of (rows ++ row ∷ []) i ≡ row_of rows i
row-before rows row i l = get_or-append rows (row ∷ []) blank i l

pub row-last : (rows : List Row) (row : Row) → row_of (rows ++ row ∷ []) (length rows) ≡ row
row-last rows row = get_or-append_seam rows row [] blank

-- ** A row more

module _ (rows : List Row) (row : Row) where
  abbrev all : List Row
  all = rows ++ row ∷ []

  -- the first of a key is so among fewer rows
  first_stays : (k : RowKey) (i : ℕ) → IsFirstOf k all i → i ≢ length rows → IsFirstOf k rows i
  first_stays k i f n =
      let len : length all ≡ length rows + 1 = length-append rows (row ∷ []) in
      let l : i < length rows = (let w = f.within in omega (arith, len, w, n)) in record {
        within = l;
        keyed = ap row_key (sym (row-before rows row i l)) ∙ f.keyed;
        before = λ j lj e. f.before j lj (ap row_key (row-before rows row j (omega (arith, lj, l))) ∙ e);
      }

  module _ (w : ℕ) (cs : List ℕ) (new : HasNoCell cs (length rows)) where
    passed_more : (k : RowKey) (c : ℕ) → IsPassed k rows cs c → IsPassed k all cs c
    passed_more k c p = record {
      some = p.some;
      other = λ i l e.
          let len : length all ≡ length rows + 1 = length-append rows (row ∷ []) in
          dite (ℕ_discrete i (length rows)) (λ same. absurd (new c (e ∙ ap (λ (z : ℕ). z + 1) same)))
          (λ n. let less : i < length rows = omega (arith, len, l, n) in λ key. p.other i less e (ap row_key (sym (row-before rows row i less)) ∙ key));
    }

    -- what hides a row among more rows hides it among fewer
    hidden_more : (k : RowKey) (i : ℕ) → IsHidden w all cs k i → IsHidden w rows cs k i
    hidden_more k i hid d ld e run = hid d ld e (λ q lq. passed_more k (probe w (seed k) q) (run q lq))

    -- the row isn't the first of any key
    pub indexed_more : IsIndexed w rows cs → ((k : RowKey) → IsFirstOf k all (length rows) → ⊥) → IsIndexed w all cs
    indexed_more ix none k i f hid = dite (ℕ_discrete i (length rows))
        (λ same. none k (subst (IsFirstOf k all) same f))
        (λ n. ix k i (first_stays k i f n) (hidden_more k i hid))

    -- its ordinal goes into the first empty cell from its home
    module _ (m : ℕ) (key : RowKey) (keyed : row_key row ≡ Some key) (empty : get_or cs (probe w (seed key) m) 0 ≡ 0) (run : (e : ℕ) → e < m → get_or cs (probe w (seed key) e) 0 ≢ 0) where
      abbrev marked_cells : List ℕ
      marked_cells = set cs (probe w (seed key) m) (length rows + 1)

      stays : Stays cs marked_cells
      stays = stays_set cs (probe w (seed key) m) (length rows + 1) empty

      passes : IsFirstOf key all (length rows) → (q : ℕ) → q < m → IsPassed key all marked_cells (probe w (seed key) q)
      passes first q lq =
          let there : get_or marked_cells (probe w (seed key) q) 0 ≡ get_or cs (probe w (seed key) q) 0 = stays (probe w (seed key) q) (run q lq) in record {
            some = λ z. run q lq (sym there ∙ z);
            other = λ j l e.
                let len : length all ≡ length rows + 1 = length-append rows (row ∷ []) in
                dite (ℕ_discrete j (length rows)) (λ same. absurd (new (probe w (seed key) q) (sym there ∙ e ∙ ap (λ (z : ℕ). z + 1) same)))
                (λ n. first.before j (omega (arith, len, l, n)));
          }

      found_there : m < w → probe w (seed key) m < length cs → (k : RowKey) → IsFirstOf k all (length rows) → IsHidden w all marked_cells k (length rows) → ⊥
      found_there lm inside k first hidden =
          let same : k ≡ key = some_is k key (sym first.keyed ∙ ap row_key (row-last rows row) ∙ keyed) in
          subst (λ (z : RowKey). IsHidden w all marked_cells z (length rows)) same hidden m lm (get_or-set_same cs (probe w (seed key) m) (length rows + 1) 0 inside)
          (passes (subst (λ (z : RowKey). IsFirstOf z all (length rows)) same first))

      pub indexed_put : IsIndexed w rows cs → m < w → probe w (seed key) m < length cs → IsIndexed w all marked_cells
      indexed_put ix lm inside k i f hid = dite (ℕ_discrete i (length rows))
          (λ same. found_there lm inside k (subst (IsFirstOf k all) same f) (subst (IsHidden w all marked_cells k) same hid))
          (λ n. ix k i (first_stays k i f n) (hidden_more k i (hidden_stays w k i all cs marked_cells stays hid)))

-- a row without a key is the first of none
pub no_key : (rows : List Row) (row : Row) → row_key row ≡ None → (k : RowKey) → IsFirstOf k (rows ++ row ∷ []) (length rows) → ⊥
no_key rows row none k f = let e : None ≡ Some k = sym none ∙ ap row_key (sym (row-last rows row)) ∙ f.keyed in cc

get_or-behind : (xs ys : List Row) (k : ℕ) → row_of (xs ++ ys) (length xs + k) ≡ row_of ys k
get_or-behind [] ys k = ap (row_of ys) (omega arith)
get_or-behind (x ∷ xs) ys k = ap (row_of (x ∷ (xs ++ ys))) (let e : suc (length xs) + k ≡ suc (length xs + k) = omega arith in e) ∙ get_or-behind xs ys k

-- a row whose key is that of one that was put before isn't the first
pub second_key : (shown put before : List Row) (row : Row) (key : RowKey) → Begins before put → IsAmong key before → row_key row ≡ Some key → (k : RowKey) → IsFirstOf k ((shown ++ put) ++ row ∷ []) (length (shown ++ put)) → ⊥
second_key shown put before row key front among keyed k f =
    let j : ℕ = among.0 in
    let less : j < length put = (let e : length before + length front.0 ≡ length put = sym (length-append before front.0) ∙ ap length front.1 in let l = among.1 in omega (arith, e, l)) in
    let within : length shown + j < length (shown ++ put) = (let e = length-append shown put in omega (arith, e, less)) in
    let row_is : row_of ((shown ++ put) ++ row ∷ []) (length shown + j) ≡ row_of before j =
    row-before (shown ++ put) row (length shown + j) within ∙ get_or-behind shown put j
    ∙ ap (λ (rows : List Row). row_of rows j) (sym front.1) ∙ get_or-append before front.0 blank j among.1 in
    let same : k ≡ key = some_is k key (sym f.keyed ∙ ap row_key (row-last (shown ++ put) row) ∙ keyed) in
    f.before (length shown + j) within (ap row_key row_is ∙ among.2 ∙ ap (λ (z : RowKey). Some z) (sym same))

-- the index of a scope with a row more, and its cell
pub keyed_put : (u : View) (j c w : ℕ) (rows : List Row) (row : Row) (key : RowKey) → (grown u j).rows ≡ rows ++ row ∷ [] → j < length u.seen → length (shown_at u j).cells ≡ w → HasNoCell (shown_at u j).cells (length rows) → row_key row ≡ Some key
    → IsIndexed w rows (shown_at u j).cells → IsFirstEmpty w (seed key) c (shown_at u j).cells → 0 < w
    → IsIndexed w (grown (marks u j c (length rows + 1)) j).rows (grown (marks u j c (length rows + 1)) j).cells
keyed_put u j c w rows row key more l many new keyed ix f pos =
    let t : Shown = marked (shown_at u j) c (length rows + 1) in let there : shown_at (marks u j c (length rows + 1)) j ≡ t = get_or-set_same u.seen j t nothing l in
    let cell : c ≡ probe w (seed key) f.distance = f.is in let b = mod-lt (home w (seed key) + f.distance) pos in
    let cells : set (shown_at u j).cells (probe w (seed key) f.distance) (length rows + 1) ≡ (shown_at (marks u j c (length rows + 1)) j).cells = (λ i. set (shown_at u j).cells (sym cell i) (length rows + 1)) ∙ ap (λ (y : Shown). y.cells) (sym there) in
    let all_rows : rows ++ row ∷ [] ≡ (grown (marks u j c (length rows + 1)) j).rows = sym more ∙ ap (λ (y : Shown). y.rows ++ rows_of u.put) (sym there) in
    subst (λ (z : List Row × List ℕ). IsIndexed w z.0 z.1) (λ i. (all_rows i, cells i))
    (indexed_put rows row w (shown_at u j).cells new f.distance key keyed (ap (λ (z : ℕ). get_or (shown_at u j).cells z 0) (sym cell) ∙ f.empty) f.run ix f.less (omega arith))

pub grown_marked : (u : View) (j c x : ℕ) → j < length u.seen → (grown (marks u j c x) j).rows ≡ (grown u j).rows
grown_marked u j c x l = ap (λ (y : Shown). y.rows ++ rows_of u.put) (get_or-set_same u.seen j (marked (shown_at u j) c x) nothing l)

-- what else a row with its cell leaves
pub put_marked : (v : View) (j c x : ℕ) (r : Row) → j < length v.seen → HasPut v (marks (puts v (words_of r)) j c x) j r
put_marked v j c x r l = let there : shown_at (marks (puts v (words_of r)) j c x) j ≡ marked (shown_at v j) c x = get_or-set_same v.seen j (marked (shown_at v j) c x) nothing l in record {
  about = refl;
  rights = refl;
  put = refl;
  loads = refl;
  looks = refl;
  rows = ap (λ (y : Shown). y.rows) there;
  mark = ap (λ (y : Shown). y.complete) there;
  others = λ k n. get_or-set_other v.seen j k (marked (shown_at v j) c x) nothing n;
}

-- ** A scope has more cells than rows, so one is empty

abbrev pub one : ℕ → ℕ
one zero = 0
one (suc n) = 1

-- how many of the cells aren't empty
abbrev pub filled : List ℕ → ℕ
filled [] = 0
filled (x ∷ xs) = one x + filled xs

one-less : (n : ℕ) → one n ≤ 1
one-less zero = omega arith
one-less (suc n) = omega arith

filled-cleared : (cs : List ℕ) (c : ℕ) → filled cs ≤ filled (set cs c 0) + 1
filled-cleared [] c = omega arith
filled-cleared (y ∷ ys) zero = let a = one-less y in omega arith
filled-cleared (y ∷ ys) (suc c) = let r = filled-cleared ys c in omega arith

filled-none : (cs : List ℕ) → ((c : ℕ) → get_or cs c 0 ≤ 0) → filled cs ≡ 0
filled-none [] h = refl
filled-none (zero ∷ ys) h = let r = filled-none ys (λ c. h (suc c)) in omega arith
filled-none (suc y ∷ ys) h = let z = h 0 in absurd (omega arith)

find : (x : ℕ) (cs : List ℕ) → ((c : ℕ) × (c < length cs) × (get_or cs c 0 ≡ x)) ⊎ ((c : ℕ) → c < length cs → get_or cs c 0 ≢ x)
find x [] = inr (λ c l. absurd (omega arith))
find x (y ∷ ys) = dite (ℕ_discrete y x) (λ e. inl (0, omega arith, e)) (λ n. next n (find x ys))
  where
    next : y ≢ x → ((c : ℕ) × (c < length ys) × (get_or ys c 0 ≡ x)) ⊎ ((c : ℕ) → c < length ys → get_or ys c 0 ≢ x) → ((c : ℕ) × (c < length (y ∷ ys)) × (get_or (y ∷ ys) c 0 ≡ x)) ⊎ ((c : ℕ) → c < length (y ∷ ys) → get_or (y ∷ ys) c 0 ≢ x)
    next n (inl f) = inl (suc f.0, (let l = f.1 in omega arith), f.2)
    next n (inr g) = inr (λ c l. by c l)
      where
        by : (c : ℕ) → c < length (y ∷ ys) → get_or (y ∷ ys) c 0 ≢ x
        by zero l = n
        by (suc c) l = g c (omega arith)

past : (cs : List ℕ) (c : ℕ) → length cs ≤ c → get_or cs c 0 ≡ 0
past [] c h = refl
past (y ∷ cs) zero h = absurd (omega arith)
past (y ∷ cs) (suc c) h = past cs c (omega arith)

below : (x m : ℕ) → x ≤ suc m → x ≢ suc m → x ≤ m
below x m l d = dite (ℕ_discrete x (suc m)) (λ e. absurd (d e)) (λ k. omega arith)

-- where the ordinal n is in a cell, that cell is cleared
cleared : (n : ℕ) (cs : List ℕ) (c : ℕ) → HasOneEach cs → ((d : ℕ) → get_or cs d 0 ≤ suc n) → c < length cs → get_or cs c 0 ≡ suc n → HasOneEach (set cs c 0) × ((d : ℕ) → get_or (set cs c 0) d 0 ≤ n)
cleared n cs c each le l at = let same : get_or (set cs c 0) c 0 ≡ 0 = get_or-set_same cs c 0 0 l in (
  λ d e m is. dite (ℕ_discrete d c) (λ q. absurd (m (ap (λ (z : ℕ). get_or (set cs c 0) z 0) q ∙ same)))
      (λ q. dite (ℕ_discrete e c) (λ p. absurd (m (sym is ∙ (ap (λ (z : ℕ). get_or (set cs c 0) z 0) p ∙ same))))
      (λ p. each d e (λ z. m (get_or-set_other cs c d 0 0 q ∙ z)) (sym (get_or-set_other cs c e 0 0 p) ∙ (is ∙ get_or-set_other cs c d 0 0 q)))),
  λ d. dite (ℕ_discrete d c) (λ q. let z : get_or (set cs c 0) d 0 ≡ 0 = ap (λ (k : ℕ). get_or (set cs c 0) k 0) q ∙ same in omega arith)
      (λ q. let z : get_or (set cs c 0) d 0 ≡ get_or cs d 0 = get_or-set_other cs c d 0 0 q in
      let m = below (get_or cs d 0) n (le d) (λ p. q (each c d (λ y. absurd (omega arith)) (p ∙ sym at))) in omega arith),
)

-- different ordinals below n are in n cells at most
few : (n : ℕ) (cs : List ℕ) → HasOneEach cs → ((c : ℕ) → get_or cs c 0 ≤ n) → filled cs ≤ n
few zero cs each le = let e = filled-none cs le in omega arith
few (suc n) cs each le = ⊎_elim
    (λ (f : (c : ℕ) × (c < length cs) × (get_or cs c 0 ≡ suc n)). let k = cleared n cs f.0 each le f.1 f.2 in let r = few n (set cs f.0 0) k.0 k.1 in let s = filled-cleared cs f.0 in omega arith)
    (λ (none : (c : ℕ) → c < length cs → get_or cs c 0 ≢ suc n).
    let r = few n cs each (λ c. elim (dec_le (length cs) c) [ yes far ↦ (let e = past cs c far in omega arith) | no near ↦ below (get_or cs c 0) n (le c) (none c (omega arith)) ]) in omega arith)
    (find (suc n) cs)

some_empty : (cs : List ℕ) → filled cs < length cs → (c : ℕ) × (c < length cs) × (get_or cs c 0 ≡ 0)
some_empty [] h = absurd (omega arith)
some_empty (zero ∷ ys) h = (0, omega arith, refl)
some_empty (suc y ∷ ys) h = let r = some_empty ys (omega arith) in (suc r.0, (let l = r.1 in omega arith), r.2)

-- each cell is some way from home
reaches : (w h p m c : ℕ) → m + p ≡ h → ((k : ℕ) → (p + k) % w ≡ k % w) → m < w → c < w → (d : ℕ) × (d < w) × ((h + d) % w ≡ c)
reaches w h p m c e per lm lc = elim (dec_le m c) [
  | yes le ↦ let same : h + (c - m) ≡ p + c = omega arith in (c - m, omega arith, ap (λ (z : ℕ). z % w) same ∙ (per c ∙ mod-eq_of_lt lc))
  | no n ↦ let same : h + (c + w - m) ≡ p + (c + w) = omega arith in (c + w - m, omega arith, ap (λ (z : ℕ). z % w) same ∙ (per (c + w) ∙ (add-mod_right c w ∙ mod-eq_of_lt lc)))
]

-- where fewer ordinals are in cells than there are cells, probing meets an empty one
pub not_full : (w x n : ℕ) (cs : List ℕ) → length cs ≡ w → n < w → HasOneEach cs → ((c : ℕ) → get_or cs c 0 ≤ n) → IsFull w x cs → ⊥
not_full w x n cs len less each le full =
    let pos : 0 < w = omega arith in let some = few n cs each le in let free = some_empty cs (omega arith) in let lc = free.1 in let h : ℕ = home w x in
    let d = reaches w h (w * (h / w)) (h % w) free.0 (mod-add-div h w) (λ k. mul-add-mod_self_left w (h / w) k) (mod-lt h pos) (omega arith) in full d.0 d.1 (ap (λ (z : ℕ). get_or cs z 0) d.2 ∙ free.2)

-- A table at its start.
use Rattle.std.proofs.Common.{◌≡◌, ℕ, zero, suc, ◌+◌, ◌-◌, ◌*◌, ◌/◌, ◌^◌, ◌<◌, ◌≤◌, max, Bool, true, false, cond, ltb, eqb, Some, List, [], ◌∷◌, ◌++◌, length, slice_get, take, drop, replicate, get_or, sym, refl, ap, ◌∙◌, subst, arith, ne_eqb, eq-eqb, true≢false, zero-add}
use mathlib.Core.Logic.{dite}
use mathlib.Core.Option.{some, some-injective, some-ne-none}
use native.Mathlib.Decide.{ℕ_discrete, dec_le}
use lib.ListN.{get_elem?, length-replicate, get_or-append}
use lib.Seq.{get_or-append_seam}
use Rattle.std.proofs.Math.Nat.{pow-succ'}
use Rattle.std.proofs.Math.Pow.{pow_mono}
use Rattle.std.proofs.lemmas.Option.{none-some}
use Rattle.atomic_table.specs.Table.{opening}
use Rattle.m2_base.specs.declared.rows.Row.{Row}
use Rattle.m2_base.specs.Standard.{standard_rows}
use Rattle.m2_base.proofs.FinishedLaws.{finished-standard}
use Rattle.m2_base.proofs.StandardLaws.{HasNoRepeats-standard}
use Rattle.std.proofs.Math.Seq.{take-length}
use Rattle.scope_table.specs.Cells.{IsWidth}
use Rattle.scope_table.specs.Rows.{words_at, rows_at, row_of}
use Rattle.scope_table.specs.Rule.{shown_at, base, mid, width, scopes, is_odd, table_at, nothing, empty_at, empty_from, IsBefore, weight, times, texts_in, IsFair, IsGood, Knows, IsLaid, IsKept, IsSound, upto, first_view}
use Rattle.scope_table.specs.Opening.{IsPart, AreBases, IsEmptyStart, IsStart}
use Rattle.scope_table.specs.Plays.{first_right, other_rights, later, later_all, told_of, note_of}
use Rattle.scope_table.specs.declared.view.Shown.{Shown}
use Rattle.scope_table.specs.declared.view.About.{About}
use Rattle.scope_table.specs.declared.view.View.{View}
use Rattle.scope_table.proofs.Frames.{before_refl}
use Rattle.scope_table.proofs.Later.{length-later_all, own_stays}

-- ** Widths

halved : (n w big p : ℕ) → big ≡ 2 * p → big ≤ w → n ≤ p → 1 ≤ p → w / 2 < max 1 n → ⊥
halved n w big p e le l one up = omega arith

-- the least power of 2 from the number of cells that are needed on
pub width_is : (size n w k : ℕ) → n ≡ max (2 * size + 1) 2 → w ≡ 2 ^ k → n ≤ w → w / 2 < max 1 n → IsWidth size w
width_is size n w k is_n is_w low up = record {
  power = k;
  some = some k is_w;
  is = is_w;
  more = omega arith;
  least = λ j one over. elim (dec_le k j) [ yes d ↦ (let m = pow_mono d in omega arith) | no d ↦ absurd (tight j one over (omega arith)) ];
}
  where
    some : (k : ℕ) → w ≡ 2 ^ k → 1 ≤ k
    some zero e = absurd (omega arith)
    some (suc k) e = omega arith

    tight : (j : ℕ) → 1 ≤ j → 2 * size < 2 ^ j → suc j ≤ k → ⊥
    tight j one over le = let m : 2 ^ suc j ≤ 2 ^ k = pow_mono le in let two : 2 ^ 1 ≤ 2 ^ j = pow_mono one in let double : 2 ^ suc j ≡ 2 * 2 ^ j = pow-succ' 2 j in halved n w (2 ^ suc j) (2 ^ j) double (omega arith) (omega arith) (omega arith) up

-- ** Bases

pub bases_up : (bs ms sizes : List ℕ) (i j : ℕ) → AreBases bs ms sizes → i ≤ j → j ≤ length sizes → get_or bs i 0 ≤ get_or bs j 0
bases_up bs ms sizes i zero h le l = let e : i ≡ 0 = omega arith in omega (arith, ap (λ (k : ℕ). get_or bs k 0) e)
bases_up bs ms sizes i (suc j) h le l = dite (ℕ_discrete i (suc j)) (λ e. omega (arith, ap (λ (k : ℕ). get_or bs k 0) e))
    (λ n. let r = bases_up bs ms sizes i j h (omega arith) (omega arith) in let p = h.parts j (omega arith) in let e = p.room in let b = p.behind in omega arith)

module _ (a : About) (sizes : List ℕ) (h : AreBases a.bases.value a.mids.value sizes) where
  pub laid_out : 0 < length sizes → IsLaid a
  laid_out l = let m = h.many in let f = h.first in record { some_scope = omega arith; first = omega arith; up = λ i j le lj. bases_up a.bases.value a.mids.value sizes i j h le (omega arith) }

  pub all_mids : length a.mids.value ≡ scopes a
  all_mids = let m = h.many in let e = h.all in omega arith

  pub behind : (j : ℕ) → j < scopes a → mid a j < base a (suc j)
  behind j l = let m = h.many in (h.parts j (omega arith)).behind

  pub narrow : (j : ℕ) → j < scopes a → width a j ≤ 4294967296
  narrow j l = let m = h.many in let n = (h.parts j (omega arith)).narrow in omega arith

  pub few : (j : ℕ) → j < scopes a → mid a j < base a j + 8 * width a j
  few j l = let m = h.many in let r = (h.parts j (omega arith)).room in let w = (h.parts j (omega arith)).width.more in omega arith

  pub small : base a (scopes a) < 9223372036854775808
  small = let m = h.many in let s = h.small in let e : scopes a ≡ length sizes = omega arith in omega (arith, ap (λ (k : ℕ). base a k) e)

-- one scope more is laid
pub parts_more : (bs ms sizes : List ℕ) (n m e : ℕ) → length bs ≡ n + 1 → length ms ≡ n → ((k : ℕ) → k < n → IsPart (get_or sizes k 0) (get_or bs k 0) (get_or ms k 0) (get_or bs (suc k) 0)) → IsPart (get_or sizes n 0) (get_or bs n 0) m e
    → (k : ℕ) → k < n + 1 → IsPart (get_or sizes k 0) (get_or (bs ++ e ∷ []) k 0) (get_or (ms ++ m ∷ []) k 0) (get_or (bs ++ e ∷ []) (suc k) 0)
parts_more bs ms sizes n m e lb lm old new k l =
    let before : get_or (bs ++ e ∷ []) k 0 ≡ get_or bs k 0 = get_or-append bs (e ∷ []) 0 k (omega arith) in dite (ℕ_discrete k n)
    (λ q. let at_m : get_or (ms ++ m ∷ []) k 0 ≡ m = ap (λ (z : ℕ). get_or (ms ++ m ∷ []) z 0) (q ∙ sym lm) ∙ get_or-append_seam ms m [] 0 in
    let at_e : get_or (bs ++ e ∷ []) (suc k) 0 ≡ e = ap (λ (z : ℕ). get_or (bs ++ e ∷ []) z 0) (let f : suc k ≡ length bs = omega arith in f) ∙ get_or-append_seam bs e [] 0 in
    subst (λ (z : (ℕ × ℕ) × (ℕ × ℕ)). IsPart z.0.0 z.0.1 z.1.0 z.1.1) (λ i. ((ap (λ (y : ℕ). get_or sizes y 0) (sym q) i, (ap (λ (y : ℕ). get_or bs y 0) (sym q) ∙ sym before) i), (sym at_m i, sym at_e i))) new)
    (λ q. let at_m : get_or (ms ++ m ∷ []) k 0 ≡ get_or ms k 0 = get_or-append ms (m ∷ []) 0 k (omega arith) in
    let at_e : get_or (bs ++ e ∷ []) (suc k) 0 ≡ get_or bs (suc k) 0 = get_or-append bs (e ∷ []) 0 (suc k) (omega arith) in
    subst (λ (z : ℕ × (ℕ × ℕ)). IsPart (get_or sizes k 0) z.0 z.1.0 z.1.1) (λ i. (sym before i, (sym at_m i, sym at_e i))) (old k (omega arith)))

-- ** Empty scopes

pub zeros : (n k : ℕ) → ◌≡◌ {A = ℕ} (get_or (replicate n 0) k 0) 0
zeros zero k = refl
zeros (suc n) zero = refl
zeros (suc n) (suc k) = zeros n k

zeros_at : (ws : List ℕ) (b n : ℕ) → ((p : ℕ) → get_or ws p 0 ≡ 0) → words_at ws b n ≡ replicate n 0
zeros_at ws b zero h = refl
zeros_at ws b (suc n) h = let x : get_or ws b 0 ≡ 0 = h b in let z : words_at ws (b + 1) n ≡ replicate n 0 = zeros_at ws (b + 1) n h in λ k. x k ∷ z k

no_row : (i : ℕ) (x : Row) → slice_get [] i ≡ Some x → ⊥
no_row i x e = none-some x e

pub good_empty : (a : About) (j : ℕ) → base a j ≤ mid a j → mid a j < base a (suc j) → IsGood a j (empty_at a j)
good_empty a j room after = record {
  room = omega arith;
  behind = after;
  many = length-replicate (width a j) 0;
  fair = record {
    once = λ i k x y l e. absurd (no_row i x e);
    begun = λ finished told. refl;
    whole = λ c. absurd (true≢false (sym c));
  };
  index = λ k i f. let w = f.within in absurd (omega (arith, w));
  one = λ c d n. absurd (n (zeros (width a j) c));
  ordinals = λ c. let z = zeros (width a j) c in omega arith;
}

empties : (a : About) (i n j : ℕ) → j < n → get_or (empty_from a i n) j nothing ≡ empty_at a (i + j)
empties a i zero j l = absurd (omega arith)
empties a i (suc n) zero l = ap (empty_at a) (omega arith)
empties a i (suc n) (suc j) l = empties a (suc i) n j (omega arith) ∙ ap (empty_at a) (omega arith)

length-empty_from : (a : About) (i n : ℕ) → length (empty_from a i n) ≡ n
length-empty_from a i zero = refl
length-empty_from a i (suc n) = ap suc (length-empty_from a (suc i) n)

pub first_empty : (a : About) → IsEmptyStart a (first_view a)
first_empty a = record {
  about = refl;
  wide = length-empty_from a 0 (scopes a);
  each = λ j l. empties a 0 (scopes a) j l ∙ ap (empty_at a) (zero-add j);
  put = refl;
  loads = refl;
  looks = refl;
}

-- ** Rights

-- a scope is among these once at most
times-below : (k j n : ℕ) → k < j → times k (upto j n) ≡ 0
times-below k j zero l = refl
times-below k j (suc n) l = ap (λ b. weight b + times k (upto (suc j) n)) (ne_eqb k j (λ e. omega arith)) ∙ (let r = times-below k (suc j) n (omega arith) in omega arith)

weight-one : (b : Bool) → weight b ≤ 1
weight-one true = omega arith
weight-one false = omega arith

times-upto : (k j n : ℕ) → times k (upto j n) ≤ 1
times-upto k j zero = omega arith
times-upto k j (suc n) = dite (ℕ_discrete k j) (λ e. let r = times-below k (suc j) n (omega arith) in let w = weight-one (eqb k j) in omega arith)
    (λ ne. let w : weight (eqb k j) ≡ 0 = ap weight (ne_eqb k j ne) in let r = times-upto k (suc j) n in omega arith)

in-upto : (k j n : ℕ) → 0 < times k (upto j n) → k < j + n
in-upto k j zero h = absurd (omega arith)
in-upto k j (suc n) h = dite (ℕ_discrete k j) (λ e. omega arith) (λ ne. let w : weight (eqb k j) ≡ 0 = ap weight (ne_eqb k j ne) in let r = in-upto k (suc j) n (omega arith) in omega arith)

from-upto : (k j n : ℕ) → j ≤ k → k < j + n → 0 < times k (upto j n)
from-upto k j zero le l = absurd (omega arith)
from-upto k j (suc n) le l = dite (ℕ_discrete k j) (λ e. let w : weight (eqb k j) ≡ 1 = ap weight (eq-eqb k j e) in omega arith) (λ ne. let r = from-upto k (suc j) n (omega arith) (omega arith) in omega arith)

-- ** The rule holds at the start

only_view : (v w : View) (i : ℕ) → get_elem? (v ∷ []) i ≡ some w → v ≡ w
only_view v w zero e = some-injective v w e
only_view v w (suc i) e = absurd (some-ne-none w (sym e))

pub sound_empty : (a : About) (sizes : List ℕ) (v : View) → AreBases a.bases.value a.mids.value sizes → IsEmptyStart a v → IsSound v
sound_empty a sizes v h start j l =
    let l' : j < scopes a = subst (λ (b : About). j < scopes b) start.about l in let m = h.many in let r = (h.parts j (omega arith)).room in
    subst (λ (b : About). IsGood b j (shown_at v j)) (sym start.about) (subst (IsGood a j) (sym (start.each j l')) (good_empty a j (omega arith) (behind a sizes h j l')))

pub opens : (a : About) (sizes ws : List ℕ) → AreBases a.bases.value a.mids.value sizes → 0 < length sizes → length ws ≡ base a (scopes a) → ((p : ℕ) → get_or ws p 0 ≡ 0) → IsKept a (opening ws [] (first_view a))
opens a sizes ws h any wide clear =
    let n : ℕ = scopes a in let m = h.many in let start = first_empty a in
    let is : (j : ℕ) → table_at a ws j ≡ empty_at a j = (λ j. ap (λ (x : ℕ). record { rows = rows_at ws (base a j) (x / 2); complete = is_odd x; cells = words_at ws (mid a j) (width a j) }) (clear j) ∙ ap (λ (cs : List ℕ). record { rows = []; complete = false; cells = cs }) (zeros_at ws (mid a j) (width a j) clear)) in
    let good : (j : ℕ) → j < n → IsGood a j (table_at a ws j) = (λ j l. let r = (h.parts j (omega arith)).room in subst (IsGood a j) (sym (is j)) (good_empty a j (omega arith) (behind a sizes h j l))) in record {
      laid = laid_out a sizes h any;
      wide = wide;
      good = good;
      formed = λ j l k r e. absurd (no_row k r (ap (λ (t : Shown). slice_get t.rows k) (sym (is j)) ∙ e));
      one = λ j. let t = times-upto j 0 n in omega arith;
      knows = λ i v at. subst (Knows a ws) (only_view (first_view a) v i at) record {
        about = refl;
        wide = start.wide;
        seen = λ j l. subst (λ (t : Shown). IsBefore t (table_at a ws j)) (is j ∙ sym (start.each j l)) (before_refl (table_at a ws j));
        fills = λ j has. let l = in-upto j 0 n has in let l' : j < n = omega arith in let c = clear j in record {
          there = l';
          same = is j ∙ sym (start.each j l');
          put = λ k lt. absurd (omega arith);
          room = let g = (good j l').room in let r = (h.parts j (omega arith)).room in omega arith;
          cells = λ q. let e : get_or (shown_at (first_view a) j).cells q 0 ≡ 0 = ap (λ (t : Shown). get_or t.cells q 0) (start.each j l') ∙ zeros (width a j) q in omega arith;
        };
        looks = tt;
      };
    }

-- ** The seats

pub rest_next : (rs : List ℕ) (j n : ℕ) → j < n → rs ≡ upto j (n - j) → drop 1 rs ≡ upto (j + 1) (n - (j + 1))
rest_next rs j n l is = let e : n - j ≡ suc (n - (j + 1)) = omega arith in let f : suc j ≡ j + 1 = omega arith in
    ap (drop 1) is ∙ (ap (λ (m : ℕ). drop 1 (upto j m)) e ∙ ap (λ (q : ℕ). upto q (n - (j + 1))) f)

pub rest_first : (rs : List ℕ) (j n : ℕ) → j < n → rs ≡ upto j (n - j) → take 1 rs ≡ j ∷ []
rest_first rs j n l is = let e : n - j ≡ suc (n - (j + 1)) = omega arith in ap (take 1) is ∙ ap (λ (m : ℕ). take 1 (upto j m)) e

pub empty_first : (a : About) (v : View) → IsEmptyStart a v → IsEmptyStart a (first_right v)
empty_first a v s = record { about = s.about; wide = s.wide; each = s.each; put = refl; loads = refl; looks = refl }

pub empty_other : (a : About) (v : View) → IsEmptyStart a v → IsEmptyStart a (other_rights v)
empty_other a v s = record { about = s.about; wide = s.wide; each = s.each; put = refl; loads = s.loads; looks = s.looks }

pub start_first : (a : About) (v : View) → IsStart a v → IsStart a (first_right v)
start_first a v s = record { about = s.about; wide = s.wide; zero_rows = s.zero_rows; zero_complete = s.zero_complete; others = s.others; sound = s.sound; put = refl; loads = refl; looks = refl }

pub start_other : (a : About) (v : View) → IsStart a v → IsStart a (other_rights v)
start_other a v s = record { about = s.about; wide = s.wide; zero_rows = s.zero_rows; zero_complete = s.zero_complete; others = s.others; sound = s.sound; put = refl; loads = s.loads; looks = s.looks }

pub pushed_each : {A : Type 0} (P : ℕ → A → Type 0) (xs : List A) (x : A) (j : ℕ) → length xs ≡ j → ((k : ℕ) (d : A) → k < j → P k (get_or xs k d)) → P j x → (k : ℕ) (d : A) → k < j + 1 → P k (get_or (xs ++ x ∷ []) k d)
pushed_each P xs x j len old new k d l = dite (ℕ_discrete k j)
    (λ e. let q : k ≡ length xs = e ∙ sym len in subst (λ (z : ℕ). P z (get_or (xs ++ x ∷ []) z d)) (sym q) (subst (P (length xs)) (sym (get_or-append_seam xs x [] d)) (subst (λ (z : ℕ). P z x) (sym len) new)))
    (λ n. subst (P k) (sym (get_or-append xs (x ∷ []) d k (omega arith))) (old k d (omega arith)))

-- of a scope that isn't filled, the later is seen
pub later_there : (rs : List ℕ) (i : ℕ) (xs ys : List Shown) (j : ℕ) → j < length xs → length ys ≡ length xs → times (i + j) rs ≡ 0 → get_or (later_all rs i xs ys) j nothing ≡ later (get_or xs j nothing) (get_or ys j nothing)
later_there rs i [] ys j l w z = absurd (omega arith)
later_there rs i (x ∷ xs) [] j l w z = absurd (omega arith)
later_there rs i (x ∷ xs) (y ∷ ys) zero l w z = ap (λ (n : ℕ). cond (ltb 0 n) x (later x y)) (ap (λ (k : ℕ). times k rs) (let e : i ≡ i + 0 = omega arith in e) ∙ z)
later_there rs i (x ∷ xs) (y ∷ ys) (suc j) l w z = later_there rs (suc i) xs ys j (omega arith) (omega arith) (ap (λ (k : ℕ). times k rs) (let e : suc i + j ≡ i + suc j = omega arith in e) ∙ z)

later_complete : (x y : Shown) → x.complete ≡ false → y.complete ≡ true → later x y ≡ y
later_complete x y e f = (λ i. cond (e i) x (cond y.complete y (cond (ltb (length x.rows) (length y.rows)) y x))) ∙ (λ i. cond (f i) y (cond (ltb (length x.rows) (length y.rows)) y x))

-- the view with the rights to the scopes from 1 on is told of scope 0
pub start_told : (a : About) (n : ℕ) (v w : View) → scopes a ≡ n → 0 < n → IsEmptyStart a v → IsSound v → v.rights ≡ upto 1 (n - 1) → IsStart a w → IsStart a (told_of v w)
start_told a n v w many any e sound rights s =
    let wide = e.wide in let wide' = s.wide in
    let zero_in : shown_at (told_of v w) 0 ≡ shown_at w 0 =
    later_there v.rights 0 v.seen w.seen 0 (omega arith) (omega arith) (ap (times 0) rights ∙ times-below 0 1 (n - 1) (omega arith)) ∙ later_complete (shown_at v 0) (shown_at w 0) (ap (λ (t : Shown). t.complete) (e.each 0 (omega arith))) s.zero_complete in
    let stays : (j : ℕ) → 0 < j → j < scopes a → shown_at (told_of v w) j ≡ shown_at v j =
    (λ j p l. own_stays v.rights 0 v.seen w.seen j (subst (λ (z : ℕ). 0 < times z v.rights) (sym (zero-add j)) (subst (λ (rs : List ℕ). 0 < times j rs) (sym rights) (from-upto j 1 (n - 1) (omega arith) (omega arith))))) in record {
      about = e.about;
      wide = length-later_all v.rights 0 v.seen w.seen ∙ e.wide;
      zero_rows = ap (λ (t : Shown). t.rows) zero_in ∙ s.zero_rows;
      zero_complete = ap (λ (t : Shown). t.complete) zero_in ∙ s.zero_complete;
      others = λ j p l. stays j p l ∙ e.each j l;
      sound = λ j l. dite (ℕ_discrete j 0)
          (λ z. subst (λ (k : ℕ). IsGood v.about k (shown_at (told_of v w) k)) (sym z) (subst (IsGood v.about 0) (sym zero_in) (subst (λ (b : About). IsGood b 0 (shown_at w 0)) (s.about ∙ sym e.about) (s.sound 0 (subst (λ (b : About). 0 < scopes b) (sym s.about) (omega arith))))))
          (λ p. subst (IsGood v.about j) (sym (stays j (omega arith) (subst (λ (b : About). j < scopes b) e.about l))) (sound j l));
      put = e.put;
      loads = e.loads;
      looks = e.looks;
    }

-- ** The standard rows

pub standard_fair : (a : About) (complete : Bool) → IsFair a 0 standard_rows complete
standard_fair a complete = record {
  once = HasNoRepeats-standard;
  begun = λ finished told. ap (take (length standard_rows)) (finished-standard (texts_in a) finished told) ∙ take-length standard_rows;
  whole = λ c finished told. sym (finished-standard (texts_in a) finished told);
}

pub taken_all : (n : ℕ) (rows : List Row) → length rows ≤ n → take n rows ≡ rows
taken_all n [] h = take-nil n
  where
    take-nil : (n : ℕ) → take {A = Row} n [] ≡ []
    take-nil zero = refl
    take-nil (suc n) = refl
taken_all zero (r ∷ rows) h = absurd (omega arith)
taken_all (suc n) (r ∷ rows) h = ap (λ (l : List Row). r ∷ l) (taken_all n rows (omega arith))

pub taken_more : (n : ℕ) (rows : List Row) → n < length rows → take n rows ++ row_of rows n ∷ [] ≡ take (n + 1) rows
taken_more n [] h = absurd (omega arith)
taken_more zero (r ∷ rows) h = ap (λ (l : List Row). r ∷ l) (sym (take-zero rows))
  where
    take-zero : (rows : List Row) → take 0 rows ≡ []
    take-zero [] = refl
    take-zero (r ∷ rows) = refl
taken_more (suc n) (r ∷ rows) h = ap (λ (l : List Row). r ∷ l) (taken_more n rows (omega arith)) ∙ ap (λ (m : ℕ). take m (r ∷ rows)) (let e : suc (n + 1) ≡ suc n + 1 = omega arith in e)

pub start_note : (a : About) (v : View) → IsStart a v → IsStart a (note_of v)
start_note a v s = record { about = s.about; wide = s.wide; zero_rows = s.zero_rows; zero_complete = s.zero_complete; others = s.others; sound = s.sound; put = refl; loads = refl; looks = refl }

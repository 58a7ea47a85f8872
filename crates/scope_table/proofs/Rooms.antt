-- Where the words of a scope lie.
use Rattle.std.proofs.Common.{◌≡◌, ◌≢◌, ℕ, suc, cond, ltb, ◌+◌, ◌*◌, ◌<◌, ◌≤◌, List, [], ◌∷◌, length, get_or, sym, refl, ap, ◌∙◌, subst, arith, set, length-append, length-set, get_or-set_same, get_or-set_other, eq-eqb, Bool, true, false, zero-add}
use Rattle.scope_table.proofs.Later.{get_or-later_all, length-later_all, own_stays}
use mathlib.Core.Logic.{dite}
use native.Mathlib.Decide.{ℕ_discrete}
use Rattle.scope_table.specs.declared.view.Shown.{Shown}
use Rattle.scope_table.specs.declared.view.About.{About}
use Rattle.scope_table.specs.declared.view.View.{View}
use Rattle.scope_table.specs.Rule.{base, mid, width, scopes, shown_at, nothing, times, weight, IsLaid, IsSound, IsBefore, IsSeated, IsGood, IsFair}
use Rattle.scope_table.specs.Cells.{IsIndexed}
use Rattle.scope_table.specs.Rows.{rows_of}
use Rattle.scope_table.proofs.Rows.{length-rows_of}
use Rattle.scope_table.specs.declared.view.Look.{Look}
use Rattle.scope_table.specs.Plays.{sees, puts, shows, seals, notes, told_of, grown, ended, later, later_all}

pub reads : (a : About) (bases : List ℕ) (j r : ℕ) → bases ≡ a.bases.value → r ≡ get_or bases j 0 → r ≡ base a j
reads a bases j r e h = h ∙ ap (λ (xs : List ℕ). get_or xs j 0) e

-- a word of scope j
pub within : (a : About) (j n words : ℕ) → IsLaid a → j < scopes a → words ≡ base a (scopes a) → base a j + n < base a (suc j) → base a j + n < words
within a j n words laid l w h = let u = laid.up (suc j) (scopes a) (omega arith) (omega arith) in omega arith

-- the head of scope j is a word
pub heads_within : (a : About) (j words : ℕ) → IsLaid a → j < scopes a → words ≡ base a (scopes a) → j < words
heads_within a j words laid l w = let z = laid.first in let u = laid.up 0 (scopes a) (omega arith) (omega arith) in omega arith

-- the words of a row that a view has seen
pub row_room : (a : About) (v : View) (j i : ℕ) → v.about ≡ a → j < scopes a → IsSound v → i < length (shown_at v j).rows → base a j + (8 * i + 7) < base a (suc j)
row_room a v j i e l rooms h =
    let r = subst (λ (b : About). j < scopes b → base b j + 8 * length (shown_at v j).rows ≤ mid b j) e (λ lj. (rooms j lj).room) l in let q = subst (λ (b : About). j < scopes b → mid b j < base b (suc j)) e (λ lj. (rooms j lj).behind) l in omega arith

-- what was seen of a scope, where one scope was seen anew
pub seen_same : (xs : List Shown) (j : ℕ) (t : Shown) → j < length xs → get_or (set xs j t) j nothing ≡ t
seen_same xs j t h = get_or-set_same xs j t nothing h

pub good_set : (v : View) (j : ℕ) (t : Shown) → j < scopes v.about → length v.seen ≡ scopes v.about → IsSound v → IsGood v.about j t → (k : ℕ) → k < scopes v.about → IsGood v.about k (get_or (set v.seen j t) k nothing)
good_set v j t l wide sound good k lk = dite (ℕ_discrete k j)
    (λ e. subst (λ (z : ℕ). IsGood v.about z (get_or (set v.seen j t) z nothing)) (sym e) (subst (IsGood v.about j) (sym (seen_same v.seen j t (omega arith))) good))
    (λ n. subst (IsGood v.about k) (sym (get_or-set_other v.seen j k t nothing n)) (sound k lk))

-- what was seen of scope 0, where another scope was seen anew
pub zero_stays : (v : View) (scope : ℕ) (t : Shown) → (scope ≢ 0 → (shown_at v 0).complete ≡ true) → scope ≢ 0 → (get_or (set v.seen scope t) 0 nothing).complete ≡ true
zero_stays v scope t seen n = ap (λ (y : Shown). y.complete) (get_or-set_other v.seen scope 0 t nothing (λ e. n (sym e))) ∙ seen n

-- after a head was loaded
pub seated_sees : (v : View) (scope shown waiting : ℕ) (closed : Bool) (j : ℕ) (t : Shown) → IsSeated v scope shown waiting closed → j < scopes v.about → IsBefore (shown_at v j) t → IsGood v.about j t → (0 < times j v.rights → t ≡ shown_at v j)
    → IsSeated (sees v j t) scope shown waiting closed
seated_sees v scope shown waiting closed j t is l before good own =
    let wide = is.wide in let same : shown_at (sees v j t) scope ≡ shown_at v scope = dite (ℕ_discrete scope j)
    (λ e. let one : times j v.rights ≡ 1 = ap (times j) is.mine ∙ ap (λ b. weight b + 0) (eq-eqb j scope (sym e)) in ap (λ (z : ℕ). shown_at (sees v j t) z) e ∙ (seen_same v.seen j t (omega arith) ∙ (own (omega arith) ∙ ap (shown_at v) (sym e))))
    (λ n. get_or-set_other v.seen j scope t nothing n) in record {
      mine = is.mine;
      wide = length-set v.seen j t ∙ is.wide;
      there = is.there;
      shown_is = is.shown_is ∙ ap (λ (y : Shown). length y.rows) (sym same);
      waiting_is = is.waiting_is;
      closed_is = is.closed_is ∙ ap (λ (y : Shown). y.complete) (sym same);
      rooms = good_set v j t l is.wide is.rooms good;
      own_room = is.own_room;
      own_cells = subst (λ (y : Shown). (c : ℕ) → 8 * get_or y.cells c 0 ≤ 8 * length y.rows + length v.put) (sym same) is.own_cells;
      zero = λ n. dite (ℕ_discrete j 0)
          (λ e. let was : (shown_at v j).complete ≡ true = ap (λ (z : ℕ). (shown_at v z).complete) e ∙ is.zero n in
          ap (λ (z : ℕ). (shown_at (sees v j t) z).complete) (sym e) ∙ (ap (λ (y : Shown). y.complete) (seen_same v.seen j t (omega arith) ∙ sym (before.done was)) ∙ was))
          (λ ne. ap (λ (y : Shown). y.complete) (get_or-set_other v.seen j 0 t nothing (λ e. ne (sym e))) ∙ is.zero n);
    }

-- after the words of a row were put
pub seated_puts : (v : View) (scope shown waiting : ℕ) (closed : Bool) (xs : List ℕ) → length xs ≡ 8 → IsSeated v scope shown waiting closed → base v.about scope + 8 * shown + 8 * waiting + 8 ≤ mid v.about scope → IsSeated (puts v xs) scope shown (waiting + 1) closed
seated_puts v scope shown waiting closed xs eight is room = let more = length-append v.put xs in record {
  mine = is.mine;
  wide = is.wide;
  there = is.there;
  shown_is = is.shown_is;
  waiting_is = let w = is.waiting_is in omega arith;
  closed_is = is.closed_is;
  rooms = is.rooms;
  own_room = omega arith;
  own_cells = λ c. let o = is.own_cells c in omega arith;
  zero = is.zero;
}

pub seated_shows : (v : View) (scope shown waiting : ℕ) (closed : Bool) → IsSeated v scope shown waiting closed → (shown_at v scope).complete ≡ false → IsFair v.about scope (grown v scope).rows false → IsIndexed (width v.about scope) (grown v scope).rows (grown v scope).cells → IsSeated (shows v scope) scope (shown + waiting) 0 closed
seated_shows v scope shown waiting closed is going fair index =
    let t : Shown = grown v scope in let len : length t.rows ≡ shown + waiting = length-append (shown_at v scope).rows (rows_of v.put) ∙ (λ i. sym is.shown_is i + length-rows_of waiting v.put is.waiting_is i) in
    let wide = is.wide in let l = is.there in let own = is.own_room in let there : shown_at (shows v scope) scope ≡ t = seen_same v.seen scope t (omega arith) in record {
      mine = is.mine;
      wide = length-set v.seen scope t ∙ is.wide;
      there = is.there;
      shown_is = sym len ∙ ap (λ (y : Shown). length y.rows) (sym there);
      waiting_is = refl;
      closed_is = is.closed_is ∙ (going ∙ ap (λ (y : Shown). y.complete) (sym there));
      rooms = good_set v scope t is.there is.wide is.rooms record { room = omega arith; behind = (is.rooms scope is.there).behind; many = (is.rooms scope is.there).many; fair = fair; index = index; one = (is.rooms scope is.there).one; ordinals = (is.rooms scope is.there).ordinals };
      own_room = omega arith;
      own_cells = subst (λ (y : Shown). (c : ℕ) → 8 * get_or y.cells c 0 ≤ 8 * length y.rows + 0) (sym there) (λ c. let o = is.own_cells c in let w = is.waiting_is in let k = is.shown_is in omega arith);
      zero = λ n. zero_stays v scope t is.zero n;
    }

pub seated_seals : (v : View) (scope shown waiting : ℕ) (closed : Bool) → IsSeated v scope shown waiting closed → IsFair v.about scope (ended v scope).rows true → IsSeated (seals v scope) scope shown waiting true
seated_seals v scope shown waiting closed is fair =
    let t : Shown = ended v scope in let wide = is.wide in let l = is.there in let own = is.own_room in let k = is.shown_is in let there : shown_at (seals v scope) scope ≡ t = seen_same v.seen scope t (omega arith) in record {
      mine = is.mine;
      wide = length-set v.seen scope t ∙ is.wide;
      there = is.there;
      shown_is = is.shown_is ∙ ap (λ (y : Shown). length y.rows) (sym there);
      waiting_is = is.waiting_is;
      closed_is = ap (λ (y : Shown). y.complete) (sym there);
      rooms = good_set v scope t is.there is.wide is.rooms record { room = (is.rooms scope is.there).room; behind = (is.rooms scope is.there).behind; many = (is.rooms scope is.there).many; fair = fair; index = (is.rooms scope is.there).index; one = (is.rooms scope is.there).one; ordinals = (is.rooms scope is.there).ordinals };
      own_room = is.own_room;
      own_cells = subst (λ (y : Shown). (c : ℕ) → 8 * get_or y.cells c 0 ≤ 8 * length y.rows + length v.put) (sym there) is.own_cells;
      zero = λ n. zero_stays v scope t is.zero n;
    }

pub seated_notes : (v : View) (scope shown waiting : ℕ) (closed : Bool) (l : Look) → IsSeated v scope shown waiting closed → IsSeated (notes v l) scope shown waiting closed
seated_notes v scope shown waiting closed l is = record { mine = is.mine; wide = is.wide; there = is.there; shown_is = is.shown_is; waiting_is = is.waiting_is; closed_is = is.closed_is; rooms = is.rooms; own_room = is.own_room; own_cells = is.own_cells; zero = is.zero }

zero_told : (rs : List ℕ) (xs ys : List Shown) → (get_or xs 0 nothing).complete ≡ true → (get_or (later_all rs 0 xs ys) 0 nothing).complete ≡ true
zero_told rs [] ys h = h
zero_told rs (x ∷ xs) [] h = h
zero_told rs (x ∷ xs) (y ∷ ys) h = elim (ltb 0 (times 0 rs)) as (λ b. (cond b x (later x y)).complete ≡ true) [
  | true ↦ h
  | false ↦ ap (λ b. (cond b x (cond y.complete y (cond (ltb (length x.rows) (length y.rows)) y x))).complete) h ∙ h
]

pub seated_told : (v w : View) (scope shown waiting : ℕ) (closed : Bool) → IsSeated v scope shown waiting closed → w.about ≡ v.about → IsSound w → IsSeated (told_of v w) scope shown waiting closed
seated_told v w scope shown waiting closed is same roomy =
    let wide = is.wide in let l = is.there in let one : times scope v.rights ≡ 1 = ap (times scope) is.mine ∙ ap (λ b. weight b + 0) (eq-eqb scope scope refl) in
    let stays : shown_at (told_of v w) scope ≡ shown_at v scope = own_stays v.rights 0 v.seen w.seen scope (subst (λ (z : ℕ). 0 < times z v.rights) (sym (zero-add scope)) (omega arith)) in record {
      mine = is.mine;
      wide = length-later_all v.rights 0 v.seen w.seen ∙ is.wide;
      there = is.there;
      shown_is = is.shown_is ∙ ap (λ (y : Shown). length y.rows) (sym stays);
      waiting_is = is.waiting_is;
      closed_is = is.closed_is ∙ ap (λ (y : Shown). y.complete) (sym stays);
      rooms = λ j lj. let P : ℕ → Shown → Type 0 = (λ z t. IsGood v.about z t) in subst (λ (z : ℕ). P z (shown_at (told_of v w) j)) (zero-add j)
          (get_or-later_all P v.rights 0 v.seen w.seen (λ q lq. subst (λ (z : ℕ). P z (shown_at v q)) (sym (zero-add q)) (is.rooms q (omega arith)))
          (λ q lq. subst (λ (z : ℕ). P z (shown_at w q)) (sym (zero-add q)) (subst (λ (b : About). q < scopes b → IsGood b q (shown_at w q)) same (roomy q) (omega arith))) j (omega arith));
      own_room = is.own_room;
      own_cells = subst (λ (y : Shown). (c : ℕ) → 8 * get_or y.cells c 0 ≤ 8 * length y.rows + length v.put) (sym stays) is.own_cells;
      zero = λ n. zero_told v.rights v.seen w.seen (is.zero n);
    }

-- how many rows are shown and put
pub grown_length : (v : View) (scope shown waiting : ℕ) (closed : Bool) → IsSeated v scope shown waiting closed → length (grown v scope).rows ≡ shown + waiting
grown_length v scope shown waiting closed is = length-append (shown_at v scope).rows (rows_of v.put) ∙ (λ i. sym is.shown_is i + length-rows_of waiting v.put is.waiting_is i)

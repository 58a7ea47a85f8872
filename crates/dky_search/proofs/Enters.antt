-- Rows that are put and shown, and a scope that is complete, as all scopes promise it.
use Rattle.std.proofs.Common.{◌≡◌, ◌≢◌, ℕ, ◌+◌, ◌-◌, ◌*◌, ◌/◌, ◌<◌, ◌≤◌, Bool, true, false, List, [], ◌∷◌, ◌++◌, Some, map, length, get_or, take, drop, slice_index, sym, refl, ap, ◌∙◌, subst, arith, append-nil, length-append, get_or-set_same, get_or-set_other}
use Rattle.std.proofs.lemmas.Bool.{false≢true}
use mathlib.Core.Logic.{dite}
use native.Mathlib.Decide.{ℕ_discrete}
use Rattle.m2_base.specs.Lists.{IsPrefixOf}
use Rattle.m2_base.specs.Scopes.{CanEnter, Entered, CanComplete, Completed}
use Rattle.m2_base.specs.States.{Frame, IsLater}
use Rattle.m2_base.specs.Tables.{Table}
use Rattle.m2_base.specs.declared.rows.Row.{Row}
use Rattle.m2_base.proofs.Kept.{IsLater-refl}
use Rattle.scope_table.specs.Plays.{grown, ended, seals, shows}
use Rattle.scope_table.specs.Rule.{scopes, base, mid, nothing, shown_at, IsFair}
use Rattle.scope_table.specs.declared.view.About.{About}
use Rattle.scope_table.specs.declared.view.Shown.{Shown}
use Rattle.scope_table.specs.declared.view.View.{View}
use Rattle.dky_search.specs.Seen.{areas_in, mark_in, look_of, state_in, tables_in, table_of, IsGrown, HaveGrown}
use Rattle.dky_search.proofs.Seen.{area_at, seen_table}

-- ** Rows are entered

drop_front : {A : Type 0} (xs ys : List A) → drop (length xs) (xs ++ ys) ≡ ys
drop_front [] ys = refl
drop_front (x ∷ xs) ys = drop_front xs ys

-- what follows the same list is the same
pub behind_same : (xs ys zs : List Row) → xs ++ ys ≡ xs ++ zs → ys ≡ zs
behind_same xs ys zs e = sym (drop_front xs ys) ∙ (ap (drop (length xs)) e ∙ drop_front xs zs)

-- there is room for one row more of those that are entered
pub room_left : (a : About) (own n i k : ℕ) → own < scopes a → base a own ≤ mid a own → n + k ≤ slice_index (areas_in a) own → i < k → base a own + 8 * (n + i) + 8 ≤ mid a own
room_left a own n i k there up room less =
    let at : get_or (areas_in a) own 0 ≡ (mid a own - base a own) / 8 = area_at a own there in
    let fits : n + i + 1 ≤ (mid a own - base a own) / 8 = omega (arith, at, room, less) in
    omega (arith, fits, up)

-- rows that may be entered are fair
pub fair_entered : (a : About) (v : View) (own : ℕ) (rows all : List Row) → CanEnter (state_in a v own) rows → all ≡ (shown_at v own).rows ++ rows → IsFair a own all false
fair_entered a v own rows all can is = subst (λ (l : List Row). IsFair a own l false) (sym is)
    (record {
      once = can.once;
      begun = λ finished told. let first = can.next finished told in
          ap (take (length ((shown_at v own).rows ++ rows))) (sym first.joined) ∙ taken_front ((shown_at v own).rows ++ rows) first.rest;
      whole = λ c. absurd (false≢true c);
    })
  where
    taken_front : (xs ys : List Row) → take (length xs) (xs ++ ys) ≡ xs
    taken_front [] [] = refl
    taken_front [] (y ∷ ys) = refl
    taken_front (x ∷ xs) ys = ap (λ (l : List Row). x ∷ l) (taken_front xs ys)

-- what is seen of the scope when the rows that were put are shown, and of the others
pub after_show : (s own : ℕ) (v w : View) → w ≡ shows v s → s ≡ own → own < length v.seen → shown_at w own ≡ grown v own
after_show s own v w is at inside =
    ap (λ (u : View). shown_at u own) is ∙ (ap (λ (z : ℕ). shown_at (shows v z) own) at ∙ get_or-set_same v.seen own (grown v own) nothing inside)

pub after_others : (s own : ℕ) (v w : View) → w ≡ shows v s → s ≡ own → (j : ℕ) → j ≢ own → shown_at w j ≡ shown_at v j
after_others s own v w is at j n =
    ap (λ (u : View). shown_at u j) is ∙ (ap (λ (z : ℕ). shown_at (shows v z) j) at ∙ get_or-set_other v.seen own j (grown v own) nothing n)

-- a frame by its parts
frame_is : (f g : Frame) → f.setting ≡ g.setting → f.entered ≡ g.entered → f.closed ≡ g.closed → f ≡ g
frame_is f g s e c = λ i. record { setting = s i; entered = e i; closed = c i }

pub entered : (a : About) (own : ℕ) (v w : View) (rows : List Row) → CanEnter (state_in a v own) rows → (shown_at w own).rows ≡ (shown_at v own).rows ++ rows → (shown_at w own).complete ≡ false
    → ((j : ℕ) → j ≢ own → shown_at w j ≡ shown_at v j) → w.looks ≡ v.looks → Entered (state_in a v own) (state_in a w own) rows
entered a own v w rows can more still others looks =
    record {
      frame = frame_is _ _ refl more (still ∙ sym can.open_yet);
      looks = ap (λ ls. Some (map look_of ls)) looks;
      seen = λ s. dite (ℕ_discrete s own)
          (λ e. subst (λ (k : ℕ). IsLater (mark_in (shown_at v k)) (mark_in (shown_at w k))) (sym e)
          (record { count = (let n = length-append (shown_at v own).rows rows in let m : length (shown_at w own).rows ≡ length ((shown_at v own).rows ++ rows) = ap length more in omega arith); complete = λ h. absurd (false≢true (sym can.open_yet ∙ h)) }))
          (λ n. subst (λ (t : Shown). IsLater (mark_in (shown_at v s)) (mark_in t)) (sym (others s n)) (IsLater-refl _));
      head = ap (λ (b : Bool). record { count = length (shown_at w own).rows; complete = b }) still;
      elsewhere = λ s other. ap mark_in (others s other);
    }

-- from what was seen of the scope on, with the others as before, the tables have grown
pub own_grown : (own : ℕ) (v w : View) → (shown_at v own).complete ≡ false → IsPrefixOf (shown_at v own).rows (shown_at w own).rows → ((j : ℕ) → j ≢ own → shown_at w j ≡ shown_at v j) → HaveGrown (tables_in v) (tables_in w)
own_grown own v w still more others s =
    subst (λ (t : Table × Table). IsGrown t.0 t.1) (λ i. (sym (seen_table v s) i, sym (seen_table w s) i)) (dite (ℕ_discrete s own)
    (λ e. subst (λ (k : ℕ). IsGrown (table_of (shown_at v k)) (table_of (shown_at w k))) (sym e) (record { rows = more; complete = λ h. absurd (false≢true (sym still ∙ h)) }))
    (λ n. subst (λ (t : Shown). IsGrown (table_of (shown_at v s)) (table_of t)) (sym (others s n)) (record { rows = record { rest = []; joined = append-nil (shown_at v s).rows }; complete = λ _. refl })))

-- ** The scope is complete

pub fair_ended : (a : About) (v : View) (own : ℕ) → IsFair a own (shown_at v own).rows (shown_at v own).complete → CanComplete (state_in a v own) → IsFair a own (ended v own).rows true
fair_ended a v own fair can = record { once = fair.once; begun = fair.begun; whole = λ _. can.all }

pub completed : (a : About) (own : ℕ) (v w : View) → CanComplete (state_in a v own) → w ≡ seals v own → own < length v.seen → Completed (state_in a v own) (state_in a w own)
completed a own v w can is inside =
    let t : Shown = ended v own in
    let at : shown_at w own ≡ t = ap (λ (u : View). shown_at u own) is ∙ get_or-set_same v.seen own t nothing inside in
    record {
      frame = frame_is _ _ refl (ap (λ (u : Shown). u.rows) at) (ap (λ (u : Shown). u.complete) at);
      looks = ap (λ (u : View). Some (map look_of u.looks)) is;
      seen = λ s. dite (ℕ_discrete s own)
          (λ e. subst (λ (k : ℕ). IsLater (mark_in (shown_at v k)) (mark_in (shown_at w k))) (sym e) (subst (λ (u : Shown). IsLater (mark_in (shown_at v own)) (mark_in u)) (sym at) (record { count = omega arith; complete = λ h. absurd (false≢true (sym can.open_yet ∙ h)) })))
          (λ n. subst (λ (u : Shown). IsLater (mark_in (shown_at v s)) (mark_in u)) (sym (others s n)) (IsLater-refl _));
      head = ap (λ (b : Bool). record { count = length (shown_at w own).rows; complete = b }) (ap (λ (u : Shown). u.complete) at);
      elsewhere = λ s other. ap mark_in (others s other);
    }
  where
    others : (s : ℕ) → s ≢ own → shown_at w s ≡ shown_at v s
    others s n = ap (λ (u : View). shown_at u s) is ∙ get_or-set_other v.seen own s (ended v own) nothing n

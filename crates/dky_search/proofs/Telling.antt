-- What a handle is told, and what always holds of it.
use Rattle.std.proofs.Common.{◌≡◌, ◌≢◌, ℕ, ◌<◌, Bool, true, false, cond, eqb, ltb, List, [], ◌∷◌, ◌++◌, length, drop, if◌then◌else◌, sym, refl, ap, ◌∙◌, subst, arith, take-append-drop, ne_eqb, zero-add}
use Rattle.m2_base.specs.Tables.{rows_at}
use Rattle.m2_base.specs.declared.rows.Row.{Row}
use Rattle.scope_core.specs.Fronts.{ShowsFront}
use Rattle.scope_table.specs.Plays.{later, later_all, told_of}
use Rattle.scope_table.specs.Rule.{shown_at, times, weight, IsFair}
use Rattle.scope_table.specs.declared.view.About.{About}
use Rattle.scope_table.specs.declared.view.Shown.{Shown}
use Rattle.scope_table.specs.declared.view.View.{View}
use Rattle.scope_table.proofs.Later.{own_stays, length-later_all}
use Rattle.scope_table.proofs.Opening.{later_there}
use Rattle.scope_table.proofs.Steps.{has_one}
use native.Mathlib.Decide.{dec_le}
use Rattle.dky_search.specs.Seen.{mark_in, state_in}
use Rattle.dky_search.specs.SeatScopes.{later_mark, IsTold}
use Rattle.dky_search.proofs.Seen.{past_end}

chosen : (x y : Shown) (b c d : Bool) → mark_in (cond b x (cond c y (cond d y x))) ≡ (if b then mark_in x else if c then mark_in y else if d then mark_in y else mark_in x)
chosen x y true c d = refl
chosen x y false true d = refl
chosen x y false false true = refl
chosen x y false false false = refl

marked_later : (x y : Shown) → mark_in (later x y) ≡ later_mark (mark_in x) (mark_in y)
marked_later x y = chosen x y x.complete y.complete (ltb (length x.rows) (length y.rows))

-- a seat with the right to one scope has none to another
none_other : (j own : ℕ) (v : View) → v.rights ≡ own ∷ [] → j ≢ own → times j v.rights ≡ 0
none_other j own v is n = ap (times j) is ∙ (let w : weight (eqb j own) ≡ 0 = ap weight (ne_eqb j own n) in omega arith)

told_at : (own : ℕ) (v w : View) → v.rights ≡ own ∷ [] → length w.seen ≡ length v.seen → (j : ℕ) → j ≢ own → shown_at (told_of v w) j ≡ later (shown_at v j) (shown_at w j)
told_at own v w is wide j n = elim (dec_le (length v.seen) j) [
  | yes past ↦ let far = length-later_all v.rights 0 v.seen w.seen in
      past_end (later_all v.rights 0 v.seen w.seen) j (omega arith) ∙ (λ i. later (sym (past_end v.seen j past) i) (sym (past_end w.seen j (omega arith)) i))
  | no within ↦ later_there v.rights 0 v.seen w.seen j (omega arith) wide (ap (λ (k : ℕ). times k v.rights) (zero-add j) ∙ none_other j own v is n)
]

own_at : (own : ℕ) (v w : View) → v.rights ≡ own ∷ [] → shown_at (told_of v w) own ≡ shown_at v own
own_at own v w is = own_stays v.rights 0 v.seen w.seen own (subst (λ (k : ℕ). 0 < times k v.rights) (sym (zero-add own)) (has_one own v is))

-- what is told to the handle that fills `own` by one that fills `other`
pub told : (a : About) (own other : ℕ) (v w u : View) → v.rights ≡ own ∷ [] → length w.seen ≡ length v.seen → u ≡ told_of v w → IsTold (state_in a w other) (state_in a v own) (state_in a u own)
told a own other v w u rights wide is =
    let mine : shown_at u own ≡ shown_at v own = ap (λ (x : View). shown_at x own) is ∙ own_at own v w rights in
    record {
      frame = ap (λ (t : Shown). record { setting = (state_in a v own).frame.setting; entered = t.rows; closed = t.complete }) mine;
      looks = ap (λ (x : View). (state_in a x own).looks) is;
      own = ap mark_in mine;
      others = λ s n. ap (λ (x : View). mark_in (shown_at x s)) is ∙ (ap mark_in (told_at own v w rights wide s n) ∙ marked_later (shown_at v s) (shown_at w s));
    }

-- what is entered is the front of the finished rows
pub front_of : (a : About) (own : ℕ) (v : View) → IsFair a own (shown_at v own).rows (shown_at v own).complete → ShowsFront (state_in a v own)
front_of a own v fair finished told =
    record {
      entered = record {
        rest = drop (length (shown_at v own).rows) (rows_at finished own);
        joined = ap (λ (rows : List Row). rows ++ drop (length (shown_at v own).rows) (rows_at finished own)) (sym (fair.begun finished told)) ∙ take-append-drop (length (shown_at v own).rows) (rows_at finished own);
      };
      whole = λ c. fair.whole c finished told;
    }

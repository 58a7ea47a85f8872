-- A fetch over the shared tables is one as all scopes promise it.
use Rattle.std.proofs.Common.{◌≡◌, ◌≢◌, ℕ, zero, suc, ◌<◌, ◌≤◌, Bool, true, false, List, [], ◌∷◌, ◌++◌, Option, Some, None, map, length, slice_get, sym, refl, ap, ◌∙◌, subst, arith, if◌then◌else◌}
use mathlib.Core.Logic.{dite}
use native.Mathlib.Decide.{ℕ_discrete}
use Rattle.m2_base.proofs.Kept.{Grows-refl}
use Rattle.m2_base.specs.Finished.{WhereFinished}
use Rattle.m2_base.specs.Rows.{IsWellFormed}
use Rattle.m2_base.specs.Scopes.{Fetches, Fetched}
use Rattle.m2_base.specs.Tables.{Table, table_at, head_of, rows_at, fetched_or, one_thread_row}
use Rattle.m2_base.specs.declared.replies.Ask.{Ask}
use Rattle.m2_base.specs.declared.replies.Ask.TheVariants.{Known, DontKnowYet as Waiting}
use Rattle.m2_base.specs.declared.replies.Head.{Head}
use Rattle.m2_base.specs.declared.rows.Place.{Place}
use Rattle.m2_base.specs.declared.rows.Row.{Row}
use Rattle.scope_core.specs.PlainScopes.{IsBegun}
use Rattle.scope_table.specs.Plays.{head_in, sees}
use Rattle.scope_table.specs.Rows.{row_of}
use Rattle.scope_table.specs.Rule.{scopes, shown_at, texts_in, IsBefore, IsSound}
use Rattle.scope_table.specs.declared.view.About.{About}
use Rattle.scope_table.specs.declared.view.View.{View}
use Rattle.scope_table.proofs.Steps.{got_row}
use Rattle.dky_search.specs.Seen.{behind, table_of, tables_in, mark_in, look_of, state_in, HaveGrown}
use Rattle.dky_search.specs.SeatScopes.{counted, StaysKnown, WaitsNew}
use Rattle.dky_search.proofs.Flights.{others_stay, step_later}
use Rattle.dky_search.proofs.Seen.{seen_table, begun, have_grown}
use Rattle.dky_search.proofs.Told.{known_stays}
use Rattle.dky_search.proofs.Searches.{keeps, shown_there, stops_at, not_before}

-- ** What one thread answers of a place, by the head of its scope

row_past : (rows : List Row) (k : ℕ) → length rows ≤ k → slice_get rows k ≡ None
row_past [] k l = refl
row_past (r ∷ rows) zero l = absurd (omega arith)
row_past (r ∷ rows) (suc k) l = row_past rows k (omega arith)

by_table : (v : View) (p : Place) (r : Ask (Option Row)) → fetched_or p.scope (table_of (shown_at v p.scope)) (slice_get (shown_at v p.scope).rows p.ordinal) ≡ r → r ≡ one_thread_row (tables_in v) p
by_table v p r e = sym e ∙ ap (λ (t : Table). fetched_or p.scope t (slice_get t.rows p.ordinal)) (sym (seen_table v p.scope))

pub known_row : (v : View) (p : Place) (r : Row) → p.ordinal < length (shown_at v p.scope).rows → r ≡ row_of (shown_at v p.scope).rows p.ordinal → Known (Some r) ≡ one_thread_row (tables_in v) p
known_row v p r l is =
    by_table v p (Known (Some r)) (ap (fetched_or p.scope (table_of (shown_at v p.scope))) (got_row (shown_at v p.scope).rows p.ordinal l ∙ ap (λ (x : Row). Some x) (sym is)))

pub missing : (v : View) (p : Place) (h : Head) (r : Ask (Option Row)) → length (shown_at v p.scope).rows ≤ p.ordinal → h ≡ head_in p.scope (shown_at v p.scope) → r ≡ behind h → r ≡ one_thread_row (tables_in v) p
missing v p h r past is answer =
    by_table v p r (ap (fetched_or p.scope (table_of (shown_at v p.scope))) (row_past (shown_at v p.scope).rows p.ordinal past) ∙ sym (answer ∙ ap behind is))

-- ** What a fetch promises

get_more : (xs ys : List Row) (k : ℕ) (r : Row) → slice_get xs k ≡ Some r → slice_get (xs ++ ys) k ≡ Some r
get_more [] ys k r e = absurd (cc)
get_more (x ∷ xs) ys zero r e = e
get_more (x ∷ xs) ys (suc k) r e = get_more xs ys k r e

past_all : (rows : List Row) (k : ℕ) → slice_get rows k ≡ None → length rows ≤ k
past_all [] k e = omega arith
past_all (x ∷ rows) zero e = absurd (cc)
past_all (x ∷ rows) (suc k) e = let h = past_all rows k e in omega (arith, h)

module _ (a : About) (own : ℕ) (v w : View) (later : (j : ℕ) → IsBefore (shown_at v j) (shown_at w j)) (mine : shown_at w own ≡ shown_at v own) (p : Place) where
  abbrev there : Table
  there = table_at (tables_in w) p.scope

  told_row : (r : Row) → slice_get there.rows p.ordinal ≡ Some r → WhereFinished (texts_in a) (λ finished. (s : ℕ) → IsBegun (table_at (tables_in w) s) (rows_at finished s)) → WhereFinished (texts_in a) (λ finished. slice_get (rows_at finished p.scope) p.ordinal ≡ Some r)
  told_row r at all finished told =
      let first = (all finished told p.scope).first in
      subst (λ (rows : List Row). slice_get rows p.ordinal ≡ Some r) first.joined (get_more there.rows first.rest p.ordinal r at)

  fetches : (o : Option Row) → slice_get there.rows p.ordinal ≡ o → WhereFinished (texts_in a) (λ finished. (s : ℕ) → IsBegun (table_at (tables_in w) s) (rows_at finished s)) → ((r : Row) → o ≡ Some r → IsWellFormed (length (texts_in a).names) p r)
      → Fetches (state_in a v own) (state_in a w own) p (fetched_or p.scope there o)
  fetches (Some r) at all formed = record { shown = shown_there a own v w later mine p r at (formed r refl); told = told_row r at all }
  fetches None at all formed = go there.complete refl
    where
      past : length there.rows ≤ p.ordinal
      past = past_all there.rows p.ordinal at

      seen : there ≡ table_of (shown_at w p.scope)
      seen = seen_table w p.scope

      go : (b : Bool) → there.complete ≡ b → Fetches (state_in a v own) (state_in a w own) p (if b then Known None else Waiting (head_of p.scope there))
      go true done =
          record {
            complete = ap (λ (t : Table). t.complete) (sym seen) ∙ done;
            short = subst (λ (t : Table). length t.rows ≤ p.ordinal) seen past;
            own = λ same. (
              ap (λ (s : ℕ). (shown_at w s).complete) (sym same) ∙ (ap (λ (t : Table). t.complete) (sym seen) ∙ done),
              subst (λ (s : ℕ). length (shown_at w s).rows ≤ p.ordinal) same (subst (λ (t : Table). length t.rows ≤ p.ordinal) seen past),
            );
            told = λ finished told. subst (λ (rows : List Row). length rows ≤ p.ordinal) ((all finished told p.scope).whole done) past;
          }
      go false still = record { on = refl; short = past; stops = stops_at a own v w later mine (head_of p.scope there) refl still }

  pub fetched : (r : Ask (Option Row)) → w.about ≡ a → length w.seen ≡ scopes w.about → IsSound w → ((s : ℕ) → s ≢ p.scope → shown_at w s ≡ shown_at v s) → w.looks ≡ v.looks
      → r ≡ one_thread_row (tables_in w) p → ((row : Row) → r ≡ Known (Some row) → IsWellFormed (length (texts_in a).names) p row) → Fetched (state_in a v own) (state_in a w own) p r
  fetched r about wide sound elsewhere looks is formed =
      record {
        keeps = keeps a own v w later mine [] (ap (map look_of) looks ∙ Grows-refl (Some (map look_of v.looks)));
        elsewhere = λ s other. ap mark_in (elsewhere s other);
        says = subst (Fetches (state_in a v own) (state_in a w own) p) (sym is)
            (fetches (slice_get there.rows p.ordinal) refl (begun a w about wide sound) (λ row at. formed row (is ∙ ap (fetched_or p.scope there) at)));
        alone = tt;
      }

  waits : (o : Option Row) → slice_get there.rows p.ordinal ≡ o → WaitsNew (state_in a v own) (fetched_or p.scope there o)
  waits (Some r) at = tt
  waits None at = go there.complete refl
    where
      go : (b : Bool) → there.complete ≡ b → WaitsNew {T = Option Row} (state_in a v own) (if b then Known None else Waiting (head_of p.scope there))
      go true done = tt
      go false still = not_before a own v w later mine p.scope (ap (λ (t : Table). t.complete) (sym (seen_table w p.scope)) ∙ still)

  pub waits_new : (r : Ask (Option Row)) → r ≡ one_thread_row (tables_in w) p → WaitsNew (state_in a v own) r
  waits_new r is = subst (WaitsNew (state_in a v own)) (sym is) (waits (slice_get there.rows p.ordinal) refl)

-- ** All that a fetch tells

pub record IsGot (a : About) (own now : ℕ) (v w : View) (p : Place) (r : Ask (Option Row)) : Type 0 where
  pub fetched : Fetched (state_in a v own) (state_in a w now) p r
  pub answer : r ≡ one_thread_row (tables_in w) p
  pub loads : w.loads ≡ v.loads ++ head_in p.scope (shown_at w p.scope) ∷ []
  pub waits : WaitsNew (state_in a v own) r
  pub grown : HaveGrown (tables_in v) (tables_in w)
  pub stays : (later : List Table) → HaveGrown (tables_in w) later → StaysKnown r (one_thread_row later p)

pub got : (a : About) (own now : ℕ) (v w : View) (p : Place) (r : Ask (Option Row)) → w ≡ sees v p.scope (shown_at w p.scope) → IsBefore (shown_at v p.scope) (shown_at w p.scope) → (p.scope ≡ own → shown_at w p.scope ≡ shown_at v p.scope)
    → now ≡ own → v.about ≡ a → length w.seen ≡ scopes w.about → IsSound w → r ≡ one_thread_row (tables_in w) p → ((row : Row) → r ≡ Known (Some row) → IsWellFormed (length (texts_in a).names) p row) → IsGot a own now v w p r
got a own now v w p r sees_it later mine same about wide sound answer formed =
    let all : (j : ℕ) → IsBefore (shown_at v j) (shown_at w j) = step_later v w p.scope sees_it later in
    let own_same : shown_at w own ≡ shown_at v own = dite (ℕ_discrete own p.scope) (λ e. subst (λ (k : ℕ). shown_at w k ≡ shown_at v k) (sym e) (mine (sym e))) (λ n. others_stay v w p.scope sees_it later own n) in
    record {
      fetched = subst (λ (z : ℕ). Fetched (state_in a v own) (state_in a w z) p r) (sym same)
          (fetched a own v w all own_same p r (ap (λ (u : View). u.about) sees_it ∙ about) wide sound (λ s n. others_stay v w p.scope sees_it later s n) (ap (λ (u : View). u.looks) sees_it) answer formed);
      answer = answer;
      loads = ap (λ (u : View). u.loads) sees_it;
      waits = waits_new a own v w all own_same p r answer;
      grown = have_grown v w all;
      stays = λ after grown. subst (λ (q : Ask (Option Row)). StaysKnown q (one_thread_row after p)) (sym answer) (known_stays (tables_in w) after p grown);
    }

pub uncounted : (h : Head) (n : ℕ) (r : Ask (Option Row)) → r ≡ behind h → n ≡ counted r n
uncounted h n r is = subst (λ (q : Ask (Option Row)). n ≡ counted q n) (sym is) (go h.complete)
  where
    go : (b : Bool) → n ≡ counted (if b then Known None else Waiting h) n
    go true = refl
    go false = refl

pub none_there : (h : Head) (r : Row) → behind h ≡ Known (Some r) → ⊥
none_there h r = go h.complete
  where
    go : (b : Bool) → (if b then Known None else Waiting h) ≡ Known (Some r) → ⊥
    go true e = cc
    go false e = cc

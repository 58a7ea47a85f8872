-- A selection over the shared tables is one as all scopes promise it.
use Rattle.std.proofs.Common.{◌≡◌, ◌≢◌, ℕ, ◌+◌, ◌<◌, ◌≤◌, Bool, true, false, ◌||◌, List, [], ◌∷◌, ◌++◌, Option, Some, None, map, length, slice_get, sym, refl, ap, ◌∙◌, subst, ⊎_elim, arith, if◌then◌else◌}
use Rattle.std.specs.Prelude.{nat_lt}
use Rattle.std.proofs.lemmas.Bool.{lt-ltb, ltb-false, ltb-true, or_cases, or_parts, or_right}
use Rattle.std.proofs.lemmas.List.{length-append}
use mathlib.Core.Logic.{dite}
use native.Mathlib.Decide.{ℕ_discrete}
use Rattle.m2_base.proofs.KeyLaws.{field_front, field_hit, field_only}
use Rattle.m2_base.proofs.Kept.{Grows-refl}
use Rattle.m2_base.proofs.NoRepeats.{some_is}
use Rattle.m2_base.specs.Finished.{WhereFinished}
use Rattle.m2_base.specs.Keys.{before_only, field_before, field_in, first_keyed, one_thread_field}
use Rattle.m2_base.specs.Rows.{at_place, IsWellFormed}
use Rattle.m2_base.specs.Scopes.{Selected, Selects}
use Rattle.m2_base.specs.Tables.{Table, table_at, head_of, rows_at}
use Rattle.m2_base.specs.declared.replies.Ask.{Ask}
use Rattle.m2_base.specs.declared.replies.Ask.TheVariants.{Known, DontKnowYet as Waiting}
use Rattle.m2_base.specs.declared.replies.Head.{Head}
use Rattle.m2_base.specs.declared.rows.Place.{Place}
use Rattle.m2_base.specs.declared.rows.Row.{Row}
use Rattle.m2_base.specs.declared.rows.RowKey.TheVariants.{Member}
use Rattle.scope_core.specs.Flights.{found_at}
use Rattle.scope_core.specs.PlainScopes.{IsBegun}
use Rattle.scope_core.proofs.Searching.{same_fields}
use Rattle.scope_table.specs.Plays.{head_in, sees}
use Rattle.scope_table.specs.Rule.{scopes, shown_at, texts_in, IsBefore, IsSound}
use Rattle.scope_table.specs.declared.view.About.{About}
use Rattle.scope_table.specs.declared.view.View.{View}
use Rattle.dky_search.specs.Flying.{IsFormed}
use Rattle.dky_search.specs.Seen.{look_of, mark_in, state_in, table_of, tables_in, HaveGrown, IsGrown}
use Rattle.dky_search.specs.SeatScopes.{StaysKnown, WaitsNew}
use Rattle.dky_search.proofs.Flights.{others_stay, step_later}
use Rattle.dky_search.proofs.Seen.{begun, have_grown, seen_table}
use Rattle.dky_search.proofs.Searches.{keeps, not_before, shown_there, stops_at}

-- ** What one thread answers of a field, by the head of its scope

by_table : (v : View) (p : Place) (x : ℕ) (r : Ask (Option (ℕ × Row))) → r ≡ field_in (table_of (shown_at v p.scope)) p x → r ≡ one_thread_field (tables_in v) p x
by_table v p x r e = e ∙ ap (λ (t : Table). field_in t p x) (sym (seen_table v p.scope))

-- the head doesn't count the record's row, and there will be more
pub still_coming : (v : View) (p : Place) (x : ℕ) (h : Head) → h ≡ head_in p.scope (shown_at v p.scope) → (h.complete || nat_lt p.ordinal h.count) ≡ false → Waiting h ≡ one_thread_field (tables_in v) p x
still_coming v p x h is none =
    let t = table_of (shown_at v p.scope) in
    by_table v p x (Waiting h)
    (ap (λ (k : Head). Waiting k) is ∙ sym (ap (λ (b : Bool). if b then Known (field_before t.rows p.ordinal x) else Waiting (head_of p.scope t)) (ap (λ (k : Head). k.complete || nat_lt p.ordinal k.count) (sym is) ∙ none)))

-- it does, or all are there
pub known_field : (v : View) (p : Place) (x : ℕ) (h : Head) (o : Option (ℕ × Row)) → h ≡ head_in p.scope (shown_at v p.scope) → (h.complete || nat_lt p.ordinal h.count) ≡ true
    → o ≡ before_only p.ordinal (first_keyed (Member p.ordinal x) (shown_at v p.scope).rows 0) → Known o ≡ one_thread_field (tables_in v) p x
known_field v p x h o is all found =
    let t = table_of (shown_at v p.scope) in
    by_table v p x (Known o)
    (ap (λ (a : Option (ℕ × Row)). Known a) (found ∙ sym (field_only t.rows p.ordinal x))
    ∙ sym (ap (λ (b : Bool). if b then Known (field_before t.rows p.ordinal x) else Waiting (head_of p.scope t)) (ap (λ (k : Head). k.complete || nat_lt p.ordinal k.count) (sym is) ∙ all)))

-- a row that was found before an ordinal is the one that was found
pub formed_before : (names s m : ℕ) (o : Option (ℕ × Row)) (hit : ℕ × Row) → IsFormed names (found_at s o) → before_only m o ≡ Some hit → IsWellFormed names (at_place s hit.0) hit.1
formed_before names s m None hit formed e = absurd (cc)
formed_before names s m (Some found) hit formed e = go (nat_lt found.0 m) e
  where
    go : (b : Bool) → (if b then Some found else None) ≡ Some hit → IsWellFormed names (at_place s hit.0) hit.1
    go true e = subst (λ (h : ℕ × Row). IsWellFormed names (at_place s h.0) h.1) (some_is found hit e) formed
    go false e = absurd (cc)

-- ** What stays

counts_more : (t u : Table) (own : ℕ) → IsGrown t u → nat_lt own (length t.rows) ≡ true → (u.complete || nat_lt own (length u.rows)) ≡ true
counts_more t u own grown less =
    let l = ltb-true own (length t.rows) less in
    let n : length t.rows + length grown.rows.rest ≡ length u.rows = sym (length-append t.rows grown.rows.rest) ∙ ap length grown.rows.joined in
    or_right u.complete (nat_lt own (length u.rows)) (lt-ltb own (length u.rows) (omega (arith, l, n)))

field_stays : (p : Place) (x : ℕ) (t u : Table) → IsGrown t u → StaysKnown (field_in t p x) (field_in u p x)
field_stays p x t u grown = go (t.complete || nat_lt p.ordinal (length t.rows)) refl
  where
    same : (t.complete || nat_lt p.ordinal (length t.rows)) ≡ true → field_in u p x ≡ Known (field_before t.rows p.ordinal x)
    same all = ⊎_elim
        (λ (done : t.complete ≡ true). ap (λ (w : Table). field_in w p x) (grown.complete done) ∙ ap (λ (b : Bool). if b then Known (field_before t.rows p.ordinal x) else Waiting (head_of p.scope t)) all)
        (λ (less : nat_lt p.ordinal (length t.rows) ≡ true). let l = ltb-true p.ordinal (length t.rows) less in
        ap (λ (b : Bool). if b then Known (field_before u.rows p.ordinal x) else Waiting (head_of p.scope u)) (counts_more t u p.ordinal grown less)
        ∙ ap (λ (o : Option (ℕ × Row)). Known o) (field_front t.rows u.rows p.ordinal x grown.rows (omega (arith, l))))
        (or_cases t.complete (nat_lt p.ordinal (length t.rows)) all)

    go : (b : Bool) → (t.complete || nat_lt p.ordinal (length t.rows)) ≡ b → StaysKnown (if b then Known (field_before t.rows p.ordinal x) else Waiting (head_of p.scope t)) (field_in u p x)
    go true all = same all
    go false none = tt

-- ** What a selection promises

module _ (a : About) (own : ℕ) (v w : View) (later : (j : ℕ) → IsBefore (shown_at v j) (shown_at w j)) (mine : shown_at w own ≡ shown_at v own) (p : Place) (x : ℕ) where
  abbrev there : Table
  there = table_at (tables_in w) p.scope

  abbrev counts : Bool
  counts = there.complete || nat_lt p.ordinal (length there.rows)

  -- of the own scope it is what is entered
  own_field : (o : Option (ℕ × Row)) → field_before there.rows p.ordinal x ≡ o → p.scope ≡ own → field_before (shown_at w own).rows p.ordinal x ≡ o
  own_field o e same = subst (λ (s : ℕ). field_before (shown_at w s).rows p.ordinal x ≡ o) same (subst (λ (t : Table). field_before t.rows p.ordinal x ≡ o) (seen_table w p.scope) e)

  selects_known : counts ≡ true → (o : Option (ℕ × Row)) → field_before there.rows p.ordinal x ≡ o → WhereFinished (texts_in a) (λ finished. (s : ℕ) → IsBegun (table_at (tables_in w) s) (rows_at finished s))
      → ((hit : ℕ × Row) → o ≡ Some hit → IsWellFormed (length (texts_in a).names) (at_place p.scope hit.0) hit.1) → Selects (state_in a v own) (state_in a w own) p x (Known o)
  selects_known all (Some hit) e begun formed =
      let f = field_hit there.rows p.ordinal x hit e in
      record {
        before = f.0;
        keyed = f.2;
        shown = shown_there a own v w later mine (at_place p.scope hit.0) hit.1 f.1 (formed hit refl);
        own = own_field (Some hit) e;
        told = λ finished told. same_fields there (rows_at finished p.scope) p.ordinal x all (begun finished told p.scope) ∙ e;
      }
  selects_known all None e begun formed =
      record {
        own = own_field None e;
        told = λ finished told. same_fields there (rows_at finished p.scope) p.ordinal x all (begun finished told p.scope) ∙ e;
      }

  selects : WhereFinished (texts_in a) (λ finished. (s : ℕ) → IsBegun (table_at (tables_in w) s) (rows_at finished s))
      → ((hit : ℕ × Row) → field_in there p x ≡ Known (Some hit) → IsWellFormed (length (texts_in a).names) (at_place p.scope hit.0) hit.1) → Selects (state_in a v own) (state_in a w own) p x (field_in there p x)
  selects begun formed = go counts refl formed
    where
      go : (b : Bool) → counts ≡ b → ((hit : ℕ × Row) → (if b then Known (field_before there.rows p.ordinal x) else Waiting (head_of p.scope there)) ≡ Known (Some hit) → IsWellFormed (length (texts_in a).names) (at_place p.scope hit.0) hit.1)
          → Selects (state_in a v own) (state_in a w own) p x (if b then Known (field_before there.rows p.ordinal x) else Waiting (head_of p.scope there))
      go true all formed = selects_known all (field_before there.rows p.ordinal x) refl begun (λ hit e. formed hit (ap (λ (o : Option (ℕ × Row)). Known o) e))
      go false none formed =
          let parts = or_parts there.complete (nat_lt p.ordinal (length there.rows)) none in
          record { on = refl; short = ltb-false p.ordinal (length there.rows) parts.1; stops = stops_at a own v w later mine (head_of p.scope there) refl parts.0 }

  selected : (r : Ask (Option (ℕ × Row))) → w.about ≡ a → length w.seen ≡ scopes w.about → IsSound w → ((s : ℕ) → s ≢ p.scope → shown_at w s ≡ shown_at v s) → w.looks ≡ v.looks
      → r ≡ one_thread_field (tables_in w) p x → ((hit : ℕ × Row) → r ≡ Known (Some hit) → IsWellFormed (length (texts_in a).names) (at_place p.scope hit.0) hit.1) → Selected (state_in a v own) (state_in a w own) p x r
  selected r about wide sound elsewhere looks is formed =
      record {
        keeps = keeps a own v w later mine [] (ap (map look_of) looks ∙ Grows-refl (Some (map look_of v.looks)));
        elsewhere = λ s other. ap mark_in (elsewhere s other);
        says = subst (Selects (state_in a v own) (state_in a w own) p x) (sym is) (selects (begun a w about wide sound) (λ hit e. formed hit (is ∙ e)));
        alone = tt;
      }

  waits_new : (r : Ask (Option (ℕ × Row))) → r ≡ one_thread_field (tables_in w) p x → WaitsNew (state_in a v own) r
  waits_new r is = subst (λ (q : Ask (Option (ℕ × Row))). WaitsNew (state_in a v own) q) (sym is) (go counts refl)
    where
      go : (b : Bool) → counts ≡ b → WaitsNew (state_in a v own) (if b then Known (field_before there.rows p.ordinal x) else Waiting (head_of p.scope there))
      go true all = tt
      go false none =
          let parts = or_parts there.complete (nat_lt p.ordinal (length there.rows)) none in
          not_before a own v w later mine p.scope (ap (λ (t : Table). t.complete) (sym (seen_table w p.scope)) ∙ parts.0)

-- ** All that a selection tells

pub record IsChosen (a : About) (own now : ℕ) (v w : View) (p : Place) (x : ℕ) (r : Ask (Option (ℕ × Row))) : Type 0 where
  pub selected : Selected (state_in a v own) (state_in a w now) p x r
  pub answer : r ≡ one_thread_field (tables_in w) p x
  pub loads : w.loads ≡ v.loads ++ head_in p.scope (shown_at w p.scope) ∷ []
  pub waits : WaitsNew (state_in a v own) r
  pub grown : HaveGrown (tables_in v) (tables_in w)
  pub stays : (later : List Table) → HaveGrown (tables_in w) later → StaysKnown r (one_thread_field later p x)

pub chosen : (a : About) (own now : ℕ) (v w : View) (p : Place) (x : ℕ) (r : Ask (Option (ℕ × Row))) → w ≡ sees v p.scope (shown_at w p.scope) → IsBefore (shown_at v p.scope) (shown_at w p.scope) → (p.scope ≡ own → shown_at w p.scope ≡ shown_at v p.scope)
    → now ≡ own → v.about ≡ a → length w.seen ≡ scopes w.about → IsSound w → r ≡ one_thread_field (tables_in w) p x
    → ((hit : ℕ × Row) → r ≡ Known (Some hit) → IsWellFormed (length (texts_in a).names) (at_place p.scope hit.0) hit.1) → IsChosen a own now v w p x r
chosen a own now v w p x r sees_it later mine same about wide sound answer formed =
    let all : (j : ℕ) → IsBefore (shown_at v j) (shown_at w j) = step_later v w p.scope sees_it later in
    let own_same : shown_at w own ≡ shown_at v own = dite (ℕ_discrete own p.scope) (λ e. subst (λ (k : ℕ). shown_at w k ≡ shown_at v k) (sym e) (mine (sym e))) (λ n. others_stay v w p.scope sees_it later own n) in
    record {
      selected = subst (λ (z : ℕ). Selected (state_in a v own) (state_in a w z) p x r) (sym same)
          (selected a own v w all own_same p x r (ap (λ (u : View). u.about) sees_it ∙ about) wide sound (λ s n. others_stay v w p.scope sees_it later s n) (ap (λ (u : View). u.looks) sees_it) answer formed);
      answer = answer;
      loads = ap (λ (u : View). u.loads) sees_it;
      waits = waits_new a own v w all own_same p x r answer;
      grown = have_grown v w all;
      stays = λ after grown. subst (λ (q : Ask (Option (ℕ × Row))). StaysKnown q (one_thread_field after p x)) (sym answer) (field_stays p x (table_at (tables_in w) p.scope) (table_at after p.scope) (grown p.scope));
    }

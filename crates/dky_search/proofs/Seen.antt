-- Tables as a seat has seen them.
use Rattle.std.proofs.Common.{◌≡◌, ℕ, zero, suc, ◌+◌, ◌<◌, ◌≤◌, true, List, [], ◌∷◌, ◌++◌, map, length, get_or, take, drop, sym, refl, ap, ◌∙◌, subst, arith, take-append-drop, true≢false}
use native.Mathlib.Decide.{dec_le}
use Rattle.m2_base.specs.Finished.{WhereFinished}
use Rattle.m2_base.specs.States.{IsLater}
use Rattle.m2_base.specs.Tables.{Table, table_at, no_rows, rows_at}
use Rattle.m2_base.specs.declared.rows.Row.{Row}
use Rattle.scope_core.specs.PlainScopes.{IsBegun}
use Rattle.scope_table.specs.Rule.{scopes, nothing, shown_at, texts_in, IsBefore, IsFair, IsSound}
use Rattle.scope_table.specs.declared.view.About.{About}
use Rattle.scope_table.specs.declared.view.Shown.{Shown}
use Rattle.scope_table.specs.declared.view.View.{View}
use Rattle.scope_table.proofs.Frames.{length_begins}
use Rattle.dky_search.specs.Seen.{table_of, tables_in, IsGrown, HaveGrown, area, areas_from, areas_in, mark_in}

mapped : (xs : List Shown) (s : ℕ) → get_or (map table_of xs) s no_rows ≡ table_of (get_or xs s nothing)
mapped [] s = refl
mapped (x ∷ xs) zero = refl
mapped (x ∷ xs) (suc s) = mapped xs s

-- the table of a scope is what was seen of it
pub seen_table : (v : View) (s : ℕ) → table_at (tables_in v) s ≡ table_of (shown_at v s)
seen_table v s = mapped v.seen s

pub past_end : (xs : List Shown) (s : ℕ) → length xs ≤ s → get_or xs s nothing ≡ nothing
past_end [] s l = refl
past_end (x ∷ xs) zero l = absurd (omega arith)
past_end (x ∷ xs) (suc s) l = past_end xs s (omega arith)

-- ** What comes later

pub grown_of : (x y : Shown) → IsBefore x y → IsGrown (table_of x) (table_of y)
grown_of x y b = record { rows = record { rest = b.rows.0; joined = b.rows.1 }; complete = λ h. ap table_of (sym (b.done h)) }

pub have_grown : (v w : View) → ((j : ℕ) → IsBefore (shown_at v j) (shown_at w j)) → HaveGrown (tables_in v) (tables_in w)
have_grown v w later s =
    subst (λ (t : Table × Table). IsGrown t.0 t.1) (λ i. (sym (seen_table v s) i, sym (seen_table w s) i)) (grown_of (shown_at v s) (shown_at w s) (later s))

pub later_marks : (x y : Shown) → IsBefore x y → IsLater (mark_in x) (mark_in y)
later_marks x y b = record { count = length_begins x.rows y.rows b.rows; complete = λ h. ap mark_in (sym (b.done h)) }

-- ** Finished rows

begun_fair : (a : About) (s : ℕ) (t : Shown) (finished : List (List Row)) → take (length t.rows) (rows_at finished s) ≡ t.rows → (t.complete ≡ true → t.rows ≡ rows_at finished s) → IsBegun (table_of t) (rows_at finished s)
begun_fair a s t finished first whole =
    record {
      first = record {
        rest = drop (length t.rows) (rows_at finished s);
        joined = ap (λ (rows : List Row). rows ++ drop (length t.rows) (rows_at finished s)) (sym first) ∙ take-append-drop (length t.rows) (rows_at finished s);
      };
      whole = whole;
    }

-- what a seat has seen of each scope is the first of its finished rows, and all where it is complete
pub begun : (a : About) (v : View) → v.about ≡ a → length v.seen ≡ scopes v.about → IsSound v → WhereFinished (texts_in a) (λ finished. (s : ℕ) → IsBegun (table_at (tables_in v) s) (rows_at finished s))
begun a v about wide sound finished told s = subst (λ (t : Table). IsBegun t (rows_at finished s)) (sym (seen_table v s)) (elim (dec_le (scopes v.about) s) [
  | yes past ↦ subst (λ (t : Shown). IsBegun (table_of t) (rows_at finished s)) (sym (past_end v.seen s (omega arith))) (record { first = record { rest = rows_at finished s; joined = refl }; whole = λ h. absurd (true≢false (sym h)) })
  | no within ↦ let fair : IsFair a s (shown_at v s).rows (shown_at v s).complete = subst (λ (b : About). IsFair b s (shown_at v s).rows (shown_at v s).complete) about (sound s (omega arith)).fair in
      begun_fair a s (shown_at v s) finished (fair.begun finished told) (λ h. fair.whole h finished told)
])

-- ** Areas

areas_of : (a : About) (j n k : ℕ) → k < n → get_or (areas_from a j n) k 0 ≡ area a (j + k)
areas_of a j zero k l = absurd (omega arith)
areas_of a j (suc n) zero l = ap (area a) (omega arith)
areas_of a j (suc n) (suc k) l = areas_of a (suc j) n k (omega arith) ∙ ap (area a) (omega arith)

pub area_at : (a : About) (k : ℕ) → k < scopes a → get_or (areas_in a) k 0 ≡ area a k
area_at a k l = areas_of a 0 (scopes a) k l ∙ ap (area a) (omega arith)

length-areas_from : (a : About) (j n : ℕ) → length (areas_from a j n) ≡ n
length-areas_from a j zero = refl
length-areas_from a j (suc n) = ap suc (length-areas_from a (suc j) n)

pub length-areas : (a : About) → length (areas_in a) ≡ scopes a
length-areas a = length-areas_from a 0 (scopes a)

-- a run that has happened in part
use Rattle.std.proofs.Common.{◌≡◌, ℕ, ◌<◌, ◌≤◌, ◌+◌, ◌^◌, List, [], ◌∷◌, ◌++◌, length, refl, sym, ◌∙◌, ap, subst, arith, append_assoc, length-append, get_or-set_same}
use Rattle.std.proofs.lemmas.List.{append-nil}
use Rattle.m2_base.specs.declared.rows.Row.{Row}
use Rattle.m2_base.specs.Tables.{Table, table_at, one_thread, no_rows}
use Rattle.scope_core.specs.declared.event.Event.{Event}
use Rattle.scope_core.specs.Kept.{longer, with_rows}
use Rattle.scope_core.specs.Events.{after, after_all, IsRun, AreCountable, Stays}
use Rattle.scope_core.proofs.Settling.{IsGrown, IsGrown-trans, after_grows, one_thread_stays, run_grows, grown_rows}

pub record Part (before tables : List Table) (whole rest : List Event) : Type 0 where
  pub done : List Event
  pub joined : done ++ rest ≡ whole
  pub tables_are : tables ≡ after_all before done
  pub run : IsRun tables rest
  pub countable : AreCountable (after_all tables rest)
  pub grown : (s : ℕ) → IsGrown (table_at before s) (table_at tables s)

after_all-append : (tables : List Table) (done : List Event) (e : Event) → after_all tables (done ++ e ∷ []) ≡ after (after_all tables done) e
after_all-append tables [] e = refl
after_all-append tables (d ∷ done) e = after_all-append (after tables d) done e

-- the next event happens
pub part_step : (before tables later : List Table) (whole rest left : List Event) (e : Event) → Part before tables whole rest → rest ≡ e ∷ left → later ≡ after tables e → Part before later whole left
part_step before tables later whole rest left e part is later_is =
    let p : Part before tables whole (e ∷ left) = subst (λ r. Part before tables whole r) is part in
    let made : Part before (after tables e) whole left =
    record {
      done = p.done ++ e ∷ [];
      joined = append_assoc p.done (e ∷ []) left ∙ p.joined;
      tables_are = ap (λ t. after t e) p.tables_are ∙ sym (after_all-append before p.done e);
      run = p.run.1;
      countable = p.countable;
      grown = λ s. IsGrown-trans (p.grown s) (after_grows tables e p.run.0 s);
    } in
    subst (λ t. Part before t whole left) (sym later_is) made

pub part_stays : (before tables later : List Table) (whole rest : List Event) (chain : List ℕ) (x : ℕ) → Part before tables whole rest → later ≡ tables → Stays (one_thread before chain x) (one_thread later chain x)
part_stays before tables later whole rest chain x p same =
    subst (λ t. Stays (one_thread before chain x) (one_thread t chain x)) (sym same) (one_thread_stays before tables chain x p.grown)

-- what is countable after a run is so before it
pub countable_before : (tables : List Table) (run : List Event) → IsRun tables run → AreCountable (after_all tables run) → AreCountable tables
countable_before tables run lawful countable s =
    let more = grown_rows (table_at tables s) (table_at (after_all tables run) s) (run_grows tables run lawful s) in
    let few = countable s in
    omega (arith, more, few)

-- the next event leaves tables that are countable
pub part_countable : (before tables : List Table) (whole rest left : List Event) (e : Event) → Part before tables whole rest → rest ≡ e ∷ left → AreCountable (after tables e)
part_countable before tables whole rest left e part is =
    let p : Part before tables whole (e ∷ left) = subst (λ r. Part before tables whole r) is part in
    countable_before (after tables e) left p.run.1 p.countable

-- rows that are entered have ordinals
pub enter_countable : (tables : List Table) (s : ℕ) (rows : List Row) → s < length tables → AreCountable (with_rows tables s rows) → length (table_at tables s).rows + length rows ≤ 2 ^ 32
enter_countable tables s rows within countable =
    let t = longer (table_at tables s) rows in
    let at : table_at (with_rows tables s rows) s ≡ t = get_or-set_same tables s t no_rows within in
    let few = subst (λ (u : Table). length u.rows < 2 ^ 32) at (countable s) in
    omega (arith, few, length-append (table_at tables s).rows rows)

-- where no event is left, all have happened
pub part_all : (before tables : List Table) (whole rest : List Event) → Part before tables whole rest → length rest ≡ 0 → tables ≡ after_all before whole
part_all before tables whole rest part none =
    part.tables_are ∙ ap (after_all before) (sym (append-nil part.done) ∙ ap (λ l. part.done ++ l) (sym (nothing rest none)) ∙ part.joined)
  where
    nothing : (l : List Event) → length l ≡ 0 → l ≡ []
    nothing [] e = refl
    nothing (x ∷ l) e = absurd (omega arith)

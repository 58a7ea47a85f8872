-- what a search in tables that nobody else changes shows
use Rattle.std.proofs.Common.{◌≡◌, ℕ, ◌≤◌, ◌+◌, Bool, true, false, ◌==◌, List, [], ◌∷◌, ◌++◌, Option, Some, None, length, refl, sym, ap, ◌∙◌, subst, arith, ⊎_elim, ◌⊎◌, inl, inr, suc, zero, if◌then◌else◌}
use Rattle.std.specs.List.{slice_get}
use Rattle.std.specs.Prelude.{nat_lt, ◌||◌}
use Rattle.std.proofs.lemmas.Bool.{ltb-false, ltb-true, or_cases, or_parts}
use Rattle.std.proofs.lemmas.Option.{slice_get_within}
use Rattle.std.proofs.lemmas.Grind.{common_steps}
use Rattle.m2_base.specs.declared.rows.Row.{Row}
use Rattle.m2_base.specs.declared.rows.Place.{Place}
use Rattle.m2_base.specs.declared.replies.Head.{Head}
use Rattle.m2_base.specs.declared.replies.Reply.{Reply}
use Rattle.m2_base.specs.declared.replies.Reply.TheVariants.{Found, Absent, DontKnowYet}
use Rattle.m2_base.specs.declared.replies.Ask.{Ask}
use Rattle.m2_base.specs.declared.replies.Ask.TheVariants.{Known, DontKnowYet as Waiting}
use Rattle.m2_base.specs.Finished.{WhereFinished}
use Rattle.m2_base.specs.Rows.{at_place}
use Rattle.m2_base.specs.Lists.{Each}
use Rattle.m2_base.specs.Keys.{field_before, field_in, one_thread_field}
use Rattle.m2_base.specs.Tables.{Table, table_at, rows_at, head_of, fetched_or, first_named, one_thread, one_thread_row, reply_or, Lacks}
use Rattle.m2_base.specs.Scopes.{IsLoaded, IsTaken, EndsAt, IsShown, StopsAt, Replied, Searched, Fetches, Fetched, Selects, Selected}
use Rattle.m2_base.proofs.KeyLaws.{field_front, field_hit}
use Rattle.m2_base.proofs.Kept.{IsLater-refl, Keeps-refl}
use Rattle.scope_core.specs.Heads.{heads_of, heads_after}
use Rattle.scope_core.specs.PlainScopes.{IsBegun, IsSoundly, Plain, state_of}
use Rattle.scope_core.proofs.Settling.{one_thread_settles, lawful_heads}
use Rattle.scope_core.proofs.Filling.{put_back}

-- what was found under a name
record IsHit (x : ℕ) (rows : List Row) (n : ℕ) (hit : ℕ × Row) : Type 0 where
  j : ℕ
  ordinal : hit.0 ≡ n + j
  there : slice_get rows j ≡ Some hit.1
  named : hit.1.name ≡ x

first_named_hit : (x : ℕ) (rows : List Row) (n : ℕ) (hit : ℕ × Row) → first_named x rows n ≡ Some hit → IsHit x rows n hit
first_named_hit x [] n hit e = absurd (cc)
first_named_hit x (r ∷ rows) n hit e = go (r.name == x) refl (first_named_hit x rows (n + 1) hit) e
  where
    go : (b : Bool) → (r.name == x) ≡ b → (first_named x rows (n + 1) ≡ Some hit → IsHit x rows (n + 1) hit) → (if b then Some (n, r) else first_named x rows (n + 1)) ≡ Some hit → IsHit x (r ∷ rows) n hit
    go true same later e =
        let is : (n, r) ≡ hit = cc in
        subst (IsHit x (r ∷ rows) n) is (record { j = 0; ordinal = omega arith; there = refl; named = grind (arith, common_steps) })
    go false other later e =
        let h = later e in
        record { j = suc h.j; ordinal = omega (arith, h.ordinal); there = h.there; named = h.named }

pub hit_at : (x : ℕ) (rows : List Row) (hit : ℕ × Row) → first_named x rows 0 ≡ Some hit → (slice_get rows hit.0 ≡ Some hit.1) × (hit.1.name ≡ x)
hit_at x rows hit e =
    let h = first_named_hit x rows 0 hit e in
    let same : h.j ≡ hit.0 = omega (arith, h.ordinal) in
    (subst (λ k. slice_get rows k ≡ Some hit.1) same h.there, h.named)

shown_at : (p : Plain) (s k : ℕ) (r : Row) → IsSoundly p → slice_get (table_at p.tables s).rows k ≡ Some r → IsShown (state_of p) (at_place s k) r
shown_at p s k r sound e =
    record {
      formed = sound.formed s k r e;
      counted = slice_get_within (table_at p.tables s).rows k r e;
      own = λ same. subst (λ j. slice_get (table_at p.tables j).rows k ≡ Some r) same e;
    }

loaded_now : (p : Plain) (s : ℕ) → IsLoaded (state_of p) (state_of p) (head_of s (table_at p.tables s))
loaded_now p s = record { from = IsLater-refl _; upto = IsLater-refl _ }

stops_at : (p : Plain) (s : ℕ) → (table_at p.tables s).complete ≡ false → StopsAt (state_of p) (state_of p) (head_of s (table_at p.tables s))
stops_at p s still =
    record {
      incomplete = still;
      loaded = loaded_now p s;
      own = λ same. (subst (λ j. (table_at p.tables j).complete ≡ false) same still, ap (λ j. length (table_at p.tables j).rows) same);
    }

-- what holds of the rest of a chain holds of it with a scope before, which is complete and lacks the name
replied_on : (p : Plain) (s x : ℕ) (chain : List ℕ) (reply : Reply) → (table_at p.tables s).complete ≡ true → Lacks (table_at p.tables s).rows x → Replied (state_of p) (state_of p) chain x reply → Replied (state_of p) (state_of p) (s ∷ chain) x reply
replied_on p s x chain (Found q r) done lacks h = record { on = inr h.on; named = h.named; shown = h.shown }
replied_on p s x chain Absent done lacks h =
    record {
      complete = (done, h.complete);
      own = λ on. elim on as (λ _. ((table_at p.tables p.fills).complete ≡ true) × Lacks (table_at p.tables p.fills).rows x) [
        | inl same ↦ (subst (λ j. (table_at p.tables j).complete ≡ true) (sym same) done, subst (λ j. Lacks (table_at p.tables j).rows x) (sym same) lacks)
        | inr later ↦ h.own later
      ];
    }
replied_on p s x chain (DontKnowYet k) done lacks h = record { on = inr h.on; stops = h.stops; own = h.own }

replied_at : (p : Plain) (s x : ℕ) (chain : List ℕ) (o : Option (ℕ × Row)) (rest : Reply) → IsSoundly p → first_named x (table_at p.tables s).rows 0 ≡ o → Replied (state_of p) (state_of p) chain x rest → Replied (state_of p) (state_of p) (s ∷ chain) x (reply_or (head_of s (table_at p.tables s)) o rest)
replied_at p s x chain (Some hit) rest sound e h =
    let at = hit_at x (table_at p.tables s).rows hit e in
    record { on = inl refl; named = at.1; shown = shown_at p s hit.0 hit.1 sound at.0 }
replied_at p s x chain None rest sound e h = go (table_at p.tables s).complete refl
  where
    go : (b : Bool) → (table_at p.tables s).complete ≡ b → Replied (state_of p) (state_of p) (s ∷ chain) x (if b then rest else DontKnowYet (head_of s (table_at p.tables s)))
    go true done = replied_on p s x chain rest done e h
    go false still = record { on = inl refl; stops = stops_at p s still; own = λ same. subst (λ j. Lacks (table_at p.tables j).rows x) same e }

replied : (p : Plain) (chain : List ℕ) (x : ℕ) → IsSoundly p → Replied (state_of p) (state_of p) chain x (one_thread p.tables chain x)
replied p [] x sound = record { complete = tt; own = λ on. absurd on }
replied p (s ∷ chain) x sound =
    replied_at p s x chain (first_named x (table_at p.tables s).rows 0) (one_thread p.tables chain x) sound refl (replied p chain x sound)

taken_at : (p : Plain) (s x : ℕ) (chain : List ℕ) (o : Option (ℕ × Row)) (heads : List Head) (rest : Reply) → first_named x (table_at p.tables s).rows 0 ≡ o → IsTaken chain heads rest → IsTaken (s ∷ chain) (head_of s (table_at p.tables s) ∷ heads_after (table_at p.tables s) o heads) (reply_or (head_of s (table_at p.tables s)) o rest)
taken_at p s x chain (Some hit) heads rest e h =
    (refl, inr (refl, (refl, slice_get_within _ _ _ (hit_at x (table_at p.tables s).rows hit e).0)))
taken_at p s x chain None heads rest e h = (refl, go (table_at p.tables s).complete refl)
  where
    go : (b : Bool) → (table_at p.tables s).complete ≡ b → (((table_at p.tables s).complete ≡ true) × IsTaken chain (if b then heads else []) (if b then rest else DontKnowYet (head_of s (table_at p.tables s)))) ⊎ (((if b then heads else []) ≡ []) × EndsAt (head_of s (table_at p.tables s)) (if b then rest else DontKnowYet (head_of s (table_at p.tables s))))
    go true done = inl (done, h)
    go false still = inr (refl, (refl, still))

taken : (p : Plain) (chain : List ℕ) (x : ℕ) → IsTaken chain (heads_of p.tables chain x) (one_thread p.tables chain x)
taken p [] x = (refl, refl)
taken p (s ∷ chain) x = taken_at p s x chain (first_named x (table_at p.tables s).rows 0) (heads_of p.tables chain x) (one_thread p.tables chain x) refl (taken p chain x)

loaded_after : (p : Plain) (s : ℕ) (o : Option (ℕ × Row)) (heads : List Head) → Each (IsLoaded (state_of p) (state_of p)) heads → Each (IsLoaded (state_of p) (state_of p)) (heads_after (table_at p.tables s) o heads)
loaded_after p s (Some hit) heads h = tt
loaded_after p s None heads h = go (table_at p.tables s).complete
  where
    go : (b : Bool) → Each (IsLoaded (state_of p) (state_of p)) (if b then heads else [])
    go true = h
    go false = tt

loaded : (p : Plain) (chain : List ℕ) (x : ℕ) → Each (IsLoaded (state_of p) (state_of p)) (heads_of p.tables chain x)
loaded p [] x = tt
loaded p (s ∷ chain) x = (loaded_now p s, loaded_after p s (first_named x (table_at p.tables s).rows 0) (heads_of p.tables chain x) (loaded p chain x))

-- a search
pub searched : (p : Plain) (at : ℕ) (chain : List ℕ) (x : ℕ) (reply : Reply) → IsSoundly p → reply ≡ one_thread p.tables chain x → Searched (state_of p) (state_of p) at chain x reply
searched p at chain x reply sound is = subst (Searched (state_of p) (state_of p) at chain x) (sym is) made
  where
    made : Searched (state_of p) (state_of p) at chain x (one_thread p.tables chain x)
    made =
        record {
          heads = heads_of p.tables chain x;
          taken = taken p chain x;
          loaded = loaded p chain x;
          keeps = record { frame = refl; seen = λ s. IsLater-refl _; grows = tt };
          elsewhere = λ s other. refl;
          says = replied p chain x sound;
          lawful = λ finished told. lawful_heads p.tables finished chain x (sound.told finished told);
          settled = λ finished told. one_thread_settles p.tables finished chain x (sound.told finished told);
          alone = ap (λ t. one_thread t chain x) (sym (put_back p.tables p.fills));
        }

told_at : (p : Plain) (s k : ℕ) (r : Row) → IsSoundly p → slice_get (table_at p.tables s).rows k ≡ Some r → WhereFinished p.texts (λ finished. slice_get (rows_at finished s) k ≡ Some r)
told_at p s k r sound e finished told =
    let first = (sound.told finished told s).first in
    subst (λ rows. slice_get rows k ≡ Some r) first.joined (ahead (table_at p.tables s).rows first.rest k r e)
  where
    ahead : (xs ys : List Row) (k : ℕ) (r : Row) → slice_get xs k ≡ Some r → slice_get (xs ++ ys) k ≡ Some r
    ahead [] ys k r e = absurd (cc)
    ahead (x ∷ xs) ys zero r e = e
    ahead (x ∷ xs) ys (suc k) r e = ahead xs ys k r e

past_all : (rows : List Row) (k : ℕ) → slice_get rows k ≡ None → length rows ≤ k
past_all [] k e = omega arith
past_all (x ∷ rows) zero e = absurd (cc)
past_all (x ∷ rows) (suc k) e = let h = past_all rows k e in omega (arith, h)

fetches : (p : Plain) (q : Place) (o : Option Row) → IsSoundly p → slice_get (table_at p.tables q.scope).rows q.ordinal ≡ o → Fetches (state_of p) (state_of p) q (fetched_or q.scope (table_at p.tables q.scope) o)
fetches p q (Some r) sound e = record { shown = shown_at p q.scope q.ordinal r sound e; told = told_at p q.scope q.ordinal r sound e }
fetches p q None sound e = go (table_at p.tables q.scope).complete refl
  where
    past : length (table_at p.tables q.scope).rows ≤ q.ordinal
    past = past_all (table_at p.tables q.scope).rows q.ordinal e

    go : (b : Bool) → (table_at p.tables q.scope).complete ≡ b → Fetches (state_of p) (state_of p) q (if b then Known None else Waiting (head_of q.scope (table_at p.tables q.scope)))
    go true done =
        record {
          complete = done;
          short = past;
          own = λ same. (subst (λ j. (table_at p.tables j).complete ≡ true) same done, subst (λ j. length (table_at p.tables j).rows ≤ q.ordinal) same past);
          told = λ finished told. subst (λ rows. length rows ≤ q.ordinal) ((sound.told finished told q.scope).whole done) past;
        }
    go false still = record { on = refl; short = past; stops = stops_at p q.scope still }

-- a fetch
pub fetched : (p : Plain) (q : Place) (answer : Ask (Option Row)) → IsSoundly p → answer ≡ one_thread_row p.tables q → Fetched (state_of p) (state_of p) q answer
fetched p q answer sound is =
    subst (Fetched (state_of p) (state_of p) q) (sym is)
    (record {
      keeps = Keeps-refl _;
      elsewhere = λ s other. refl;
      says = fetches p q (slice_get (table_at p.tables q.scope).rows q.ordinal) sound refl;
      alone = ap (λ t. one_thread_row t q) (sym (put_back p.tables p.fills));
    })

-- the fields before a row that a table has, or behind all, are those of all its rows
pub same_fields : (t : Table) (full : List Row) (own x : ℕ) → (t.complete || nat_lt own (length t.rows)) ≡ true → IsBegun t full → field_before full own x ≡ field_before t.rows own x
same_fields t full own x counts begun =
    ⊎_elim (λ (done : t.complete ≡ true). ap (λ (rows : List Row). field_before rows own x) (sym (begun.whole done)))
    (λ (less : nat_lt own (length t.rows) ≡ true). let l = ltb-true own (length t.rows) less in field_front t.rows full own x begun.first (omega (arith, l)))
    (or_cases t.complete (nat_lt own (length t.rows)) counts)

module _ (p : Plain) (q : Place) (x : ℕ) (sound : IsSoundly p) where
  abbrev there : Table
  there = table_at p.tables q.scope

  abbrev counts : Bool
  counts = there.complete || nat_lt q.ordinal (length there.rows)

  selects_known : counts ≡ true → (o : Option (ℕ × Row)) → field_before there.rows q.ordinal x ≡ o → Selects (state_of p) (state_of p) q x (Known o)
  selects_known all (Some hit) e =
      let f = field_hit there.rows q.ordinal x hit e in
      record {
        before = f.0;
        keyed = f.2;
        shown = shown_at p q.scope hit.0 hit.1 sound f.1;
        own = λ same. subst (λ j. field_before (table_at p.tables j).rows q.ordinal x ≡ Some hit) same e;
        told = λ finished told. same_fields there (rows_at finished q.scope) q.ordinal x all (sound.told finished told q.scope) ∙ e;
      }
  selects_known all None e =
      record {
        own = λ same. subst (λ j. field_before (table_at p.tables j).rows q.ordinal x ≡ None) same e;
        told = λ finished told. same_fields there (rows_at finished q.scope) q.ordinal x all (sound.told finished told q.scope) ∙ e;
      }

  selects : Selects (state_of p) (state_of p) q x (field_in there q x)
  selects = go counts refl
    where
      go : (b : Bool) → counts ≡ b → Selects (state_of p) (state_of p) q x (if b then Known (field_before there.rows q.ordinal x) else Waiting (head_of q.scope there))
      go true all = selects_known all (field_before there.rows q.ordinal x) refl
      go false none =
          let parts = or_parts there.complete (nat_lt q.ordinal (length there.rows)) none in
          record { on = refl; short = ltb-false q.ordinal (length there.rows) parts.1; stops = stops_at p q.scope parts.0 }

-- a selection
pub selected : (p : Plain) (q : Place) (x : ℕ) (answer : Ask (Option (ℕ × Row))) → IsSoundly p → answer ≡ one_thread_field p.tables q x → Selected (state_of p) (state_of p) q x answer
selected p q x answer sound is =
    subst (Selected (state_of p) (state_of p) q x) (sym is)
    (record {
      keeps = Keeps-refl _;
      elsewhere = λ s other. refl;
      says = selects p q x sound;
      alone = ap (λ t. one_thread_field t q x) (sym (put_back p.tables p.fills));
    })

-- What the reply of one thread tells of its tables, and why it stays.
use Rattle.std.proofs.Common.{◌≡◌, ℕ, Bool, true, false, List, [], ◌∷◌, ◌++◌, Option, Some, None, slice_get, if◌then◌else◌, refl, ap, ◌∙◌, subst, inl, inr, ◌⊎◌, zero, suc}
use Rattle.std.proofs.lemmas.Option.{slice_get_within}
use Rattle.m2_base.specs.Lists.{Each}
use Rattle.m2_base.specs.Scopes.{IsTaken, EndsAt}
use Rattle.m2_base.specs.Tables.{Table, table_at, head_of, first_named, one_thread, one_thread_row, fetched_or, reply_or}
use Rattle.m2_base.specs.declared.replies.Ask.TheVariants.{Known, DontKnowYet as Waiting}
use Rattle.m2_base.specs.declared.replies.Head.{Head}
use Rattle.m2_base.specs.declared.replies.Reply.{Reply}
use Rattle.m2_base.specs.declared.replies.Reply.TheVariants.{Found, Absent, DontKnowYet}
use Rattle.m2_base.specs.declared.rows.Place.{Place}
use Rattle.m2_base.specs.declared.rows.Row.{Row}
use Rattle.scope_core.specs.Events.{Stays}
use Rattle.scope_core.specs.Heads.{heads_of, heads_after}
use Rattle.scope_core.proofs.Searching.{hit_at}
use Rattle.scope_core.proofs.Settling.{one_thread_stays}
use Rattle.dky_search.specs.Seen.{IsGrown, HaveGrown, IsWithout, TellsOf}
use Rattle.dky_search.specs.SeatScopes.{StaysKnown}

-- what holds of the rest of a chain holds of it with a scope before, which is complete and lacks the name
tells_on : (tables : List Table) (s x : ℕ) (chain : List ℕ) (r : Reply) → IsWithout x (table_at tables s) → TellsOf tables chain x r → TellsOf tables (s ∷ chain) x r
tells_on tables s x chain (Found p row) without h = (inr h.0, h.1, h.2)
tells_on tables s x chain Absent without h = (without, h)
tells_on tables s x chain (DontKnowYet k) without h = (inr h.0, h.1, h.2, h.3)

tells_at : (tables : List Table) (s x : ℕ) (chain : List ℕ) (o : Option (ℕ × Row)) (rest : Reply) → first_named x (table_at tables s).rows 0 ≡ o → TellsOf tables chain x rest → TellsOf tables (s ∷ chain) x (reply_or (head_of s (table_at tables s)) o rest)
tells_at tables s x chain (Some hit) rest e h = let at = hit_at x (table_at tables s).rows hit e in (inl refl, at.1, at.0)
tells_at tables s x chain None rest e h = go (table_at tables s).complete refl
  where
    go : (b : Bool) → (table_at tables s).complete ≡ b → TellsOf tables (s ∷ chain) x (if b then rest else DontKnowYet (head_of s (table_at tables s)))
    go true done = tells_on tables s x chain rest (record { complete = done; lacks = e }) h
    go false still = (inl refl, refl, still, e)

-- the reply of one thread
pub tells : (tables : List Table) (chain : List ℕ) (x : ℕ) → TellsOf tables chain x (one_thread tables chain x)
tells tables [] x = tt
tells tables (s ∷ chain) x = tells_at tables s x chain (first_named x (table_at tables s).rows 0) (one_thread tables chain x) refl (tells tables chain x)

taken_at : (t : Table) (s x : ℕ) (chain : List ℕ) (o : Option (ℕ × Row)) (heads : List Head) (rest : Reply) → first_named x t.rows 0 ≡ o → IsTaken chain heads rest → IsTaken (s ∷ chain) (head_of s t ∷ heads_after t o heads) (reply_or (head_of s t) o rest)
taken_at t s x chain (Some hit) heads rest e h = (refl, inr (refl, (refl, slice_get_within _ _ _ (hit_at x t.rows hit e).0)))
taken_at t s x chain None heads rest e h = (refl, go t.complete refl)
  where
    go : (b : Bool) → t.complete ≡ b → ((t.complete ≡ true) × IsTaken chain (if b then heads else []) (if b then rest else DontKnowYet (head_of s t))) ⊎ (((if b then heads else []) ≡ []) × EndsAt (head_of s t) (if b then rest else DontKnowYet (head_of s t)))
    go true done = inl (done, h)
    go false still = inr (refl, (refl, still))

-- the heads to which one thread comes
pub taken : (tables : List Table) (chain : List ℕ) (x : ℕ) → IsTaken chain (heads_of tables chain x) (one_thread tables chain x)
taken tables [] x = (refl, refl)
taken tables (s ∷ chain) x = taken_at (table_at tables s) s x chain (first_named x (table_at tables s).rows 0) (heads_of tables chain x) (one_thread tables chain x) refl (taken tables chain x)

-- P of the head of each scope holds of each of those heads
heads_each : (P : Head → Type 0) (t : Table) (o : Option (ℕ × Row)) (heads : List Head) → Each P heads → Each P (heads_after t o heads)
heads_each P t (Some hit) heads all = tt
heads_each P t None heads all = go t.complete
  where
    go : (b : Bool) → Each P (if b then heads else [])
    go true = all
    go false = tt

pub each_head : (P : Head → Type 0) (tables : List Table) → ((s : ℕ) → P (head_of s (table_at tables s))) → (chain : List ℕ) (x : ℕ) → Each P (heads_of tables chain x)
each_head P tables all [] x = tt
each_head P tables all (s ∷ chain) x = (all s, heads_each P (table_at tables s) (first_named x (table_at tables s).rows 0) (heads_of tables chain x) (each_head P tables all chain x))

-- ** What stays

pub stays : (tables later : List Table) (chain : List ℕ) (x : ℕ) → HaveGrown tables later → Stays (one_thread tables chain x) (one_thread later chain x)
stays tables later chain x grown = one_thread_stays tables later chain x (λ s. record { rows = (grown s).rows; complete = (grown s).complete })

get_more : (xs ys : List Row) (k : ℕ) (r : Row) → slice_get xs k ≡ Some r → slice_get (xs ++ ys) k ≡ Some r
get_more [] ys k r e = absurd (cc)
get_more (x ∷ xs) ys zero r e = e
get_more (x ∷ xs) ys (suc k) r e = get_more xs ys k r e

row_stays : (s k : ℕ) (t u : Table) (o : Option Row) → IsGrown t u → slice_get t.rows k ≡ o → StaysKnown (fetched_or s t o) (fetched_or s u (slice_get u.rows k))
row_stays s k t u (Some r) grown e =
    ap (fetched_or s u) (subst (λ (rows : List Row). slice_get rows k ≡ Some r) grown.rows.joined (get_more t.rows grown.rows.rest k r e))
row_stays s k t u None grown e = go t.complete refl
  where
    go : (b : Bool) → t.complete ≡ b → StaysKnown (if b then Known None else Waiting (head_of s t)) (fetched_or s u (slice_get u.rows k))
    go true done = ap (λ (w : Table). fetched_or s w (slice_get w.rows k)) (grown.complete done) ∙ (ap (fetched_or s t) e ∙ (λ i. if done i then Known None else Waiting (head_of s t)))
    go false still = tt

pub known_stays : (tables later : List Table) (p : Place) → HaveGrown tables later → StaysKnown (one_thread_row tables p) (one_thread_row later p)
known_stays tables later p grown = row_stays p.scope p.ordinal (table_at tables p.scope) (table_at later p.scope) (slice_get (table_at tables p.scope).rows p.ordinal) (grown p.scope) refl

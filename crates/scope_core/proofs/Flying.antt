-- a flight's look is lawful
use Rattle.std.proofs.Common.{◌≡◌, ℕ, ◌<◌, ◌≤◌, ◌+◌, ◌-◌, Bool, true, false, List, [], ◌∷◌, ◌++◌, Option, Some, None, length, take, drop, suc, refl, sym, ◌∙◌, ap, subst, arith, ◌⊎◌, inl, inr, if◌then◌else◌, IsSome, IsNone, ◌↔◌, get_or-set_same, get_or-set_other}
use Rattle.std.proofs.Math.ListN.{set}
use Rattle.std.specs.List.{slice_get}
use Rattle.std.proofs.lemmas.List.{length-set, take_more_set}
use Rattle.std.proofs.lemmas.Option.{slice_get_within}
use Rattle.std.proofs.lemmas.Grind.{common_steps}
use Rattle.std.proofs.lemmas.Bool.{cases_eq, false≢true}
use Rattle.m2_base.specs.Rows.{at_place}
use Rattle.m2_base.specs.declared.rows.Row.{Row}
use Rattle.m2_base.specs.declared.rows.Place.{Place}
use Rattle.m2_base.specs.declared.replies.Head.{Head}
use Rattle.m2_base.specs.declared.replies.Reply.{Reply}
use Rattle.m2_base.specs.declared.replies.Reply.TheVariants.{Found, Absent, DontKnowYet}
use Rattle.m2_base.specs.Lists.{Each, IsIn}
use Rattle.m2_base.specs.Tables.{Table, table_at, first_named, one_thread, reply_or, head_of, no_rows}
use Rattle.m2_base.specs.Scopes.{IsTaken}
use Rattle.m2_base.proofs.EachLaws.{each_append}
use Rattle.scope_core.specs.Flights.{reply_of, reply_by, IsFlight, GoesOn, heads_in, cut_table, cut, found_at, IsTrueIn, AreEqual, IsLawfulIn, Flown, next_by, next_of, IsHitOf, IsFlying}
use Rattle.scope_core.specs.declared.flight.Load.{Load}
use Rattle.scope_core.proofs.Searching.{hit_at}

length-cut : (tables : List Table) (heads : List Head) → length (cut tables heads) ≡ length tables
length-cut tables [] = refl
length-cut tables (h ∷ heads) = length-set (cut tables heads) h.scope _ ∙ length-cut tables heads

equal_in : (heads : List Head) {h k : Head} → Each (λ j. j.scope ≡ h.scope → j ≡ h) heads → IsIn k heads → k.scope ≡ h.scope → k ≡ h
equal_in [] {h} {k} all on e = absurd on
equal_in (j ∷ heads) {h} {k} all on e =
    elim on as (λ _. k ≡ h) [ inl is ↦ is ∙ all.0 (ap (λ q. q.scope) (sym is) ∙ e) | inr m ↦ equal_in heads all.1 m e ]

all_in_more : (all skipped ls : List Load) → ((k : Head) → IsIn k (heads_in ls) → IsIn k (heads_in all)) → Each (λ l. IsIn l.head (heads_in all)) ls
all_in_more all skipped [] h = tt
all_in_more all skipped (l ∷ ls) h = (h l.head (inl refl), all_in_more all skipped ls (λ k m. h k (inr m)))

head_is : (s : ℕ) (t : Table) (h : Head) → h.scope ≡ s → h.count ≤ length t.rows → head_of s (cut_table t h) ≡ h
head_is s t h scope counted =
    let n : length (take h.count t.rows) ≡ h.count = grind (arith, common_steps) in
    ap (λ c. record { scope = s; count = c; complete = h.complete }) n ∙ ap (λ q. record { scope = q; count = h.count; complete = h.complete }) (sym scope)

-- one load of the tables as they are cut, and what is left
lawful_here : (tables : List Table) (heads : List Head) (chain : List ℕ) (x : ℕ) (h : Head) (hit : Option (Place × Row)) (loads : List Load) (reply : Reply) (fo : Option (ℕ × Row)) → first_named x (take h.count (table_at tables h.scope).rows) 0 ≡ fo → hit ≡ found_at h.scope fo → h.count ≤ length (table_at tables h.scope).rows → GoesOn hit h loads → reply_by hit h (reply_of chain loads) ≡ Some reply → ((r : Reply) → reply_of chain loads ≡ Some r → IsTaken chain (heads_in loads) r × (r ≡ one_thread (cut tables heads) chain x)) → IsTaken (h.scope ∷ chain) (h ∷ heads_in loads) reply × (reply ≡ reply_or (head_of h.scope (cut_table (table_at tables h.scope) h)) fo (one_thread (cut tables heads) chain x))
lawful_here tables heads chain x h hit loads reply (Some hh) first is counted on e rest =
    let e' : Some (Found (at_place h.scope hh.0) hh.1) ≡ Some reply = subst (λ o. reply_by o h (reply_of chain loads) ≡ Some reply) is e in
    let found : Found (at_place h.scope hh.0) hh.1 ≡ reply = cc in
    let none : loads ≡ [] = subst (λ o. GoesOn o h loads) is on in
    let within : hh.0 < length (take h.count (table_at tables h.scope).rows) = slice_get_within _ _ _ (hit_at x (take h.count (table_at tables h.scope).rows) hh first).0 in
    let below : hh.0 < h.count = grind (arith, common_steps) in
    (subst (IsTaken (h.scope ∷ chain) (h ∷ heads_in loads)) found (refl, inr (ap heads_in none, (refl, below))), sym found)
lawful_here tables heads chain x h hit loads reply None first is counted on e rest =
    go h.complete refl (subst (λ o. reply_by o h (reply_of chain loads) ≡ Some reply) is e)
  where
    stops : h.complete ≡ false → loads ≡ []
    stops = subst (λ o. GoesOn o h loads) is on

    go : (b : Bool) → h.complete ≡ b → (if b then reply_of chain loads else Some (DontKnowYet h)) ≡ Some reply → IsTaken (h.scope ∷ chain) (h ∷ heads_in loads) reply × (reply ≡ (if b then one_thread (cut tables heads) chain x else DontKnowYet (head_of h.scope (cut_table (table_at tables h.scope) h))))
    go true done f = let p = rest reply f in ((refl, inl (done, p.0)), p.1)
    go false still f =
        let found : DontKnowYet h ≡ reply = cc in (
          subst (IsTaken (h.scope ∷ chain) (h ∷ heads_in loads)) found (refl, inr (ap heads_in (stops still), (refl, still))),
          sym found ∙ ap (λ k. DontKnowYet k) (sym (head_is h.scope (table_at tables h.scope) h refl counted)),
        )

lawful_load : (tables : List Table) (heads : List Head) (s : ℕ) (chain : List ℕ) (x : ℕ) (l : Load) (loads : List Load) (reply : Reply) → table_at (cut tables heads) l.head.scope ≡ cut_table (table_at tables l.head.scope) l.head → l.head.scope ≡ s → GoesOn l.hit l.head loads → IsTrueIn tables x l → reply_by l.hit l.head (reply_of chain loads) ≡ Some reply → ((r : Reply) → reply_of chain loads ≡ Some r → IsTaken chain (heads_in loads) r × (r ≡ one_thread (cut tables heads) chain x)) → IsTaken (s ∷ chain) (l.head ∷ heads_in loads) reply × (reply ≡ one_thread (cut tables heads) (s ∷ chain) x)
lawful_load tables heads s chain x l loads reply at scope on true_in e rest =
    let p = lawful_here tables heads chain x l.head l.hit loads reply _ refl true_in.hit true_in.counted on e rest in
    subst (λ j. IsTaken (j ∷ chain) (l.head ∷ heads_in loads) reply × (reply ≡ one_thread (cut tables heads) (j ∷ chain) x)) scope
    (p.0, subst (λ u. reply ≡ reply_or (head_of l.head.scope u) (first_named x u.rows 0) (one_thread (cut tables heads) chain x)) (sym at) p.1)

-- what the cut of tables has at a head's scope
cut_at : (tables : List Table) (heads : List Head) (k : Head) → IsIn k heads → AreEqual heads → Each (λ h. h.scope < length tables) heads → table_at (cut tables heads) k.scope ≡ cut_table (table_at tables k.scope) k
cut_at tables [] k on equal exist = absurd on
cut_at tables (h ∷ heads) k on equal exist = go (cases_eq k.scope h.scope) (λ m. cut_at tables heads k m equal.1 exist.1)
  where
    same_head : k.scope ≡ h.scope → k ≡ h
    same_head e = elim on as (λ _. k ≡ h) [ inl is ↦ is | inr m ↦ equal_in heads equal.0 m e ]

    at_h : table_at (cut tables (h ∷ heads)) h.scope ≡ cut_table (table_at tables h.scope) h
    at_h = get_or-set_same (cut tables heads) h.scope _ no_rows (subst (λ n. h.scope < n) (sym (length-cut tables heads)) exist.0)

    go : (k.scope ≡ h.scope) ⊎ (k.scope ≡ h.scope → ⊥) → (IsIn k heads → table_at (cut tables heads) k.scope ≡ cut_table (table_at tables k.scope) k) → table_at (cut tables (h ∷ heads)) k.scope ≡ cut_table (table_at tables k.scope) k
    go (inl e) ih = subst (λ j. table_at (cut tables (h ∷ heads)) j.scope ≡ cut_table (table_at tables j.scope) j) (sym (same_head e)) at_h
    go (inr other) ih =
        elim on as (λ _. table_at (cut tables (h ∷ heads)) k.scope ≡ cut_table (table_at tables k.scope) k) [
          | inl is ↦ absurd (other (ap (λ j. j.scope) is))
          | inr m ↦ get_or-set_other (cut tables heads) h.scope k.scope _ no_rows other ∙ ih m
        ]

-- the reply of the loads that are left is lawful in the tables that all heads show
pub lawful_part : (tables : List Table) (heads : List Head) (chain : List ℕ) (x : ℕ) (loads : List Load) (reply : Reply) → AreEqual heads → Each (λ h. h.scope < length tables) heads → Each (λ l. IsIn l.head heads) loads → IsFlight chain x loads → Each (IsTrueIn tables x) loads → reply_of chain loads ≡ Some reply → IsTaken chain (heads_in loads) reply × (reply ≡ one_thread (cut tables heads) chain x)
lawful_part tables heads [] x [] reply equal exist among flight true_in e = let is : Absent ≡ reply = cc in ((refl, sym is), sym is)
lawful_part tables heads [] x (l ∷ loads) reply equal exist among flight true_in e = absurd flight
lawful_part tables heads (s ∷ chain) x [] reply equal exist among flight true_in e = absurd (cc)
lawful_part tables heads (s ∷ chain) x (l ∷ loads) reply equal exist among flight true_in e =
    lawful_load tables heads s chain x l loads reply (cut_at tables heads l.head among.0 equal exist) flight.0 flight.1 true_in.0 e
    (λ r f. lawful_part tables heads chain x loads r equal exist among.1 flight.2 true_in.1 f)

-- a look of a whole flight is lawful
pub lawful : (tables : List Table) (chain : List ℕ) (x : ℕ) (loads : List Load) (reply : Reply) → AreEqual (heads_in loads) → IsFlight chain x loads → Each (IsTrueIn tables x) loads → reply_of chain loads ≡ Some reply → IsLawfulIn tables chain x (heads_in loads) reply
lawful tables chain x loads reply equal flight true_in e =
    let p = lawful_part tables (heads_in loads) chain x loads reply equal (exist loads true_in) (all_in loads) flight true_in e in
    record { taken = p.0; answers = p.1 }
  where
    exist : (ls : List Load) → Each (IsTrueIn tables x) ls → Each (λ h. h.scope < length tables) (heads_in ls)
    exist [] h = tt
    exist (l ∷ ls) h = (h.0.exists, exist ls h.1)

    all_in : (ls : List Load) → Each (λ l. IsIn l.head (heads_in ls)) ls
    all_in ls = all_in_more ls [] ls (λ k m. m)

-- one more load keeps a flight
pub flight_more : (chain : List ℕ) (x : ℕ) (loads : List Load) (l : Load) → IsFlight chain x loads → reply_of chain loads ≡ None → slice_get chain (length loads) ≡ Some l.head.scope → IsFlight chain x (loads ++ l ∷ [])
flight_more [] x [] l f none next = cc
flight_more (s ∷ chain) x [] l f none next = let is : s ≡ l.head.scope = cc in (sym is, goes l.hit, tt)
  where
    goes : (o : Option (Place × Row)) → GoesOn o l.head []
    goes None = λ _. refl
    goes (Some hit) = refl
flight_more [] x (k ∷ loads) l f none next = absurd f
flight_more (s ∷ chain) x (k ∷ loads) l f none next = go k.hit k.head.complete refl refl f none (λ g e. flight_more chain x loads l g e next)
  where
    go : (o : Option (Place × Row)) (b : Bool) → k.hit ≡ o → k.head.complete ≡ b → IsFlight (s ∷ chain) x (k ∷ loads) → reply_of (s ∷ chain) (k ∷ loads) ≡ None → (IsFlight chain x loads → reply_of chain loads ≡ None → IsFlight chain x (loads ++ l ∷ [])) → IsFlight (s ∷ chain) x (k ∷ (loads ++ l ∷ []))
    go (Some hit) b is done f none ih = let bad : Some (Found hit.0 hit.1) ≡ None = subst (λ o. reply_by o k.head (reply_of chain loads) ≡ None) is none in absurd (cc)
    go None true is done f none ih =
        let rest : reply_of chain loads ≡ None = subst (λ c. (if c then reply_of chain loads else Some (DontKnowYet k.head)) ≡ None) done (subst (λ o. reply_by o k.head (reply_of chain loads) ≡ None) is none) in
        (f.0, subst (λ o. GoesOn o k.head (loads ++ l ∷ [])) (sym is) (λ still. absurd (false≢true (sym still ∙ done))), ih f.2 rest)
    go None false is done f none ih =
        let bad : Some (DontKnowYet k.head) ≡ None = subst (λ c. (if c then reply_of chain loads else Some (DontKnowYet k.head)) ≡ None) done (subst (λ o. reply_by o k.head (reply_of chain loads) ≡ None) is none) in absurd (cc)

-- the reply after one more load
pub reply_more : (chain : List ℕ) (loads : List Load) (l : Load) (n : ℕ) → reply_of chain loads ≡ None → slice_get chain (length loads) ≡ Some n → reply_of chain (loads ++ l ∷ []) ≡ reply_by l.hit l.head (reply_of (drop (suc (length loads)) chain) [])
reply_more [] [] l n none next = cc
reply_more (s ∷ chain) [] l n none next = refl
reply_more [] (k ∷ loads) l n none next = cc
reply_more (s ∷ chain) (k ∷ loads) l n none next = go k.hit k.head.complete refl refl none (λ e. reply_more chain loads l n e next)
  where
    go : (o : Option (Place × Row)) (b : Bool) → k.hit ≡ o → k.head.complete ≡ b → reply_of (s ∷ chain) (k ∷ loads) ≡ None → (reply_of chain loads ≡ None → reply_of chain (loads ++ l ∷ []) ≡ reply_by l.hit l.head (reply_of (drop (suc (length loads)) chain) [])) → reply_of (s ∷ chain) (k ∷ (loads ++ l ∷ [])) ≡ reply_by l.hit l.head (reply_of (drop (suc (length loads)) chain) [])
    go (Some hit) b is done none ih = let bad : Some (Found hit.0 hit.1) ≡ None = subst (λ o. reply_by o k.head (reply_of chain loads) ≡ None) is none in absurd (cc)
    go None true is done none ih =
        let rest : reply_of chain loads ≡ None = subst (λ c. (if c then reply_of chain loads else Some (DontKnowYet k.head)) ≡ None) done (subst (λ o. reply_by o k.head (reply_of chain loads) ≡ None) is none) in
        subst (λ o. reply_by o k.head (reply_of chain (loads ++ l ∷ [])) ≡ reply_by l.hit l.head (reply_of (drop (suc (length loads)) chain) [])) (sym is) (rw done (ih rest))
    go None false is done none ih =
        let bad : Some (DontKnowYet k.head) ≡ None = subst (λ c. (if c then reply_of chain loads else Some (DontKnowYet k.head)) ≡ None) done (subst (λ o. reply_by o k.head (reply_of chain loads) ≡ None) is none) in absurd (cc)

taken_load : (s : ℕ) (chain : List ℕ) (x : ℕ) (h : Head) (o : Option (Place × Row)) (loads : List Load) (reply : Reply) → h.scope ≡ s → GoesOn o h loads → IsHitOf x h o → reply_by o h (reply_of chain loads) ≡ Some reply → ((r : Reply) → reply_of chain loads ≡ Some r → IsTaken chain (heads_in loads) r) → IsTaken (s ∷ chain) (h ∷ heads_in loads) reply
taken_load s chain x h (Some hit) loads reply scope none is_hit e rest =
    let found : Found hit.0 hit.1 ≡ reply = cc in
    subst (IsTaken (s ∷ chain) (h ∷ heads_in loads)) found (scope, inr (ap heads_in none, (is_hit.0, is_hit.1)))
taken_load s chain x h None loads reply scope stops is_hit e rest = go h.complete refl e
  where
    go : (b : Bool) → h.complete ≡ b → (if b then reply_of chain loads else Some (DontKnowYet h)) ≡ Some reply → IsTaken (s ∷ chain) (h ∷ heads_in loads) reply
    go true done f = (scope, inl (done, rest reply f))
    go false still f =
        let found : DontKnowYet h ≡ reply = cc in
        subst (IsTaken (s ∷ chain) (h ∷ heads_in loads)) found (scope, inr (ap heads_in (stops still), (refl, still)))

-- the heads of a flight are those of the chain's first scopes, and the reply comes from the last
pub taken_part : (chain : List ℕ) (x : ℕ) (loads : List Load) (reply : Reply) → IsFlight chain x loads → Each (λ l. IsHitOf x l.head l.hit) loads → reply_of chain loads ≡ Some reply → IsTaken chain (heads_in loads) reply
taken_part [] x [] reply flight hits e = let is : Absent ≡ reply = cc in (refl, sym is)
taken_part [] x (l ∷ loads) reply flight hits e = absurd flight
taken_part (s ∷ chain) x [] reply flight hits e = absurd (cc)
taken_part (s ∷ chain) x (l ∷ loads) reply flight hits e =
    taken_load s chain x l.head l.hit loads reply flight.0 flight.1 hits.0 e (λ r f. taken_part chain x loads r flight.2 hits.1 f)

-- a flight without a reply has a scope left
pub scope_left : (chain : List ℕ) (x : ℕ) (loads : List Load) → IsFlight chain x loads → reply_of chain loads ≡ None → IsSome (slice_get chain (length loads))
scope_left [] x [] f none = absurd (cc)
scope_left (s ∷ chain) x [] f none = refl
scope_left [] x (k ∷ loads) f none = absurd f
scope_left (s ∷ chain) x (k ∷ loads) f none = go k.hit k.head.complete none (scope_left chain x loads f.2)
  where
    go : (o : Option (Place × Row)) (b : Bool) → (reply_by o (record { scope = k.head.scope; count = k.head.count; complete = b }) (reply_of chain loads)) ≡ None → (reply_of chain loads ≡ None → IsSome (slice_get chain (length loads))) → IsSome (slice_get chain (length loads))
    go (Some hit) b none ih = absurd (cc)
    go None true none ih = ih none
    go None false none ih = absurd (cc)

-- a reply is missing exactly where a scope comes next
pub none_or_next : (f : Flown) (r : Option Reply) → IsFlight f.chain f.name f.loads → r ≡ reply_of f.chain f.loads → IsNone r ↔ IsSome (next_of f)
none_or_next f r flight is = subst (λ o. IsNone o ↔ IsSome (next_of f)) (sym is) (go (reply_of f.chain f.loads) (scope_left f.chain f.name f.loads flight))
  where
    go : (o : Option Reply) → (o ≡ None → IsSome (slice_get f.chain (length f.loads))) → IsNone o ↔ IsSome (next_by o (slice_get f.chain (length f.loads)))
    go None left = (λ _. left refl, λ _. refl)
    go (Some r) left = (λ h. absurd (false≢true (sym h)), λ h. absurd (false≢true h))

next_facts : (o : Option Reply) (n : Option ℕ) (s : ℕ) → next_by o n ≡ Some s → (o ≡ None) × (n ≡ Some s)
next_facts None n s e = (refl, e)
next_facts (Some r) n s e = absurd (cc)

-- one more load in the array
pub flying_more : (chain : List ℕ) (x taken : ℕ) (loads : List Load) (reply later : Option Reply) (l : Load) → length loads ≡ 18 → IsFlying chain x taken loads reply → next_of (record { chain = chain; name = x; loads = take taken loads }) ≡ Some l.head.scope → IsHitOf x l.head l.hit → later ≡ reply_by l.hit l.head (reply_of (drop (taken + 1) chain) []) → IsFlying chain x (taken + 1) (set loads taken l) later
flying_more chain x taken loads reply later l size now next is_hit later_is =
    let facts = next_facts (reply_of chain (take taken loads)) (slice_get chain (length (take taken loads))) l.head.scope next in
    let count : length (take taken loads) ≡ taken = grind (arith, common_steps, now.within, now.short, size) in
    let below : taken < length chain = subst (λ n. n < length chain) count (slice_get_within chain (length (take taken loads)) l.head.scope facts.1) in
    let room : taken < length loads = omega (arith, below, now.short, size) in
    let more : take (taken + 1) (set loads taken l) ≡ take taken loads ++ l ∷ [] = take_more_set loads taken l room in
    let same : suc (length (take taken loads)) ≡ taken + 1 = omega (arith, count) in
    record {
      short = now.short;
      within = omega (arith, below);
      flight = subst (IsFlight chain x) (sym more) (flight_more chain x (take taken loads) l now.flight facts.0 facts.1);
      hits = subst (Each (λ k. IsHitOf x k.head k.hit)) (sym more) (each_append (λ k. IsHitOf x k.head k.hit) (take taken loads) (l ∷ []) now.hits (is_hit, tt));
      reply_is = later_is
          ∙ ap (λ n. reply_by l.hit l.head (reply_of (drop n chain) [])) (sym same)
          ∙ sym (reply_more chain (take taken loads) l l.head.scope facts.0 facts.1)
          ∙ ap (reply_of chain) (sym more);
    }

pub room_left : (chain : List ℕ) (x taken : ℕ) (loads : List Load) (reply : Option Reply) (s : ℕ) → length loads ≡ 18 → IsFlying chain x taken loads reply → next_of (record { chain = chain; name = x; loads = take taken loads }) ≡ Some s → taken < length loads
room_left chain x taken loads reply s size now next =
    let facts = next_facts (reply_of chain (take taken loads)) (slice_get chain (length (take taken loads))) s next in
    let count : length (take taken loads) ≡ taken = grind (arith, common_steps, now.within, now.short, size) in
    let below : taken < length chain = subst (λ n. n < length chain) count (slice_get_within chain (length (take taken loads)) s facts.1) in
    omega (arith, below, now.short, size)

-- where a scope is left, there is no reply yet
pub none_yet : (chain : List ℕ) → 0 < length chain → None ≡ reply_of chain []
none_yet [] some = absurd (omega (arith, some))
none_yet (s ∷ chain) some = refl

-- a part of a list up to its end
pub take_rest : {A : Type 0} (xs : List A) (n : ℕ) → take (length xs - n) (drop n xs) ≡ drop n xs
take_rest xs n = grind (arith, common_steps)

-- A search goes on from scope to scope, and its reply is what one thread answers in the tables that it has then seen.
use Rattle.std.proofs.Common.{◌≡◌, ◌≢◌, ℕ, ◌<◌, Bool, true, false, List, [], ◌∷◌, ◌++◌, Option, Some, None, map, length, slice_get, if◌then◌else◌, sym, refl, ap, ◌∙◌, subst, arith, append-nil, append_assoc, inl, inr, get_or-set_other, zero, suc, take}
use Rattle.std.proofs.Math.Seq.{take-length}
use Rattle.std.proofs.lemmas.Option.{slice_get_within}
use mathlib.Core.Logic.{dite}
use native.Mathlib.Decide.{ℕ_discrete}
use Rattle.m2_base.specs.Lists.{Each, IsIn}
use Rattle.m2_base.specs.Rows.{at_place, IsWellFormed}
use Rattle.m2_base.specs.Scopes.{IsTaken}
use Rattle.m2_base.specs.Tables.{Table, table_at, head_of, first_named, one_thread, reply_or}
use Rattle.m2_base.specs.declared.replies.Head.{Head}
use Rattle.m2_base.specs.declared.replies.Reply.{Reply}
use Rattle.m2_base.specs.declared.replies.Reply.TheVariants.{Found, Absent, DontKnowYet}
use Rattle.m2_base.specs.declared.rows.Place.{Place}
use Rattle.m2_base.specs.declared.rows.Row.{Row}
use Rattle.m2_base.proofs.EachLaws.{each_append}
use Rattle.scope_core.specs.Flights.{Flown, IsFlight, GoesOn, IsHitOf, reply_of, reply_by, next_by, next_of, heads_in, found_at, with_load}
use Rattle.scope_core.specs.Heads.{heads_of, heads_after}
use Rattle.scope_core.specs.declared.flight.Load.{Load}
use Rattle.scope_core.proofs.Flying.{flight_more}
use Rattle.scope_core.proofs.Searching.{hit_at}
use Rattle.scope_table.specs.Plays.{head_in, sees}
use Rattle.scope_table.specs.Rule.{scopes, nothing, shown_at, texts_in, IsBefore}
use Rattle.scope_table.specs.Looks.{IsLoadOf, CanNote}
use Rattle.scope_table.specs.declared.view.About.{About}
use Rattle.scope_table.specs.declared.view.Shown.{Shown}
use Rattle.scope_table.specs.declared.view.View.{View}
use Rattle.scope_table.proofs.Frames.{before_refl, before_trans}
use Rattle.dky_search.specs.Flying.{IsCurrent, IsFormed, IsFlown}
use Rattle.dky_search.specs.Seen.{table_of, tables_in}
use Rattle.dky_search.proofs.Seen.{seen_table}

-- ** The start

pub flown_start : (a : About) (own : ℕ) (v : View) (f : Flown) → f.loads ≡ [] → IsFlown a own v v f
flown_start a own v f none =
    record {
      about = refl;
      put = refl;
      looks = refl;
      loads = sym (append-nil v.loads) ∙ ap (λ (ls : List Load). v.loads ++ heads_in ls) (sym none);
      later = λ j. before_refl (shown_at v j);
      elsewhere = λ j _. refl;
      mine = refl;
      flight = subst (IsFlight f.chain f.name) (sym none) tt;
      exist = subst (Each (λ l. l.head.scope < scopes a)) (sym none) tt;
      current = subst (Each (IsCurrent v f.name)) (sym none) tt;
      formed = subst (Each (λ l. IsFormed (length (texts_in a).names) l.hit)) (sym none) tt;
    }

-- ** One scope more

next_facts : (o : Option Reply) (n : Option ℕ) (s : ℕ) → next_by o n ≡ Some s → (o ≡ None) × (n ≡ Some s)
next_facts None n s e = (refl, e)
next_facts (Some r) n s e = absurd (cc)

-- where there is no reply yet, all scopes that were loaded are complete
all_complete : (chain : List ℕ) (loads : List Load) → reply_of chain loads ≡ None → Each (λ l. l.head.complete ≡ true) loads
all_complete chain [] none = tt
all_complete [] (l ∷ loads) none = absurd (cc)
all_complete (s ∷ chain) (l ∷ loads) none = go l.hit l.head.complete refl refl none (all_complete chain loads)
  where
    go : (o : Option (Place × Row)) (b : Bool) → l.hit ≡ o → l.head.complete ≡ b → reply_by l.hit l.head (reply_of chain loads) ≡ None → (reply_of chain loads ≡ None → Each (λ l. l.head.complete ≡ true) loads) → Each (λ l. l.head.complete ≡ true) (l ∷ loads)
    go (Some hit) b is done none ih = let bad : Some (Found hit.0 hit.1) ≡ None = subst (λ o. reply_by o l.head (reply_of chain loads) ≡ None) is none in absurd (cc)
    go None true is done none ih = (done, ih (subst (λ c. (if c then reply_of chain loads else Some (DontKnowYet l.head)) ≡ None) done (subst (λ o. reply_by o l.head (reply_of chain loads) ≡ None) is none)))
    go None false is done none ih =
        let bad : Some (DontKnowYet l.head) ≡ None = subst (λ c. (if c then reply_of chain loads else Some (DontKnowYet l.head)) ≡ None) done (subst (λ o. reply_by o l.head (reply_of chain loads) ≡ None) is none) in absurd (cc)

-- what was loaded of complete scopes is what is seen later
current_stays : (v w : View) (x : ℕ) (loads : List Load) → ((j : ℕ) → IsBefore (shown_at v j) (shown_at w j)) → Each (λ l. l.head.complete ≡ true) loads → Each (IsCurrent v x) loads → Each (IsCurrent w x) loads
current_stays v w x [] later done c = tt
current_stays v w x (l ∷ loads) later done c =
    let same : shown_at v l.head.scope ≡ shown_at w l.head.scope = (later l.head.scope).done (ap (λ (h : Head). h.complete) (sym c.0.head) ∙ done.0) in (
      record {
        head = subst (λ (t : Shown). l.head ≡ head_in l.head.scope t) same c.0.head;
        hit = subst (λ (t : Shown). l.hit ≡ found_at l.head.scope (first_named x t.rows 0)) same c.0.hit;
      },
      current_stays v w x loads later done.1 c.1,
    )

heads-append : (xs ys : List Load) → heads_in (xs ++ ys) ≡ heads_in xs ++ heads_in ys
heads-append [] ys = refl
heads-append (l ∷ xs) ys = ap (λ (hs : List Head). l.head ∷ hs) (heads-append xs ys)

in_front : (j : ℕ) (xs ys : List Load) → IsIn j (map (λ h. h.scope) (heads_in xs)) → IsIn j (map (λ h. h.scope) (heads_in (xs ++ ys)))
in_front j [] ys h = absurd h
in_front j (l ∷ xs) ys h = elim h as (λ _. IsIn j (map (λ h. h.scope) (heads_in ((l ∷ xs) ++ ys)))) [ inl is ↦ inl is | inr on ↦ inr (in_front j xs ys on) ]

in_last : (j : ℕ) (xs : List Load) (l : Load) → j ≡ l.head.scope → IsIn j (map (λ h. h.scope) (heads_in (xs ++ l ∷ [])))
in_last j [] l is = inl is
in_last j (k ∷ xs) l is = inr (in_last j xs l is)

-- what a load leaves of what was seen: of its scope it is later, of the others as before
module _ (w w' : View) (s : ℕ) (sees_it : w' ≡ sees w s (shown_at w' s)) (later : IsBefore (shown_at w s) (shown_at w' s)) where
  pub others_stay : (j : ℕ) → j ≢ s → shown_at w' j ≡ shown_at w j
  others_stay j n = ap (λ (u : View). shown_at u j) sees_it ∙ get_or-set_other w.seen s j (shown_at w' s) nothing n

  pub step_later : (j : ℕ) → IsBefore (shown_at w j) (shown_at w' j)
  step_later j = dite (ℕ_discrete j s) (λ e. subst (λ (k : ℕ). IsBefore (shown_at w k) (shown_at w' k)) (sym e) later)
      (λ n. subst (IsBefore (shown_at w j)) (sym (others_stay j n)) (before_refl (shown_at w j)))

pub flown_more : (a : About) (own : ℕ) (v w w' : View) (f : Flown) (s : ℕ) (l : Load) → IsFlown a own v w f → next_of f ≡ Some s → w' ≡ sees w s (shown_at w' s) → IsBefore (shown_at w s) (shown_at w' s) → (s ≡ own → shown_at w' s ≡ shown_at w s)
    → l.head ≡ head_in s (shown_at w' s) → l.hit ≡ found_at s (first_named f.name (shown_at w' s).rows 0) → IsFormed (length (texts_in a).names) l.hit → s < scopes a → IsFlown a own v w' (with_load f l)
flown_more a own v w w' f s l flown next sees_it later mine head hit formed there =
    let facts = next_facts (reply_of f.chain f.loads) (slice_get f.chain (length f.loads)) s next in
    let scope : l.head.scope ≡ s = ap (λ (h : Head). h.scope) head in
    let loaded : heads_in (f.loads ++ l ∷ []) ≡ heads_in f.loads ++ l.head ∷ [] = heads-append f.loads (l ∷ []) in
    record {
      about = ap (λ (u : View). u.about) sees_it ∙ flown.about;
      put = ap (λ (u : View). u.put) sees_it ∙ flown.put;
      looks = ap (λ (u : View). u.looks) sees_it ∙ flown.looks;
      loads = ap (λ (u : View). u.loads) sees_it ∙ ((λ i. flown.loads i ++ sym head i ∷ []) ∙ (append_assoc v.loads (heads_in f.loads) (l.head ∷ []) ∙ ap (λ (hs : List Head). v.loads ++ hs) (sym loaded)));
      later = λ j. before_trans (shown_at v j) (shown_at w j) (shown_at w' j) (flown.later j) (step_later w w' s sees_it later j);
      elsewhere = λ j no. others_stay w w' s sees_it later j (λ e. no (in_last j f.loads l (e ∙ sym scope))) ∙ flown.elsewhere j (λ on. no (in_front j f.loads (l ∷ []) on));
      mine = dite (ℕ_discrete own s) (λ e. subst (λ (k : ℕ). shown_at w' k ≡ shown_at w k) (sym e) (mine (sym e))) (λ n. others_stay w w' s sees_it later own n) ∙ flown.mine;
      flight = flight_more f.chain f.name f.loads l flown.flight facts.0 (facts.1 ∙ ap Some (sym scope));
      exist = each_append (λ l. l.head.scope < scopes a) f.loads (l ∷ []) flown.exist (subst (λ (k : ℕ). k < scopes a) (sym scope) there, tt);
      current = each_append (IsCurrent w' f.name) f.loads (l ∷ []) (current_stays w w' f.name f.loads (step_later w w' s sees_it later) (all_complete f.chain f.loads facts.0) flown.current)
          (record { head = subst (λ (k : ℕ). l.head ≡ head_in k (shown_at w' k)) (sym scope) head; hit = subst (λ (k : ℕ). l.hit ≡ found_at k (first_named f.name (shown_at w' k).rows 0)) (sym scope) hit }, tt);
      formed = each_append (λ l. IsFormed (length (texts_in a).names) l.hit) f.loads (l ∷ []) flown.formed (formed, tt);
    }

-- the scope that comes next is one of the chain
pub next_in : (n : ℕ) (f : Flown) (s : ℕ) → Each (λ s. s < n) f.chain → next_of f ≡ Some s → s < n
next_in n f s all next = among f.chain (length f.loads) all (next_facts (reply_of f.chain f.loads) (slice_get f.chain (length f.loads)) s next).1
  where
    among : (chain : List ℕ) (k : ℕ) → Each (λ s. s < n) chain → slice_get chain k ≡ Some s → s < n
    among [] k all e = absurd (cc)
    among (z ∷ chain) zero all e = let is : z ≡ s = cc in subst (λ (y : ℕ). y < n) is all.0
    among (z ∷ chain) (suc k) all e = among chain k all.1 e

-- and there is one more to come
pub next_left : (f : Flown) (s : ℕ) → next_of f ≡ Some s → length f.loads < length f.chain
next_left f s next = slice_get_within f.chain (length f.loads) s (next_facts (reply_of f.chain f.loads) (slice_get f.chain (length f.loads)) s next).1

-- what was found among the rows that a head counts
pub is_hit : (x : ℕ) (s : ℕ) (t : Shown) (h : Head) (hit : Option (Place × Row)) → h ≡ head_in s t → hit ≡ found_at s (first_named x t.rows 0) → IsHitOf x h hit
is_hit x s t h hit head is = subst (IsHitOf x h) (sym is) (subst (λ (k : Head). IsHitOf x k (found_at s (first_named x t.rows 0))) (sym head) (go (first_named x t.rows 0) refl))
  where
    go : (o : Option (ℕ × Row)) → first_named x t.rows 0 ≡ o → IsHitOf x (head_in s t) (found_at s o)
    go None e = tt
    go (Some hit) e = let at = hit_at x t.rows hit e in (refl, slice_get_within t.rows hit.0 hit.1 at.0, at.1)

-- ** The end

here : (tables : List Table) (s x : ℕ) (t : Table) (chain : List ℕ) (h : Head) (hit : Option (Place × Row)) (loads : List Load) (r : Reply) (fo : Option (ℕ × Row)) → h ≡ head_of s t → hit ≡ found_at s fo → GoesOn hit h loads → reply_by hit h (reply_of chain loads) ≡ Some r
    → (reply_of chain loads ≡ Some r → (heads_in loads ≡ heads_of tables chain x) × (r ≡ one_thread tables chain x))
    → (h ∷ heads_in loads ≡ head_of s t ∷ heads_after t fo (heads_of tables chain x)) × (r ≡ reply_or (head_of s t) fo (one_thread tables chain x))
here tables s x t chain h hit loads r (Some hh) head is on e rest =
    let none : loads ≡ [] = subst (λ o. GoesOn o h loads) is on in
    let found : Some (Found (at_place s hh.0) hh.1) ≡ Some r = subst (λ o. reply_by o h (reply_of chain loads) ≡ Some r) is e in
    let same : Found (at_place s hh.0) hh.1 ≡ r = cc in
    ((λ i. head i ∷ heads_in (none i)), sym same)
here tables s x t chain h hit loads r None head is on e rest =
    go t.complete refl (subst (λ o. GoesOn o h loads) is on) (subst (λ o. reply_by o h (reply_of chain loads) ≡ Some r) is e)
  where
    mark : (b : Bool) → t.complete ≡ b → h.complete ≡ b
    mark b done = ap (λ (k : Head). k.complete) head ∙ done

    go : (b : Bool) → t.complete ≡ b → (h.complete ≡ false → loads ≡ []) → (if h.complete then reply_of chain loads else Some (DontKnowYet h)) ≡ Some r
        → (h ∷ heads_in loads ≡ head_of s t ∷ (if b then heads_of tables chain x else [])) × (r ≡ (if b then one_thread tables chain x else DontKnowYet (head_of s t)))
    go true done stops f =
        let h' = rest (subst (λ (c : Bool). (if c then reply_of chain loads else Some (DontKnowYet h)) ≡ Some r) (mark true done) f) in
        ((λ i. head i ∷ h'.0 i), h'.1)
    go false still stops f =
        let e' : Some (DontKnowYet h) ≡ Some r = subst (λ (c : Bool). (if c then reply_of chain loads else Some (DontKnowYet h)) ≡ Some r) (mark false still) f in
        let same : DontKnowYet h ≡ r = cc in
        ((λ i. head i ∷ heads_in (stops (mark false still) i)), sym same ∙ ap DontKnowYet head)

-- a search that has its reply came to the heads of one thread, and has its answer
pub flown_is : (w : View) (x : ℕ) (chain : List ℕ) (loads : List Load) (r : Reply) → IsFlight chain x loads → Each (IsCurrent w x) loads → reply_of chain loads ≡ Some r
    → (heads_in loads ≡ heads_of (tables_in w) chain x) × (r ≡ one_thread (tables_in w) chain x)
flown_is w x [] [] r flight c e = let is : Absent ≡ r = cc in (refl, sym is)
flown_is w x [] (l ∷ loads) r flight c e = absurd flight
flown_is w x (s ∷ chain) [] r flight c e = absurd (cc)
flown_is w x (s ∷ chain) (l ∷ loads) r flight c e =
    let at : table_of (shown_at w l.head.scope) ≡ table_at (tables_in w) s = sym (seen_table w l.head.scope) ∙ ap (table_at (tables_in w)) flight.0 in
    here (tables_in w) s x (table_at (tables_in w) s) chain l.head l.hit loads r (first_named x (table_at (tables_in w) s).rows 0)
    (c.0.head ∙ (λ i. head_of (flight.0 i) (at i)))
    (c.0.hit ∙ (λ i. found_at (flight.0 i) (first_named x (at i).rows 0)))
    flight.1 e (λ f. flown_is w x chain loads r flight.2 c.1 f)

-- a row that is the reply was found well formed
pub found_formed : (names : ℕ) (chain : List ℕ) (loads : List Load) (p : Place) (r : Row) → Each (λ l. IsFormed names l.hit) loads → reply_of chain loads ≡ Some (Found p r) → IsWellFormed names p r
found_formed names [] loads p r formed e = absurd (cc)
found_formed names (s ∷ chain) [] p r formed e = absurd (cc)
found_formed names (s ∷ chain) (l ∷ loads) p r formed e = go l.hit l.head.complete refl refl e (found_formed names chain loads p r formed.1)
  where
    go : (o : Option (Place × Row)) (b : Bool) → l.hit ≡ o → l.head.complete ≡ b → reply_by l.hit l.head (reply_of chain loads) ≡ Some (Found p r) → (reply_of chain loads ≡ Some (Found p r) → IsWellFormed names p r) → IsWellFormed names p r
    go (Some hit) b is done e ih =
        let same : Some (Found hit.0 hit.1) ≡ Some (Found p r) = subst (λ o. reply_by o l.head (reply_of chain loads) ≡ Some (Found p r)) is e in
        let at : hit.0 ≡ p = cc in let row : hit.1 ≡ r = cc in
        subst (λ (z : Place × Row). IsWellFormed names z.0 z.1) (λ i. (at i, row i)) (subst (IsFormed names) is formed.0)
    go None true is done e ih = ih (subst (λ c. (if c then reply_of chain loads else Some (DontKnowYet l.head)) ≡ Some (Found p r)) done (subst (λ o. reply_by o l.head (reply_of chain loads) ≡ Some (Found p r)) is e))
    go None false is done e ih =
        let bad : Some (DontKnowYet l.head) ≡ Some (Found p r) = subst (λ c. (if c then reply_of chain loads else Some (DontKnowYet l.head)) ≡ Some (Found p r)) done (subst (λ o. reply_by o l.head (reply_of chain loads) ≡ Some (Found p r)) is e) in absurd (cc)

load_of : (a : About) (w : View) (x : ℕ) (l : Load) → l.head.scope < scopes a → IsCurrent w x l → IsLoadOf a w x l
load_of a w x l there c =
    let count : l.head.count ≡ length (shown_at w l.head.scope).rows = ap (λ (h : Head). h.count) c.head in
    let mark : l.head.complete ≡ (shown_at w l.head.scope).complete = ap (λ (h : Head). h.complete) c.head in
    record {
      shown = record { there = there; count = omega arith; done = λ d. sym mark ∙ d; all = λ _. sym count };
      hit = c.hit ∙ ap (λ (rows : List Row). found_at l.head.scope (first_named x rows 0)) (sym (take-length (shown_at w l.head.scope).rows) ∙ ap (λ (n : ℕ). take n (shown_at w l.head.scope).rows) (sym count));
    }

each_load : (a : About) (w : View) (x : ℕ) (loads : List Load) → Each (λ l. l.head.scope < scopes a) loads → Each (IsCurrent w x) loads → Each (IsLoadOf a w x) loads
each_load a w x [] there c = tt
each_load a w x (l ∷ loads) there c = (load_of a w x l there.0 c.0, each_load a w x loads there.1 c.1)

some_loads : (chain : List ℕ) (loads : List Load) (r : Reply) → reply_of chain loads ≡ Some r → 0 < length chain → 0 < length loads
some_loads [] loads r e some = absurd (omega arith)
some_loads (s ∷ chain) [] r e some = absurd (cc)
some_loads (s ∷ chain) (l ∷ loads) r e some = omega arith

-- a search of a chain with scopes may be noted
pub can_note : (a : About) (own : ℕ) (v w : View) (f : Flown) (r : Reply) → IsFlown a own v w f → reply_of f.chain f.loads ≡ Some r → IsTaken f.chain (heads_in f.loads) r → 0 < length f.chain → CanNote a w f
can_note a own v w f r flown has taken some =
    record {
      reply = r;
      has = has;
      taken = taken;
      some = some_loads f.chain f.loads r has some;
      before = v.loads;
      last = flown.loads;
      loads = each_load a w f.name f.loads flown.exist flown.current;
    }

-- What a search finds in the rows that count.
use Rattle.std.proofs.Common.{◌≡◌, ◌≢◌, inl, inr, ℕ, zero, suc, ◌+◌, ◌==◌, ◌<◌, ◌≤◌, ◌^◌, Bool, true, false, List, [], ◌∷◌, ◌++◌, Option, Some, None, length, refl, sym, ◌∙◌, ap, subst, arith, if◌then◌else◌}
use Rattle.std.specs.Prelude.{slice_get, unwrap_or, option_map}
use Rattle.std.proofs.lemmas.Bool.{true≢false}
use Rattle.m2_base.specs.Finished.{IsFinished}
use Rattle.m2_base.specs.Lists.{IsIn, Each, Grows, WhereLast}
use Rattle.m2_base.specs.Rows.{at_place, row_meaning, IsWellFormed}
use Rattle.m2_base.specs.Scopes.{CanSearch, Searched, looks_of}
use Rattle.m2_base.specs.States.{State, Frame, Look, IsAmong, Waits, texts_of, fills_of}
use Rattle.m2_base.specs.Statics.Contexts.{Scene}
use Rattle.m2_base.specs.Statics.Lookup.{entry_in}
use Rattle.m2_base.specs.Statics.Types.{named_or, type_named}
use Rattle.m2_base.specs.Statics.Uses.{answer_of}
use Rattle.m2_base.specs.Tables.{lookup, found_or, first_named, rows_at, Lacks}
use Rattle.m2_base.specs.declared.replies.Ask.TheVariants.{Known, DontKnowYet as Waiting}
use Rattle.m2_base.specs.declared.replies.Head.{Head}
use Rattle.m2_base.specs.declared.replies.Reply.{Reply}
use Rattle.m2_base.specs.declared.replies.Reply.TheVariants.{Found, Absent, DontKnowYet}
use Rattle.m2_base.specs.declared.rows.Place.{Place}
use Rattle.m2_base.specs.declared.rows.Row.{Row}
use Rattle.m2_base.specs.declared.rows.RowMeaning.{RowMeaning}
use Rattle.m2_base.specs.declared.rows.RowMeaning.TheVariants.{TypeName}
use Rattle.m2_base.specs.declared.sites.Around.{Around}
use Rattle.m2_base.proofs.EachLaws.{each_then}
use Rattle.m2_base.proofs.RowLaws.{HasSmallNumbers-fits}
use Rattle.type_rules.specs.Asks.{Reads}
use Rattle.type_rules.specs.Scenes.{Agrees, AreInHand, Hand, IsRowOf, NamesNoType, Suits, rows_of}
use Rattle.type_rules.specs.Sites.{CanLook, Looked, IsLookFor}
use Rattle.type_rules.specs.Standing.{StopsSearch}
use Rattle.type_rules.proofs.Counting.{below_or_same, counted_below, counted_closed, counted_own}

-- ** The first row of a name

first_past : (name : ℕ) (xs : List Row) (n k : ℕ) (r : Row) → first_named name xs n ≡ Some (k, r) → n ≤ k
first_past name [] n k r h = absurd (cc)
first_past name (x ∷ xs) n k r h = go (x.name == name) (first_past name xs (n + 1) k r) h
  where
    go : (b : Bool) → (first_named name xs (n + 1) ≡ Some (k, r) → n + 1 ≤ k) → (if b then Some (n, x) else first_named name xs (n + 1)) ≡ Some (k, r) → n ≤ k
    go true rest e = let same : n ≡ k = ap (λ (o : Option (ℕ × Row)). (unwrap_or {T = ℕ × Row} o (k, r)).0) e in omega (arith, same)
    go false rest e = let later = rest e in omega (arith, later)

first_in_front : (name : ℕ) (xs rest : List Row) (n k : ℕ) (r : Row) → first_named name (xs ++ rest) n ≡ Some (k, r) → k < n + length xs → first_named name xs n ≡ Some (k, r)
first_in_front name [] rest n k r h front = absurd (let later = first_past name rest n k r h in omega (arith, later, front))
first_in_front name (x ∷ xs) rest n k r h front = go (x.name == name) (λ e. first_in_front name xs rest (n + 1) k r e (omega (arith, front))) h
  where
    go : (b : Bool) → (first_named name (xs ++ rest) (n + 1) ≡ Some (k, r) → first_named name xs (n + 1) ≡ Some (k, r)) → (if b then Some (n, x) else first_named name (xs ++ rest) (n + 1)) ≡ Some (k, r) → (if b then Some (n, x) else first_named name xs (n + 1)) ≡ Some (k, r)
    go true next e = e
    go false next e = next e

-- more rows come behind
first_front : (name : ℕ) (xs ys : List Row) (n k : ℕ) (r : Row) → first_named name xs n ≡ Some (k, r) → first_named name (xs ++ ys) n ≡ Some (k, r)
first_front name [] ys n k r h = absurd (cc)
first_front name (x ∷ xs) ys n k r h = go (x.name == name) (first_front name xs ys (n + 1) k r) h
  where
    go : (b : Bool) → (first_named name xs (n + 1) ≡ Some (k, r) → first_named name (xs ++ ys) (n + 1) ≡ Some (k, r)) → (if b then Some (n, x) else first_named name xs (n + 1)) ≡ Some (k, r) → (if b then Some (n, x) else first_named name (xs ++ ys) (n + 1)) ≡ Some (k, r)
    go true next e = e
    go false next e = next e

first_behind : (name : ℕ) (xs ys : List Row) (n : ℕ) → first_named name xs n ≡ None → first_named name (xs ++ ys) n ≡ first_named name ys (n + length xs)
first_behind name [] ys n h = ap (first_named name ys) (omega arith)
first_behind name (x ∷ xs) ys n h = go (x.name == name) (first_behind name xs ys (n + 1)) h
  where
    further : first_named name ys (n + 1 + length xs) ≡ first_named name ys (n + suc (length xs))
    further = ap (first_named name ys) (omega arith)

    go : (b : Bool) → (first_named name xs (n + 1) ≡ None → first_named name (xs ++ ys) (n + 1) ≡ first_named name ys (n + 1 + length xs)) → (if b then Some (n, x) else first_named name xs (n + 1)) ≡ None
        → (if b then Some (n, x) else first_named name (xs ++ ys) (n + 1)) ≡ first_named name ys (n + suc (length xs))
    go true next e = absurd (cc)
    go false next e = next e ∙ further

-- rows that lack a name do so from any ordinal on
lacks_from : (name : ℕ) (xs : List Row) (n m : ℕ) → first_named name xs n ≡ None → first_named name xs m ≡ None
lacks_from name [] n m h = refl
lacks_from name (x ∷ xs) n m h = go (x.name == name) (lacks_from name xs (n + 1) (m + 1)) h
  where
    go : (b : Bool) → (first_named name xs (n + 1) ≡ None → first_named name xs (m + 1) ≡ None) → (if b then Some (n, x) else first_named name xs (n + 1)) ≡ None → (if b then Some (m, x) else first_named name xs (m + 1)) ≡ None
    go true next e = absurd (cc)
    go false next e = next e

-- ** A search in one scope

at_once : (s : ℕ) (o : Option (ℕ × Row)) (p : Place) (r : Row) → found_or s o None ≡ Some (p, r) → o ≡ Some (p.ordinal, r)
at_once s None p r h = absurd (cc)
at_once s (Some (k, q)) p r h = ap (λ o. option_map (λ (e : Place × Row). (e.0.ordinal, e.1)) o) h

scope_once : (s : ℕ) (o : Option (ℕ × Row)) (p : Place) (r : Row) → found_or s o None ≡ Some (p, r) → p.scope ≡ s
scope_once s None p r h = absurd (cc)
scope_once s (Some (k, q)) p r h = ap (λ (o : Option (Place × Row)). (unwrap_or {T = Place × Row} o (p, r)).0.scope) (sym h)

slice_within : (xs : List Row) (i : ℕ) (r : Row) → slice_get xs i ≡ Some r → i < length xs
slice_within [] i r h = absurd (cc)
slice_within (x ∷ xs) zero r h = omega arith
slice_within (x ∷ xs) (suc i) r h = let k = slice_within xs i r h in omega (arith, k)

-- where nothing is entered of the name, and nothing in hand
lacks_own : (f : Frame) (made : Hand) (name : ℕ) → Agrees f made.finished → Lacks f.entered name → Lacks made.rows name → entry_in (rows_of f made) f.setting.fills name ≡ None
lacks_own f made name agrees entered lacks =
    ap (λ rows. found_or f.setting.fills (first_named name rows 0) None) (counted_own f made agrees)
    ∙ ap (λ o. found_or f.setting.fills o None) (first_behind name f.entered made.rows 0 entered ∙ lacks_from name made.rows 0 (0 + length f.entered) lacks)

settled_below : (f : Frame) (made : Hand) (s name : ℕ) → Agrees f made.finished → s < f.setting.fills → entry_in (rows_of f made) s name ≡ lookup made.finished (s ∷ []) name
settled_below f made s name agrees below = ap (λ rows. found_or s (first_named name rows 0) None) (counted_below f made s agrees below)

found_own : (f : Frame) (made : Hand) (name : ℕ) (p : Place) (r : Row) → Agrees f made.finished → lookup made.finished (f.setting.fills ∷ []) name ≡ Some (p, r) → slice_get f.entered p.ordinal ≡ Some r
    → entry_in (rows_of f made) f.setting.fills name ≡ Some (p, r)
found_own f made name p r agrees settled entered =
    let fills = f.setting.fills in
    let full = rows_at made.finished fills in
    let first : first_named name full 0 ≡ Some (p.ordinal, r) = at_once fills (first_named name full 0) p r settled in
    let front : first_named name (f.entered ++ agrees.entered.rest) 0 ≡ Some (p.ordinal, r) = subst (λ rows. first_named name rows 0 ≡ Some (p.ordinal, r)) (sym agrees.entered.joined) first in
    let own : first_named name f.entered 0 ≡ Some (p.ordinal, r) = first_in_front name f.entered agrees.entered.rest 0 p.ordinal r front (let k = slice_within f.entered p.ordinal r entered in omega (arith, k)) in
    let place : at_place fills p.ordinal ≡ p = ap (λ s. at_place s p.ordinal) (sym (scope_once fills (first_named name full 0) p r settled)) in
    ap (λ rows. found_or fills (first_named name rows 0) None) (counted_own f made agrees)
    ∙ ap (λ o. found_or fills o None) (first_front name f.entered made.rows 0 p.ordinal r own)
    ∙ ap (λ q. Some (q, r)) place

-- ** What a search answers

pub can_search : (old : State) (a : Around) (s name : ℕ) → Suits old.frame a → s ≤ fills_of old → name ≢ 0 → CanSearch old (s ∷ []) name
can_search old a s name suits inner named = record { short = omega arith; exist = (let e = suits.exist in omega (arith, e, inner), tt); named = named }

module _ (old new : State) (a : Around) (at name : ℕ) (made : Hand) (suits : Suits old.frame a) (in_hand : AreInHand old.frame made) (told : IsFinished (texts_of old) made.finished) where
  pub found_in : (s : ℕ) (p : Place) (r : Row) → s ≤ fills_of old → Searched old new at (s ∷ []) name (Found p r) → entry_in (rows_of old.frame made) s name ≡ Some (p, r)
  found_in s p r inner searched =
      let agrees = suits.told made.finished told in
      elim (below_or_same s (fills_of old) inner) as (λ _. entry_in (rows_of old.frame made) s name ≡ Some (p, r)) [
        | inl below ↦ settled_below old.frame made s name agrees below ∙ searched.settled made.finished told
        | inr same ↦ (
            let settled : lookup made.finished (fills_of old ∷ []) name ≡ Some (p, r) = subst (λ k. lookup made.finished (k ∷ []) name ≡ Some (p, r)) same (searched.settled made.finished told) in
            let scope : p.scope ≡ fills_of old = scope_once (fills_of old) (first_named name (rows_at made.finished (fills_of old)) 0) p r settled in
            let entered : slice_get old.frame.entered p.ordinal ≡ Some r =
            subst (λ (f : Frame). slice_get f.entered p.ordinal ≡ Some r) searched.keeps.frame
            (searched.says.shown.own (scope ∙ ap (λ (f : Frame). f.setting.fills) (sym searched.keeps.frame))) in
            ap (λ k. entry_in (rows_of old.frame made) k name) same ∙ found_own old.frame made name p r agrees settled entered)
      ]

  pub absent_in : (s : ℕ) → s ≤ fills_of old → Searched old new at (s ∷ []) name Absent → entry_in (rows_of old.frame made) s name ≡ None
  absent_in s inner searched =
      let agrees = suits.told made.finished told in
      elim (below_or_same s (fills_of old) inner) as (λ _. entry_in (rows_of old.frame made) s name ≡ None) [
        | inl below ↦ settled_below old.frame made s name agrees below ∙ searched.settled made.finished told
        | inr same ↦ (
            let here : fills_of new ≡ s = ap (λ (f : Frame). f.setting.fills) searched.keeps.frame ∙ sym same in
            let own : (old.frame.closed ≡ true) × Lacks old.frame.entered name =
            subst (λ (f : Frame). (f.closed ≡ true) × Lacks f.entered name) searched.keeps.frame (searched.says.own (inl here)) in
            ap (λ k. entry_in (rows_of old.frame made) k name) same
            ∙ ap (λ rows. found_or (fills_of old) (first_named name rows 0) None) (counted_closed old.frame made agrees in_hand own.0)
            ∙ ap (λ o. found_or (fills_of old) o None) own.1)
      ]

-- the own scope lacks the name so far
lacks_yet : (old new : State) (at name : ℕ) (chain : List ℕ) (h : Head) → Searched old new at chain name (DontKnowYet h) → h.scope ≡ fills_of old → Lacks old.frame.entered name
lacks_yet old new at name chain h searched same =
    subst (λ (f : Frame). Lacks f.entered name) searched.keeps.frame (searched.says.own (same ∙ ap (λ (f : Frame). f.setting.fills) (sym searched.keeps.frame)))

unknown_in : (old new : State) (a : Around) (at name : ℕ) (made : Hand) (h : Head) → Suits old.frame a → Searched old new at (fills_of old ∷ []) name (DontKnowYet h) → h.scope ≡ fills_of old
    → Lacks made.rows name → IsFinished (texts_of old) made.finished → entry_in (rows_of old.frame made) (fills_of old) name ≡ None
unknown_in old new a at name made h suits searched same lacks told =
    lacks_own old.frame made name (suits.told made.finished told) (lacks_yet old new at name (fills_of old ∷ []) h searched same) lacks

-- ** A type that the module declares

other_type : (scene : Scene) (t : Place) (m : RowMeaning) → NamesNoType m → type_named scene t m ≡ t
other_type scene t (TypeName u) none = absurd none
other_type scene t m none = refl

-- no row in hand is that of a type's name
no_type : (scene : Scene) (t : Place) (s name : ℕ) (made : List Row) (n : ℕ) → Each (λ r. NamesNoType (row_meaning r)) made → named_or scene t (found_or s (first_named name made n) None) ≡ t
no_type scene t s name [] n types = refl
no_type scene t s name (r ∷ made) n types = go (r.name == name) (no_type scene t s name made (n + 1) types.1)
  where
    go : (b : Bool) → named_or scene t (found_or s (first_named name made (n + 1)) None) ≡ t → named_or scene t (found_or s (if b then Some (n, r) else first_named name made (n + 1)) None) ≡ t
    go true rest = other_type scene t (row_meaning r) types.0
    go false rest = rest

-- so where the own scope lacks the name so far, it has no type of that name
pub type_unknown : (old new : State) (a : Around) (at name s : ℕ) (made : Hand) (h : Head) → Suits old.frame a → AreInHand old.frame made → Searched old new at (s ∷ []) name (DontKnowYet h)
    → h.scope ≡ fills_of old → IsFinished (texts_of old) made.finished → (scene : Scene) (t : Place) → t ≡ named_or scene t (entry_in (rows_of old.frame made) s name)
type_unknown old new a at name s made h suits in_hand searched same told scene t =
    let f = old.frame in
    let fills = f.setting.fills in
    let entered = lacks_yet old new at name (s ∷ []) h searched same in
    let on : h.scope ≡ s = elim searched.says.on as (λ _. h.scope ≡ s) [ inl e ↦ e | inr e ↦ absurd e ] in
    sym (
    ap (λ k. named_or scene t (entry_in (rows_of f made) k name)) (sym on ∙ same)
    ∙ ap (λ rows. named_or scene t (found_or fills (first_named name rows 0) None)) (counted_own f made (suits.told made.finished told))
    ∙ ap (λ o. named_or scene t (found_or fills o None)) (first_behind name f.entered made.rows 0 entered)
    ∙ no_type scene t fills name made.rows (0 + length f.entered) in_hand.types)

inside : (n s : ℕ) (chain : List ℕ) → Each (λ k. k ≤ n) chain → IsIn s chain → s ≤ n
inside n s [] h on = absurd on
inside n s (k ∷ chain) h on = elim on as (λ _. s ≤ n) [ inl same ↦ (let e : s ≡ k = same in let b : k ≤ n = h.0 in omega (arith, e, b)) | inr later ↦ inside n s chain h.1 later ]

-- a search stops at a head of a scope before
pub waits_at : (old new : State) (at name : ℕ) (chain : List ℕ) (head : Head) → Each (λ k. k ≤ fills_of old) chain → head.scope ≢ fills_of old → Searched old new at chain name (DontKnowYet head)
    → Waits old new head
waits_at old new at name chain head inner other searched =
    let unknown = searched.says in
    let smaller : head.scope < fills_of old =
    elim (below_or_same head.scope (fills_of old) (inside (fills_of old) head.scope chain inner unknown.on)) as (λ _. head.scope < fills_of old) [ inl below ↦ below | inr same ↦ absurd (other same) ] in
    record { smaller = smaller; incomplete = unknown.stops.incomplete; from = unknown.stops.loaded.from; upto = unknown.stops.loaded.upto }

-- a complete own scope is none at whose head a search stops
pub never_own : {old new : State} {at name : ℕ} {chain : List ℕ} {head : Head} → old.frame.closed ≡ true → Searched old new at chain name (DontKnowYet head) → head.scope ≢ fills_of old
never_own closed searched same =
    let open_yet = (searched.says.stops.own (same ∙ ap (λ (f : Frame). f.setting.fills) (sym searched.keeps.frame))).0 in
    true≢false (sym closed ∙ ap (λ (f : Frame). f.closed) (sym searched.keeps.frame) ∙ open_yet)

silent_look : (name : ℕ) (chain : List ℕ) (heads : List Head) (reply : Reply) → Each (λ (l : Look). l.at ≡ 0) (looks_of 0 name chain heads reply)
silent_look name [] heads reply = tt
silent_look name (s ∷ chain) heads reply = (refl, tt)

pub Reads-searched : {old new : State} {name : ℕ} {chain : List ℕ} {reply : Reply} → Searched old new 0 chain name reply → Reads old new
Reads-searched {old} {new} {name} {chain} {reply} searched =
    record { looks = looks_of 0 name chain searched.heads reply; keeps = searched.keeps; silent = silent_look name chain searched.heads reply }

-- a found row
pub found_row : (old new : State) (a : Around) (at name : ℕ) (chain : List ℕ) (p : Place) (r : Row) → Suits old.frame a → Each (λ k. k ≤ fills_of old) chain → p.scope < 2 ^ 32 → p.ordinal < 2 ^ 32
    → Searched old new at chain name (Found p r) → IsRowOf old.frame p r
found_row old new a at name chain p r suits inner s o searched =
    let formed : IsWellFormed (length (texts_of old).names) p r = subst (λ (f : Frame). IsWellFormed (length f.setting.texts.names) p r) searched.keeps.frame searched.says.shown.formed in
    record {
      there =
          record {
            scope = inside (fills_of old) p.scope chain inner searched.says.on;
            entered = λ same open_yet. slice_within old.frame.entered p.ordinal r
                (subst (λ (f : Frame). slice_get f.entered p.ordinal ≡ Some r) searched.keeps.frame
                (searched.says.shown.own (same ∙ ap (λ (f : Frame). f.setting.fills) (sym searched.keeps.frame))));
          };
      said = record { fits = formed.fits; small = HasSmallNumbers-fits (length (texts_of old).names) p (row_meaning r) suits.names s o formed.fits };
    }

-- ** A search in a chain

-- the rows of the scopes of a chain are the finished ones, where the own scope is none of them or complete
lookup_all : (f : Frame) (made : Hand) (name : ℕ) (chain : List ℕ) → Agrees f made.finished → AreInHand f made → Each (λ s. s ≤ f.setting.fills) chain → (IsIn f.setting.fills chain → f.closed ≡ true)
    → lookup (rows_of f made) chain name ≡ lookup made.finished chain name
lookup_all f made name [] agrees in_hand inner settled = refl
lookup_all f made name (s ∷ chain) agrees in_hand inner settled =
    let rest : lookup (rows_of f made) chain name ≡ lookup made.finished chain name = lookup_all f made name chain agrees in_hand inner.1 (λ on. settled (inr on)) in
    let here : rows_at (rows_of f made) s ≡ rows_at made.finished s =
    elim (below_or_same s f.setting.fills inner.0) as (λ _. rows_at (rows_of f made) s ≡ rows_at made.finished s) [
      | inl below ↦ counted_below f made s agrees below
      | inr same ↦ (
          let closed = settled (inl (sym same)) in
          subst (λ k. rows_at (rows_of f made) k ≡ rows_at made.finished k) (sym same) (counted_closed f made agrees in_hand closed ∙ agrees.whole closed))
    ] in
    ap (λ rows. found_or s (first_named name rows 0) (lookup (rows_of f made) chain name)) here
    ∙ ap (λ o. found_or s (first_named name (rows_at made.finished s) 0) o) rest

pub can_look : (st : State) (a : Around) (name : ℕ) (chain : List ℕ) → Suits st.frame a → CanLook st.frame chain → name ≢ 0 → CanSearch st chain name
can_look st a name chain suits can named = record {
  short = can.short;
  exist = each_then (λ s. s ≤ fills_of st) (λ s. s < length st.frame.setting.areas) chain (λ s k. let e = suits.exist in omega (arith, e, k)) can.inner;
  named = named;
}

module _ (old new : State) (a : Around) (at name : ℕ) (chain : List ℕ) (made : Hand) (suits : Suits old.frame a) (can : CanLook old.frame chain) (in_hand : AreInHand old.frame made) (told : IsFinished (texts_of old) made.finished) where
  pub found_on : (p : Place) (r : Row) → Searched old new at chain name (Found p r) → lookup (rows_of old.frame made) chain name ≡ Some (p, r)
  found_on p r searched =
      elim can.settled as (λ _. lookup (rows_of old.frame made) chain name ≡ Some (p, r)) [
        | inl own ↦ subst (λ c. lookup (rows_of old.frame made) c name ≡ Some (p, r)) (sym own) (
            found_in old new a at name made suits in_hand told (fills_of old) p r (omega arith) (subst (λ c. Searched old new at c name (Found p r)) own searched))
        | inr closed ↦ lookup_all old.frame made name chain (suits.told made.finished told) in_hand can.inner closed ∙ searched.settled made.finished told
      ]

  pub absent_on : Searched old new at chain name Absent → lookup (rows_of old.frame made) chain name ≡ None
  absent_on searched =
      elim can.settled as (λ _. lookup (rows_of old.frame made) chain name ≡ None) [
        | inl own ↦ subst (λ c. lookup (rows_of old.frame made) c name ≡ None) (sym own) (
            absent_in old new a at name made suits in_hand told (fills_of old) (omega arith) (subst (λ c. Searched old new at c name Absent) own searched))
        | inr closed ↦ lookup_all old.frame made name chain (suits.told made.finished told) in_hand can.inner closed ∙ searched.settled made.finished told
      ]

  pub unknown_on : (h : Head) → Searched old new at chain name (DontKnowYet h) → h.scope ≡ fills_of old → (IsIn (fills_of old) chain → Lacks made.rows name) → lookup (rows_of old.frame made) chain name ≡ None
  unknown_on h searched same lacks =
      let on : IsIn (fills_of old) chain = subst (λ s. IsIn s chain) same searched.says.on in
      elim can.settled as (λ _. lookup (rows_of old.frame made) chain name ≡ None) [
        | inl own ↦ subst (λ c. lookup (rows_of old.frame made) c name ≡ None) (sym own) (
            unknown_in old new a at name made h suits (subst (λ c. Searched old new at c name (DontKnowYet h)) own searched) same (lacks on) told)
        | inr closed ↦ absurd (
            let open_yet : new.frame.closed ≡ false = (searched.says.stops.own (same ∙ ap (λ (f : Frame). f.setting.fills) (sym searched.keeps.frame))).0 in
            true≢false (sym (closed on) ∙ ap (λ (f : Frame). f.closed) (sym searched.keeps.frame) ∙ open_yet))
      ]

found_among : (at name : ℕ) (chain : List ℕ) (heads : List Head) (p : Place) (r : Row) → IsIn p.scope chain → IsAmong (looks_of at name chain heads (Found p r)) (answer_of name at (p, r))
found_among at name [] heads p r on = absurd on
found_among at name (s ∷ chain) heads p r on = inl (refl, refl, refl)

pub Looked-found : (old new : State) (at name : ℕ) (chain : List ℕ) (p : Place) (r : Row) → Searched old new at chain name (Found p r) → Looked old new at name (Known (Some (p, r)))
Looked-found old new at name chain p r searched =
    record { looks = looks_of at name chain searched.heads (Found p r); keeps = searched.keeps; among = found_among at name chain searched.heads p r searched.says.on }

pub Looked-none : (old new : State) (at name : ℕ) (chain : List ℕ) (reply : Reply) → Searched old new at chain name reply → Looked old new at name (Known None)
Looked-none old new at name chain reply searched = record { looks = looks_of at name chain searched.heads reply; keeps = searched.keeps; among = tt }

pub Looked-waits : (old new : State) (at name : ℕ) (chain : List ℕ) (h : Head) → Searched old new at chain name (DontKnowYet h) → Looked old new at name (Waiting h)
Looked-waits old new at name chain h searched = record { looks = looks_of at name chain searched.heads (DontKnowYet h); keeps = searched.keeps; among = tt }

last_of : (looks after : Option (List Look)) (look : Look) (P : Look → Type 0) → Grows looks (look ∷ []) after → P look → WhereLast after P
last_of None None look P grows p = tt
last_of (Some xs) (Some ys) look P grows p = (xs, look, grows, p)
last_of None (Some ys) look P grows p = absurd grows
last_of (Some xs) None look P grows p = absurd grows

pub last_searched : (old new : State) (at name s : ℕ) (chain : List ℕ) (reply : Reply) → Searched old new at (s ∷ chain) name reply → WhereLast new.looks (IsLookFor at name (s ∷ chain) reply)
last_searched old new at name s chain reply searched =
    let look : Look = record { at = at; name = name; chain = s ∷ chain; heads = searched.heads; reply = reply } in
    last_of old.looks new.looks look (IsLookFor at name (s ∷ chain) reply) searched.keeps.grows (record { at_is = refl; name_is = refl; chain_is = refl; replied = refl })

pub last_look : (old new : State) (at name : ℕ) (chain : List ℕ) (head : Head) → Searched old new at chain name (DontKnowYet head) → WhereLast new.looks (IsLookFor at name chain (DontKnowYet head))
last_look old new at name [] head searched = absurd searched.says.on
last_look old new at name (s ∷ chain) head searched = last_searched old new at name s chain (DontKnowYet head) searched

-- the search in the module's scope alone
pub stops_search : (old new : State) (home name : ℕ) (head : Head) → Searched old new 0 (home ∷ []) name (DontKnowYet head) → StopsSearch new home name head
stops_search old new home name head searched =
    record {
      on = elim searched.says.on as (λ _. head.scope ≡ home) [ inl e ↦ e | inr e ↦ absurd e ];
      asked = last_searched old new 0 name home [] (DontKnowYet head) searched;
    }

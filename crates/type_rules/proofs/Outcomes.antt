-- What holds of a result where something has failed, and where a found entry was noted and followed.
use Rattle.std.proofs.Common.{◌≡◌, inl, inr, ℕ, ◌+◌, ◌≤◌, true, false, List, [], ◌∷◌, ◌++◌, Option, Some, None, Result, Ok, Err, length, sym, ap, subst, ◌∙◌, arith, length-append}
use Rattle.std.specs.Prelude.{IsErr, MatchOption}
use Rattle.std.specs.Option.{IfSome}
use Rattle.std.specs.Result.{IfOk, OnErr}
use Rattle.m2_base.specs.Asks.{IfKnown, IfWaits}
use Rattle.m2_base.specs.Lists.{IsPrefixOf, WhereLast}
use Rattle.m2_base.specs.States.{State, Frame, Look, Keeps, Waits}
use Rattle.m2_base.specs.Statics.Lookup.{Entry}
use Rattle.m2_base.specs.Statics.Uses.{answer_of}
use Rattle.m2_base.specs.declared.memory.Memory.{Memory}
use Rattle.m2_base.specs.declared.notes.Notes.{Notes}
use Rattle.m2_base.specs.declared.replies.Ask.{Ask}
use Rattle.m2_base.specs.declared.replies.Ask.TheVariants.{Known, DontKnowYet}
use Rattle.m2_base.specs.declared.replies.Head.{Head}
use Rattle.m2_base.specs.declared.replies.Reply.TheVariants.{DontKnowYet as Unknown}
use Rattle.m2_base.specs.declared.rows.Place.{Place}
use Rattle.m2_base.specs.declared.rows.Row.{Row}
use Rattle.m2_base.specs.declared.sites.Around.{Around}
use Rattle.m2_base.proofs.Kept.{Waits_after}
use Rattle.type_rules.specs.Scenes.{IsRowOf, Suits}
use Rattle.type_rules.specs.Sites.{IsAskedIn, IsLookFor, IsWithin, LeadsTo}

-- ** A result without memory

pub failed_known : {T : Type 0} (r : Result (Ask T) Memory) (P : T → Type 0) → IsErr r → IfKnown r P
failed_known (Ok w) P is = absurd (let e : false ≡ true = is in cc)
failed_known (Err m) P is = tt

pub failed_waits : {T : Type 0} (r : Result (Ask T) Memory) (P : Head → Type 0) → IsErr r → IfWaits r P
failed_waits (Ok w) P is = absurd (let e : false ≡ true = is in cc)
failed_waits (Err m) P is = tt

pub failed_ok : {T : Type 0} (r : Result T Memory) (P : T → Type 0) → IsErr r → IfOk r P
failed_ok (Ok w) P is = absurd (let e : false ≡ true = is in cc)
failed_ok (Err m) P is = tt

pub failed_none : (r : Result (Ask (Option Entry)) Memory) (x y : Notes) → IsErr r → IfKnown r (λ found. MatchOption found (length y.diags.items ≡ length x.diags.items + 1) (λ e. y.diags.items ≡ x.diags.items))
failed_none (Ok w) x y is = absurd (let e : false ≡ true = is in cc)
failed_none (Err m) x y is = tt

-- ** What holds anyway

pub on_error : {T : Type 0} (r : Result T Memory) (P : Type 0) → P → OnErr r P
on_error (Ok w) P p = tt
on_error (Err m) P p = p

pub where_waits : {T : Type 0} (r : Result (Ask T) Memory) (P : Type 0) → P → IfWaits r (λ h. P)
where_waits (Ok (Known x)) P p = tt
where_waits (Ok (DontKnowYet h)) P p = p
where_waits (Err m) P p = tt

-- ** After a call that keeps

pub Suits_kept : {a b : State} {looks : List Look} {s : Around} → Keeps a b looks → Suits a.frame s → Suits b.frame s
Suits_kept {a} {b} {looks} {s} k h = subst (λ (f : Frame). Suits f s) (sym k.frame) h

pub IsRowOf_kept : {a b : State} {looks : List Look} {p : Place} {r : Row} → Keeps a b looks → IsRowOf a.frame p r → IsRowOf b.frame p r
IsRowOf_kept {a} {b} {looks} {p} {r} k h = subst (λ (f : Frame). IsRowOf f p r) (sym k.frame) h

pub Waits_kept : {T : Type 0} {a b : State} {looks : List Look} (r : Result (Ask T) Memory) (c : State) → Keeps a b looks → IfWaits r (λ h. Waits b c h) → IfWaits r (λ h. Waits a c h)
Waits_kept (Ok (Known x)) c k w = tt
Waits_kept (Ok (DontKnowYet h)) c k w = Waits_after k w
Waits_kept (Err m) c k w = tt

-- ** A found entry, which was noted and followed

pub followed_asked : (r : Result (Ask (Option Entry)) Memory) (new : State) (x y : Notes) (at name : ℕ) (chain : List ℕ) (e : Entry) → IfOk r (λ _. y.answers.items ≡ x.answers.items ++ answer_of name at e ∷ [])
    → IfWaits r (λ h. LeadsTo e.1 h) → IfWaits r (λ h. IsAskedIn new y at name chain h)
followed_asked (Ok (Known v)) new x y at name chain e noted leads = tt
followed_asked (Ok (DontKnowYet h)) new x y at name chain e noted leads = inr (x.answers.items, e, noted, leads)
followed_asked (Err m) new x y at name chain e noted leads = tt

pub followed_none : (r : Result (Ask (Option Entry)) Memory) (f : Frame) (x y : Notes) → IfKnown r (λ found. MatchOption found ⊥ (λ e. IsRowOf f e.0 e.1)) → y.diags.items ≡ x.diags.items
    → IfKnown r (λ found. MatchOption found (length y.diags.items ≡ length x.diags.items + 1) (λ e. y.diags.items ≡ x.diags.items))
followed_none (Ok (Known (Some e))) f x y row same = same
followed_none (Ok (Known None)) f x y row same = absurd row
followed_none (Ok (DontKnowYet h)) f x y row same = tt
followed_none (Err m) f x y row same = tt

pub followed_row : (r : Result (Ask (Option Entry)) Memory) (f mid : Frame) → mid ≡ f → IfKnown r (λ found. MatchOption found ⊥ (λ e. IsRowOf mid e.0 e.1)) → IfKnown r (λ found. IfSome found (λ e. IsRowOf f e.0 e.1))
followed_row (Ok (Known (Some e))) f mid same row = subst (λ (h : Frame). IsRowOf h e.0 e.1) same row
followed_row (Ok (Known None)) f mid same row = absurd row
followed_row (Ok (DontKnowYet h)) f mid same row = tt
followed_row (Err m) f mid same row = tt

pub followed_within : (r : Result (Ask (Option Entry)) Memory) (chain : List ℕ) (p : Place) → IsWithin chain p → IfKnown r (λ found. MatchOption found ⊥ (λ e. e.0.scope ≤ p.scope))
    → IfKnown r (λ found. IfSome found (λ e. IsWithin chain e.0))
followed_within (Ok (Known (Some e))) chain p within upto = let u = within.upto in record { scope = within.scope; on = within.on; upto = omega (arith, u, upto) }
followed_within (Ok (Known None)) chain p within upto = absurd upto
followed_within (Ok (DontKnowYet h)) chain p within upto = tt
followed_within (Err m) chain p within upto = tt

-- an entry found in one scope
pub within_scope : (r : Result (Ask (Option Entry)) Memory) (within : Option ℕ) (scope : ℕ) → within ≡ Some scope → IfKnown r (λ found. IfSome found (λ e. IsWithin (scope ∷ []) e.0))
    → IfKnown r (λ found. IfSome found (λ e. IfSome within (λ s. e.0.scope ≤ s)))
within_scope (Ok (Known (Some e))) within scope is found =
    let u = found.upto in
    let same : found.scope ≡ scope = elim found.on as (λ _. found.scope ≡ scope) [ inl e ↦ e | inr e ↦ absurd e ] in
    let below : e.0.scope ≤ scope = omega (arith, u, same) in
    subst (λ w. IfSome w (λ s. e.0.scope ≤ s)) (sym is) below
within_scope (Ok (Known None)) within scope is found = tt
within_scope (Ok (DontKnowYet h)) within scope is found = tt
within_scope (Err m) within scope is found = tt

pub within_none : (r : Result (Ask (Option Entry)) Memory) (within : Option ℕ) → within ≡ None → IfKnown r (λ found. IfSome found (λ e. IfSome within (λ s. e.0.scope ≤ s)))
within_none (Ok (Known (Some e))) within none = subst (λ w. IfSome w (λ s. e.0.scope ≤ s)) (sym none) tt
within_none (Ok (Known None)) within none = tt
within_none (Ok (DontKnowYet h)) within none = tt
within_none (Err m) within none = tt

-- the same chain, in other words
pub asked_along : {T : Type 0} (r : Result (Ask T) Memory) (new : State) (y : Notes) (at name : ℕ) (chain other : List ℕ) → other ≡ chain
    → IfWaits r (λ h. IsAskedIn new y at name chain h) → IfWaits r (λ h. IsAskedIn new y at name other h)
asked_along r new y at name chain other same asked = subst (λ ks. IfWaits r (λ h. IsAskedIn new y at name ks h)) (sym same) asked

pub last_along : (looks : Option (List Look)) (at name : ℕ) (chain other : List ℕ) → chain ≡ other → (h : Head)
    → WhereLast looks (IsLookFor at name chain (Unknown h)) → WhereLast looks (IsLookFor at name other (Unknown h))
last_along looks at name chain other same h asked = subst (λ ks. WhereLast looks (IsLookFor at name ks (Unknown h))) same asked

-- ** One diagnostic more

pub one_grows : {A : Type 0} (xs ys : List A) (d : A) → ys ≡ xs ++ d ∷ [] → IsPrefixOf xs ys
one_grows xs ys d more = record { rest = d ∷ []; joined = sym more }

pub one_longer : {A : Type 0} (xs ys : List A) (d : A) → ys ≡ xs ++ d ∷ [] → length ys ≡ length xs + 1
one_longer xs ys d more = ap length more ∙ length-append xs (d ∷ [])

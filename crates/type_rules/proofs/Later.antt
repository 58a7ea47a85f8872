-- What one question leaves to the next.
use Rattle.std.proofs.Common.{◌≡◌, inl, inr, ℕ, ◌<◌, ◌≤◌, ◌^◌, Option, arith, sym, subst}
use Rattle.std.specs.Option.{IfSome}
use Rattle.m2_base.specs.Rows.{IsBefore, at_place}
use Rattle.m2_base.specs.States.{Frame, State, Waits}
use Rattle.m2_base.specs.Statics.Types.{meaning_at}
use Rattle.m2_base.specs.declared.replies.Ask.{Ask}
use Rattle.m2_base.specs.declared.replies.Ask.TheVariants.{DontKnowYet, Known}
use Rattle.m2_base.specs.declared.rows.Place.{Place}
use Rattle.m2_base.specs.declared.rows.Row.{Row}
use Rattle.m2_base.specs.declared.rows.RowMeaning.{RowMeaning}
use Rattle.m2_base.specs.declared.sites.Around.{Around}
use Rattle.type_rules.specs.Asks.{Reads, WhereKnown, WhereWaiting}
use Rattle.type_rules.specs.Scenes.{IsRowOf, IsStoodHere, IsThere, Suits, WhereTold, scene_of}
use Rattle.type_rules.specs.Standing.{StopsAtEither, StopsAtType}
use Rattle.type_rules.specs.Forms.{IsFormHere}
use Rattle.type_rules.specs.declared.forms.Form.{Form}
use Rattle.type_rules.proofs.Reading.{Waits_read, reads_frame}

-- where the next question waits, both wait
pub Waits_asked : {T : Type 0} {a b : State} (answer : Ask T) (c : State) → Reads a b → WhereWaiting answer (λ h. Waits b c h) → WhereWaiting answer (λ h. Waits a c h)
Waits_asked (Known x) c r w = tt
Waits_asked (DontKnowYet h) c r w = Waits_read r w

-- the scopes suit the next question as they suited the first
pub Suits_read : {a b : State} {s : Around} → Reads a b → Suits a.frame s → Suits b.frame s
Suits_read {a} {b} {s} r h = subst (λ (f : Frame). Suits f s) (sym (reads_frame r)) h

-- what the first question could ask for, the next can
pub IsThere_read : {a b : State} {p : Place} → Reads a b → IsThere a.frame p → IsThere b.frame p
IsThere_read {a} {b} {p} r h = subst (λ (f : Frame). IsThere f p) (sym (reads_frame r)) h

pub IsRowOf_read : {a b : State} {p : Place} {r : Row} → Reads a b → IsRowOf a.frame p r → IsRowOf b.frame p r
IsRowOf_read {a} {b} {p} {r} reads h = subst (λ (f : Frame). IsRowOf f p r) (sym (reads_frame reads)) h

pub IsFormHere_read : {a b : State} {form : Form} → Reads a b → IsFormHere a.frame form → IsFormHere b.frame form
IsFormHere_read {a} {b} {form} r h = subst (λ (f : Frame). IsFormHere f form) (sym (reads_frame r)) h

-- a row before that of a type
pub IsThere_earlier : (f : Frame) (p : Place) (i : ℕ) → IsThere f p → i < p.ordinal → IsThere f (at_place p.scope i)
IsThere_earlier f p i there before = record { scope = there.scope; entered = λ same open_yet. let l = there.entered same open_yet in omega (arith, l, before) }

-- a place before one that can be asked for can be asked for
pub IsThere_before : (f : Frame) (p t : Place) → p.ordinal < 2 ^ 32 → IsThere f p → IsBefore t p → IsThere f t
IsThere_before f p t small there before =
    let scope : t.scope ≤ p.scope = omega (arith, before, small) in
    let within = there.scope in
    record {
      scope = omega (arith, scope, within);
      entered = λ same open_yet.
          let here : p.scope ≡ f.setting.fills = omega (arith, scope, within, same) in
          let l = there.entered here open_yet in
          omega (arith, before, same, here, l);
    }

-- ** What a later question tells of the frame before it

pub IsRowOf_before : {a b : State} {p : Place} {r : Row} → Reads a b → IsRowOf b.frame p r → IsRowOf a.frame p r
IsRowOf_before {a} {b} {p} {r} reads h = subst (λ (f : Frame). IsRowOf f p r) (reads_frame reads) h

pub IsThere_before_read : {a b : State} {p : Place} → Reads a b → IsThere b.frame p → IsThere a.frame p
IsThere_before_read {a} {b} {p} r h = subst (λ (f : Frame). IsThere f p) (reads_frame r) h

pub IsStoodHere_before : {a b : State} {stood : Place × RowMeaning} → Reads a b → IsStoodHere b.frame stood → IsStoodHere a.frame stood
IsStoodHere_before {a} {b} {stood} r h = subst (λ (f : Frame). IsStoodHere f stood) (reads_frame r) h

pub stood_before : (answer : Ask (Option (Place × RowMeaning))) (f mid : Frame) → mid ≡ f → WhereKnown answer (λ found. IfSome found (IsStoodHere mid)) → WhereKnown answer (λ found. IfSome found (IsStoodHere f))
stood_before answer f mid same here = subst (λ (h : Frame). WhereKnown answer (λ found. IfSome found (IsStoodHere h))) same here

pub meant_before : (answer : Ask (Option (Place × RowMeaning))) (f mid : Frame) (a : Around) → mid ≡ f
    → WhereTold mid (λ made. WhereKnown answer (λ found. IfSome found (λ stood. stood.1 ≡ meaning_at (scene_of mid made a) stood.0)))
    → WhereTold f (λ made. WhereKnown answer (λ found. IfSome found (λ stood. stood.1 ≡ meaning_at (scene_of f made a) stood.0)))
meant_before answer f mid a same meant = subst (λ (h : Frame). WhereTold h (λ made. WhereKnown answer (λ found. IfSome found (λ stood. stood.1 ≡ meaning_at (scene_of h made a) stood.0)))) same meant

-- ** What one of two types stands for isn't known

pub stops_left : {T : Type 0} (answer : Ask T) (new : State) (a : Around) (t u : Place) → WhereWaiting answer (λ h. StopsAtType new a t h) → WhereWaiting answer (λ h. StopsAtEither new a t u h)
stops_left (Known x) new a t u stops = tt
stops_left (DontKnowYet h) new a t u stops = inl stops

pub stops_right : {T : Type 0} (answer : Ask T) (new : State) (a : Around) (t u : Place) → WhereWaiting answer (λ h. StopsAtType new a u h) → WhereWaiting answer (λ h. StopsAtEither new a t u h)
stops_right (Known x) new a t u stops = tt
stops_right (DontKnowYet h) new a t u stops = inr stops

-- What an opaque type of the own definition stands for.
use Rattle.std.proofs.Common.{◌≡◌, ◌≢◌, ◌∙◌, inr, ℕ, ◌+◌, ◌^◌, ◌<◌, ◌≤◌, List, [], ◌∷◌, Option, Some, length, refl, sym, ap, subst, arith, get_or, if◌then◌else◌}
use Rattle.std.proofs.Math.ListN.{get_or-eq_default}
use Rattle.std.proofs.lemmas.Bool.{eq-eqb, ne_eqb}
use Rattle.m2_base.specs.Finished.{IsFinished}
use Rattle.m2_base.specs.Lists.{WhereKept, WhereLast}
use Rattle.m2_base.specs.Rows.{at_place, row_meaning, row_of}
use Rattle.m2_base.specs.States.{Frame, State}
use Rattle.m2_base.specs.Statics.Contexts.{Scene, row_at}
use Rattle.m2_base.specs.Statics.Lookup.{entry_in}
use Rattle.m2_base.specs.Statics.Types.{declared_as, meaning_at, named_or, opaque_as, stands_as, stands_for, type_named, unless_opaque}
use Rattle.m2_base.specs.Tables.{rows_at}
use Rattle.m2_base.specs.declared.replies.Ask.{Ask}
use Rattle.m2_base.specs.declared.replies.Ask.TheVariants.{Known, DontKnowYet}
use Rattle.m2_base.specs.declared.replies.Reply.TheVariants.{Found}
use Rattle.m2_base.specs.declared.rows.Place.{Place}
use Rattle.m2_base.specs.declared.rows.Row.{Row}
use Rattle.m2_base.specs.declared.rows.RowMeaning.{RowMeaning}
use Rattle.m2_base.specs.declared.rows.RowMeaning.TheVariants.{Broken, Opaque, TypeName}
use Rattle.m2_base.specs.declared.sites.Around.{Around}
use Rattle.type_rules.specs.Asks.{WhereKnown, WhereWaiting}
use Rattle.type_rules.specs.Scenes.{Hand, Suits, WhereTold, rows_of, scene_of}
use Rattle.type_rules.specs.Sites.{IsLookFor}
use Rattle.type_rules.specs.Standing.{IsShortOfNamed, StopsAtName, StopsAtOpaque, found_or}
use Rattle.type_rules.proofs.Compatibles.{told_later}
use Rattle.type_rules.proofs.Counting.{counted_below}

opaque_own : (f : Frame) (made : Hand) (a : Around) (t : Place) (own : Option ℕ) → own ≡ Some t.scope
    → opaque_as (scene_of f made a) t own ≡ declared_as (scene_of f made a) t (row_at (rows_of f made) (at_place t.scope (t.ordinal + 1))).name
opaque_own f made a t own same =
    ap (λ o. opaque_as (scene_of f made a) t o) same
    ∙ ap (λ b. if b then declared_as (scene_of f made a) t (row_at (rows_of f made) (at_place t.scope (t.ordinal + 1))).name else t) (eq-eqb t.scope t.scope refl)

pub opaque_told : (answer : Ask (Option (Place × RowMeaning))) (old mid : Frame) (a : Around) (t : Place) (row : Row) → mid ≡ old → a.own ≡ Some t.scope
    → WhereTold old (λ made. row ≡ row_at (rows_of old made) (at_place t.scope (t.ordinal + 1)))
    → WhereTold mid (λ made. WhereKnown answer (λ found. (of : Place) → found_or of found ≡ declared_as (scene_of mid made a) of row.name))
    → WhereTold old (λ made. WhereKnown answer (λ found. found_or t found ≡ opaque_as (scene_of old made a) t a.own))
opaque_told (Known found) old mid a t row same own read asked made in_hand told =
    told_later old mid (λ f held. (of : Place) → found_or of found ≡ declared_as (scene_of f held a) of row.name) same asked made in_hand told t
    ∙ ap (λ (r : Row). declared_as (scene_of old made a) t r.name) (read made in_hand told)
    ∙ sym (opaque_own old made a t a.own own)
opaque_told (DontKnowYet h) old mid a t row same own read asked made in_hand told = tt

-- no scope has so many rows that one comes after the last place
pub opaque_last : (f : Frame) (made : Hand) (a : Around) (t : Place) → Suits f a → IsFinished f.setting.texts made.finished → a.own ≡ Some t.scope → 2 ^ 32 ≤ t.ordinal + 1
    → t ≡ opaque_as (scene_of f made a) t a.own
opaque_last f made a t suits told own large =
    let d : Row = row_of 0 0 Broken in
    let agrees = suits.told made.finished told in
    let below : t.scope < f.setting.fills = subst (λ o. WhereKept o (λ s. s < f.setting.fills)) own suits.own in
    let few : length (rows_at made.finished t.scope) < 2 ^ 32 = agrees.few t.scope in
    let past : length (rows_at made.finished t.scope) ≤ t.ordinal + 1 = omega (arith, few, large) in
    let none : row_at (rows_of f made) (at_place t.scope (t.ordinal + 1)) ≡ d =
    ap (λ (rows : List Row). get_or rows (t.ordinal + 1) d) (counted_below f made t.scope agrees below) ∙ get_or-eq_default (rows_at made.finished t.scope) d past in
    sym (opaque_own f made a t a.own own ∙ ap (λ (r : Row). declared_as (scene_of f made a) t r.name) none)

-- ** A type that is named

-- the row isn't that of a type's name
pub other_named : (scene : Scene) (t : Place) (m : RowMeaning) → ((u : Place) → m ≡ TypeName u → ⊥) → t ≡ type_named scene t m
other_named scene t (TypeName u) other = absurd (other u refl)
other_named scene t m other = refl

pub unless_other : (t u : Place) (m : RowMeaning) → (m ≡ Opaque → ⊥) → u ≡ unless_opaque t u m
unless_other t u Opaque other = absurd (other refl)
unless_other t u m other = refl

-- the entry that the module has of the name was found
pub declared_told : (answer : Ask (Option (Place × RowMeaning))) (old mid : Frame) (a : Around) (name : ℕ) (p : Place) (row : Row) → mid ≡ old → name ≢ 0
    → WhereTold old (λ made. (t : Place) → named_or (scene_of old made a) t (Some (p, row)) ≡ named_or (scene_of old made a) t (entry_in (rows_of old made) a.module name))
    → WhereTold mid (λ made. WhereKnown answer (λ found. (t : Place) → found_or t found ≡ type_named (scene_of mid made a) t (row_meaning row)))
    → WhereTold old (λ made. WhereKnown answer (λ found. (t : Place) → found_or t found ≡ declared_as (scene_of old made a) t name))
declared_told (Known found) old mid a name p row same named entry asked made in_hand told = λ t.
    let scene = scene_of old made a in
    let there = named_or scene t (entry_in (rows_of old made) a.module name) in
    let by_row : found_or t found ≡ type_named scene t (row_meaning row) = told_later old mid (λ f held. (of : Place) → found_or of found ≡ type_named (scene_of f held a) of (row_meaning row)) same asked made in_hand told t in
    by_row ∙ entry made in_hand told t ∙ sym (ap (λ b. if b then t else there) (ne_eqb name 0 named))
declared_told (DontKnowYet h) old mid a name p row same named entry asked made in_hand told = tt

pub stops_behind : {T : Type 0} (answer : Ask T) (new : State) (home name : ℕ) (p : Place) (row : Row) → WhereLast new.looks (IsLookFor 0 name (home ∷ []) (Found p row))
    → WhereWaiting answer (λ h. IsShortOfNamed row h) → WhereWaiting answer (λ h. StopsAtName new home name h)
stops_behind (Known x) new home name p row found stops = tt
stops_behind (DontKnowYet h) new home name p row found stops = inr (record { place = p; row = row; found = found; short = stops })

-- ** What a type stands for

pub opaque_stops : {T : Type 0} (answer : Ask T) (new : State) (a : Around) (t : Place) (name : ℕ) → a.own ≡ Some t.scope
    → WhereWaiting answer (λ h. StopsAtName new a.module name h) → WhereWaiting answer (λ h. StopsAtOpaque new a t h)
opaque_stops (Known x) new a t name own stops = tt
opaque_stops (DontKnowYet h) new a t name own stops = record { own = own; stops = inr (name, stops) }

other_stands : (scene : Scene) (t : Place) (m : RowMeaning) → (m ≡ Opaque → ⊥) → t ≡ stands_as scene t m
other_stands scene t Opaque other = absurd (other refl)
other_stands scene t m other = refl

pub plain_stands : (f : Frame) (a : Around) (t : Place) (m : RowMeaning) → (m ≡ Opaque → ⊥) → WhereTold f (λ made. m ≡ meaning_at (scene_of f made a) t) → WhereTold f (λ made. t ≡ stands_for (scene_of f made a) t)
plain_stands f a t m other read made in_hand told = other_stands (scene_of f made a) t m other ∙ ap (stands_as (scene_of f made a) t) (read made in_hand told)

pub opaque_stands : (old mid : Frame) (a : Around) (t : Place) (m : RowMeaning) (found : Option (Place × RowMeaning)) → mid ≡ old → m ≡ Opaque → WhereTold old (λ made. m ≡ meaning_at (scene_of old made a) t)
    → WhereTold mid (λ made. found_or t found ≡ opaque_as (scene_of mid made a) t a.own) → WhereTold old (λ made. found_or t found ≡ stands_for (scene_of old made a) t)
opaque_stands old mid a t m found same is read asked made in_hand told =
    told_later old mid (λ f held. found_or t found ≡ opaque_as (scene_of f held a) t a.own) same asked made in_hand told
    ∙ sym (ap (stands_as (scene_of old made a) t) (sym (read made in_hand told) ∙ is))

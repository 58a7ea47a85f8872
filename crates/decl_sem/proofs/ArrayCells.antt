-- The cells of arrays, and types of too many cells.
use Rattle.std.specs.Prelude.{◌≡◌, ℕ, ◌*◌, ◌<◌, ◌≤◌, ◌^◌, Bool, true, false, if◌then◌else◌, List, [], ◌∷◌, length, max, min, nat_lt, ◌+◌}
use Rattle.std.proofs.Common.{refl, sym, ap, ◌∙◌, subst, arith, Ok, Err, Result}
use Rattle.std.proofs.lemmas.List.{append-nil}
use Rattle.m2_base.specs.Noting.{IsRefused}
use Rattle.m2_base.specs.Gives.{gives}
use Rattle.m2_base.specs.Lists.{IsPrefixOf}
use Rattle.m2_base.specs.Rows.{array_kind}
use Rattle.m2_base.specs.Standard.{broken}
use Rattle.m2_base.specs.States.{Frame, State, Waits}
use Rattle.m2_base.specs.Statics.Arrays.{array_size, elements}
use Rattle.m2_base.specs.Statics.Cells.{capped, fitting, most_cells}
use Rattle.m2_base.specs.Statics.Contexts.{Context, refuse}
use Rattle.m2_base.specs.Statics.Diagnostics.{too_many_cells}
use Rattle.m2_base.specs.Statics.Makes.{make_then, makes, makes_row, only_gives}
use Rattle.m2_base.specs.Statics.Shapes.{Shape, nameless}
use Rattle.m2_base.specs.Statics.Types.{size_of, stands_for}
use Rattle.m2_base.specs.declared.memory.Memory.{Memory}
use Rattle.m2_base.specs.declared.notes.Notes.{Notes}
use Rattle.m2_base.specs.declared.replies.Ask.{Ask}
use Rattle.m2_base.specs.declared.replies.Ask.TheVariants.{Known, DontKnowYet}
use Rattle.m2_base.specs.declared.rows.Place.{Place}
use Rattle.m2_base.specs.declared.rows.Row.{Row}
use Rattle.m2_base.specs.declared.rows.RowMeaning.{RowMeaning}
use Rattle.m2_base.specs.declared.rows.RowMeaning.TheVariants.{Array}
use Rattle.m2_base.specs.declared.sites.Site.{Site}
use Rattle.type_rules.specs.Asks.{Reads, WhereKnown, WhereWaiting}
use Rattle.type_rules.specs.Scenes.{IsSaid, IsStood, scene_of}
use Rattle.type_rules.specs.Sites.{context_of}
use Rattle.decl_sem.specs.ArrayRows.{array_row}
use Rattle.decl_sem.specs.Making.{next_ordinal}
use Rattle.decl_sem.specs.Pieces.{Declares, IsAny, IsBehind, IsMaking, IsNewMeaning, WhereMaking}
use Rattle.decl_sem.specs.Stood.{IsOfSomeRow, elements_by}
use Rattle.decl_sem.specs.declared.making.Made.{Made}
use Rattle.decl_sem.proofs.Checks.{broken_behind}
use Rattle.decl_sem.proofs.OneRows.{before_next, small_scope}
use Rattle.decl_sem.proofs.Pieces.{analysed, asked, asked_then, described, failed, not_a_type, then_after, value_alone}
use Rattle.decl_sem.proofs.Uses.{refused}
use Rattle.decl_sem.proofs.VariableLists.{IsSizeOf}

-- ** Types of too many cells

fitting_as : (c : Context) (at size : ℕ) (t : Place) (b : Bool) → nat_lt most_cells size ≡ b → (if b then refuse c at too_many_cells broken else gives t) ≡ fitting c at size t
fitting_as c at size t b e = ap (λ (k : Bool). if k then refuse c at too_many_cells broken else gives t) (sym e)

-- a type that is kept
pub fits : (a : State) (x : Made) (s : Site) (at size : ℕ) (t : Place) → size < most_cells + 1 → IsBehind a.frame (next_ordinal x) t
    → Declares a a x x s (Ok (Known t)) [] IsBehind (λ c. only_gives (fitting c at size t))
fits a x s at size t h behind =
    let few : nat_lt most_cells size ≡ false = grind (arith, h) in
    described (Ok (Known t)) (λ c. only_gives (fitting c at size t)) (value_alone a x s t IsBehind behind)
    (λ hand in_hand told same. ap only_gives (fitting_as (context_of a.frame hand s) at size t false few))

-- one that is refused
pub too_large : {y : Notes} (a : State) (x : Made) (s : Site) (at size : ℕ) (t : Place) → most_cells + 1 ≤ size → IsMaking a.frame s x [] → IsRefused x.notes y s.around.now.text at too_many_cells
    → y.answers.items ≡ x.notes.answers.items → IsPrefixOf x.notes.diags.items y.diags.items
    → Declares a a x (record x { notes = y }) s (Ok (Known broken)) [] IsBehind (λ c. only_gives (fitting c at size t))
too_large {y} a x s at size t h making noted answers diags =
    let many : nat_lt most_cells size ≡ true = grind (arith, h) in
    described (Ok (Known broken)) (λ c. only_gives (fitting c at size t))
    (analysed {y = record x { notes = y }} (Ok (Known broken)) {P = λ f v. v ≡ broken} {Q = IsBehind} making refl refl (λ v h. subst (λ (p : Place). IsBehind a.frame (next_ordinal x) p) (sym h) (broken_behind making))
    (refused a x.notes y s at too_many_cells broken (λ f v. v ≡ broken) refl noted answers diags))
    (λ hand in_hand told same. ap only_gives (fitting_as (context_of a.frame hand s) at size t true many))

-- ** The cells of an array

-- what is more than numbers of 64 bits have, is too many cells too
pub capped_product : (n m : ℕ) → m ≡ min n 18446744073709551615 → capped (max 1 m) ≡ capped (max 1 n)
capped_product n m e = omega (arith, e)

elements_are : (c : Context) (index : Place) (stood : Place × RowMeaning) → IsStood c.scene index stood → elements_by stood ≡ elements c index
elements_are c index stood h =
    ap (λ (p : Place). elements_by (p, stood.1)) h.place ∙ ap (λ (m : RowMeaning). elements_by (stands_for c.scene index, m)) h.meaning

pub cells_told : {a b : State} (x : Made) (s : Site) (index of : Place) (stood : Place × RowMeaning) (size cells count : ℕ) → Reads a b
    → WhereMaking a.frame x (λ hand. IsStood (scene_of a.frame hand s.around.now) index stood)
    → IsSizeOf b.frame x s of size → count ≡ elements_by stood → cells ≡ capped (max 1 (count * size))
    → WhereMaking a.frame x (λ hand. cells ≡ array_size (context_of a.frame hand s) index of)
cells_told {a} {b} x s index of stood size cells count reads stands is counted e hand in_hand told same =
    let here : IsSizeOf a.frame x s of size = subst (λ (f : Frame). IsSizeOf f x s of size) reads.keeps.frame is in
    let c = context_of a.frame hand s in
    let one : size ≡ size_of c.scene of = here hand in_hand told same [] tt ∙ ap (λ (rows : List Row). size_of (context_of a.frame (record { finished = hand.finished; rows = rows }) s).scene of) (append-nil hand.rows) in
    e
    ∙ ap (λ (n : ℕ). capped (max 1 (n * size))) (counted ∙ elements_are c index stood (stands hand in_hand told same))
    ∙ ap (λ (n : ℕ). capped (max 1 (elements c index * n))) one

-- ** The row

-- the question for the cells
pub cells_asked : {a b : State} (x : Made) (s : Site) (index of : Place) (answer : Ask ℕ) → Reads a b → WhereWaiting answer (λ head. Waits a b head)
    → WhereMaking a.frame x (λ hand. WhereKnown answer (λ size. size ≡ array_size (context_of a.frame hand s) index of))
    → Declares a b x x s (Ok answer) [] IsAny (λ c. makes (array_size c index of))
cells_asked x s index of answer reads waits told = asked x s answer IsAny (λ c. array_size c index of) reads waits told (any answer)
  where
    any : (answer : Ask ℕ) → WhereKnown answer (λ v. Unit {0})
    any (Known v) = tt
    any (DontKnowYet head) = tt

pub array_meaning : {f : Frame} {s : Site} {x : Made} {ss : List Shape} {index of : Place} (size : ℕ) → 1 ≤ size → size < 2 ^ 32 → IsMaking f s x ss → IsBehind f (next_ordinal x) index → IsBehind f (next_ordinal x) of
    → IsNewMeaning f s (next_ordinal x) (Array index of size)
array_meaning size some few making i t =
    record { small = (i.small, t.small); scopes = (small_scope making i, small_scope making t); fits = (before_next i, before_next t, few); filled = some; owned = tt }

module _ {a b : State} {x y : Made} {s : Site} (at : ℕ) (index of : Place) (size : ℕ) (making : IsMaking a.frame s x (nameless array_kind at ∷ []))
    (first : Declares a b x x s (Ok (Known size)) [] IsAny (λ c. makes (array_size c index of))) (here : IsMaking b.frame s x (nameless array_kind at ∷ [])) where
  -- the array, after the question
  pub array_made : {z : Made} {t : Place} (answer : Result (Ask Place) Memory) → Declares b b x y s (Ok (Known t)) (nameless array_kind at ∷ []) IsBehind (λ c. makes_row c at (Array index of size))
      → Declares b b y z s answer [] IsBehind (λ c. only_gives (fitting c at size t)) → Declares a b x z s answer (nameless array_kind at ∷ []) IsBehind (λ c. array_row c at index of)
  array_made {z} {t} answer p q =
      asked_then (λ c. array_size c index of) (λ size c. make_then c (makes_row c at (Array index of size)) (λ d t. only_gives (fitting d at size t))) answer making first
      (then_after (λ c. makes_row c at (Array index of size)) (λ t c. only_gives (fitting c at size t)) answer (not_a_type (nameless array_kind at) refl) here p q)

  -- want of memory for its row
  pub array_failed : {m : Memory} (n : Memory) → Declares b b x y s (Err m) (nameless array_kind at ∷ []) IsBehind (λ c. makes_row c at (Array index of size))
      → Declares a b x y s (Err n) (nameless array_kind at ∷ []) IsBehind (λ c. array_row c at index of)
  array_failed n p =
      asked_then (λ c. array_size c index of) (λ size c. make_then c (makes_row c at (Array index of size)) (λ d t. only_gives (fitting d at size t))) (Err n) making first (failed p n)

-- what a type's row says, some row says
pub of_some_row : {f : Frame} {p : Place} {m : RowMeaning} → IsSaid f p m → IsOfSomeRow m
of_some_row {f} {p} h = record { names = length f.setting.texts.names; place = p; fits = h.fits }

-- Rows that agree, one after another, and contexts in which rows are made that are right.
use Rattle.std.specs.Prelude.{◌≡◌, ℕ, true, ◌||◌, ◌⊎◌, List, [], ◌∷◌, ◌++◌, slice_index_or}
use Rattle.std.proofs.Common.{ap, subst, sym, ◌∙◌, inl, inr}
use Rattle.std.proofs.lemmas.Bool.{both_ways, or_cases}
use Rattle.std.proofs.lemmas.List.{append-nil}
use Rattle.m2_base.specs.Rows.{row_of, row_meaning, is_same_place}
use Rattle.m2_base.specs.declared.rows.Place.{Place}
use Rattle.m2_base.specs.declared.rows.Row.{Row}
use Rattle.m2_base.specs.declared.rows.RowMeaning.{RowMeaning}
use Rattle.m2_base.specs.declared.rows.RowMeaning.TheVariants.{Broken, Opaque}
use Rattle.m2_base.specs.Standard.{is_standard, broken}
use Rattle.m2_base.specs.Statics.Arrays.{is_index_range}
use Rattle.m2_base.specs.Statics.Contexts.{Context, Scene}
use Rattle.m2_base.specs.Statics.Lookup.{has_name}
use Rattle.m2_base.specs.Statics.Makes.{Makes, scene_with, with_rows, makes_named}
use Rattle.m2_base.specs.Statics.Types.{is_broken, range_of, range_by, meaning_at, stands_for, kind_of}
use Rattle.m2_base.proofs.SceneLaws.{with-none, with-twice}
use Rattle.m2_base.proofs.Sound.{Sound, AreOk, no_ok, more_ok, IsThere, there-with, Room, room-left, room-right, room-then}
use Rattle.m2_base.proofs.SoundMade.{context-with, context-then}
use Rattle.m2_base.proofs.SoundOperations.{SoundContext}
use Rattle.m2_base.proofs.SoundTypes.{either}
use Rattle.m2_base.proofs.TypeLaws.{same_place-is}
use Rattle.row_laws.proofs.Numbers.{IsIndex, Agrees, AllAgree, none_agree, more_agree}
use Rattle.row_laws.proofs.Settled.{IsLater, settled, HasOwnBefore, later-with}

-- ** Rows that are right, in parts

ok-left : {names : ℕ} {scene : Scene} (xs ys : List Row) → AreOk names scene (xs ++ ys) → AreOk names scene xs
ok-left [] ys h = no_ok
ok-left (x ∷ xs) ys (more_ok i h) = more_ok i (ok-left xs ys h)

ok-right : {names : ℕ} {scene : Scene} (xs ys : List Row) → AreOk names scene (xs ++ ys) → AreOk names (scene_with scene xs) ys
ok-right {names} {scene} [] ys h = subst (λ s. AreOk names s ys) (sym (with-none scene)) h
ok-right {names} {scene} (x ∷ xs) ys (more_ok i h) = subst (λ s. AreOk names s ys) (with-twice scene (x ∷ []) xs) (ok-right xs ys h)

-- a sound context in which these rows are made, which are right
pub record Ready (names : ℕ) (c : Context) (rows : List Row) : Type 0 where
  pub sound : SoundContext names c
  pub before : HasOwnBefore c.scene
  pub ok : AreOk names c.scene rows
  pub room : Room c.scene rows

pub ready-left : {names : ℕ} {c : Context} (xs ys : List Row) → Ready names c (xs ++ ys) → Ready names c xs
ready-left xs ys h = record { sound = h.sound; before = h.before; ok = ok-left xs ys h.ok; room = room-left xs ys h.room }

pub ready-right : {names : ℕ} {c : Context} (xs ys : List Row) → Ready names c (xs ++ ys) → Ready names (with_rows c xs) ys
ready-right {names} {c} xs ys h =
    record {
      sound = context-with h.sound (ok-left xs ys h.ok) (room-left xs ys h.room);
      before = h.before;
      ok = ok-right xs ys h.ok;
      room = room-right c.scene xs ys h.sound.scene.room h.room;
    }

pub ready-then : {names : ℕ} {c : Context} {xs : List Row} → Ready names c xs → Ready names (with_rows c []) xs
ready-then {names} {c} {xs} h =
    record {
      sound = context-then h.sound;
      before = h.before;
      ok = subst (λ s. AreOk names s xs) (sym (with-none c.scene)) h.ok;
      room = room-then h.room;
    }

-- ** Rows that agree

pub agree-append : {scene : Scene} {xs ys : List Row} → AllAgree scene xs → AllAgree (scene_with scene xs) ys → AllAgree scene (xs ++ ys)
agree-append {scene} {ys = ys} none_agree k = subst (λ s. AllAgree s ys) (with-none scene) k
agree-append {scene} {ys = ys} (more_agree {r = r} {rows = rows} i h) k =
    more_agree i (agree-append h (subst (λ s. AllAgree s ys) (sym (with-twice scene (r ∷ []) rows)) k))

pub agree-end : {scene : Scene} {xs : List Row} → AllAgree scene xs → AllAgree scene (xs ++ [])
agree-end {scene} {xs} h = subst (AllAgree scene) (sym (append-nil xs)) h

pub agree-then : {scene : Scene} {xs : List Row} → AllAgree (scene_with scene []) xs → AllAgree scene xs
agree-then {scene} {xs} h = subst (λ s. AllAgree s xs) (with-none scene) h

pub one_agrees : {scene : Scene} (n at : ℕ) (m : RowMeaning) → Agrees scene (row_meaning (row_of n at m)) → AllAgree scene (row_of n at m ∷ [])
one_agrees n at m h = more_agree h none_agree

-- a row with a name or without one
pub named_agrees : (c : Context) (name at : ℕ) (m : RowMeaning) → ((n : ℕ) → Agrees c.scene (row_meaning (row_of n at m))) → AllAgree c.scene (makes_named c name at m).rows
named_agrees c name at m h =
    either (λ (x : Makes Place). AllAgree c.scene x.rows) (is_standard name) _ _ (one_agrees 0 at m (h 0))
    (either (λ (x : Makes Place). AllAgree c.scene x.rows) (has_name c.scene.tables c.scene.block.scope name) _ _ (one_agrees 0 at m (h 0)) (one_agrees name at m (h name)))

-- ** Index types

-- an opaque type has no range, and isn't broken
pub index_clear : {names : ℕ} {scene : Scene} → Sound names scene → (i : Place) → IsIndex scene i → kind_of scene i ≡ Opaque → ⊥
index_clear {names} {scene} sound i h e = by_broken (or_cases (is_broken scene i) (is_index_range (range_of scene i)) h)
  where
    by_broken : (is_broken scene i ≡ true) ⊎ (is_index_range (range_of scene i) ≡ true) → ⊥
    by_broken (inl b) =
        let meaning : kind_of scene i ≡ Broken =
        ap (meaning_at scene) (same_place-is (stands_for scene i) broken b) ∙ ap (λ (rows : List Row). row_meaning (slice_index_or rows 10 (row_of 0 0 Broken))) sound.standard in
        let none : Opaque ≡ Broken = sym e ∙ meaning in
        absurd (cc)
    by_broken (inr r) = both_ways (is_index_range (range_of scene i)) (ap (λ m. is_index_range (range_by m)) e) r

-- an index type stays one
pub index_later : {names : ℕ} {scene later : Scene} → Sound names scene → IsLater scene later → (i : Place) → IsThere scene i → IsIndex scene i → IsIndex later i
index_later {names} {scene} {later} sound is i h k =
    let same = settled names scene later sound is i h (index_clear sound i k) in
    ap (λ p. is_same_place p broken || is_index_range (range_by (kind_of later i))) same.stands
    ∙ ap (λ m. is_broken scene i || is_index_range (range_by m)) same.kind ∙ k

-- an index type that is there
abbrev pub IsIndexThere : Scene → Place → Type 0
IsIndexThere scene i = IsThere scene i × IsIndex scene i

pub index-with : {names : ℕ} {scene : Scene} (xs : List Row) → Sound names scene → HasOwnBefore scene → (i : Place) → IsIndexThere scene i → IsIndexThere (scene_with scene xs) i
index-with {names} {scene} xs sound before i h =
    (there-with scene xs i sound.room h.0, index_later sound (later-with scene xs sound before) i h.0 h.1)

pub index-then : (scene : Scene) (i : Place) → IsIndexThere scene i → IsIndexThere (scene_with scene []) i
index-then scene i h = subst (λ s. IsIndexThere s i) (sym (with-none scene)) h

-- rows that agree, in parts
pub agree-left : {scene : Scene} (xs ys : List Row) → AllAgree scene (xs ++ ys) → AllAgree scene xs
agree-left [] ys h = none_agree
agree-left (x ∷ xs) ys (more_agree i h) = more_agree i (agree-left xs ys h)

pub agree-right : {scene : Scene} (xs ys : List Row) → AllAgree scene (xs ++ ys) → AllAgree (scene_with scene xs) ys
agree-right {scene} [] ys h = subst (λ s. AllAgree s ys) (sym (with-none scene)) h
agree-right {scene} (x ∷ xs) ys (more_agree i h) = subst (λ s. AllAgree s ys) (with-twice scene (x ∷ []) xs) (agree-right xs ys h)

-- Rows that are made one after another, each right, with a place that is there after them.
use Rattle.std.specs.Prelude.{ℕ, ◌<◌, Bool, true, false, if◌then◌else◌, List, [], ◌∷◌, ◌++◌, length}
use Rattle.std.proofs.Common.{ap, subst, sym, arith}
use Rattle.std.proofs.lemmas.List.{append-nil, length-append}
use Rattle.m2_base.specs.Rows.{Row, Place, row_of, RowMeaning, Fits, HasSmallOrdinals}
use Rattle.m2_base.specs.Standard.{is_standard}
use Rattle.m2_base.specs.Statics.Contexts.{Context, Scene}
use Rattle.m2_base.specs.Statics.FormedRows.{IsFilled}
use Rattle.m2_base.specs.Statics.Lookup.{has_name}
use Rattle.m2_base.specs.Statics.Makes.{Makes, scene_with, with_rows, next_place, makes_row, makes_named}
use Rattle.m2_base.proofs.SceneLaws.{IsOpen, own_of, own-with, with-none, with-twice}
use Rattle.m2_base.proofs.Sound.{Sound, AreOk, no_ok, more_ok, made_ok, ok-append, IsThere, next_of, there-with, Room, sound-with}
use Rattle.m2_base.proofs.SoundOperations.{SoundContext}

-- these rows are right, and the place is there behind them
pub record Made (names : ℕ) (scene : Scene) (rows : List Row) (p : Place) : Type 0 where
  pub rows_ok : AreOk names scene rows
  pub there : IsThere (scene_with scene rows) p

pub made-append : {names : ℕ} {scene : Scene} {xs ys : List Row} {p : Place} → AreOk names scene xs → Made names (scene_with scene xs) ys p → Made names scene (xs ++ ys) p
made-append {names} {scene} {xs} {ys} {p} h k = record { rows_ok = ok-append h k.rows_ok; there = subst (λ s. IsThere s p) (with-twice scene xs ys) k.there }

pub made-then : {names : ℕ} {scene : Scene} {xs : List Row} {p : Place} → Made names (scene_with scene []) xs p → Made names scene xs p
made-then {names} {scene} {xs} {p} h = subst (λ s. Made names s xs p) (with-none scene) h

pub made-end : {names : ℕ} {scene : Scene} {xs : List Row} {p : Place} → Made names scene xs p → Made names scene (xs ++ []) p
made-end {names} {scene} {xs} {p} h = subst (λ rows. Made names scene rows p) (sym (append-nil xs)) h

-- a place that was there before
pub made-before : {names : ℕ} {scene : Scene} {xs : List Row} {p : Place} → IsOpen scene → AreOk names scene xs → IsThere scene p → Made names scene xs p
made-before {names} {scene} {xs} {p} o h k = record { rows_ok = h; there = there-with scene xs p o k }

pub context-with : {names : ℕ} {c : Context} {xs : List Row} → SoundContext names c → AreOk names c.scene xs → Room c.scene xs → SoundContext names (with_rows c xs)
context-with s h room = record { scene = sound-with s.scene h room; source = s.source; few_names = s.few_names; layout = s.layout }

pub context-then : {names : ℕ} {c : Context} → SoundContext names c → SoundContext names (with_rows c [])
context-then {names} {c} s = record { scene = subst (Sound names) (sym (with-none c.scene)) s.scene; source = s.source; few_names = s.few_names; layout = s.layout }

pub there-then : (scene : Scene) (p : Place) → IsThere scene p → IsThere (scene_with scene []) p
there-then scene p h = subst (λ s. IsThere s p) (sym (with-none scene)) h

-- the place of a row is there behind it
pub next_there : {names : ℕ} {scene : Scene} → Sound names scene → (r : Row) → IsThere (scene_with scene (r ∷ [])) (next_of scene)
next_there {names} {scene} sound r =
    let f = ap length (own-with scene (r ∷ []) sound.room) in
    let g = length-append (own_of scene) (r ∷ []) in
    let few = sound.few in
    (omega (arith, few), omega (arith, f, g))

-- a row of this name, or without one
pub row_made : {names : ℕ} (c : Context) → SoundContext names c → (n at : ℕ) (m : RowMeaning) → n < names → HasSmallOrdinals m → Fits names (next_place c) m → IsFilled m
    → Made names c.scene (row_of n at m ∷ []) (next_place c)
row_made {names} c sound n at m h s f k =
    record { rows_ok = more_ok (made_ok names (next_place c) n at m h s f k) no_ok; there = next_there sound.scene (row_of n at m) }

pub plain_made : {names : ℕ} (c : Context) → SoundContext names c → (at : ℕ) (m : RowMeaning) → HasSmallOrdinals m → Fits names (next_place c) m → IsFilled m
    → Made names c.scene (makes_row c at m).rows (makes_row c at m).value
plain_made c sound at m s f k = row_made c sound 0 at m sound.scene.some s f k

pub named_made : {names : ℕ} (c : Context) → SoundContext names c → (name at : ℕ) (m : RowMeaning) → name < names → HasSmallOrdinals m → Fits names (next_place c) m → IsFilled m
    → Made names c.scene (makes_named c name at m).rows (makes_named c name at m).value
named_made {names} c sound name at m h s f k =
    by_tests (is_standard name) (has_name c.scene.tables c.scene.block.scope name) _ _ _
    (row_made c sound 0 at m sound.scene.some s f k) (row_made c sound 0 at m sound.scene.some s f k) (row_made c sound name at m h s f k)
  where
    by_tests : (a b : Bool) (x y z : Makes Place) → Made names c.scene x.rows x.value → Made names c.scene y.rows y.value → Made names c.scene z.rows z.value
        → Made names c.scene (if a then x else if b then y else z).rows (if a then x else if b then y else z).value
    by_tests true b x y z p q r = p
    by_tests false true x y z p q r = q
    by_tests false false x y z p q r = r

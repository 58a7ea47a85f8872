-- Rows that are made one after another are made together.
use Rattle.std.specs.Prelude.{◌≡◌, ℕ, zero, suc, ◌<◌, List, [], ◌∷◌, ◌++◌, length, slice_set, slice_index_or}
use Rattle.std.proofs.Common.{ap, refl, arith}
use Rattle.std.proofs.lemmas.List.{append-nil, append_assoc, length-set}
use Rattle.m2_base.specs.Rows.{Row}
use Rattle.m2_base.specs.Statics.Contexts.{Scene}
use Rattle.m2_base.specs.Statics.Makes.{scene_with}
use Rattle.m2_base.specs.Tables.{rows_at}

set_none : (tables : List (List Row)) (s : ℕ) → slice_set tables s (slice_index_or tables s [] ++ []) ≡ tables
set_none [] s = refl
set_none (x ∷ tables) zero = ap (λ y. y ∷ tables) (append-nil x)
set_none (x ∷ tables) (suc n) = ap (λ y. x ∷ y) (set_none tables n)

set_twice : (tables : List (List Row)) (s : ℕ) (xs ys : List Row)
    → slice_set (slice_set tables s (slice_index_or tables s [] ++ xs)) s (slice_index_or (slice_set tables s (slice_index_or tables s [] ++ xs)) s [] ++ ys)
    ≡ slice_set tables s (slice_index_or tables s [] ++ (xs ++ ys))
set_twice [] s xs ys = refl
set_twice (x ∷ tables) zero xs ys = ap (λ y. y ∷ tables) (append_assoc x xs ys)
set_twice (x ∷ tables) (suc n) xs ys = ap (λ y. x ∷ y) (set_twice tables n xs ys)

pub with-none : (scene : Scene) → scene_with scene [] ≡ scene
with-none scene = ap (λ (t : List (List Row)). record { block = scene.block; tables = t }) (set_none scene.tables scene.block.scope)

pub with-twice : (scene : Scene) (xs ys : List Row) → scene_with (scene_with scene xs) ys ≡ scene_with scene (xs ++ ys)
with-twice scene xs ys = ap (λ (t : List (List Row)). record { block = scene.block; tables = t }) (set_twice scene.tables scene.block.scope xs ys)

-- the rows of the own scope, where it exists
set_own : (tables : List (List Row)) (s : ℕ) (xs : List Row) → s < length tables → slice_index_or (slice_set tables s xs) s [] ≡ xs
set_own [] s xs h = absurd (omega (arith, h))
set_own (x ∷ tables) zero xs h = refl
set_own (x ∷ tables) (suc n) xs h = set_own tables n xs (omega (arith, h))

-- the own scope exists
abbrev pub IsOpen : Scene → Type 0
IsOpen scene = scene.block.scope < length scene.tables

abbrev pub own_of : Scene → List Row
own_of scene = rows_at scene.tables scene.block.scope

pub own-with : (scene : Scene) (xs : List Row) → IsOpen scene → own_of (scene_with scene xs) ≡ own_of scene ++ xs
own-with scene xs h = set_own scene.tables scene.block.scope (own_of scene ++ xs) h

pub open-with : (scene : Scene) (xs : List Row) → IsOpen scene → IsOpen (scene_with scene xs)
open-with scene xs h = let e = length-set scene.tables scene.block.scope (own_of scene ++ xs) in omega (arith, e, h)

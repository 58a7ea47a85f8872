-- Rows that are new one after another have no name twice.
use Rattle.std.specs.Prelude.{◌≡◌, ◌≢◌, ◌⊎◌, ℕ, zero, suc, ◌+◌, ◌<◌, ◌≤◌, ◌==◌, Bool, true, false, if◌then◌else◌, List, [], ◌∷◌, ◌++◌, length, take, slice_get, Option, Some, None, is_some, unwrap_or}
use Rattle.std.proofs.Common.{ap, subst, sym, ◌∙◌, refl, inl, inr, arith}
use Rattle.std.proofs.lemmas.Bool.{eq-eqb}
use Rattle.std.proofs.lemmas.List.{append-nil, append_assoc, get_or_at, length-take-le, length-append}
use Rattle.m2_base.specs.Lists.{HasNoRepeats}
use Rattle.m2_base.specs.Rows.{Row}
use Rattle.m2_base.specs.Tables.{Lacks, first_named, found_or}
use Rattle.m2_base.specs.Statics.BlockRows.{declare_block, scene_of}
use Rattle.m2_base.specs.Statics.Blocks.{BlockTree}
use Rattle.m2_base.specs.Statics.Contexts.{Block, Scene, Source}
use Rattle.m2_base.specs.Statics.Items.{items_of}
use Rattle.m2_base.specs.Statics.Lookup.{has_name}
use Rattle.m2_base.specs.Statics.NewRows.{IsNew, AreNew, no_new, more_new}
use Rattle.m2_base.proofs.NewLaws.{items_new}
use Rattle.m2_base.proofs.SceneLaws.{IsOpen, own_of, own-with, open-with}

-- a name that no row of the own scope has
no_hit : (s : ℕ) (o : Option (ℕ × Row)) → is_some (found_or s o None) ≡ false → o ≡ None
no_hit s None h = refl
no_hit s (Some hit) h = absurd (cc)

lacks_new : (scene : Scene) (name : ℕ) → has_name scene.tables scene.block.scope name ≡ false → Lacks (own_of scene) name
lacks_new scene name h = no_hit scene.block.scope (first_named name (own_of scene) 0) h

IsFresh : List Row → Row → Type 0
IsFresh before y = (y.name ≡ 0) ⊎ Lacks before y.name

fresh_of : (scene : Scene) (r : Row) → IsNew scene r → (r.name ≡ 0) ⊎ Lacks (own_of scene) r.name
fresh_of scene r (inl e) = inl e
fresh_of scene r (inr e) = inr (lacks_new scene r.name e)

pub some_is : {A : Type 0} (x y : A) → Some x ≡ Some y → x ≡ y
some_is x y e = ap (λ o. unwrap_or o x) e

later_fresh : {scene : Scene} {rows : List Row} → AreNew scene rows → IsOpen scene → (j : ℕ) (y : Row) → slice_get rows j ≡ Some y
    → (y.name ≡ 0) ⊎ Lacks (own_of scene ++ take j rows) y.name
later_fresh no_new open_scene j y e = absurd (cc)
later_fresh {scene} (more_new {r = r} i h) open_scene zero y e =
    subst (λ (x : Row). (x.name ≡ 0) ⊎ Lacks (own_of scene ++ []) x.name) (some_is r y e)
    (subst (λ before. (r.name ≡ 0) ⊎ Lacks before r.name) (sym (append-nil (own_of scene))) (fresh_of scene r i))
later_fresh {scene} (more_new {r = r} {rows = rows} i h) open_scene (suc k) y e =
    subst (λ before. (y.name ≡ 0) ⊎ Lacks before y.name)
    (ap (λ before. before ++ take k rows) (own-with scene (r ∷ []) open_scene) ∙ append_assoc (own_of scene) (r ∷ []) (take k rows))
    (later_fresh h (open-with scene (r ∷ []) open_scene) k y e)

lacks_each : (n : ℕ) (xs : List Row) (start : ℕ) → first_named n xs start ≡ None → (i : ℕ) (x : Row) → slice_get xs i ≡ Some x → x.name ≢ n
lacks_each n [] start h i x e = absurd (cc)
lacks_each n (r ∷ xs) start h i x e = by_test (r.name == n) (λ k. lacks_each n xs (start + 1) k) h refl i e
  where
    by_test : (b : Bool) → (first_named n xs (start + 1) ≡ None → (j : ℕ) (y : Row) → slice_get xs j ≡ Some y → y.name ≢ n)
        → (if b then Some (start, r) else first_named n xs (start + 1)) ≡ None → (r.name == n) ≡ b
        → (j : ℕ) → slice_get (r ∷ xs) j ≡ Some x → x.name ≢ n
    by_test true rest k test j e' same = absurd (cc)
    by_test false rest k test zero e' same =
        let hit : (r.name == n) ≡ true = eq-eqb r.name n (ap (λ (y : Row). y.name) (some_is r x e') ∙ same) in absurd (cc)
    by_test false rest k test (suc j) e' same = rest k j x e' same

taken : {A : Type 0} (xs : List A) (i j : ℕ) (x : A) → i < j → slice_get xs i ≡ Some x → slice_get (take j xs) i ≡ Some x
taken [] i j x h e = absurd (cc)
taken (y ∷ xs) i zero x h e = absurd (omega (arith, h))
taken (y ∷ xs) zero (suc j) x h e = e
taken (y ∷ xs) (suc i) (suc j) x h e = taken xs i j x (omega (arith, h)) e

once : (scene : Scene) (rows : List Row) → AreNew scene rows → IsOpen scene → own_of scene ≡ [] → HasNoRepeats (λ r. r.name) rows
once scene rows h open_scene empty i j x y before ex ey named same =
    by_case (subst (λ own. (y.name ≡ 0) ⊎ Lacks (own ++ take j rows) y.name) empty (later_fresh h open_scene j y ey))
  where
    by_case : (y.name ≡ 0) ⊎ Lacks (take j rows) y.name → ⊥
    by_case (inl e) = named (same ∙ e)
    by_case (inr lacks) = lacks_each y.name (take j rows) 0 lacks i x (taken rows i j x before ex) same

pub scene_open : (tables : List (List Row)) (b : Block) → b.scope ≤ length tables → IsOpen (scene_of tables b)
scene_open tables b h =
    let e = length-append (take b.scope tables) ([] ∷ []) in
    let t = length-take-le b.scope tables h in
    omega (arith, e, t)

pub scene_empty : (tables : List (List Row)) (b : Block) → b.scope ≤ length tables → own_of (scene_of tables b) ≡ []
scene_empty tables b h = get_or_at (take b.scope tables) [] [] [] b.scope (length-take-le b.scope tables h)

pub block_once : (source : Source) (tables : List (List Row)) (b : BlockTree) → b.block.scope ≤ length tables
    → HasNoRepeats (λ r. r.name) (declare_block source tables b).rows
unfolding declare_block
block_once source tables b h =
    once (scene_of tables b.block) _ (items_new (items_of b.tree) _ b.tree.kind 0 _) (scene_open tables b.block h) (scene_empty tables b.block h)

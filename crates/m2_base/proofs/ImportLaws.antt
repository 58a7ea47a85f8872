-- The rows of the constants that an import brings: they have their shapes, are new in their scope, and aren't too many.
use Rattle.std.specs.Prelude.{◌≡◌, ◌⊎◌, refl, ℕ, suc, ◌+◌, ◌<◌, ◌≤◌, ◌==◌, Bool, true, false, ◌||◌, if◌then◌else◌, is_some, List, [], ◌∷◌, ◌++◌, length, map, unwrap_or, Option, Some, None}
use Rattle.std.proofs.Common.{ap, sym, ◌∙◌, inl, inr, arith}
use Rattle.std.proofs.lemmas.Bool.{cases_order, ltb-false}
use Rattle.std.proofs.lemmas.List.{length-append, length-set, get_or_past}
use Rattle.m2_base.specs.Rows.{Row}
use Rattle.m2_base.specs.Standard.{is_standard}
use Rattle.m2_base.specs.Tables.{first_named, found_or}
use Rattle.m2_base.specs.Statics.Contexts.{Context, Layout, Named, Scene}
use Rattle.m2_base.specs.Statics.ImportedConstants.{Member, are_too_many, brings, brought_names, brought_row, is_given, new_members}
use Rattle.m2_base.specs.Statics.Layouts.{brought_shape, extended, with_brought}
use Rattle.m2_base.specs.Statics.Lookup.{has_name}
use Rattle.m2_base.specs.Statics.Makes.{Makes, own_rows, scene_with}
use Rattle.m2_base.specs.Statics.NewRows.{AreNew, no_new, more_new}
use Rattle.m2_base.specs.Statics.ShapedRows.{AreShaped, none_of, more_of}
use Rattle.m2_base.specs.Statics.Shapes.{Shape}
use Rattle.m2_base.specs.declared.limits.TheConstants.{MOST_BROUGHT}
use Rattle.m2_base.proofs.SceneLaws.{own_of, own-with}
use Rattle.m2_base.proofs.ShapeLaws.{AreShaped-append, AreShaped-end}

-- ** Shapes

members_shaped : (item o at : ℕ) (ms : List Member) → AreShaped (map brought_shape (brought_names item o at ms)) (map (brought_row at) ms)
members_shaped item o at [] = none_of
members_shaped item o at (m ∷ ms) = more_of (record { kind = refl; at = refl; name = inl refl }) (members_shaped item (o + 1) at ms)

new_shaped : (item o at : ℕ) (ms : List Member) {shapes : List Shape} {rows : List Row} → AreShaped shapes rows
    → AreShaped (with_brought shapes (brought_names item o at ms)) (rows ++ map (brought_row at) ms)
new_shaped item o at [] h = AreShaped-end h
new_shaped item o at (m ∷ ms) h = AreShaped-append h (members_shaped item o at (m ∷ ms))

-- behind rows of these shapes
pub brings_shaped : (c : Context) (at : ℕ) (ms new : List Member) {shapes : List Shape} {rows : List Row} → AreShaped shapes rows
    → AreShaped (with_brought shapes (brings c at ms new).value) (rows ++ (brings c at ms new).rows)
brings_shaped c at ms new {shapes} {rows} h = by_test (are_too_many c new) _ _ (AreShaped-end h) (new_shaped (unwrap_or c.item 0) (length (own_rows c)) at new h)
  where
    by_test : (b : Bool) (x y : Makes (List Named)) → AreShaped (with_brought shapes x.value) (rows ++ x.rows) → AreShaped (with_brought shapes y.value) (rows ++ y.rows)
        → AreShaped (with_brought shapes (if b then x else y).value) (rows ++ (if b then x else y).rows)
    by_test true x y p q = p
    by_test false x y p q = q

-- ** How many

pub names_length : (item o at : ℕ) (ms : List Member) → length (brought_names item o at ms) ≡ length ms
names_length item o at [] = refl
names_length item o at (m ∷ ms) = ap suc (names_length item (o + 1) at ms)

pub extended_length : (l : Layout) (b : List Named) → length (extended l b).brought ≡ length l.brought + length b
extended_length l [] = omega arith
extended_length l (n ∷ b) = length-append l.brought (n ∷ b)

pub extended_names : (l : Layout) (b : List Named) → (extended l b).names ≡ l.names
extended_names l [] = refl
extended_names l (n ∷ b) = refl

pub brings_few : (c : Context) (at : ℕ) (ms new : List Member) → length c.layout.brought ≤ MOST_BROUGHT
    → length c.layout.brought + length (brings c at ms new).value ≤ MOST_BROUGHT
brings_few c at ms new h = by_test (are_too_many c new) _ _ (omega (arith, h)) (λ e. let n = names_length (unwrap_or c.item 0) (length (own_rows c)) at new in omega (arith, n, e)) refl
  where
    by_test : (b : Bool) (x y : Makes (List Named)) → length c.layout.brought + length x.value ≤ MOST_BROUGHT
        → (length c.layout.brought + length new ≤ MOST_BROUGHT → length c.layout.brought + length y.value ≤ MOST_BROUGHT)
        → are_too_many c new ≡ b → length c.layout.brought + length (if b then x else y).value ≤ MOST_BROUGHT
    by_test true x y p q e = p
    by_test false x y p q e = q (ltb-false MOST_BROUGHT (length c.layout.brought + length new) e)

-- ** They are new

has_hit : (s : ℕ) (o : Option (ℕ × Row)) → is_some (found_or s o None) ≡ is_some o
has_hit s None = refl
has_hit s (Some hit) = refl

lacks_more : (name : ℕ) (rows more : List Row) (k : ℕ) → is_some (first_named name rows k) ≡ false → ((j : ℕ) → is_some (first_named name more j) ≡ false)
    → is_some (first_named name (rows ++ more) k) ≡ false
lacks_more name [] more k h rest = rest k
lacks_more name (r ∷ rows) more k h rest = by_test (r.name == name) h (λ e. lacks_more name rows more (k + 1) e rest)
  where
    by_test : (b : Bool) → is_some (if b then Some (k, r) else first_named name rows (k + 1)) ≡ false
        → (is_some (first_named name rows (k + 1)) ≡ false → is_some (first_named name (rows ++ more) (k + 1)) ≡ false)
        → is_some (if b then Some (k, r) else first_named name (rows ++ more) (k + 1)) ≡ false
    by_test true e go = absurd (cc)
    by_test false e go = go e

lacks_one : (name : ℕ) (r : Row) → (r.name == name) ≡ false → (j : ℕ) → is_some (first_named name (r ∷ []) j) ≡ false
lacks_one name r e j = by_test (r.name == name) e
  where
    by_test : (b : Bool) → b ≡ false → is_some {T = ℕ × Row} (if b then Some (j, r) else None) ≡ false
    by_test true e = absurd (cc)
    by_test false e = refl

-- a name that the own scope hasn't, and that isn't the row's, isn't there with the row either
lacks_with : (scene : Scene) (r : Row) (name : ℕ) → has_name scene.tables scene.block.scope name ≡ false → (r.name == name) ≡ false
    → has_name (scene_with scene (r ∷ [])).tables scene.block.scope name ≡ false
lacks_with scene r name h e = by_order (cases_order scene.block.scope (length scene.tables))
  where
    s : ℕ
    s = scene.block.scope

    there : is_some (first_named name (own_of scene) 0) ≡ false
    there = sym (has_hit s (first_named name (own_of scene) 0)) ∙ h

    none_there : length scene.tables ≤ s → has_name (scene_with scene (r ∷ [])).tables s name ≡ false
    none_there k =
        let many = length-set scene.tables s (own_of scene ++ r ∷ []) in
        has_hit s (first_named name (own_of (scene_with scene (r ∷ []))) 0)
        ∙ ap (λ (rows : List Row). is_some (first_named name rows 0)) (get_or_past (scene_with scene (r ∷ [])).tables s [] (omega (arith, many, k)))

    by_order : (s ≡ length scene.tables) ⊎ ((s < length scene.tables) ⊎ (length scene.tables < s)) → has_name (scene_with scene (r ∷ [])).tables s name ≡ false
    by_order (inl same) = none_there (omega (arith, same))
    by_order (inr (inl less)) =
        has_hit s (first_named name (own_of (scene_with scene (r ∷ []))) 0)
        ∙ ap (λ (rows : List Row). is_some (first_named name rows 0)) (own-with scene (r ∷ []) less)
        ∙ lacks_more name (own_of scene) (r ∷ []) 0 there (lacks_one name r e)
    by_order (inr (inr more)) = none_there (omega (arith, more))

-- what isn't given isn't in the scope
abbrev NotGiven : Context → List ℕ → Scene → Type 0
NotGiven c names scene = (name : ℕ) → is_given c names name ≡ false → has_name scene.tables scene.block.scope name ≡ false

or_false : (a b : Bool) → (a || b) ≡ false → (a ≡ false) × (b ≡ false)
or_false true b e = absurd (cc)
or_false false b e = (refl, e)

false_or : (a b : Bool) → a ≡ false → b ≡ false → (a || b) ≡ false
false_or true b e f = absurd (cc)
false_or false b e f = f

members_new : (c : Context) (at : ℕ) (ms : List Member) (names : List ℕ) (scene : Scene) → NotGiven c names scene → AreNew scene (map (brought_row at) (new_members c names ms))
members_new c at [] names scene h = no_new
members_new c at (m ∷ ms) names scene h =
    by_test (is_given c names m.name) (members_new c at ms names scene h) (λ e. more_new (inr (h m.name e)) (members_new c at ms (m.name ∷ names) (scene_with scene (brought_row at m ∷ [])) (more e))) refl
  where
    more : is_given c names m.name ≡ false → NotGiven c (m.name ∷ names) (scene_with scene (brought_row at m ∷ []))
    more e name k =
        let standard = or_false (is_standard name) _ k in
        let own = or_false (has_name c.scene.tables c.scene.block.scope name) _ standard.1 in
        let here = or_false (m.name == name) _ own.1 in
        lacks_with scene (brought_row at m) name (h name (false_or (is_standard name) _ standard.0 (false_or (has_name c.scene.tables c.scene.block.scope name) _ own.0 here.1))) here.0

    by_test : (b : Bool) → AreNew scene (map (brought_row at) (new_members c names ms))
        → (is_given c names m.name ≡ false → AreNew scene (map (brought_row at) (m ∷ new_members c (m.name ∷ names) ms)))
        → is_given c names m.name ≡ b → AreNew scene (map (brought_row at) (if b then new_members c names ms else m ∷ new_members c (m.name ∷ names) ms))
    by_test true p q e = p
    by_test false p q e = q e

pub brought_new : (c : Context) (at : ℕ) (ms : List Member) → AreNew c.scene (brings c at ms (new_members c [] ms)).rows
brought_new c at ms = by_test (are_too_many c (new_members c [] ms)) _ _ no_new (members_new c at ms [] c.scene (λ name e. (or_false (has_name c.scene.tables c.scene.block.scope name) _ (or_false (is_standard name) _ e).1).0))
  where
    by_test : (b : Bool) (x y : Makes (List Named)) → AreNew c.scene x.rows → AreNew c.scene y.rows → AreNew c.scene (if b then x else y).rows
    by_test true x y p q = p
    by_test false x y p q = q

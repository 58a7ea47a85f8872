-- A layout that grows, item after item, by what these bring.
use Rattle.std.specs.Prelude.{◌≡◌, ℕ, suc, ◌+◌, ◌≤◌, nat_lt, Bool, true, false, List, [], ◌∷◌, ◌++◌, Some, filter, flat_map, length, option_map, slice_get, unwrap_or}
use Rattle.std.proofs.Common.{refl, ap, ◌∙◌, arith, cond}
use Rattle.std.proofs.lemmas.List.{length-append}
use Rattle.m2_base.specs.Statics.Contexts.{Layout}
use Rattle.m2_base.specs.Statics.Items.{Item}
use Rattle.m2_base.specs.Statics.Layouts.{all_brought, extended, extended_by, firsts_from}
use Rattle.m2_base.specs.Statics.Lookup.{brought_before}
use Rattle.m2_base.specs.Statics.Shapes.{item_shapes}
use Rattle.m2_base.specs.declared.sites.Named.{Named}
use Rattle.m2_base.proofs.ImportLaws.{extended_length}
use Rattle.decl_sem.specs.Pieces.{end_by}

-- one item more
pub extended_more : (l : Layout) (bs : List (List Named)) (b : List Named) → extended_by l (bs ++ b ∷ []) ≡ extended (extended_by l bs) b
extended_more l [] b = refl
extended_more l (x ∷ bs) b = extended_more (extended l x) bs b

-- all that is brought is in it
pub extended_count : (l : Layout) (bs : List (List Named)) → length (extended_by l bs).brought ≡ length l.brought + length (all_brought bs)
extended_count l [] = omega arith
extended_count l (b ∷ bs) =
    let i = extended_count (extended l b) bs in
    let e = extended_length l b in
    let n = length-append b (all_brought bs) in
    omega (arith, i, e, n)

one_firsts : (l : Layout) (b : List Named) → (extended l b).firsts ≡ l.firsts
one_firsts l [] = refl
one_firsts l (n ∷ b) = refl

-- the first ordinals by the syntax stay
pub extended_firsts : (l : Layout) (bs : List (List Named)) → (extended_by l bs).firsts ≡ l.firsts
extended_firsts l [] = refl
extended_firsts l (b ∷ bs) = extended_firsts (extended l b) bs ∙ one_firsts l b

-- ** Where an item ends

head_is : (items : List Item) (o : ℕ) → slice_get (firsts_from o items) 0 ≡ Some o
head_is [] o = refl
head_is (x ∷ items) o = refl

-- by the syntax
end_at : (before rest : List Item) (x : Item) (o : ℕ)
    → slice_get (firsts_from o (before ++ x ∷ rest)) (suc (length before)) ≡ Some (o + length (flat_map item_shapes before) + length (item_shapes x))
end_at [] rest x o = head_is rest (o + length (item_shapes x)) ∙ ap Some (let e : o + length (item_shapes x) ≡ o + 0 + length (item_shapes x) = omega arith in e)
end_at (y ∷ before) rest x o =
    let l = length-append (item_shapes y) (flat_map item_shapes before) in
    end_at before rest x (o + length (item_shapes y))
    ∙ ap Some
    (let e : o + length (item_shapes y) + length (flat_map item_shapes before) + length (item_shapes x) ≡ o + length (flat_map item_shapes (y ∷ before)) + length (item_shapes x) = omega (arith, l) in e)

some_of : (p : Named → Bool) (xs : List Named) → length (filter p xs) ≤ length xs
some_of p [] = omega arith
some_of p (x ∷ xs) = by (p x) (some_of p xs)
  where
    by : (b : Bool) → length (filter p xs) ≤ length xs → length (cond b (x ∷ filter p xs) (filter p xs)) ≤ suc (length xs)
    by true h = omega (arith, h)
    by false h = omega (arith, h)

-- no later than behind the rows of the items so far and those of all names that were brought before
pub end_within : (l : Layout) (items before rest : List Item) (x : Item) → l.firsts ≡ firsts_from 0 items → items ≡ before ++ x ∷ rest
    → end_by l (Some (length before)) ≤ length (flat_map item_shapes before) + length (item_shapes x) + length l.brought
end_within l items before rest x firsts all =
    let next : length before + 1 ≡ suc (length before) = omega arith in
    let there : slice_get l.firsts (length before + 1) ≡ Some (0 + length (flat_map item_shapes before) + length (item_shapes x)) =
    (λ k. slice_get (firsts k) (next k)) ∙ ap (λ xs. slice_get (firsts_from 0 xs) (suc (length before))) all ∙ end_at before rest x 0 in
    let is : end_by l (Some (length before)) ≡ 0 + length (flat_map item_shapes before) + length (item_shapes x) + brought_before l.brought (length before + 1) =
    ap (λ o. unwrap_or (option_map (λ n. n + brought_before l.brought (length before + 1)) o) 0) there in
    let few = some_of (λ (b : Named). nat_lt b.item (length before + 1)) l.brought in
    omega (arith, is, few)

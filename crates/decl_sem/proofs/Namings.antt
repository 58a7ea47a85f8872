-- The names among shapes, one shape after another.
use Rattle.std.proofs.Common.{◌≡◌, ℕ, suc, ◌+◌, ◌<◌, true, false, List, [], ◌∷◌, ◌++◌, length, map, drop, get_or, refl, sym, ap, ◌∙◌, arith, append_assoc}
use Rattle.std.specs.Prelude.{if◌then◌else◌, ◌==◌}
use Rattle.std.proofs.Math.Seq.{drop-cons}
use Rattle.std.proofs.lemmas.List.{append-nil}
use Rattle.m2_base.specs.declared.sites.Named.{Named}
use Rattle.m2_base.specs.Statics.Layouts.{names_of_item}
use Rattle.decl_sem.specs.Shapes.{shape_view}
use Rattle.decl_sem.specs.declared.shapes.Shape.{Shape}

-- the names of the first shapes are there, and with those of the rest all are
pub record IsNamedUpTo (before after : List Named) (item first : ℕ) (shapes : List Shape) (position : ℕ) : Type 0 where
  pub rest : after ++ names_of_item item (first + position) (map shape_view (drop position shapes)) ≡ before ++ names_of_item item first (map shape_view shapes)

-- the name of a shape
abbrev pub named_at : (item ordinal : ℕ) → Shape → Named
named_at item ordinal s = record { name = s.name; ordinal = ordinal; kind = s.kind; at = s.at; item = item }

one_step : (shapes : List Shape) (k : ℕ) (d : Shape) (item first : ℕ) → k < length shapes
    → names_of_item item (first + k) (map shape_view (drop k shapes))
    ≡ (if (get_or shapes k d).name == 0 then names_of_item item (first + (k + 1)) (map shape_view (drop (k + 1) shapes))
    else named_at item (first + k) (get_or shapes k d) ∷ names_of_item item (first + (k + 1)) (map shape_view (drop (k + 1) shapes)))
one_step shapes k d item first h =
    ap (λ ss. names_of_item item (first + k) (map shape_view ss)) (drop-cons shapes k d h)
    ∙ moved (first + k + 1) (first + (k + 1)) (omega arith) (drop (suc k) shapes) (drop (k + 1) shapes) (let e : suc k ≡ k + 1 = omega arith in ap (λ j. drop j shapes) e)
  where
    x : Shape
    x = get_or shapes k d

    moved : (m n : ℕ) → m ≡ n → (ss ts : List Shape) → ss ≡ ts
        → (if x.name == 0 then names_of_item item m (map shape_view ss) else named_at item (first + k) x ∷ names_of_item item m (map shape_view ss))
        ≡ (if x.name == 0 then names_of_item item n (map shape_view ts) else named_at item (first + k) x ∷ names_of_item item n (map shape_view ts))
    moved m n e ss ts f = ap (λ j. if x.name == 0 then names_of_item item j (map shape_view ss) else named_at item (first + k) x ∷ names_of_item item j (map shape_view ss)) e
        ∙ ap (λ us. if x.name == 0 then names_of_item item n (map shape_view us) else named_at item (first + k) x ∷ names_of_item item n (map shape_view us)) f

pub none_named : (before : List Named) (item first : ℕ) (shapes : List Shape) → IsNamedUpTo before before item first shapes 0
none_named before item first shapes = record { rest = let e : first + 0 ≡ first = omega arith in ap (λ o. before ++ names_of_item item o (map shape_view shapes)) e }

pub one_unnamed : (before after : List Named) (item first : ℕ) (shapes : List Shape) (k : ℕ) (d : Shape) → k < length shapes → (get_or shapes k d).name ≡ 0
    → IsNamedUpTo before after item first shapes k → IsNamedUpTo before after item first shapes (k + 1)
one_unnamed before after item first shapes k d h none so =
    let e = one_step shapes k d item first h in
    let tested : ((get_or shapes k d).name == 0) ≡ true = grind arith in
    record { rest = ap (λ ns. after ++ ns) (sym (e ∙ ap (λ b. if b then names_of_item item (first + (k + 1)) (map shape_view (drop (k + 1) shapes)) else named_at item (first + k) (get_or shapes k d) ∷ names_of_item item (first + (k + 1)) (map shape_view (drop (k + 1) shapes))) tested)) ∙ so.rest }

pub one_named : (before after : List Named) (item first : ℕ) (shapes : List Shape) (k : ℕ) (d : Shape) → k < length shapes → ((get_or shapes k d).name ≡ 0 → ⊥)
    → IsNamedUpTo before after item first shapes k → IsNamedUpTo before (after ++ named_at item (first + k) (get_or shapes k d) ∷ []) item first shapes (k + 1)
one_named before after item first shapes k d h some so =
    let e = one_step shapes k d item first h in
    let tested : ((get_or shapes k d).name == 0) ≡ false = grind arith in
    let rest : List Named = names_of_item item (first + (k + 1)) (map shape_view (drop (k + 1) shapes)) in
    record {
      rest = append_assoc after (named_at item (first + k) (get_or shapes k d) ∷ []) rest
          ∙ ap (λ ns. after ++ ns) (sym (e ∙ ap (λ b. if b then names_of_item item (first + (k + 1)) (map shape_view (drop (k + 1) shapes)) else named_at item (first + k) (get_or shapes k d) ∷ names_of_item item (first + (k + 1)) (map shape_view (drop (k + 1) shapes))) tested)) ∙ so.rest;
    }

none_left : {A : Type 0} (xs : List A) → drop (length xs) xs ≡ []
none_left [] = refl
none_left (x ∷ xs) = none_left xs

pub all_named : (before after : List Named) (item first : ℕ) (shapes : List Shape) → IsNamedUpTo before after item first shapes (length shapes)
    → after ≡ before ++ names_of_item item first (map shape_view shapes)
all_named before after item first shapes so =
    sym (append-nil after) ∙ ap (λ ss. after ++ names_of_item item (first + length shapes) (map shape_view ss)) (sym (none_left shapes)) ∙ so.rest

pub ruleset naming = (none_named, one_unnamed, one_named, all_named)

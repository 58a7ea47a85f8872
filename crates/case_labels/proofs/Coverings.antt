-- Ranges that are covered, in the order in which they were.
use Rattle.std.specs.Bool.{Decides, one_answer}
use Rattle.std.specs.List.{list_any}
use Rattle.std.specs.Prelude.{◌≡◌, ◌||◌, ℤ, Bool, List, [], ◌∷◌, map, reverse}
use Rattle.std.proofs.Common.{refl, ap, ◌∙◌}
use Rattle.m2_base.specs.Statics.CaseLabels.{overlaps}
use Rattle.m2_base.specs.Statics.Ranges.{Range, range}
use Rattle.case_labels.specs.Steps.{AreSteps, Reaches, Steps}
use Rattle.case_labels.proofs.Steps.{overlap_told}
use Rattle.std.proofs.lemmas.List.Sorted.{IsPermutation-reverse, list_any-IsPermutation}

any-map : {A B : Type 0} (p : B → Bool) (f : A → B) (xs : List A) → list_any (λ x. p (f x)) xs ≡ list_any p (map f xs)
any-map p f [] = refl
any-map p f (x ∷ xs) = ap (λ (b : Bool). p (f x) || b) (any-map p f xs)

-- the order doesn't matter
pub any_covered : {A B : Type 0} (p : B → Bool) (f : A → B) (xs : List A) → list_any (λ x. p (f x)) xs ≡ list_any p (reverse (map f xs))
any_covered p f xs = any-map p f xs ∙ list_any-IsPermutation p (map f xs) (reverse (map f xs)) (IsPermutation-reverse (map f xs))

-- the ends of a range, as plain data
abbrev pub ends_range : ℤ × ℤ → Range
ends_range ends = range ends.0 ends.1

-- whether one of these values is covered
pub overlapped : {l h : ℤ} {steps : Steps} {xs : List (ℤ × ℤ)} {answer : Bool} {covered : List Range} (low high : ℤ) → l ≡ low → h ≡ high → AreSteps steps xs → Decides answer (Reaches steps h l) → reverse (map ends_range xs) ≡ covered
    → answer ≡ list_any (overlaps (range low high)) covered
overlapped {l} {h} {steps} {xs} {answer} low high e f are decides view =
    one_answer answer (list_any (λ (ends : ℤ × ℤ). overlaps (range l h) (range ends.0 ends.1)) xs) decides (overlap_told l h are)
    ∙ any_covered (overlaps (range l h)) ends_range xs
    ∙ ap (λ (v : ℤ). list_any (overlaps (range v h)) (reverse (map ends_range xs))) e
    ∙ ap (λ (w : ℤ). list_any (overlaps (range low w)) (reverse (map ends_range xs))) f
    ∙ ap (λ (ranges : List Range). list_any (overlaps (range low high)) ranges) view

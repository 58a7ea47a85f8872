-- The text with one more procedure, or with one more call.
use Rattle.std.proofs.Common.{◌≡◌, ℕ, ◌+◌, ◌-◌, ◌≤◌, List, [], ◌∷◌, ◌++◌, sym, ap, ◌∙◌, append_assoc, append-nil, arith}
use Rattle.std.proofs.lemmas.List.{flat_map_more, map-id}
use Rattle.std.proofs.lemmas.List.FromFn.{map-range_with_len_more}
use Rattle.std.specs.List.{flat_map}
use Rattle.module_gen.specs.BigModule.{numbers}

numbers-more : (number : ℕ) → 1 ≤ number → numbers (number - 1) ++ number ∷ [] ≡ numbers (number + 1 - 1)
numbers-more number some =
    ap (λ ns. ns ++ number ∷ []) (sym (map-id (numbers (number - 1))))
    ∙ sym (map-range_with_len_more (λ n. n) 1 (number - 1) number (omega arith))
    ∙ map-id (numbers (number - 1 + 1))
    ∙ ap numbers (omega arith)

-- what is said up to a number is what is said before it, and of itself
pub grown : (part : ℕ → List ℕ) (before text more : List ℕ) (number : ℕ) → 1 ≤ number
    → text ≡ before ++ flat_map part (numbers (number - 1)) → more ≡ text ++ part number
    → more ≡ before ++ flat_map part (numbers (number + 1 - 1))
grown part before text more number some was e =
    e ∙ ap (λ t. t ++ part number) was
    ∙ flat_map_more part before (numbers (number - 1)) number
    ∙ ap (λ ns. before ++ flat_map part ns) (numbers-more number some)

-- no number is left
pub whole : (part : ℕ → List ℕ) (before text : List ℕ) (number last : ℕ) → last + 1 ≡ number
    → text ≡ before ++ flat_map part (numbers (number - 1)) → text ≡ before ++ flat_map part (numbers last)
whole part before text number last end was = was ∙ ap (λ n. before ++ flat_map part (numbers n)) (omega arith)

-- two lines
pub two_lines : (first second digits before text more : List ℕ) → text ≡ before ++ (first ++ (digits ++ 59 ∷ 10 ∷ []))
    → more ≡ text ++ (second ++ (digits ++ 59 ∷ 10 ∷ []))
    → more ≡ before ++ (((first ++ digits ++ 59 ∷ []) ++ 10 ∷ []) ++ (((second ++ digits ++ 59 ∷ []) ++ 10 ∷ []) ++ []))
two_lines first second digits before text more e f = grind (arith, append_assoc, append-nil)

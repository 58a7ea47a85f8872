-- What is wrong, one text after another.
use Rattle.std.proofs.Common.{◌≡◌, ℕ, suc, ◌+◌, ◌<◌, List, [], ◌∷◌, ◌++◌, length, take, get_or, refl, sym, ◌∙◌, ap, arith, append_assoc}
use Rattle.std.proofs.lemmas.List.{append-nil, length-take-le, take_more}
use Rattle.m2_base.specs.declared.notes.Diag.{Diag}
use Rattle.m2_base.specs.declared.diagnostic.Diagnostic.TheVariants.{NoDefinitionText}
use Rattle.m2_base.specs.declared.trees.Ident.{Ident}
use Rattle.def_import.specs.Closure.{Found, Progress}
use Rattle.def_import.specs.Wrongs.{is_missing, missing_imports, wrong_at, wrongs_from, wrongs_in}

missing-append : (p : Progress) (text : ℕ) (xs ys : List Ident) → missing_imports p text (xs ++ ys) ≡ missing_imports p text xs ++ missing_imports p text ys
missing-append p text [] ys = refl
missing-append p text (x ∷ xs) ys =
    ap (λ n. wrong_at text x NoDefinitionText (is_missing p x) ++ n) (missing-append p text xs ys)
    ∙ sym (append_assoc (wrong_at text x NoDefinitionText (is_missing p x)) (missing_imports p text xs) (missing_imports p text ys))

-- one more import
pub missing_more : (p : Progress) (text : ℕ) (imports : List Ident) (i : ℕ) (d : Ident) (first old new : List Diag) → i < length imports → old ≡ first ++ missing_imports p text (take i imports)
    → new ≡ old ++ wrong_at text (get_or imports i d) NoDefinitionText (is_missing p (get_or imports i d)) → new ≡ first ++ missing_imports p text (take (i + 1) imports)
missing_more p text imports i d first old new within so_far pushed =
    let x = get_or imports i d in
    let one = wrong_at text x NoDefinitionText (is_missing p x) in
    pushed ∙ ap (λ o. o ++ one) so_far ∙ append_assoc first (missing_imports p text (take i imports)) one
    ∙ ap (λ n. first ++ (missing_imports p text (take i imports) ++ n)) (sym (append-nil one)) ∙ ap (λ n. first ++ n) (sym (missing-append p text (take i imports) (x ∷ [])))
    ∙ ap (λ l. first ++ missing_imports p text l) (sym (take_more imports i d within))

from-append : (p : Progress) (order : List ℕ) (k : ℕ) (xs ys : List Found) → wrongs_from p order k (xs ++ ys) ≡ wrongs_from p order k xs ++ wrongs_from p order (k + length xs) ys
from-append p order k [] ys = let e : k ≡ k + 0 = omega arith in ap (λ n. wrongs_from p order n ys) e
from-append p order k (x ∷ xs) ys =
    let e : k + 1 + length xs ≡ k + suc (length xs) = omega arith in
    ap (λ n. wrongs_in p order k x ++ n) (from-append p order (k + 1) xs ys ∙ ap (λ n. wrongs_from p order (k + 1) xs ++ wrongs_from p order n ys) e)
    ∙ sym (append_assoc (wrongs_in p order k x) (wrongs_from p order (k + 1) xs) (wrongs_from p order (k + suc (length xs)) ys))

-- one more text
pub wrongs_more : (p : Progress) (order : List ℕ) (found : List Found) (i : ℕ) (d : Found) (old new : List Diag) → i < length found → old ≡ wrongs_from p order 0 (take i found)
    → new ≡ old ++ wrongs_in p order i (get_or found i d) → new ≡ wrongs_from p order 0 (take (i + 1) found)
wrongs_more p order found i d old new within so_far pushed =
    let x = get_or found i d in
    let few : length (take i found) ≡ i = length-take-le i found (omega (arith, within)) in
    let e : 0 + length (take i found) ≡ i = omega (arith, few) in
    pushed ∙ ap (λ o. o ++ wrongs_in p order i x) so_far ∙ ap (λ n. wrongs_from p order 0 (take i found) ++ n) (sym (append-nil (wrongs_in p order i x)))
    ∙ ap (λ n. wrongs_from p order 0 (take i found) ++ wrongs_from p order n (x ∷ [])) (sym e) ∙ sym (from-append p order 0 (take i found) (x ∷ []))
    ∙ ap (wrongs_from p order 0) (sym (take_more found i d within))

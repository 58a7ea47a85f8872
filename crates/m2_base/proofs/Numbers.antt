-- The numbers of names: a list of names grows at its end, and numbers stay.
use Rattle.std.proofs.Common.{◌≡◌, ℕ, ◌+◌, ◌<◌, ◌≤◌, Bool, true, false, cond, List, [], ◌∷◌, ◌++◌, Some, length, get_or, slice_get, sym, ◌∙◌, ap, refl, append_assoc, arith, length-append}
use Rattle.std.specs.Prelude.{position}
use Rattle.std.specs.List.{position_or_len, list_any, IsDistinct}
use Rattle.std.specs.Cmp.Lexicographic.{nat_list_eq_equiv}
use Rattle.std.specs.Str.{bytes_eq}
use Rattle.std.proofs.lemmas.Grind.{common_steps}
use Rattle.std.proofs.lemmas.List.{append-nil}
use Rattle.std.proofs.lemmas.List.Sums.{position_or_len_is, fold-append}
use Rattle.std.proofs.lemmas.List.Quantifiers.{position-Some}
use Rattle.std.proofs.lemmas.Map.Keys.{apart_from_distinct, IsDistinct-push}
use Rattle.std.proofs.lemmas.Option.{slice_get-get_or, slice_get_within, get_or_from_slice_get}
use Rattle.std.proofs.lemmas.Slice.Eq.{bytes_eq-Decides}
use Rattle.m2_base.specs.Names.{number_in, with_name, with_names, standard_names}

-- the place that passes where none before it does
pub position-first : {X : Type 0} (p : X → Bool) (xs : List X) (i : ℕ) (d : X)
    → i < length xs → p (get_or xs i d) ≡ true → ((k : ℕ) → k < i → p (get_or xs k d) ≡ false) → position p xs ≡ Some i
position-first p xs i d inside passes before =
    let at : position_or_len p xs ≡ i = position_or_len_is p xs i d (omega arith) before (λ _. passes) in
    grind (arith, common_steps)

-- a number is a place of the list
pub number_in-below : (names : List (List ℕ)) (b : List ℕ) (n : ℕ) → number_in names b ≡ Some n → n < length names
number_in-below names b n e = (position-Some (bytes_eq b) names n [] e).0

-- the text at a text's number is that text
pub slice_get-number_in : (names : List (List ℕ)) (b : List ℕ) (n : ℕ) → number_in names b ≡ Some n → slice_get names n ≡ Some b
slice_get-number_in names b n e =
    let found = position-Some (bytes_eq b) names n [] e in
    slice_get-get_or names n [] found.0 ∙ ap Some (sym ((bytes_eq-Decides b (get_or names n [])).0 found.1))

-- where the texts differ, the number of the text at a place is that place
pub number_in-slice_get : (names : List (List ℕ)) (b : List ℕ) (n : ℕ) → IsDistinct bytes_eq names → slice_get names n ≡ Some b → number_in names b ≡ Some n
number_in-slice_get names b n differ there =
    let inside : n < length names = slice_get_within names n b there in
    let here : get_or names n b ≡ b = get_or_from_slice_get names n b b there in
    let apart : (k : ℕ) → k < n → bytes_eq b (get_or names k b) ≡ false =
    λ k before. nat_list_eq_equiv.symm b (get_or names k b)
    ∙ ap (bytes_eq (get_or names k b)) (sym here)
    ∙ apart_from_distinct bytes_eq names k n b differ before inside in
    position-first (bytes_eq b) names n b inside (ap (bytes_eq b) here ∙ nat_list_eq_equiv.refl b) apart

-- a number stays when names come behind
pub number_in-append : (names more : List (List ℕ)) (b : List ℕ) (n : ℕ) → number_in names b ≡ Some n → number_in (names ++ more) b ≡ Some n
number_in-append names more b n e =
    let found = position-Some (bytes_eq b) names n [] e in
    let old : (k : ℕ) → k < length names → get_or (names ++ more) k [] ≡ get_or names k [] = λ k lt. grind (arith, common_steps) in
    position-first (bytes_eq b) (names ++ more) n []
    (omega (arith, length-append names more, found.0))
    (ap (bytes_eq b) (old n found.0) ∙ found.1)
    (λ k lt. ap (bytes_eq b) (old k (omega (arith, lt, found.0))) ∙ found.2 k lt)

with_name-cases : (names : List (List ℕ)) (b : List ℕ) (among : Bool) → (more : List (List ℕ)) × (cond among names (names ++ b ∷ []) ≡ names ++ more) × (length more ≤ 1)
with_name-cases names b true = ([], sym (append-nil names), omega arith)
with_name-cases names b false = (b ∷ [], refl, omega arith)

-- one more name leaves the others in front
pub with_name-grows : (names : List (List ℕ)) (b : List ℕ) → (more : List (List ℕ)) × (with_name names b ≡ names ++ more) × (length more ≤ 1)
with_name-grows names b = with_name-cases names b (list_any (bytes_eq b) names)

-- more names leave the others in front
pub with_names-grows : (old new : List (List ℕ)) → (more : List (List ℕ)) × (with_names old new ≡ old ++ more) × (length more ≤ length new)
with_names-grows old [] = ([], sym (append-nil old), omega arith)
with_names-grows old (b ∷ new) =
    let one = with_name-grows old b in
    let rest = with_names-grows (with_name old b) new in
    let both : with_names old (b ∷ new) ≡ old ++ (one.0 ++ rest.0) = rest.1 ∙ ap (λ names. names ++ rest.0) one.1 ∙ append_assoc old one.0 rest.0 in
    (one.0 ++ rest.0, both, omega (arith, length-append one.0 rest.0, one.2, rest.2))

-- names that are brought one after another
pub with_names-append : (old new more : List (List ℕ)) → with_names old (new ++ more) ≡ with_names (with_names old new) more
with_names-append old new more = fold-append with_name old new more

-- there are at most as many names more as were brought
pub length-with_names : (old new : List (List ℕ)) → length (with_names old new) ≤ length old + length new
length-with_names old new =
    let grown = with_names-grows old new in
    omega (arith, ap length grown.1, length-append old grown.0, grown.2)

-- an old name keeps its number
pub number_in-with_names : (old new : List (List ℕ)) (b : List ℕ) (n : ℕ) → number_in old b ≡ Some n → number_in (with_names old new) b ≡ Some n
number_in-with_names old new b n e =
    let grown = with_names-grows old new in
    ap (λ names. number_in names b) grown.1 ∙ number_in-append old grown.0 b n e

distinct-cases : (names : List (List ℕ)) (b : List ℕ) (among : Bool)
    → IsDistinct bytes_eq names → list_any (bytes_eq b) names ≡ among → IsDistinct bytes_eq (cond among names (names ++ b ∷ []))
distinct-cases names b true differ is = differ
distinct-cases names b false differ is = IsDistinct-push nat_list_eq_equiv names b differ is

-- names that differ go on to differ
pub IsDistinct-with_names : (old new : List (List ℕ)) → IsDistinct bytes_eq old → IsDistinct bytes_eq (with_names old new)
IsDistinct-with_names old [] differ = differ
IsDistinct-with_names old (b ∷ new) differ =
    IsDistinct-with_names (with_name old b) new (distinct-cases old b (list_any (bytes_eq b) old) differ refl)

-- the names that each unit begins with differ
pub IsDistinct-standard_names : IsDistinct bytes_eq standard_names
unfolding standard_names IsDistinct
IsDistinct-standard_names = IsDistinct-with_names [] standard_names tt

-- how many names each unit begins with
pub length-standard_names : length standard_names ≡ 28
unfolding standard_names
length-standard_names = refl

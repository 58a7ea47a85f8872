-- Longest matches by the fronts of a text, and the runs among those.
use Rattle.std.proofs.Common.{◌≡◌, ℕ, suc, zero, ◌+◌, ◌-◌, ◌<◌, ◌≤◌, Bool, true, false, cond, ◌&&◌, List, [], ◌∷◌, ◌++◌, length, take, drop, get_or, refl, sym, ◌∙◌, ap, arith}
use Rattle.std.specs.Prelude.{nat_le, ◌||◌}
use Rattle.std.specs.List.{list_all, prefix_len}
use Rattle.std.proofs.Math.Seq.{take-append-add, drop-cons}
use Rattle.std.proofs.lemmas.Bool.{leb-true, leb-false}
use Rattle.std.proofs.lemmas.List.{get_or_past, take-append-drop, length-take, length-take-le, length-drop}
use Rattle.std.proofs.lemmas.List.Sums.{prefix_len-le-length}
use Rattle.std.proofs.lemmas.Slice.Eq.{bytes_eq-Decides}
use Rattle.m2_base.specs.Lexemes.{IsLongest, is_lexeme}
use Rattle.m2_base.specs.Runs.{after_run, is_run_and}

pub or_first : (a b : Bool) → a ≡ true → (a || b) ≡ true
or_first true b e = refl
or_first false b e = cc

pub or_second : (a b : Bool) → b ≡ true → (a || b) ≡ true
or_second true b e = refl
or_second false b e = e

pub and_false : (b : Bool) → (b && false) ≡ false
and_false true = refl
and_false false = refl

pub false_from : (b : Bool) → (b ≡ true → ⊥) → b ≡ false
false_from true no_such = absurd (no_such refl)
false_from false no_such = refl

take_both : (n k : ℕ) (xs : List ℕ) → n ≤ length xs → take n xs ++ take k (drop n xs) ≡ take (n + k) xs
take_both n k xs within =
    sym (take-append-add (take n xs) (drop n xs) k)
    ∙ ap (λ (m : ℕ). take (m + k) (take n xs ++ drop n xs)) (length-take-le n xs within)
    ∙ ap (take (n + k)) (take-append-drop n xs)

-- a front is the longest match if it is a lexeme, and no longer one is
pub longest_from : (text : List ℕ) (n : ℕ) → n ≤ length text → is_lexeme (take n text) ≡ true → ((m : ℕ) → n < m → m ≤ length text → is_lexeme (take m text) ≡ false)
    → IsLongest (take n text) (drop n text)
longest_from text n within spells none = record {
  spells = spells;
  none_longer = λ k some room. ap is_lexeme (take_both n k text within) ∙ none (n + k) (omega arith) (omega (arith, room, length-drop n text));
}

one_more : (n : ℕ) → 1 + n ≡ suc n
one_more n = omega arith

-- what follows the run in a front
after_run-take : (p : ℕ → Bool) (m : ℕ) (xs : List ℕ) → after_run p (take m xs) ≡ take (m - prefix_len p xs) (drop (prefix_len p xs) xs)
after_run-take p zero xs = let none : 0 - prefix_len p xs ≡ 0 = omega arith in sym (ap (λ (n : ℕ). take n (drop (prefix_len p xs) xs)) none)
after_run-take p (suc m) [] = let all : suc m - 0 ≡ suc m = omega arith in sym (ap (λ (n : ℕ). take {A = ℕ} n []) all)
after_run-take p (suc m) (x ∷ xs) =
    elim (p x) as (λ b. drop (cond b (1 + prefix_len p (take m xs)) 0) (x ∷ take m xs) ≡ take (suc m - cond b (1 + prefix_len p xs) 0) (drop (cond b (1 + prefix_len p xs) 0) (x ∷ xs))) [
      | true ↦
          let r = prefix_len p xs in
          let less : suc m - (1 + r) ≡ m - r = omega arith in
          ap (λ (n : ℕ). drop n (x ∷ take m xs)) (one_more (prefix_len p (take m xs)))
          ∙ after_run-take p m xs
          ∙ sym (ap (λ (n : ℕ). take n (drop (1 + r) (x ∷ xs))) less ∙ ap (λ (n : ℕ). take (m - r) (drop n (x ∷ xs))) (one_more r))
      | false ↦ let all : suc m - 0 ≡ suc m = omega arith in sym (ap (λ (n : ℕ). take n (x ∷ xs)) all)
    ]

-- all of a front is of the class only up to the end of the run
pub all_within : (p : ℕ → Bool) (xs : List ℕ) (m : ℕ) → m ≤ length xs → list_all p (take m xs) ≡ true → m ≤ prefix_len p xs
all_within p xs zero room h = omega arith
all_within p [] (suc m) room h = absurd (omega arith)
all_within p (x ∷ xs) (suc m) room h = elim (p x) as (λ b. (b && list_all p (take m xs)) ≡ true → suc m ≤ cond b (1 + prefix_len p xs) 0) [
  | true ↦ λ rest. omega (arith, all_within p xs m (omega arith) rest)
  | false ↦ λ rest. absurd cc
] h

pub all_spells : (p : ℕ → Bool) (xs : List ℕ) → list_all p (take (prefix_len p xs) xs) ≡ true
all_spells p [] = refl
all_spells p (x ∷ xs) = elim (p x) as (λ b. p x ≡ b → list_all p (take (cond b (1 + prefix_len p xs) 0) (x ∷ xs)) ≡ true) [
  | true ↦ λ e. ap (λ (n : ℕ). list_all p (take n (x ∷ xs))) (one_more (prefix_len p xs)) ∙ ap (λ (t : Bool). t && list_all p (take (prefix_len p xs) xs)) e ∙ all_spells p xs
  | false ↦ λ e. refl
] refl

first_of_drop : (xs : List ℕ) (r : ℕ) → r < length xs → take 1 (drop r xs) ≡ get_or xs r 0 ∷ []
first_of_drop xs r within = ap (take 1) (drop-cons xs r 0 within)

head_is : (x y : ℕ) → x ∷ [] ≡ y ∷ [] → x ≡ y
head_is x y e = cc

-- a front is a run and one byte more only right behind the run
pub run_and_one : (p : ℕ → Bool) (xs : List ℕ) (s m : ℕ) → m ≤ length xs → is_run_and p (s ∷ []) (take m xs) ≡ true → (m ≡ prefix_len p xs + 1) × (get_or xs (prefix_len p xs) 0 ≡ s)
run_and_one p xs s m room h =
    let r = prefix_len p xs in
    let same : take (m - r) (drop r xs) ≡ s ∷ [] = sym (after_run-take p m xs) ∙ (bytes_eq-Decides (after_run p (take m xs)) (s ∷ [])).0 h in
    let count : m ≡ r + 1 = omega (arith, ap length same, length-take (m - r) (drop r xs), length-drop r xs, prefix_len-le-length p xs) in
    let one : m - r ≡ 1 = omega arith in
    (count, head_is (get_or xs r 0) s (sym (first_of_drop xs r (omega arith)) ∙ sym (ap (λ (n : ℕ). take n (drop r xs)) one) ∙ same))

pub one_spells : (p : ℕ → Bool) (xs : List ℕ) (s : ℕ) → prefix_len p xs < length xs → get_or xs (prefix_len p xs) 0 ≡ s → is_run_and p (s ∷ []) (take (prefix_len p xs + 1) xs) ≡ true
one_spells p xs s within is =
    let r = prefix_len p xs in
    let one : r + 1 - r ≡ 1 = omega arith in
    (bytes_eq-Decides (after_run p (take (r + 1) xs)) (s ∷ [])).1
    (after_run-take p (r + 1) xs ∙ ap (λ (n : ℕ). take n (drop r xs)) one ∙ first_of_drop xs r within ∙ ap (λ (x : ℕ). x ∷ []) is)

-- a byte other than 0 is within the text
pub within_by : (xs : List ℕ) (n s : ℕ) → get_or xs n 0 ≡ s → 0 < s → n < length xs
within_by xs n s e some = elim (nat_le (length xs) n) as (λ b. nat_le (length xs) n ≡ b → n < length xs) [
  | true ↦ λ t. absurd (let past : get_or xs n 0 ≡ 0 = get_or_past xs n 0 (leb-true (length xs) n t) in omega (arith, past, e))
  | false ↦ λ t. leb-false (length xs) n t
] refl

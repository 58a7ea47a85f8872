-- The standard scope: its rows are well formed, their names differ, and the row of a name is that of its meaning.
use Rattle.std.proofs.Common.{◌≡◌, ◌≢◌, ℕ, ◌+◌, ◌-◌, ◌<◌, ◌≤◌, ◌^◌, Bool, true, not, ◌&&◌, ◌||◌, ◌==◌, List, [], ◌∷◌, Some, length, drop, get_or, refl, sym, ◌∙◌, ap, subst, arith, suc, zero, lit<, length-append, rules}
use Rattle.std.specs.List.{slice_get}
use Rattle.std.specs.Prelude.{nat_le, pos}
use Rattle.std.proofs.lemmas.Bool.{and_parts, leb-true}
use Rattle.std.proofs.lemmas.Grind.{common_steps}
use Rattle.m2_base.specs.Lists.{Each, IsPrefixOf, HasNoRepeats}
use Rattle.m2_base.specs.Names.{standard_names}
use Rattle.m2_base.specs.Rows.{Const, Row, RowMeaning, at_place, row_of, HasSmallScopes, IsWellFormed}
use Rattle.m2_base.specs.Standard.{is_standard, named_rows, standard_meanings, standard_rows}

-- these rows of scope 0 are well formed, of which the first has ordinal k
abbrev pub AreFormed : (names k : ℕ) → List Row → Type 0
AreFormed names k [] = Unit {0}
AreFormed names k (r ∷ rows) = IsWellFormed names (at_place 0 k) r × AreFormed names (k + 1) rows

standard_formed : (names : ℕ) → 27 ≤ names → AreFormed names 0 standard_rows
standard_formed names many = (
  record { named = omega (arith, many); written = refl; fits = tt },
  (
    record { named = omega (arith, many); written = refl; fits = tt },
    (
      record { named = omega (arith, many); written = refl; fits = tt },
      (
        record { named = omega (arith, many); written = refl; fits = lit< tt },
        (
          record { named = omega (arith, many); written = refl; fits = (lit< tt, search rules, search rules) },
          (
            record { named = omega (arith, many); written = refl; fits = lit< tt },
            (
              record { named = omega (arith, many); written = refl; fits = (tt, lit< tt, omega arith) },
              (
                record { named = omega (arith, many); written = refl; fits = tt },
                (
                  record { named = omega (arith, many); written = refl; fits = tt },
                  (
                    record { named = omega (arith, many); written = refl; fits = tt },
                    (
                      record { named = omega (arith, many); written = refl; fits = tt },
                      (
                        record { named = omega (arith, many); written = refl; fits = lit< tt },
                        (
                          record { named = omega (arith, many); written = refl; fits = lit< tt },
                          (
                            record { named = omega (arith, many); written = refl; fits = lit< tt },
                            (
                              record { named = omega (arith, many); written = refl; fits = lit< tt },
                              (
                                record { named = omega (arith, many); written = refl; fits = lit< tt },
                                (
                                  record { named = omega (arith, many); written = refl; fits = lit< tt },
                                  (
                                    record { named = omega (arith, many); written = refl; fits = (lit< tt, search rules, lit< tt, λ _. omega (arith, many)) },
                                    (
                                      record { named = omega (arith, many); written = refl; fits = (lit< tt, search rules, lit< tt, λ _. omega (arith, many)) },
                                      (
                                        record { named = omega (arith, many); written = refl; fits = (lit< tt, search rules, lit< tt, λ _. omega (arith, many)) },
                                        (
                                          record { named = omega (arith, many); written = refl; fits = omega (arith, many) },
                                          (
                                            record { named = omega (arith, many); written = refl; fits = omega (arith, many) },
                                            (
                                              record { named = omega (arith, many); written = refl; fits = omega (arith, many) },
                                              (
                                                record { named = omega (arith, many); written = refl; fits = omega (arith, many) },
                                                (
                                                  record { named = omega (arith, many); written = refl; fits = omega (arith, many) },
                                                  (
                                                    record { named = omega (arith, many); written = refl; fits = omega (arith, many) },
                                                    (
                                                      record { named = omega (arith, many); written = refl; fits = omega (arith, many) },
                                                      (
                                                        record { named = omega (arith, many); written = refl; fits = omega (arith, many) },
                                                        (
                                                          record { named = omega (arith, many); written = refl; fits = omega (arith, many) },
                                                          (
                                                            record { named = omega (arith, many); written = refl; fits = omega (arith, many) },
                                                            (
                                                              record { named = omega (arith, many); written = refl; fits = omega (arith, many) },
                                                              (
                                                                record { named = omega (arith, many); written = refl; fits = omega (arith, many) },
                                                                (
                                                                  record { named = omega (arith, many); written = refl; fits = omega (arith, many) },
                                                                  (
                                                                    record { named = omega (arith, many); written = refl; fits = omega (arith, many) },
                                                                    (
                                                                      record { named = omega (arith, many); written = refl; fits = omega (arith, many) },
                                                                      (
                                                                        record { named = omega (arith, many); written = refl; fits = omega (arith, many) },
                                                                        (
                                                                          record { named = omega (arith, many); written = refl; fits = omega (arith, many) },
                                                                          tt,
                                                                        ),
                                                                      ),
                                                                    ),
                                                                  ),
                                                                ),
                                                              ),
                                                            ),
                                                          ),
                                                        ),
                                                      ),
                                                    ),
                                                  ),
                                                ),
                                              ),
                                            ),
                                          ),
                                        ),
                                      ),
                                    ),
                                  ),
                                ),
                              ),
                            ),
                          ),
                        ),
                      ),
                    ),
                  ),
                ),
              ),
            ),
          ),
        ),
      ),
    ),
  ),
)

formed_at : (names k : ℕ) (rows : List Row) → AreFormed names k rows → (i : ℕ) (r : Row) → slice_get rows i ≡ Some r → IsWellFormed names (at_place 0 (k + i)) r
formed_at names k [] all i r e = absurd (cc)
formed_at names k (x ∷ rows) all zero r e =
    let is : x ≡ r = cc in
    let same : k ≡ k + 0 = omega arith in
    subst (λ j. IsWellFormed names (at_place 0 j) r) same (subst (λ y. IsWellFormed names (at_place 0 k) y) is all.0)
formed_at names k (x ∷ rows) all (suc i) r e =
    let same : k + 1 + i ≡ k + suc i = omega arith in
    subst (λ j. IsWellFormed names (at_place 0 j) r) same (formed_at names (k + 1) rows all.1 i r e)

standard_count : length standard_names ≡ 28
unfolding standard_names
standard_count = refl

-- each standard row is well formed at its place, in every unit
pub IsWellFormed-standard : (names : List (List ℕ)) → IsPrefixOf standard_names names → (k : ℕ) (r : Row) → slice_get standard_rows k ≡ Some r → IsWellFormed (length names) (at_place 0 k) r
IsWellFormed-standard names begin k r e =
    let same : 0 + k ≡ k = omega arith in
    subst (λ j. IsWellFormed (length names) (at_place 0 j) r) same (formed_at (length names) 0 standard_rows (standard_formed (length names) many) k r e)
  where
    many : 27 ≤ length names
    many =
        let all : length standard_names + length begin.rest ≡ length names = sym (length-append standard_names begin.rest) ∙ ap length begin.joined in
        omega (arith, all, standard_count)

-- the number is that of none of these
abbrev pub is_new : {A : Type 0} → (A → ℕ) → ℕ → List A → Bool
is_new number n [] = true
is_new number n (y ∷ ys) = not (n == number y) && is_new number n ys

abbrev pub are_new : {A : Type 0} → (A → ℕ) → List A → Bool
are_new number [] = true
are_new number (x ∷ xs) = (number x == 0 || is_new number (number x) xs) && are_new number xs

new_at : {A : Type 0} (number : A → ℕ) (n : ℕ) (ys : List A) → is_new number n ys ≡ true → (j : ℕ) (y : A) → slice_get ys j ≡ Some y → n ≢ number y
new_at number n [] h j y e = absurd (cc)
new_at {A} number n (x ∷ ys) h zero y e = λ same. grind (arith, common_steps)
new_at {A} number n (x ∷ ys) h (suc j) y e = new_at number n ys (grind (arith, common_steps)) j y e

-- a test that no number but 0 stands twice
pub HasNoRepeats-test : {A : Type 0} (number : A → ℕ) (xs : List A) → are_new number xs ≡ true → HasNoRepeats number xs
HasNoRepeats-test number [] h = λ i j x y less at_i at_j named. absurd (cc)
HasNoRepeats-test {A} number (x ∷ xs) h = go (HasNoRepeats-test number xs (grind (arith, common_steps)))
  where
    go : HasNoRepeats number xs → HasNoRepeats number (x ∷ xs)
    go rest zero zero p q less at_i at_j named = absurd (omega (arith, less))
    go rest zero (suc j) p q less at_i at_j named = new_at number (number p) xs (grind (arith, common_steps)) j q at_j
    go rest (suc i) zero p q less at_i at_j named = absurd (omega (arith, less))
    go rest (suc i) (suc j) p q less at_i at_j named = rest i j p q (omega (arith, less)) at_i at_j named

-- no standard name is that of two rows
pub HasNoRepeats-standard : HasNoRepeats (λ r. r.name) standard_rows
HasNoRepeats-standard = HasNoRepeats-test (λ r. r.name) standard_rows refl

-- its name is between 1 and 26
pub standard_between : (name : ℕ) → is_standard name ≡ true → (1 ≤ name) × (name ≤ 26)
standard_between name h = let parts = and_parts (nat_le 1 name) (nat_le name 26) h in (leb-true 1 name parts.0, leb-true name 26 parts.1)

pub standard_small : (name : ℕ) → is_standard name ≡ true → name + 10 < 2 ^ 32
standard_small name h = let high = (standard_between name h).1 in omega (arith, high)

-- no meaning of a standard name has a scope but 0
pub standard_scopes : (i : ℕ) → HasSmallScopes (get_or standard_meanings i (Const (at_place 0 0) (pos 0) 0))
standard_scopes i = each_or standard_meanings i (search rules)
  where
    each_or : (meanings : List RowMeaning) (i : ℕ) → Each HasSmallScopes meanings → HasSmallScopes (get_or meanings i (Const (at_place 0 0) (pos 0) 0))
    each_or [] i all = lit< tt
    each_or (m ∷ meanings) zero all = all.0
    each_or (m ∷ meanings) (suc i) all = each_or meanings i all.1

named_at : (meanings : List RowMeaning) (first i : ℕ) (m : RowMeaning) → i < length meanings → slice_get (named_rows first meanings) i ≡ Some (row_of (first + i) 0 (get_or meanings i m))
named_at [] first i m h = absurd (omega (arith, h))
named_at (x ∷ meanings) first zero m h = let same : first ≡ first + 0 = omega arith in ap (λ n. Some (row_of n 0 x)) same
named_at (x ∷ meanings) first (suc i) m h =
    let same : first + 1 + i ≡ first + suc i = omega arith in
    named_at meanings (first + 1) i m (omega (arith, h)) ∙ ap (λ n. Some (row_of n 0 (get_or meanings i m))) same

get_behind : (k : ℕ) (rows : List Row) (i : ℕ) → slice_get rows (k + i) ≡ slice_get (drop k rows) i
get_behind zero rows i = let same : 0 + i ≡ i = omega arith in ap (slice_get rows) same
get_behind (suc k) [] i = refl
get_behind (suc k) (r ∷ rows) i = let same : suc k + i ≡ suc (k + i) = omega arith in ap (slice_get (r ∷ rows)) same ∙ get_behind k rows i

-- the row of a standard name, by its meaning
pub named_row : (name : ℕ) (m : RowMeaning) → is_standard name ≡ true → slice_get standard_rows (name + 10) ≡ Some (row_of name 0 (get_or standard_meanings (name - 1) m))
named_row name m h =
    let between = standard_between name h in
    let at : name + 10 ≡ 11 + (name - 1) = omega (arith, between.0) in
    let same : 1 + (name - 1) ≡ name = omega (arith, between.0) in
    ap (slice_get standard_rows) at ∙ get_behind 11 standard_rows (name - 1) ∙ named_at standard_meanings 1 (name - 1) m (omega (arith, between.0, between.1))
    ∙ ap (λ n. Some (row_of n 0 (get_or standard_meanings (name - 1) m))) same

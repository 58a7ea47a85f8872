-- Going from a scope to those round it.
use Rattle.std.proofs.Common.{◌≡◌, ℕ, zero, suc, List, [], ◌∷◌, ◌++◌, refl, sym, ap, ◌∙◌, ◌+◌, ◌-◌, ◌<◌, ◌≤◌, ◌≢◌, arith, length, get_or, map, slice_get, option_map, Option, Some, None, ◌==◌, position}
use Rattle.stream_split.specs.declared.streams.StreamTokens.{StreamTokens}
use Rattle.m2_base.specs.Units.{UnitTexts}
use Rattle.stream_split.specs.Chains.{outer_of, outer_in, chain_from, scope_in, own_scope}
use Rattle.stream_split.specs.Streams.{StreamOf}
use Rattle.stream_split.specs.Views.{stream_view}

-- the scope so many steps out
abbrev pub climb : ℕ → List StreamOf → ℕ → ℕ
climb zero streams n = n
climb (suc i) streams n = climb i streams (outer_of streams n)

pub climb_on : (i : ℕ) (streams : List StreamOf) (n : ℕ) → climb (i + 1) streams n ≡ outer_of streams (climb i streams n)
climb_on i streams n = let e : i + 1 ≡ suc i = omega arith in ap (λ z. climb z streams n) e ∙ on i n
  where
    on : (i n : ℕ) → climb (suc i) streams n ≡ outer_of streams (climb i streams n)
    on zero n = refl
    on (suc i) n = on i (outer_of streams n)

pub chain_on : (i : ℕ) (streams : List StreamOf) (n : ℕ) → chain_from (i + 1) streams n ≡ chain_from i streams n ++ (climb (i + 1) streams n ∷ [])
chain_on i streams n = let e : suc i ≡ i + 1 = omega arith in ap (λ z. chain_from z streams n) (sym e) ∙ on i n ∙ ap (λ z. chain_from i streams n ++ (climb z streams n ∷ [])) e
  where
    on : (i n : ℕ) → chain_from (suc i) streams n ≡ chain_from i streams n ++ (climb (suc i) streams n ∷ [])
    on zero n = refl
    on (suc i) n = ap (λ z. n ∷ z) (on i (outer_of streams n))

get_view : (xs : List StreamTokens) (i : ℕ) → slice_get (map stream_view xs) i ≡ option_map stream_view (slice_get xs i)
get_view [] i = refl
get_view (x ∷ xs) zero = refl
get_view (x ∷ xs) (suc i) = get_view xs i

pub outer_zero : (xs : List StreamTokens) (n : ℕ) → n ≡ 0 → 0 ≡ outer_of (map stream_view xs) n
outer_zero xs n e = sym (ap (outer_of (map stream_view xs)) e)

got : (xs : List StreamTokens) (i : ℕ) (d : StreamTokens) → i < length xs → slice_get xs i ≡ Some (get_or xs i d)
got [] i d h = let no : ⊥ = omega (arith, h) in absurd no
got (x ∷ xs) zero d h = refl
got (x ∷ xs) (suc i) d h = got xs i d (omega (arith, h))

past : (xs : List StreamTokens) (i : ℕ) → length xs ≤ i → slice_get xs i ≡ None
past [] i h = refl
past (x ∷ xs) zero h = let no : ⊥ = omega (arith, h) in absurd no
past (x ∷ xs) (suc i) h = past xs i (omega (arith, h))

pub outer_there : (xs : List StreamTokens) (n i : ℕ) (d : StreamTokens) → i ≡ n - 1 → n ≢ 0 → i < length xs → (get_or xs i d).outer ≡ outer_of (map stream_view xs) n
outer_there xs n i d e o h =
    let is : n ≡ suc i = omega (arith, e, o) in
    sym (ap (outer_of (map stream_view xs)) is ∙ ap outer_in (get_view xs i ∙ ap (option_map stream_view) (got xs i d h)))

pub outer_past : (xs : List StreamTokens) (n i : ℕ) → i ≡ n - 1 → n ≢ 0 → length xs ≤ i → 0 ≡ outer_of (map stream_view xs) n
outer_past xs n i e o h =
    let is : n ≡ suc i = omega (arith, e, o) in
    sym (ap (outer_of (map stream_view xs)) is ∙ ap outer_in (get_view xs i ∙ ap (option_map stream_view) (past xs i h)))

-- the own definition's scope, by its place in the order
pub own_is : (u : UnitTexts) (order : List ℕ) (k : ℕ) (place : Option ℕ) → u.own ≡ Some k → order ≡ u.order → place ≡ position (λ x. x == k) order
    → option_map (λ n. n + 1) place ≡ own_scope u
own_is u order k place e o h =
    ap (option_map (λ n. n + 1)) (h ∙ ap (position (λ x. x == k)) o) ∙ ap (scope_in u.order) (sym e)

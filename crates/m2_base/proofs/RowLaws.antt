-- A meaning written as a row is that row's meaning.
use Rattle.std.specs.Prelude.{◌≡◌, refl, ℕ, ◌+◌, ◌*◌, ◌%◌, ◌^◌, ◌<◌, ◌≤◌, true, false, Some, None}
use Rattle.std.proofs.Common.{ap, ◌∙◌, arith}
use Rattle.std.proofs.lemmas.Nat.{shr_high, mod_low}
use Rattle.m2_base.specs.Rows.{Place, Plain, ByAddress, Open, RowMeaning, Const, TypeName, Var, Proc, Module, Alias, Field, Param, Standard, Broken, Integer, Cardinal, Character, Nil, Text, Whole, Enum, Subrange, Array, OpenArray, Record, Set, Pointer, ProcType, Opaque, at_place, place_of, number_of, row_of, row_meaning, IsSmallOrdinal, HasSmallOrdinals, HasSmallNumbers, Fits}

pub place_of-number_of : (p : Place) → IsSmallOrdinal p → place_of (number_of p) ≡ p
place_of-number_of p h =
    ap (λ s. at_place s ((p.scope * 2 ^ 32 + p.ordinal) % 2 ^ 32)) (shr_high p.scope 32 p.ordinal h)
    ∙ ap (at_place p.scope) (mod_low p.scope 32 p.ordinal h)

pub row_meaning-row_of : (n at : ℕ) (m : RowMeaning) → HasSmallOrdinals m → row_meaning (row_of n at m) ≡ m
row_meaning-row_of n at (Const t v l) h = ap (λ p. Const p v l) (place_of-number_of t h)
row_meaning-row_of n at (TypeName t) h = ap TypeName (place_of-number_of t h)
row_meaning-row_of n at (Var t Plain o) h = ap (λ p. Var p Plain o) (place_of-number_of t h)
row_meaning-row_of n at (Var t ByAddress o) h = ap (λ p. Var p ByAddress o) (place_of-number_of t h)
row_meaning-row_of n at (Var t Open o) h = ap (λ p. Var p Open o) (place_of-number_of t h)
row_meaning-row_of n at (Proc t k s) h = ap (λ p. Proc p k s) (place_of-number_of t h)
row_meaning-row_of n at (Module s) h = refl
row_meaning-row_of n at (Alias t) h = ap Alias (place_of-number_of t h)
row_meaning-row_of n at (Field t o r f) h = ap (λ p. Field p o r f) (place_of-number_of t h)
row_meaning-row_of n at (Param t true r) h = ap (λ p. Param p true r) (place_of-number_of t h)
row_meaning-row_of n at (Param t false r) h = ap (λ p. Param p false r) (place_of-number_of t h)
row_meaning-row_of n at (Standard s) h = refl
row_meaning-row_of n at Broken h = refl
row_meaning-row_of n at Integer h = refl
row_meaning-row_of n at Cardinal h = refl
row_meaning-row_of n at Character h = refl
row_meaning-row_of n at Nil h = refl
row_meaning-row_of n at Text h = refl
row_meaning-row_of n at Whole h = refl
row_meaning-row_of n at (Enum k) h = refl
row_meaning-row_of n at (Subrange t low high) h = ap (λ p. Subrange p low high) (place_of-number_of t h)
row_meaning-row_of n at (Array i t s) h =
    ap (λ p. Array p (place_of (number_of t)) s) (place_of-number_of i h.0)
    ∙ ap (λ p. Array i p s) (place_of-number_of t h.1)
row_meaning-row_of n at (OpenArray t) h = ap OpenArray (place_of-number_of t h)
row_meaning-row_of n at (Record f s) h = refl
row_meaning-row_of n at (Set t) h = ap Set (place_of-number_of t h)
row_meaning-row_of n at (Pointer t) h = ap Pointer (place_of-number_of t h)
row_meaning-row_of n at (ProcType None k f) h = refl
row_meaning-row_of n at (ProcType (Some r) k f) h = ap (λ p. ProcType (Some p) k f) (place_of-number_of r h)
row_meaning-row_of n at Opaque h = refl

-- the meaning of a row that is well formed has small numbers
pub HasSmallNumbers-fits : (names : ℕ) (p : Place) (m : RowMeaning) → names ≤ 2 ^ 32 → p.scope < 2 ^ 32 → p.ordinal < 2 ^ 32 → Fits names p m → HasSmallNumbers m
HasSmallNumbers-fits names p (Const t v l) few s o f = f.2
HasSmallNumbers-fits names p (TypeName t) few s o f = tt
HasSmallNumbers-fits names p (Var t m a) few s o f = f.1
HasSmallNumbers-fits names p (Proc t k a) few s o f = (f.1, f.2)
HasSmallNumbers-fits names p (Module a) few s o f = omega (arith, f, s)
HasSmallNumbers-fits names p (Alias q) few s o f = tt
HasSmallNumbers-fits names p (Field t a r n) few s o f = (f.1, f.2, omega (arith, f.3, few))
HasSmallNumbers-fits names p (Param t v r) few s o f = f.1
HasSmallNumbers-fits names p (Standard n) few s o f = omega (arith, f, few)
HasSmallNumbers-fits names p Broken few s o f = tt
HasSmallNumbers-fits names p Integer few s o f = tt
HasSmallNumbers-fits names p Cardinal few s o f = tt
HasSmallNumbers-fits names p Character few s o f = tt
HasSmallNumbers-fits names p Nil few s o f = tt
HasSmallNumbers-fits names p Text few s o f = tt
HasSmallNumbers-fits names p Whole few s o f = tt
HasSmallNumbers-fits names p (Enum k) few s o f = f
HasSmallNumbers-fits names p (Subrange t low high) few s o f = tt
HasSmallNumbers-fits names p (Array i t a) few s o f = f.2
HasSmallNumbers-fits names p (OpenArray t) few s o f = tt
HasSmallNumbers-fits names p (Record r a) few s o f = (omega (arith, f.0, o), f.1)
HasSmallNumbers-fits names p (Set t) few s o f = tt
HasSmallNumbers-fits names p (Pointer t) few s o f = tt
HasSmallNumbers-fits names p (ProcType r k a) few s o f = (f.1, omega (arith, f.2, o))
HasSmallNumbers-fits names p Opaque few s o f = tt

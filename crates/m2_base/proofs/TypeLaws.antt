-- Laws on types: that two are the same is an equivalence, and every range lies within the values of whole constants.
use Rattle.std.specs.Prelude.{◌≡◌, ℕ, ◌-◌, true, pos, Some, unwrap_or}
use Rattle.std.proofs.Common.{ap, sym, subst, ◌∙◌, refl, arith}
use Rattle.std.proofs.Math.Facts.{yes_leb}
use Rattle.std.proofs.lemmas.Bool.{eqb-true, eq-eqb, and_parts, and_from}
use Rattle.m2_base.specs.Rows.{Place, at_place, is_same_place, IsWellFormed, IsValue, Fits, row_meaning, RowMeaning, Integer, Cardinal, Character, Enum, Subrange}
use Rattle.m2_base.specs.Statics.Contexts.{Scene, row_at}
use Rattle.m2_base.specs.Statics.Ranges.{Range, range, integer_range, cardinal_range}
use Rattle.m2_base.specs.Statics.Types.{is_same, stands_for, range_by, range_of}

pub same_place-refl : (p : Place) → is_same_place p p ≡ true
same_place-refl p = and_from _ _ (eq-eqb p.scope p.scope refl) (eq-eqb p.ordinal p.ordinal refl)

pub same_place-is : (p q : Place) → is_same_place p q ≡ true → p ≡ q
same_place-is p q h =
    let e = and_parts _ _ h in
    ap (λ s. at_place s p.ordinal) (eqb-true p.scope q.scope e.0) ∙ ap (at_place q.scope) (eqb-true p.ordinal q.ordinal e.1)

pub same_place-from : (p q : Place) → p ≡ q → is_same_place p q ≡ true
same_place-from p q e = ap (is_same_place p) (sym e) ∙ same_place-refl p

pub same-symmetric : (scene : Scene) (t u : Place) → is_same scene t u ≡ true → is_same scene u t ≡ true
same-symmetric scene t u h = same_place-from (stands_for scene u) (stands_for scene t) (sym (same_place-is (stands_for scene t) (stands_for scene u) h))

pub same-transitive : (scene : Scene) (t u v : Place) → is_same scene t u ≡ true → is_same scene u v ≡ true → is_same scene t v ≡ true
same-transitive scene t u v h k =
    same_place-from (stands_for scene t) (stands_for scene v)
    (same_place-is (stands_for scene t) (stands_for scene u) h ∙ same_place-is (stands_for scene u) (stands_for scene v) k)

-- both ends are values
abbrev AreValues : Range → Type 0
AreValues r = IsValue r.low × IsValue r.high

given : (q r : Range) → AreValues q → Some q ≡ Some r → AreValues r
given q r h e = subst AreValues (ap (λ o. unwrap_or o q) e) h

pub range_of_meaning : (names : ℕ) (p : Place) (r : Range) (m : RowMeaning) → Fits names p m → range_by m ≡ Some r → AreValues r
range_of_meaning names p r Integer f h = given integer_range r ((omega arith, omega arith), (omega arith, omega arith)) h
range_of_meaning names p r Cardinal f h = given cardinal_range r ((omega arith, omega arith), (omega arith, omega arith)) h
range_of_meaning names p r Character f h = given (range (pos 0) (pos 255)) r ((omega arith, omega arith), (omega arith, omega arith)) h
range_of_meaning names p r (Enum n) f h = given (range (pos 0) (pos (n - 1))) r ((omega arith, omega arith), (omega arith, omega (arith, yes_leb, f))) h
range_of_meaning names p r (Subrange b low high) f h = given (range low high) r (f.1, f.2) h
range_of_meaning names p r m f h = absurd (cc)

pub range-whole : (scene : Scene) (t : Place) (r : Range) (names : ℕ)
    → IsWellFormed names (stands_for scene t) (row_at scene.tables (stands_for scene t)) → range_of scene t ≡ Some r → IsValue r.low × IsValue r.high
range-whole scene t r names w h = range_of_meaning names (stands_for scene t) r (row_meaning (row_at scene.tables (stands_for scene t))) w.fits h

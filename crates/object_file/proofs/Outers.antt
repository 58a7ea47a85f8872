-- The outer procedure of each procedure that was read has a smaller number.
use Rattle.std.proofs.Common.{◌≡◌, ◌≢◌, ℕ, zero, suc, ◌+◌, ◌<◌, Bool, true, false, eqb, ltb, List, [], ◌∷◌, ◌++◌, length, refl, inl, inr, arith}
use Rattle.std.specs.Prelude.{◌&&◌, ◌||◌, slice_get}
use Rattle.std.proofs.lemmas.Bool.{ne_eqb, le-ltb, cases_lt}
use Rattle.code_form.specs.Modules.{Procedure, World}
use Rattle.code_form.specs.Valid.{outer_or}
use Rattle.object_file.specs.Contents.{Export}
use Rattle.object_file.specs.Links.{OutersBelow}
use Rattle.object_file.specs.ObjectFormat.{is_outer, as_exported}

-- procedures, the first of which has number k
abbrev pub Below : ℕ → List Procedure → Type 0
Below k [] = Unit {0}
Below k (p ∷ ps) = (p.outer ≢ 0 → p.outer < k) × Below (suc k) ps

pub Below-more : (k : ℕ) (ps : List Procedure) (p : Procedure) → Below k ps → (p.outer ≢ 0 → p.outer < k + length ps) → Below k (ps ++ p ∷ [])
Below-more k [] p b h = (λ some. (let l = h some in omega (arith, l)), tt)
Below-more k (q ∷ qs) p b h = (b.0, Below-more (suc k) qs p b.1 (λ some. (let l = h some in omega (arith, l))))

never : (t u v w : Bool) → ((t || (u && v)) && w) ≡ true → t ≡ false → v ≡ false → ⊥
never true u v w h e d = absurd cc
never false true true w h e d = absurd cc
never false true false w h e d = absurd cc
never false false v w h e d = absurd cc

pub smaller : (es : List Export) (k n : ℕ) → is_outer es k n ≡ true → n ≢ 0 → n < k
smaller es k n h some = elim (cases_lt n k) [
  | inl lt ↦ lt
  | inr le ↦ absurd (never (ltb n k) (eqb k 0) (eqb n 0) (as_exported es k (λ e. eqb n 0)) h (le-ltb n k le) (ne_eqb n 0 some))
]

found : (k : ℕ) (ps : List Procedure) (i : ℕ) → Below k ps → outer_or 0 (slice_get ps i) ≢ 0 → outer_or 0 (slice_get ps i) < k + i
found k [] i b some = absurd (some refl)
found k (p ∷ ps) zero b some = let l = b.0 some in omega (arith, l)
found k (p ∷ ps) (suc i) b some = let l = found (suc k) ps i b.1 some in omega (arith, l)

pub outers_below : (w : World) → Below 0 w.procedures → OutersBelow w
outers_below w b = λ k some. (let l = found 0 w.procedures k b some in omega (arith, l))

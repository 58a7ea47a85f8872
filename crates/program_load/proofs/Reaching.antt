-- From object to object.
use Rattle.std.proofs.Common.{◌≡◌, ◌≢◌, ◌⊎◌, inl, inr, ℕ, ◌+◌, ◌<◌, ◌≤◌, true, false, List, [], ◌∷◌, ◌++◌, Option, Some, None, length, length-append, refl, sym, ◌∙◌, ap, arith}
use Rattle.std.specs.Prelude.{◌==◌}
use Rattle.std.proofs.lemmas.Bool.{false≢true}
use Rattle.std.proofs.lemmas.Bool.Decides.{Decides-eqb}
use Rattle.m2_io.specs.Files.{Files}
use Rattle.object_file.specs.Contents.{Contents}
use Rattle.program_load.specs.Closure.{Progress, next_module, start}
use Rattle.program_load.specs.Loads.{Asks, Reaches, begins, is_there, not_there, then_asks}

pub asked_one_more : (holds : Option Files) (p q : Progress) (name : List ℕ) → Asks holds p name q → q.asked ≡ p.asked + 1
asked_one_more holds p _ name (not_there some has) = refl
asked_one_more holds p _ name (is_there has reads) = ap (λ (x : Progress). x.asked) reads.longer

some_behind : (os : List Contents) (o : Contents) → os ++ o ∷ [] ≢ []
some_behind [] o e = cc
some_behind (x ∷ os) o e = cc

-- a count of none
pub none_of : (os : List Contents) (count : ℕ) → (count == 0) ≡ true → count ≡ length os → os ≡ []
none_of [] count empty same = refl
none_of (o ∷ os) count empty same = let none : count ≡ 0 = (Decides-eqb count 0).0 empty in absurd (omega (arith, none, same))

pub some_of : (os : List Contents) (count : ℕ) → (count == 0) ≡ false → count ≡ length os → os ≢ []
some_of [] count full same none = false≢true (sym full ∙ (Decides-eqb count 0).1 same)
some_of (o ∷ os) count full same none = cc

some_after : (holds : Option Files) (p q : Progress) (name : List ℕ) → Asks holds p name q → q.objects ≢ []
some_after holds p _ name (not_there some has) = some
some_after holds p q name (is_there has reads) = λ e. some_behind p.objects reads.object (sym (ap (λ (x : Progress). x.objects) reads.longer) ∙ e)

few_after : (holds : Option Files) (p q : Progress) (name : List ℕ) → length p.objects ≤ 256 → Asks holds p name q → length q.objects ≤ 256
few_after holds p _ name few (not_there some has) = few
few_after holds p q name few (is_there has reads) =
    omega (arith, reads.few, ap (λ (x : Progress). length x.objects) reads.longer, length-append p.objects (reads.object ∷ []))

length_some : (os : List Contents) → os ≢ [] → 0 < length os
length_some [] some = absurd (some refl)
length_some (o ∷ os) some = omega arith

module _ (holds : Option Files) (main : List ℕ) where
  -- nothing is read yet, or there are objects
  some_objects : (p : Progress) → Reaches holds main p → (p ≡ start main) ⊎ (p.objects ≢ [])
  some_objects _ begins = inl refl
  some_objects q (then_asks {p = p} {name = name} reached next asks) = inr (some_after holds p q name asks)

  -- where no module is left to ask for, there are
  pub main_read : (p : Progress) → Reaches holds main p → next_module p ≡ None → 0 < length p.objects
  main_read p reached none = on (some_objects p reached) where
    on : (p ≡ start main) ⊎ (p.objects ≢ []) → 0 < length p.objects
    on (inl e) = absurd (let h : Some main ≡ None = sym (ap next_module e) ∙ none in cc)
    on (inr some) = length_some p.objects some

  pub few_objects : (p : Progress) → Reaches holds main p → length p.objects ≤ 256
  few_objects _ begins = omega arith
  few_objects q (then_asks {p = p} {name = name} reached next asks) = few_after holds p q name (few_objects p reached) asks

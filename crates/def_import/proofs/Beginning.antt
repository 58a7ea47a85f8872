-- Before the first text is read.
use Rattle.std.proofs.Common.{◌≡◌, ℕ, ◌<◌, ◌≤◌, List, [], ◌∷◌, Option, length, refl, sym, ap, subst, arith}
use Rattle.m2_base.specs.Names.{standard_names, with_name}
use Rattle.m2_base.proofs.Numbers.{length-standard_names, length-with_names}
use Rattle.def_import.specs.Closure.{Found, IsKept, progress_of}

pub few_standard : (names : List (List ℕ)) → names ≡ standard_names → length names < 4294967295
few_standard names is = omega (arith, ap length is, length-standard_names)

kept : (names : List (List ℕ)) → length names ≤ 29 → IsKept (progress_of names [] []) [] 0
kept names few = record {
  modules = refl;
  tokens = refl;
  few_tokens = omega arith;
  few_modules = omega arith;
  few_names = omega (arith, few);
  few_asked = omega arith;
  few_found = omega arith;
  known = tt;
}

pub begun_kept : (file : List ℕ) (old new : List (List ℕ)) (found : List Found) (asked : List (Option ℕ)) (modules : List ℕ) → old ≡ standard_names → new ≡ with_name old file → found ≡ []
    → asked ≡ [] → modules ≡ [] → IsKept (progress_of new found asked) modules 0
begun_kept file old new found asked modules standard with no_text none_asked no_module =
    let few : length new ≤ 29 = omega (arith, ap length with, length-with_names old (file ∷ []), ap length standard, length-standard_names) in
    subst (λ f. IsKept (progress_of new f asked) modules 0) (sym no_text)
    (subst (λ a. IsKept (progress_of new [] a) modules 0) (sym none_asked) (subst (λ m. IsKept (progress_of new [] []) m 0) (sym no_module) (kept new few)))

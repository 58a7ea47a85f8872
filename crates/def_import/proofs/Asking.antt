-- What follows from asking for a module.
use Rattle.std.proofs.Common.{◌≡◌, ℕ, zero, suc, ◌<◌, ◌≤◌, true, List, [], ◌∷◌, ◌++◌, Option, Some, None, length, length-append, take, refl, sym, ◌∙◌, ap, subst, arith, slice_get, Ok, Err}
use Rattle.std.specs.Prelude.{option_map, IfOk, Result}
use Rattle.std.proofs.lemmas.List.{length-take, take_all}
use Rattle.std.proofs.lemmas.Option.{slice_get_within}
use Rattle.m2_io.specs.Files.{Files}
use Rattle.m2_base.specs.Lists.{Each}
use Rattle.m2_base.specs.Units.{IsNamed}
use Rattle.def_import.specs.Closure.{Found, IsKept, Progress, next_module, progress_of}
use Rattle.def_import.specs.Outcomes.{AskPasses, Asks, Limit, Passes, Reads, is_there, long, not_there, of_texts, of_tokens, of_unit, too_many_texts, too_many_tokens, too_many_unit_tokens}
use Rattle.def_import.specs.Shelves.{HasDefinition, IsReadOf}

pub each_at : {A : Type 0} (P : A → Type 0) (xs : List A) (i : ℕ) (x : A) → slice_get xs i ≡ Some x → Each P xs → P x
each_at P [] i x e h = cc
each_at P (y ∷ xs) zero x e h = let k : y ≡ x = cc in subst P k h.0
each_at P (y ∷ xs) (suc i) x e h = each_at P xs i x e h.1

module _ (p : Progress) (mods : List ℕ) (count name : ℕ) (kept : IsKept p mods count) (next : next_module p ≡ Some name) where
  pub next_named : IsNamed p.names name
  next_named = each_at (IsNamed p.names) mods (length p.asked) name (ap (λ m. slice_get m (length p.asked)) kept.modules ∙ next) kept.known

  next_within : length p.asked < length mods
  next_within = slice_get_within mods (length p.asked) name (ap (λ m. slice_get m (length p.asked)) kept.modules ∙ next)

  pub answer_kept : (answer : Option ℕ) (asked : List (Option ℕ)) → asked ≡ p.asked ++ answer ∷ [] → IsKept (progress_of p.names p.found asked) mods count
  answer_kept answer asked pushed = subst (λ a. IsKept (progress_of p.names p.found a) mods count) (sym pushed) (record {
    modules = kept.modules;
    tokens = kept.tokens;
    few_tokens = kept.few_tokens;
    few_modules = kept.few_modules;
    few_names = kept.few_names;
    few_asked = omega (arith, next_within, length-append p.asked (answer ∷ []));
    few_found = omega (arith, kept.few_found, length-append p.asked (answer ∷ []));
    known = kept.known;
  })

-- nothing is read of a text that isn't there
-- a number is put at the end, by its value
pub pushed_number : (asked new : List (Option ℕ)) (n m : ℕ) → new ≡ asked ++ Some n ∷ [] → n ≡ m → new ≡ asked ++ Some m ∷ []
pushed_number asked new n m e k = e ∙ ap (λ n. asked ++ Some n ∷ []) k

pub none_read : (holds : Option Files) (p : Progress) (name : ℕ) (asked : List (Option ℕ)) → IsReadOf (HasDefinition holds p.names name) None → asked ≡ p.asked ++ None ∷ []
    → Asks holds p name (progress_of p.names p.found asked)
none_read holds p name asked read pushed =
    subst (λ a. Asks holds p name (progress_of p.names p.found a)) (sym pushed) (not_there (subst (HasDefinition holds p.names name) (none_is read.text read.front) read.is))
  where
    none_is : (text : Option (List ℕ)) → None ≡ option_map (take 1048577) text → text ≡ None
    none_is None e = refl
    none_is (Some text) e = cc

-- a text of which no more is read than it may have is read whole
whole : (text bytes : List ℕ) → bytes ≡ take 1048577 text → length bytes ≤ 1048576 → text ≡ bytes
whole text bytes is short =
    let few : length text ≤ 1048576 = omega (arith, ap length is, length-take 1048577 text, short) in
    sym (is ∙ take_all 1048577 text (omega (arith, few)))

some_text : (bytes : List ℕ) (text : Option (List ℕ)) → Some bytes ≡ option_map (take 1048577) text → (full : List ℕ) × (text ≡ Some full) × (bytes ≡ take 1048577 full)
some_text bytes None e = cc
some_text bytes (Some full) e = (full, refl, cc)

pub some_read : (holds : Option Files) (p : Progress) (name : ℕ) (bytes : List ℕ) (asked : List (Option ℕ)) (q : Progress) → IsReadOf (HasDefinition holds p.names name) (Some bytes)
    → asked ≡ p.asked ++ Some (length p.found) ∷ [] → Reads (progress_of p.names p.found asked) true name bytes q → Asks holds p name q
some_read holds p name bytes asked q read pushed reads =
    let t = some_text bytes read.text read.front in
    let has : HasDefinition holds p.names name (Some t.0) = subst (HasDefinition holds p.names name) t.1 read.is in
    let same : t.0 ≡ bytes = whole t.0 bytes t.2 reads.read.short in
    is_there (subst (λ b. HasDefinition holds p.names name (Some b)) same has) (subst (λ a. Reads (progress_of p.names p.found a) true name bytes q) pushed reads)

passes_short : (names : List (List ℕ)) (found : List Found) (name : ℕ) (text bytes : List ℕ) (limit : Limit) → bytes ≡ take 1048577 text → length bytes ≤ 1048576 → Passes names found true name bytes limit
    → Passes names found true name text limit
passes_short names found name text bytes limit is short p = subst (λ (b : List ℕ). Passes names found true name b limit) (sym (whole text bytes is short)) p

passes_whole : (names : List (List ℕ)) (found : List Found) (name : ℕ) (text bytes : List ℕ) (limit : Limit) → bytes ≡ take 1048577 text → Passes names found true name bytes limit → Passes names found true name text limit
passes_whole names found name text bytes _ is (long h) = long (omega (arith, ap length is, length-take 1048577 text, h))
passes_whole names found name text bytes _ is (of_tokens short many) = passes_short names found name text bytes too_many_tokens is short (of_tokens short many)
passes_whole names found name text bytes _ is (of_unit read many) = passes_short names found name text bytes too_many_unit_tokens is read.short (of_unit read many)
passes_whole names found name text bytes _ is (of_texts read few many) = passes_short names found name text bytes too_many_texts is read.short (of_texts read few many)

pub some_reads : {E : Type 0} (holds : Option Files) (p : Progress) (name : ℕ) (bytes given : List ℕ) (asked : List (Option ℕ)) (result : Result Progress E) → IsReadOf (HasDefinition holds p.names name) (Some bytes)
    → given ≡ bytes → asked ≡ p.asked ++ Some (length p.found) ∷ [] → IfOk result (λ q. Reads (progress_of p.names p.found asked) true name given q) → IfOk result (λ q. Asks holds p name q)
some_reads holds p name bytes given asked (Ok q) read is pushed reads = some_read holds p name bytes asked q read pushed (subst (λ b. Reads (progress_of p.names p.found asked) true name b q) is reads)
some_reads holds p name bytes given asked (Err e) read is pushed reads = tt

pub some_passes : (holds : Option Files) (p : Progress) (name : ℕ) (bytes : List ℕ) (limit : Limit) → IsReadOf (HasDefinition holds p.names name) (Some bytes)
    → Passes p.names p.found true name bytes limit → AskPasses holds p name limit
some_passes holds p name bytes limit read passes =
    let t = some_text bytes read.text read.front in
    record { bytes = t.0; has = subst (HasDefinition holds p.names name) t.1 read.is; passes = passes_whole p.names p.found name t.0 bytes limit t.2 passes }

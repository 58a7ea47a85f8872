-- From text to text.
use Rattle.std.proofs.Common.{◌≡◌, ℕ, ◌+◌, ◌-◌, ◌<◌, ◌≤◌, false, List, [], ◌∷◌, Option, Some, None, length, length-append, take, refl, sym, ◌∙◌, ap, subst, arith, Ok, Err}
use Rattle.std.specs.Prelude.{option_map, IfOk, Result}
use Rattle.std.proofs.lemmas.List.{length-take, take_all}
use Rattle.std.proofs.lemmas.Option.{slice_get_within}
use Rattle.m2_io.specs.Files.{Files}
use Rattle.m2_base.specs.Names.{number_in, standard_names, with_name}
use Rattle.def_import.specs.Answers.{unit_given, wrongs_given}
use Rattle.def_import.specs.Closure.{Progress, modules_named, next_module}
use Rattle.def_import.specs.Outcomes.{Asks, IsGathered, IsGatheredFrom, Limit, Passes, Reaches, Reads, Stops, StopsFrom, at_main, at_module, begun, is_there, long, main_read, not_there, of_texts, of_tokens, of_unit, then_asks, too_many_texts, too_many_tokens, too_many_unit_tokens}
use Rattle.def_import.specs.Shelves.{Has, IsReadOf, main_file}
use Rattle.def_import.specs.declared.gathering.Gathered.{Gathered}

pub asked_one_more : (holds : Option Files) (p q : Progress) (name : ℕ) → Asks holds p name q → length q.asked ≡ length p.asked + 1
asked_one_more holds p _ name (not_there has) = omega (arith, length-append p.asked (None ∷ []))
asked_one_more holds p _ name (is_there has reads) = omega (arith, ap (λ (x : Progress). length x.asked) reads.longer, length-append p.asked (Some (length p.found) ∷ []))

module _ (holds : Option Files) (file main : List ℕ) where
  pub main_reached : (bytes : List ℕ) (number : ℕ) (b p : Progress) → bytes ≡ file → b ≡ begun bytes → number_in (with_name standard_names bytes) bytes ≡ Some number → Reads b false number main p
      → Reaches holds file main p
  main_reached bytes number b p same is numbered reads =
      subst (λ (f : List ℕ). Reaches holds f main p) same (main_read numbered (subst (λ (x : Progress). Reads x false number main p) is reads))

  pub main_stops : (bytes : List ℕ) (number : ℕ) (b : Progress) (limit : Limit) → bytes ≡ file → b ≡ begun bytes → number_in (with_name standard_names bytes) bytes ≡ Some number
      → Passes b.names b.found false number main limit → Stops holds file main limit
  main_stops bytes number b limit same is numbered passes =
      subst (λ (f : List ℕ). Stops holds f main limit) same (at_main numbered (subst (λ (x : Progress). Passes x.names x.found false number main limit) is passes))

  pub few_modules : (p : Progress) → Reaches holds file main p → length (modules_named p.found) < 257
  few_modules _ (main_read {p = q} numbered reads) = omega (arith, reads.fits.texts, ap (λ (x : Progress). length (modules_named x.found)) reads.longer)
  few_modules _ (then_asks {p = p} reached next (not_there has)) = few_modules p reached
  few_modules _ (then_asks reached next (is_there has reads)) = omega (arith, reads.fits.texts, ap (λ (x : Progress). length (modules_named x.found)) reads.longer)

  pub asked_more : (other : Option Files) (p q : Progress) (name : ℕ) → Reaches holds file main p → next_module p ≡ Some name → Asks other p name q → 257 - length q.asked < 257 - length p.asked
  asked_more other p q name reached next asks =
      let within = slice_get_within (modules_named p.found) (length p.asked) name next in
      let more : length q.asked ≡ length p.asked + 1 = asked_one_more other p q name asks in
      omega (arith, within, more, few_modules p reached)

  -- a main text that is read isn't too long
  pub main_short : (p : Progress) → Reaches holds file main p → length main ≤ 1048576
  main_short p (main_read numbered reads) = reads.read.short
  main_short q (then_asks {p = p} reached next asks) = main_short p reached

-- ** The main text, as the shelf has it

whole : (text bytes : List ℕ) → bytes ≡ take 1048577 text → length bytes ≤ 1048576 → text ≡ bytes
whole text bytes is short =
    let few : length text ≤ 1048576 = omega (arith, ap length is, length-take 1048577 text, short) in
    sym (is ∙ take_all 1048577 text (omega (arith, few)))

some_text : (bytes : List ℕ) (text : Option (List ℕ)) → Some bytes ≡ option_map (take 1048577) text → (full : List ℕ) × (text ≡ Some full) × (bytes ≡ take 1048577 full)
some_text bytes None e = cc
some_text bytes (Some full) e = (full, refl, cc)

pub none_had : (holds : Option Files) (file : List ℕ) → IsReadOf (Has holds (main_file file)) None → Has holds (main_file file) None
none_had holds file read = subst (Has holds (main_file file)) (none_is read.text read.front) read.is
  where
    none_is : (text : Option (List ℕ)) → None ≡ option_map (take 1048577) text → text ≡ None
    none_is None e = refl
    none_is (Some text) e = cc

gathered_whole : (holds : Option Files) (file bytes given : List ℕ) (g : Gathered) → IsReadOf (Has holds (main_file file)) (Some bytes) → given ≡ bytes → IsGathered holds file given (unit_given g) (wrongs_given g)
    → IsGatheredFrom holds file (unit_given g) (wrongs_given g)
gathered_whole holds file bytes given g read same gathered =
    let t = some_text bytes read.text read.front in
    let short : length bytes ≤ 1048576 = omega (arith, main_short holds file given gathered.progress gathered.reached, ap length same) in
    record {
      main = given;
      had = subst (λ (b : List ℕ). Has holds (main_file file) (Some b)) (whole t.0 bytes t.2 short ∙ sym same) (subst (Has holds (main_file file)) t.1 read.is);
      gathered = gathered;
    }

pub gathered_from : {E : Type 0} (holds : Option Files) (file bytes given : List ℕ) (result : Result Gathered E) → IsReadOf (Has holds (main_file file)) (Some bytes) → given ≡ bytes
    → IfOk result (λ g. IsGathered holds file given (unit_given g) (wrongs_given g)) → IfOk result (λ g. IsGatheredFrom holds file (unit_given g) (wrongs_given g))
gathered_from holds file bytes given (Ok g) read same gathered = gathered_whole holds file bytes given g read same gathered
gathered_from holds file bytes given (Err e) read same gathered = tt

stops_whole : (holds : Option Files) (file text bytes : List ℕ) (limit : Limit) → bytes ≡ take 1048577 text → length bytes ≤ 1048576 → Stops holds file bytes limit → Stops holds file text limit
stops_whole holds file text bytes limit is short stops = subst (λ (b : List ℕ). Stops holds file b limit) (sym (whole text bytes is short)) stops

stops_of : (holds : Option Files) (file text bytes : List ℕ) (limit : Limit) → bytes ≡ take 1048577 text → Stops holds file bytes limit → Stops holds file text limit
stops_of holds file text bytes _ is (at_main numbered (long h)) = at_main numbered (long (omega (arith, ap length is, length-take 1048577 text, h)))
stops_of holds file text bytes _ is (at_main numbered (of_tokens short many)) = stops_whole holds file text bytes too_many_tokens is short (at_main numbered (of_tokens short many))
stops_of holds file text bytes _ is (at_main numbered (of_unit read many)) = stops_whole holds file text bytes too_many_unit_tokens is read.short (at_main numbered (of_unit read many))
stops_of holds file text bytes _ is (at_main numbered (of_texts read few many)) = stops_whole holds file text bytes too_many_texts is read.short (at_main numbered (of_texts read few many))
stops_of holds file text bytes limit is (at_module {p = p} reached next passes) = stops_whole holds file text bytes limit is (main_short holds file bytes p reached) (at_module reached next passes)

pub stops_from : (holds : Option Files) (file bytes given : List ℕ) (limit : Limit) → IsReadOf (Has holds (main_file file)) (Some bytes) → given ≡ bytes → Stops holds file given limit → StopsFrom holds file limit
stops_from holds file bytes given limit read same stops =
    let t = some_text bytes read.text read.front in
    record {
      main = t.0;
      had = subst (Has holds (main_file file)) t.1 read.is;
      stops = stops_of holds file t.0 bytes limit t.2 (subst (λ (b : List ℕ). Stops holds file b limit) same stops);
    }

-- What is known of a unit that is gathered, with whose imports nothing is wrong: nothing is left out of it, and its first text is of the
-- module that was asked for.
use Rattle.std.proofs.Common.{◌≡◌, ℕ, ◌<◌, ◌≤◌, false, List, [], ◌∷◌, ◌++◌, Option, Some, length, length-append, map, get_or, refl, sym, ◌∙◌, ap, subst, arith, slice_get}
use Rattle.std.proofs.lemmas.List.{get_or_append_left}
use Rattle.m2_io.specs.Files.{Files}
use Rattle.m2_base.specs.Lists.{IsPrefixOf}
use Rattle.m2_base.specs.Names.{number_in, standard_names, with_name}
use Rattle.m2_base.specs.Tokens.{AreTokens, names_in}
use Rattle.m2_base.specs.Units.{IsUnit, TextOf, UnitTexts}
use Rattle.m2_base.specs.declared.token.Token.{Token}
use Rattle.m2_base.proofs.Numbers.{number_in-below, with_names-grows}
use Rattle.m2_lex.proofs.TextUnit.{text_at}
use Rattle.def_import.specs.Answers.{IsWhole}
use Rattle.def_import.specs.Closure.{Found, Progress}
use Rattle.def_import.specs.Outcomes.{IsGathered, Reaches, Reads, begun, is_there, main_read, not_there, then_asks}
use Rattle.def_import.specs.declared.gathering.Gathered.TheVariants.{Whole}
use Rattle.def_import.proofs.WholeUnits.{said_whole}
use Rattle.unit_merge.specs.Objects.{name_in, spelled}

-- ** The name of the first text

names_grow : (old new : List (List ℕ)) (bytes : List ℕ) (tokens : List Token) → AreTokens old new bytes tokens → IsPrefixOf old new
names_grow old new bytes tokens are = let grown = with_names-grows old (names_in are.lexemes) in record { rest = grown.0; joined = sym grown.1 ∙ sym are.names }

grown_name : (old new : List (List ℕ)) → IsPrefixOf old new → (k : ℕ) → k < length old → get_or new k [] ≡ get_or old k []
grown_name old new grows k low = ap (λ (all : List (List ℕ)). get_or all k []) (sym grows.joined) ∙ get_or_append_left old grows.rest [] k low

grown_length : (old new : List (List ℕ)) → IsPrefixOf old new → length old ≤ length new
grown_length old new grows = omega (arith, ap length grows.joined, length-append old grows.rest)

still_first : (found more : List Found) (main : Found) → slice_get found 0 ≡ Some main → slice_get (found ++ more) 0 ≡ Some main
still_first [] more main e = absurd cc
still_first (f ∷ found) more main e = e

-- the first text is of the module in this file
record IsOfModule (file : List ℕ) (p : Progress) : Type 0 where
  main : Found
  at : slice_get p.found 0 ≡ Some main
  inside : main.text.name < length p.names
  named : get_or p.names main.text.name [] ≡ file

module _ (holds : Option Files) (file main : List ℕ) where
  first_read : (number : ℕ) (p : Progress) → number_in (with_name standard_names file) file ≡ Some number → Reads (begun file) false number main p → IsOfModule file p
  first_read number p numbered reads =
      let old = with_name standard_names file in
      let grows = names_grow old reads.names main reads.found.text.tokens reads.read.tokens in
      let name : reads.found.text.name ≡ number = ap (λ (t : TextOf). t.name) reads.read.text in
      let there : number < length old = number_in-below old file number numbered in
      subst (IsOfModule file) (sym reads.longer) (record {
        main = reads.found;
        at = refl;
        inside = omega (arith, name, there, grown_length old reads.names grows);
        named = ap (λ k. get_or reads.names k []) name ∙ grown_name old reads.names grows number there ∙ text_at old file number numbered;
      })

  reached_module : (p : Progress) → Reaches holds file main p → IsOfModule file p
  reached_module p (main_read {number = number} numbered reads) = first_read number p numbered reads
  reached_module _ (then_asks {p = p} reached next (not_there has)) = let h = reached_module p reached in record { main = h.main; at = h.at; inside = h.inside; named = h.named }
  reached_module q (then_asks {p = p} reached next (is_there {bytes = text} has reads)) =
      let h = reached_module p reached in
      let grows = names_grow p.names reads.names text reads.found.text.tokens reads.read.tokens in
      subst (IsOfModule file) (sym reads.longer) (record {
        main = h.main;
        at = still_first p.found (reads.found ∷ []) h.main h.at;
        inside = omega (arith, h.inside, grown_length p.names reads.names grows);
        named = grown_name p.names reads.names grows h.main.text.name h.inside ∙ h.named;
      })

first_name : (found : List Found) (main : Found) → slice_get found 0 ≡ Some main → name_in (slice_get (map (λ (f : Found). f.text) found) 0) ≡ main.text.name
first_name [] main e = absurd cc
first_name (f ∷ found) main e = let same : f ≡ main = cc in ap (λ (x : Found). x.text.name) same

-- ** The unit

module _ (holds : Option Files) (file main : List ℕ) (unit : UnitTexts) (g : IsGathered holds file main unit []) where
  pub is_whole : IsUnit unit → IsWhole unit
  is_whole is = said_whole holds file main g.progress (Whole unit) (subst IsUnit g.texts is) g.reached g.texts g.wrong

  -- the first text has the name of the module that was asked for
  pub has_name : spelled unit.names (name_in (slice_get unit.list 0)) ≡ file
  has_name =
      let h = reached_module holds file main g.progress g.reached in
      ap (λ (u : UnitTexts). spelled u.names (name_in (slice_get u.list 0))) g.texts ∙ ap (spelled g.progress.names) (first_name g.progress.found h.main h.at) ∙ h.named

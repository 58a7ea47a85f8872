-- Where nothing is refused all imports are met.
use Rattle.std.proofs.Common.{◌≡◌, ◌≢◌, ℕ, suc, ◌-◌, ◌<◌, ◌^◌, Bool, true, false, cond, eqb, List, [], ◌∷◌, length, map, Option, Some, None, refl, sym, ap, subst, ◌∙◌, arith}
use Rattle.std.specs.Prelude.{◌&&◌, ◌||◌, not, option_map}
use Rattle.std.specs.List.{AllByRecursion}
use Rattle.std.specs.Str.{bytes_eq}
use Rattle.std.proofs.lemmas.Bool.{eqb-true, false≢true}
use Rattle.std.proofs.lemmas.Slice.Eq.{bytes_eq-Decides}
use Rattle.code_form.specs.Heights.{Callee}
use Rattle.code_form.specs.Modules.{Import}
use Rattle.object_file.specs.Contents.{Export, KeyedImport, Contents, definitions_of}
use Rattle.object_file.specs.Views.{heading_of}
use Rattle.object_file.specs.Naming.{object_named, name_again}
use Rattle.object_file.specs.Programs.{in_out, built_in, empty, IsMet, apart, by, AreLinked, given_headings}
use Rattle.object_file.proofs.Directing.{named_is}
use Rattle.m2_link.specs.Refusals.{twice, missing, key_differs, lacks, is_in_out, is_missing, Given, given_by, in_out_given, same_headings, agrees, object_at, disagrees, differs, first_in, or_else, first_import, first_missing, first_differing, refusal}

both : (a b : Bool) → a && b ≡ true → (a ≡ true) × (b ≡ true)
both true b e = (refl, e)
both false b e = absurd cc

negated : (a : Bool) → not a ≡ false → a ≡ true
negated true e = refl
negated false e = absurd cc

-- ---- what agrees

same_are : (cs ds : List Callee) → same_headings cs ds ≡ true → cs ≡ ds
same_are [] [] e = refl
same_are [] (d ∷ ds) e = absurd cc
same_are (c ∷ cs) [] e = absurd cc
same_are (c ∷ cs) (d ∷ ds) e =
    let p = both (eqb c.params d.params && eqb c.result d.result) (same_headings cs ds) e in
    let r = both (eqb c.params d.params) (eqb c.result d.result) p.0 in
    ap (λ (n : ℕ). record { params = n; result = c.result } ∷ cs) (eqb-true c.params d.params r.0)
    ∙ ap (λ (n : ℕ). record { params = d.params; result = n } ∷ cs) (eqb-true c.result d.result r.1)
    ∙ ap (λ (xs : List Callee). d ∷ xs) (same_are cs ds p.1)

agreed : (version : ℕ) (i : KeyedImport) (g : Given) → agrees version i g ≡ true → (i.definition.cells ≡ g.cells) × (g.headings ≡ i.definition.headings)
agreed version i g e =
    let p = both (eqb i.definition.cells g.cells && same_headings g.headings i.definition.headings) (not (eqb version 2 && eqb g.version 2) || bytes_eq i.key g.key) e in
    let q = both (eqb i.definition.cells g.cells) (same_headings g.headings i.definition.headings) p.0 in
    (eqb-true i.definition.cells g.cells q.0, same_are g.headings i.definition.headings q.1)

-- ---- an import

nothing_in : (xs : List Callee) → eqb (length xs) 0 ≡ true → xs ≡ []
nothing_in [] e = refl
nothing_in (x ∷ xs) e = let h = eqb-true (length (x ∷ xs)) 0 e in absurd (omega (arith, h))

import_is : (i j : Import) → i.name ≡ j.name → i.cells ≡ j.cells → i.headings ≡ j.headings → i ≡ j
import_is i j n c h =
    ap (λ (x : List ℕ). record { name = x; cells = i.cells; headings = i.headings }) n
    ∙ ap (λ (x : ℕ). record { name = j.name; cells = x; headings = i.headings }) c
    ∙ ap (λ (x : List Callee). record { name = j.name; cells = j.cells; headings = x }) h

met_one : (os : List Contents) (o : Contents) (i : KeyedImport) → is_missing os i.definition ≡ false → differs os o i ≡ false → IsMet os i.definition
met_one os o i m d = of_name (is_in_out i.definition) refl m d where
  at_place : (x : Option ℕ) → object_named os i.definition.name ≡ x → i.definition.name ≢ in_out.name → lacks x i.definition ≡ false → is_in_out i.definition ≡ false → disagrees o.version i (object_at os x) ≡ false → IsMet os i.definition
  at_place (Some k) e other m name d =
      let h = named_is os i.definition.name k e in
      let a = agreed o.version i (given_by h.0) (negated (agrees o.version i (given_by h.0)) (subst (λ (x : Option Contents). disagrees o.version i x ≡ false) h.2 d)) in
      by k h.0 h.2 other (sym h.3) (sym a.0) a.1
  at_place None e other m name d = needs (eqb i.definition.cells 0) (eqb (length i.definition.headings) 0) refl refl (subst (λ (b : Bool). (not b && not (eqb i.definition.cells 0 && eqb (length i.definition.headings) 0)) && true ≡ false) name m) where
    needs : (a b : Bool) → eqb i.definition.cells 0 ≡ a → eqb (length i.definition.headings) 0 ≡ b → (not false && not (a && b)) && true ≡ false → IsMet os i.definition
    needs true true c h e = apart (empty other (eqb-true i.definition.cells 0 c) (nothing_in i.definition.headings h))
    needs true false c h e = absurd cc
    needs false b c h e = absurd cc

  of_name : (b : Bool) → is_in_out i.definition ≡ b → is_missing os i.definition ≡ false → cond b (not (agrees o.version i in_out_given)) (disagrees o.version i (object_at os (object_named os i.definition.name))) ≡ false → IsMet os i.definition
  of_name true e m d =
      let a = agreed o.version i in_out_given (negated (agrees o.version i in_out_given) d) in
      apart (built_in (import_is i.definition in_out ((bytes_eq-Decides i.definition.name in_out.name).0 e) a.0 (sym a.1)))
  of_name false e m d = at_place (object_named os i.definition.name) refl (λ same. false≢true (sym e ∙ (bytes_eq-Decides i.definition.name in_out.name).1 same)) m e d

-- ---- all imports

no_first : (test : KeyedImport → Bool) (is : List KeyedImport) → first_in test is ≡ None → AllByRecursion (λ i. test i ≡ false) is
no_first test [] e = tt
no_first test (i ∷ is) e = on (test i) refl e (no_first test is) where
  on : (b : Bool) → test i ≡ b → cond b (Some i.definition.name) (first_in test is) ≡ None → (first_in test is ≡ None → AllByRecursion (λ j. test j ≡ false) is) → AllByRecursion (λ j. test j ≡ false) (i ∷ is)
  on true t e more = absurd cc
  on false t e more = (t, more e)

split : (x y : Option (List ℕ)) → or_else x y ≡ None → (x ≡ None) × (y ≡ None)
split None y e = (refl, e)
split (Some n) y e = absurd cc

no_import : (test : Contents → KeyedImport → Bool) (os : List Contents) → first_import test os ≡ None → AllByRecursion (λ o. AllByRecursion (λ i. test o i ≡ false) o.imports) os
no_import test [] e = tt
no_import test (o ∷ os) e = let s = split (first_in (test o) o.imports) (first_import test os) e in (no_first (test o) o.imports s.0, no_import test os s.1)

met_in : (os : List Contents) (o : Contents) (is : List KeyedImport) → AllByRecursion (λ i. is_missing os i.definition ≡ false) is → AllByRecursion (λ i. differs os o i ≡ false) is → AllByRecursion (IsMet os) (map (λ i. i.definition) is)
met_in os o [] m d = tt
met_in os o (i ∷ is) m d = (met_one os o i m.0 d.0, met_in os o is m.1 d.1)

met_of : (os all : List Contents) → AllByRecursion (λ o. AllByRecursion (λ i. is_missing all i.definition ≡ false) o.imports) os → AllByRecursion (λ o. AllByRecursion (λ i. differs all o i ≡ false) o.imports) os → AllByRecursion (λ o. AllByRecursion (IsMet all) (definitions_of o)) os
met_of [] all m d = tt
met_of (o ∷ os) all m d = (met_in all o o.imports m.0 d.0, met_of os all m.1 d.1)

-- what nothing refused comes to
pub nothing_refused : (os : List Contents) → refusal os ≡ None → (name_again os ≡ None) × (first_missing os ≡ None) × (first_differing os ≡ None)
unfolding refusal
nothing_refused os e = on (name_again os) (first_missing os) (first_differing os) e where
  on : (a b c : Option (List ℕ)) → or_else (option_map twice a) (or_else (option_map missing b) (option_map key_differs c)) ≡ None → (a ≡ None) × (b ≡ None) × (c ≡ None)
  on None None None e = (refl, refl, refl)
  on None None (Some c) e = absurd cc
  on None (Some b) c e = absurd cc
  on (Some a) b c e = absurd cc

pub refuses_nothing : (os : List Contents) → name_again os ≡ None → first_missing os ≡ None → first_differing os ≡ None → refusal os ≡ None
unfolding refusal
refuses_nothing os a b c = rw (a, b, c) refl

pub refuses_twice : (os : List Contents) (name : List ℕ) → name_again os ≡ Some name → refusal os ≡ Some (twice name)
unfolding refusal
refuses_twice os name a = rw a refl

pub refuses_missing : (os : List Contents) (name : List ℕ) → name_again os ≡ None → first_missing os ≡ Some name → refusal os ≡ Some (missing name)
unfolding refusal
refuses_missing os name a b = rw (a, b) refl

pub refuses_differing : (os : List Contents) (name : List ℕ) → name_again os ≡ None → first_missing os ≡ None → first_differing os ≡ Some name → refusal os ≡ Some (key_differs name)
unfolding refusal
refuses_differing os name a b c = rw (a, b, c) refl

pub accepted_linked : (os : List Contents) → refusal os ≡ None → 0 < length os → length os < 2 ^ 32 - 1 → AreLinked os
accepted_linked os e some few =
    let n = nothing_refused os e in
    record { some = some; few = few; names_differ = n.0; met = met_of os os (no_import (λ o i. is_missing os i.definition) os n.1) (no_import (differs os) os n.2) }

-- ---- lists of headings

none_true : (b : Bool) → b && false ≡ false
none_true true = refl
none_true false = refl

pub lengths_differ : (es : List Export) (hs : List (ℕ × ℕ)) → length es ≢ length hs → false ≡ same_headings (given_headings es) (map heading_of hs)
lengths_differ [] [] d = absurd (d refl)
lengths_differ [] (h ∷ hs) d = refl
lengths_differ (e ∷ es) [] d = refl
lengths_differ (e ∷ es) (h ∷ hs) d =
    let same = eqb e.1 h.0 && eqb e.2 h.1 in
    sym (none_true same) ∙ ap (λ (b : Bool). same && b) (lengths_differ es hs (λ n. d (ap suc n)))

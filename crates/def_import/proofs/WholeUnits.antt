-- Where nothing is wrong with the texts that are reached, nothing is left out of their unit.
use Rattle.std.proofs.Common.{◌≡◌, ℕ, zero, suc, ◌+◌, ◌<◌, Bool, true, false, ◌&&◌, not, List, [], ◌∷◌, ◌++◌, Option, Some, None, length, map, refl, sym, ◌∙◌, ap, subst, arith, slice_get, if◌then◌else◌, is_none, nat_eq, nat_lt, inl, inr}
use Rattle.std.specs.Prelude.{option_map}
use Rattle.std.proofs.lemmas.Bool.{eq-eqb, eqb-true, lt-ltb, true≢false}
use Rattle.std.proofs.lemmas.List.{length-map}
use Rattle.std.proofs.lemmas.Option.{slice_get_within}
use Rattle.m2_io.specs.Files.{Files}
use Rattle.m2_base.specs.Fronts as fronts
use Rattle.m2_base.specs.Fronts.{IsFront, named, nameless}
use Rattle.m2_base.specs.Lists.{Each, IsIn}
use Rattle.m2_base.specs.Units.{AllDiffer, Front, HasOneMain, IsDefinition, IsOwnBy, IsTextOf, IsUnit, StandsBefore, TextOf, definitions_of}
use Rattle.m2_base.specs.declared.diagnostic.Diagnostic.TheVariants.{CircularImports, NoDefinitionText, OtherModuleName}
use Rattle.m2_base.specs.declared.diagnostic.Diagnostic.{Diagnostic}
use Rattle.m2_base.specs.declared.token.Token.{Token}
use Rattle.m2_base.specs.declared.trees.Ident.{Ident}
use Rattle.m2_parse.proofs.FrontLaws.{one_front}
use Rattle.def_import.specs.Answers.{HasFrontBy, HasNoOther, IsWhole, IsWholeWhereSaid, unit_given, wrongs_given}
use Rattle.def_import.specs.Closure.{Found, Progress, front_by_names, names_of, own_name, text_of_module}
use Rattle.def_import.specs.Dependencies.{definitions, dependency_order, is_in, needs_of, one_number, texts_of_modules}
use Rattle.def_import.specs.Outcomes.{Reaches, own_text, text_told, unit_in}
use Rattle.def_import.specs.Wrongs.{is_circular, is_missing, missing_imports, no_own, wrong_at, wrong_name, wrongs_from, wrongs_in, wrongs_of}
use Rattle.def_import.specs.declared.gathering.Gathered.TheVariants.{Whole, Wrong}
use Rattle.def_import.specs.declared.gathering.Gathered.{Gathered}
use Rattle.def_import.proofs.Asking.{each_at}
use Rattle.def_import.proofs.FoundTexts.{HasFront, IsRight, module_text, reached_right}
use Rattle.def_import.proofs.Places.{differ_at, each_of, is_among, mapped_at, mapped_in, nothing_at, some_is, some_none}
use Rattle.def_import.proofs.Rounds.{free_taken, needs_before}
use Rattle.def_import.proofs.UnitKept.{definitions_named, file_names}

-- ** The front of a text, found by its name

abbrev none_told : fronts.Front
none_told = record { name = None; implementation = false; imports = [] }

abbrev front_named : List Found → ℕ → fronts.Front
front_named [] name = none_told
front_named (f ∷ found) name = if nat_eq f.text.name name then f.front else front_named found name

abbrev front_told : List Found → TextOf → Front
front_told [] t = front_by_names none_told
front_told (main ∷ found) t = if t.definition then front_by_names (front_named found t.name) else front_by_names main.front

named_front : (found : List Found) (i : ℕ) (f : Found) → AllDiffer (file_names found) → slice_get found i ≡ Some f → front_named found f.text.name ≡ f.front
named_front [] i f d at = cc
named_front (g ∷ found) zero f d at =
    let this : g ≡ f = cc in
    ap (λ b. if b then g.front else front_named found f.text.name) (eq-eqb g.text.name f.text.name (ap (λ (x : Found). x.text.name) this)) ∙ ap (λ (x : Found). x.front) this
named_front (g ∷ found) (suc i) f d at = go (nat_eq g.text.name f.text.name) refl (named_front found i f d.1 at)
  where
    go : (b : Bool) → nat_eq g.text.name f.text.name ≡ b → front_named found f.text.name ≡ f.front → (if b then g.front else front_named found f.text.name) ≡ f.front
    go true e behind = absurd (d.0 (subst (λ n. IsIn n (file_names found)) (sym (eqb-true g.text.name f.text.name e)) (mapped_in (λ (x : Found). x.text.name) found i f at)))
    go false e behind = behind

abbrev told_in : Progress → TextOf → Front
told_in p = front_told p.found

text_front : (found : List Found) (i : ℕ) (f : Found) → HasOneMain (map (λ (g : Found). g.text) found) → AllDiffer (file_names (definitions found)) → slice_get found i ≡ Some f
    → front_told found f.text ≡ front_by_names f.front
text_front [] i f one d at = cc
text_front (main ∷ found) zero f one d at =
    let this : main ≡ f = cc in
    ap (λ b. if b then front_by_names (front_named found f.text.name) else front_by_names main.front) (sym (ap (λ (g : Found). g.text.definition) this) ∙ one.0)
    ∙ ap (λ (g : Found). front_by_names g.front) this
text_front (main ∷ found) (suc i) f one d at =
    let definition : f.text.definition ≡ true = definition_at found i one.1 at in
    ap (λ b. if b then front_by_names (front_named found f.text.name) else front_by_names main.front) definition ∙ ap front_by_names (named_front found i f d at)
  where
    definition_at : (found : List Found) (i : ℕ) → Each (λ (t : TextOf). t.definition ≡ true) (map (λ (g : Found). g.text) found) → slice_get found i ≡ Some f → f.text.definition ≡ true
    definition_at [] i all at = cc
    definition_at (g ∷ found) zero all at = let this : g ≡ f = cc in sym (ap (λ (x : Found). x.text.definition) this) ∙ all.0
    definition_at (g ∷ found) (suc i) all at = definition_at found i all.1 at

-- ** What isn't wrong

parts_empty : {A : Type 0} (xs ys : List A) → xs ++ ys ≡ [] → (xs ≡ []) × (ys ≡ [])
parts_empty [] ys e = (refl, e)
parts_empty (x ∷ xs) ys e = cc

not_wrong : (text : ℕ) (i : Ident) (diagnostic : Diagnostic) (b : Bool) → wrong_at text i diagnostic b ≡ [] → b ≡ false
not_wrong text i diagnostic true e = cc
not_wrong text i diagnostic false e = refl

not_wrong_at : (p : Progress) (order : List ℕ) (text : ℕ) (found : List Found) (i : ℕ) (f : Found) → wrongs_from p order text found ≡ [] → slice_get found i ≡ Some f
    → wrongs_in p order (text + i) f ≡ []
not_wrong_at p order text [] i f e at = cc
not_wrong_at p order text (g ∷ found) zero f e at =
    let this : g ≡ f = cc in
    let here : text ≡ text + 0 = omega arith in
    subst (λ n. wrongs_in p order n f ≡ []) here (subst (λ (x : Found). wrongs_in p order text x ≡ []) this (parts_empty (wrongs_in p order text g) (wrongs_from p order (text + 1) found) e).0)
not_wrong_at p order text (g ∷ found) (suc i) f e at =
    let there : text + 1 + i ≡ text + suc i = omega arith in
    subst (λ n. wrongs_in p order n f ≡ []) there (not_wrong_at p order (text + 1) found i f (parts_empty (wrongs_in p order text g) (wrongs_from p order (text + 1) found) e).1 at)

abbrev IsThere : Progress → ℕ → Type 0
IsThere p name = (k : ℕ) × (text_of_module p name ≡ Some k)

not_missing : (p : Progress) (name : ℕ) → is_none (text_of_module p name) ≡ false → IsThere p name
not_missing p name e = go (text_of_module p name) refl e
  where
    go : (o : Option ℕ) → text_of_module p name ≡ o → is_none o ≡ false → IsThere p name
    go None is e = absurd (true≢false e)
    go (Some k) is e = (k, is)

none_missing : (p : Progress) (text : ℕ) (imports : List Ident) → missing_imports p text imports ≡ [] → Each (IsThere p) (names_of imports)
none_missing p text [] e = tt
none_missing p text (i ∷ imports) e =
    let parts = parts_empty (wrong_at text i NoDefinitionText (is_missing p i)) (missing_imports p text imports) e in
    (not_missing p i.name (not_wrong text i NoDefinitionText (is_missing p i) parts.0), none_missing p text imports parts.1)

named_as_told : (order : List ℕ) (text : ℕ) (f : Found) (o : Option Ident) (name : ℕ) → wrong_name order text f o ≡ [] → option_map (λ (i : Ident). i.name) o ≡ Some name → name ≡ f.text.name
named_as_told order text f None name e is = cc
named_as_told order text f (Some i) name e is =
    let same : i.name ≡ name = some_is i.name name is in
    let right = not_wrong text i OtherModuleName (not (nat_eq i.name f.text.name)) (parts_empty (wrong_at text i OtherModuleName (not (nat_eq i.name f.text.name))) _ e).0 in
    sym same ∙ equal (nat_eq i.name f.text.name) refl right
  where
    equal : (b : Bool) → nat_eq i.name f.text.name ≡ b → not b ≡ false → i.name ≡ f.text.name
    equal true e h = eqb-true i.name f.text.name e
    equal false e h = absurd (true≢false h)

-- ** Needs

import_needed : (p : Progress) (name k : ℕ) (names : List ℕ) → IsIn name names → text_of_module p name ≡ Some k → IsIn k (texts_of_modules p names)
import_needed p name k [] i e = absurd i
import_needed p name k (n ∷ names) (inl same) e =
    let is : text_of_module p n ≡ Some k = ap (text_of_module p) (sym same) ∙ e in
    subst (λ o. IsIn k (one_number o ++ texts_of_modules p names)) (sym is) (inl refl)
import_needed p name k (n ∷ names) (inr i) e = behind (text_of_module p n) (import_needed p name k names i e)
  where
    behind : (o : Option ℕ) → IsIn k (texts_of_modules p names) → IsIn k (one_number o ++ texts_of_modules p names)
    behind None i = i
    behind (Some j) i = inr i

-- a text without a name imports nothing
nameless_free : (definition : Bool) (f : Found) → IsFront definition f.text.tokens f.front → f.front.name ≡ None → f.front.imports ≡ []
nameless_free definition f is none = go f.text.tokens f.front is none
  where
    go : (ts : List Token) (front : fronts.Front) → IsFront definition ts front → front.name ≡ None → front.imports ≡ []
    go ts _ (nameless broken) none = refl
    go ts _ (named opens behind) none = absurd (some_none _ none)

definition_at : (found : List Found) (n : ℕ) (f : Found) → 0 < n → slice_get found n ≡ Some f → (i : ℕ) × (n ≡ 1 + i) × (slice_get (definitions found) i ≡ Some f)
definition_at [] n f later at = cc
definition_at (main ∷ found) zero f later at = absurd (omega (arith, later))
definition_at (main ∷ found) (suc i) f later at = (i, omega arith, at)

-- ** All together

module _ (p : Progress) (unit : IsUnit (unit_in p)) (h : IsRight p) (right : wrongs_of p ≡ []) where
  found_at : (n : ℕ) (t : TextOf) → slice_get (unit_in p).list n ≡ Some t → (f : Found) × (slice_get p.found n ≡ Some f) × (f.text ≡ t)
  found_at n t at = mapped_at (λ (f : Found). f.text) p.found n t at

  within : (n : ℕ) (f : Found) → slice_get p.found n ≡ Some f → n < length (unit_in p).list
  within n f at = omega (arith, slice_get_within p.found n f at, length-map p.found (λ (g : Found). g.text))

  told_is : (n : ℕ) (f : Found) → slice_get p.found n ≡ Some f → told_in p f.text ≡ front_by_names f.front
  told_is n f at = text_front p.found n f unit.main (subst AllDiffer (definitions_named p.found) unit.differ) at

  -- what is said of a text
  right_at : (n : ℕ) (f : Found) → slice_get p.found n ≡ Some f → wrongs_in p (dependency_order p) n f ≡ []
  right_at n f at = let here : 0 + n ≡ n = omega arith in subst (λ k. wrongs_in p (dependency_order p) k f ≡ []) here (not_wrong_at p (dependency_order p) 0 p.found n f right at)

  at_name : (n : ℕ) (f : Found) → slice_get p.found n ≡ Some f → no_own p n (own_name f.front) ++ wrong_name (dependency_order p) n f f.front.name ≡ []
  at_name n f at = (parts_empty (no_own p n (own_name f.front) ++ wrong_name (dependency_order p) n f f.front.name) (missing_imports p n f.front.imports) (right_at n f at)).0

  own_right : (n : ℕ) (f : Found) → slice_get p.found n ≡ Some f → no_own p n (own_name f.front) ≡ []
  own_right n f at = (parts_empty (no_own p n (own_name f.front)) (wrong_name (dependency_order p) n f f.front.name) (at_name n f at)).0

  name_right : (n : ℕ) (f : Found) → slice_get p.found n ≡ Some f → wrong_name (dependency_order p) n f f.front.name ≡ []
  name_right n f at = (parts_empty (no_own p n (own_name f.front)) (wrong_name (dependency_order p) n f f.front.name) (at_name n f at)).1

  imports_there : (n : ℕ) (f : Found) → slice_get p.found n ≡ Some f → Each (IsThere p) (names_of f.front.imports)
  imports_there n f at =
      none_missing p n f.front.imports
      (parts_empty (no_own p n (own_name f.front) ++ wrong_name (dependency_order p) n f f.front.name) (missing_imports p n f.front.imports) (right_at n f at)).1

  -- a module that is there has its text
  text_there : (name k : ℕ) → text_of_module p name ≡ Some k → IsTextOf (unit_in p) name k
  text_there name k is =
      let m = module_text p name k h is in
      record {
        definition = (m.later, within k m.text m.at);
        named = λ t at. let f = found_at k t at in let same : f.0 ≡ m.text = some_is f.0 m.text (sym f.1 ∙ m.at) in sym (ap (λ (x : TextOf). x.name) f.2) ∙ ap (λ (x : Found). x.text.name) same ∙ m.named;
      }

  module_there : (name : ℕ) → IsThere p name → (k : ℕ) × IsTextOf (unit_in p) name k
  module_there name there = (there.0, text_there name there.0 there.1)

  each_module : (names : List ℕ) → Each (IsThere p) names → Each (λ name. (k : ℕ) × IsTextOf (unit_in p) name k) names
  each_module [] there = tt
  each_module (name ∷ names) there = (module_there name there.0, each_module names there.1)

  all_imported : (n : ℕ) (t : TextOf) → slice_get (unit_in p).list n ≡ Some t → Each (λ name. (k : ℕ) × IsTextOf (unit_in p) name k) (told_in p t).imports
  all_imported n t at =
      let f = found_at n t at in
      subst (λ (x : TextOf). Each (λ name. (k : ℕ) × IsTextOf (unit_in p) name k) (told_in p x).imports) f.2
      (subst (λ (x : Front). Each (λ name. (k : ℕ) × IsTextOf (unit_in p) name k) x.imports) (sym (told_is n f.0 f.1)) (each_module (names_of f.0.front.imports) (imports_there n f.0 f.1)))

  as_told : (n : ℕ) (t : TextOf) → slice_get (unit_in p).list n ≡ Some t → (name : ℕ) → (told_in p t).name ≡ Some name → name ≡ t.name
  as_told n t at name is =
      let f = found_at n t at in
      let front : told_in p t ≡ front_by_names f.0.front = ap (told_in p) (sym f.2) ∙ told_is n f.0 f.1 in
      named_as_told (dependency_order p) n f.0 f.0.front.name name (name_right n f.0 f.1) (sym (ap (λ (x : Front). x.name) front) ∙ is) ∙ ap (λ (x : TextOf). x.name) f.2

  -- the own definition
  own_there : (main : Found) → slice_get p.found 0 ≡ Some main → IsOwnBy (unit_in p) (front_by_names main.front) (text_told p (own_name main.front))
  own_there main at = go main.front.implementation main.front.name refl refl (own_right 0 main at)
    where
      at_text : (i : Ident) (o : Option ℕ) → main.front.implementation ≡ true → main.front.name ≡ Some i → text_of_module p i.name ≡ o → is_none o ≡ false
          → IsOwnBy (unit_in p) (front_by_names main.front) o
      at_text i None implementation name is there = absurd (true≢false there)
      at_text i (Some k) implementation name is there = (implementation, i.name, ap (option_map (λ (x : Ident). x.name)) name, text_there i.name k is)

      go : (implementation : Bool) (name : Option Ident) → main.front.implementation ≡ implementation → main.front.name ≡ name → no_own p 0 (if implementation then name else None) ≡ []
          → IsOwnBy (unit_in p) (front_by_names main.front) (text_told p (if implementation then name else None))
      go false name is_one is_named e = λ implementation. absurd (true≢false (sym implementation ∙ is_one))
      go true None is_one is_named e = λ implementation. ap (option_map (λ (x : Ident). x.name)) is_named
      go true (Some i) is_one is_named e = at_text i (text_of_module p i.name) is_one is_named refl (not_wrong 0 i NoDefinitionText (is_missing p i) e)

  own_told : (main : TextOf) → slice_get (unit_in p).list 0 ≡ Some main → IsOwnBy (unit_in p) (told_in p main) (unit_in p).own
  own_told main at =
      let f = found_at 0 main at in
      let front : told_in p main ≡ front_by_names f.0.front = ap (told_in p) (sym f.2) ∙ told_is 0 f.0 f.1 in
      subst (λ (x : Front). IsOwnBy (unit_in p) x (own_text p p.found)) (sym front)
      (subst (λ o. IsOwnBy (unit_in p) (front_by_names f.0.front) o) (sym (own_is p.found f.0 f.1)) (own_there f.0 f.1))
    where
      own_is : (found : List Found) (f : Found) → slice_get found 0 ≡ Some f → own_text p found ≡ text_told p (own_name f.front)
      own_is [] f at = cc
      own_is (g ∷ found) f at = let this : g ≡ f = cc in ap (λ (x : Found). text_told p (own_name x.front)) this

  -- the order
  each_taken : (n : ℕ) (f : Found) → 0 < n → slice_get p.found n ≡ Some f → is_in (dependency_order p) n ≡ true
  each_taken n f later at = go f.front.name refl (name_right n f at)
    where
      circular : (b : Bool) → is_in (dependency_order p) n ≡ b → (nat_lt 0 n && not b) ≡ false → is_in (dependency_order p) n ≡ true
      circular true e not_one = e
      circular false e not_one = absurd (true≢false (sym (ap (λ b. b && true) (lt-ltb 0 n later)) ∙ not_one))

      go : (o : Option Ident) → f.front.name ≡ o → wrong_name (dependency_order p) n f o ≡ [] → is_in (dependency_order p) n ≡ true
      go None none e =
          let d = definition_at p.found n f later at in
          let free = nameless_free f.text.definition f (each_at HasFront p.found n f at h.fronts) none in
          subst (λ k. is_in (dependency_order p) k ≡ true) (sym d.1) (free_taken p h.some d.0 f d.2 (ap (λ (is : List Ident). texts_of_modules p (names_of is)) free))
      go (Some i) some e =
          let parts = parts_empty (wrong_at n i OtherModuleName (not (nat_eq i.name f.text.name))) (wrong_at n i CircularImports (is_circular (dependency_order p) n)) e in
          circular (is_in (dependency_order p) n) refl (not_wrong n i CircularImports (is_circular (dependency_order p) n) parts.1)

  all_ordered : (k : ℕ) → IsDefinition (unit_in p).list k → IsIn k (dependency_order p)
  all_ordered k is = go (slice_get p.found k) refl
    where
      go : (o : Option Found) → slice_get p.found k ≡ o → IsIn k (dependency_order p)
      go None at = absurd (omega (arith, is.1, length-map p.found (λ (g : Found). g.text), nothing_at p.found k at))
      go (Some f) at = is_among (dependency_order p) k (each_taken k f is.0 at)

  -- two texts of one name are one
  one_text : (name j k : ℕ) → IsTextOf (unit_in p) name j → IsTextOf (unit_in p) name k → j ≡ k
  one_text name j k a b = go (unit_in p).list j k unit.differ a.definition b.definition a.named b.named
    where
      at_last : (texts : List TextOf) (j k : ℕ) → AllDiffer (map (λ (t : TextOf). t.name) texts) → (x y : Option TextOf) → slice_get texts j ≡ x → slice_get texts k ≡ y → j < length texts → k < length texts
          → ((t : TextOf) → slice_get texts j ≡ Some t → t.name ≡ name) → ((t : TextOf) → slice_get texts k ≡ Some t → t.name ≡ name) → j ≡ k
      at_last texts j k d None y here there a b c e = absurd (omega (arith, a, nothing_at texts j here))
      at_last texts j k d (Some s) None here there a b c e = absurd (omega (arith, b, nothing_at texts k there))
      at_last texts j k d (Some s) (Some t) here there a b c e = differ_at (λ (t : TextOf). t.name) texts j k s t d here there (c s here ∙ sym (e t there))

      go : (texts : List TextOf) (j k : ℕ) → AllDiffer (map (λ (t : TextOf). t.name) (definitions_of texts)) → IsDefinition texts j → IsDefinition texts k
          → ((t : TextOf) → slice_get texts j ≡ Some t → t.name ≡ name) → ((t : TextOf) → slice_get texts k ≡ Some t → t.name ≡ name) → j ≡ k
      go [] j k d a b c e = absurd (omega (arith, a.1))
      go (main ∷ texts) zero k d a b c e = absurd (omega (arith, a.0))
      go (main ∷ texts) (suc j) zero d a b c e = absurd (omega (arith, b.0))
      go (main ∷ texts) (suc j) (suc k) d a b c e = ap suc (at_last texts j k d (slice_get texts j) (slice_get texts k) refl refl (omega (arith, a.1)) (omega (arith, b.1)) c e)

  after_imports : (n k name : ℕ) (t : TextOf) → IsDefinition (unit_in p).list n → slice_get (unit_in p).list n ≡ Some t → IsIn name (told_in p t).imports → IsTextOf (unit_in p) name k
      → StandsBefore (dependency_order p) k n
  after_imports n k name t is at imports text =
      let f = found_at n t at in
      let front : told_in p t ≡ front_by_names f.0.front = ap (told_in p) (sym f.2) ∙ told_is n f.0 f.1 in
      let named : IsIn name (names_of f.0.front.imports) = subst (λ (x : Front). IsIn name x.imports) front imports in
      let there = each_name (names_of f.0.front.imports) (imports_there n f.0 f.1) named in
      let same : there.0 ≡ k = one_text name there.0 k (text_there name there.0 there.1) text in
      let d = definition_at p.found n f.0 is.0 f.1 in
      let needed : IsIn k (needs_of p f.0) = import_needed p name k (names_of f.0.front.imports) named (there.1 ∙ ap (λ j. Some j) same) in
      let taken : IsIn (1 + d.0) (dependency_order p) = subst (λ m. IsIn m (dependency_order p)) d.1 (all_ordered n is) in
      subst (λ m. StandsBefore (dependency_order p) k m) (sym d.1) (needs_before p (length p.found) d.0 k f.0 d.2 needed taken)
    where
      each_name : (names : List ℕ) → Each (IsThere p) names → IsIn name names → IsThere p name
      each_name [] there i = absurd i
      each_name (m ∷ names) there (inl e) = subst (IsThere p) (sym e) there.0
      each_name (m ∷ names) there (inr i) = each_name names there.1 i

  has_fronts : (n : ℕ) (t : TextOf) → slice_get (unit_in p).list n ≡ Some t → HasFrontBy (told_in p) t
  has_fronts n t at =
      let f = found_at n t at in
      subst (HasFrontBy (told_in p)) f.2 (record { told = f.0.front; is = each_at HasFront p.found n f.0 f.1 h.fronts; same = told_is n f.0 f.1 })

  no_other : (n : ℕ) (t : TextOf) → slice_get (unit_in p).list n ≡ Some t → HasNoOther (told_in p) t
  no_other n t at other is = let h = has_fronts n t at in h.same ∙ ap front_by_names (one_front t.definition t.tokens h.told other h.is is)

  whole_unit : IsWhole (unit_in p)
  whole_unit = record {
    front = told_in p;
    fronts = each_of (HasFrontBy (told_in p)) (unit_in p).list has_fronts;
    no_others = each_of (HasNoOther (told_in p)) (unit_in p).list no_other;
    whole = record {
      imported = all_imported;
      named = each_of (λ (t : TextOf). (name : ℕ) → (told_in p t).name ≡ Some name → name ≡ t.name) (unit_in p).list as_told;
      own = own_told;
      all = all_ordered;
      after = after_imports;
    };
  }

pub said_whole : (holds : Option Files) (file main : List ℕ) (p : Progress) (g : Gathered) → IsUnit (unit_in p) → Reaches holds file main p → unit_given g ≡ unit_in p → wrongs_given g ≡ wrongs_of p → IsWholeWhereSaid g
said_whole holds file main p (Whole texts) unit reached texts_are none = subst IsWhole (sym texts_are) (whole_unit p unit (reached_right holds file main p reached) (sym none))
said_whole holds file main p (Wrong texts wrongs) unit reached texts_are some = tt

-- Naming modules: what is named stays, and new ones come last.
use Rattle.std.proofs.Common.{◌≡◌, ℕ, zero, suc, ◌+◌, ◌<◌, Bool, true, false, cond, List, [], ◌∷◌, ◌++◌, length, take, get_or, map, refl, sym, ◌∙◌, ap, arith, Global, String, string_bytes, string_cmp, Option, Some, None, slice_get, IsSome}
use Rattle.std.specs.Prelude.{◌||◌}
use Rattle.std.specs.BTreeMap.{is_at}
use Rattle.std.specs.BTreeSet.{BTreeSet, UpdatesBy, contains_text}
use Rattle.std.specs.Cmp.Lexicographic.{nat_list_eq_equiv, slice_cmp}
use Rattle.std.specs.Ordering.{nat_cmp}
use Rattle.std.specs.List.{AllByRecursion, list_any}
use Rattle.std.specs.Str.{bytes_eq}
use Rattle.std.proofs.lemmas.Bool.{false≢true}
use Rattle.std.proofs.lemmas.List.{length-map, map-append, take_more}
use Rattle.std.proofs.lemmas.Option.{slice_get_within}
use Rattle.std.proofs.lemmas.Map.Text.{btree_set_updates_text, text_cmp}
use Rattle.m2_base.specs.Names.{with_name, with_names}
use Rattle.m2_base.proofs.Numbers.{with_names-append}
use Rattle.object_file.specs.Contents.{KeyedImport}
use Rattle.object_file.specs.Programs.{in_out}
use Rattle.program_load.specs.Closure.{AreKnown, modules_in, texts_of}

pub known_already : (names : List (List ℕ)) (b : List ℕ) → list_any (bytes_eq b) names ≡ true → names ≡ with_name names b
known_already names b e = ap (λ (t : Bool). cond t names (names ++ b ∷ [])) (sym e)

pub named_last : (names : List (List ℕ)) (b : List ℕ) → list_any (bytes_eq b) names ≡ false → names ++ b ∷ [] ≡ with_name names b
named_last names b e = ap (λ (t : Bool). cond t names (names ++ b ∷ [])) (sym e)

pub any_more : (test : List ℕ → Bool) (names : List (List ℕ)) (b : List ℕ) → list_any test (names ++ b ∷ []) ≡ cond (test b) true (list_any test names)
any_more test [] b = on (test b) where
  on : (x : Bool) → x || false ≡ cond x true false
  on true = refl
  on false = refl
any_more test (n ∷ names) b = on (test n) (test b) (any_more test names b) where
  on : (x y : Bool) → list_any test (names ++ b ∷ []) ≡ cond y true (list_any test names) → x || list_any test (names ++ b ∷ []) ≡ cond y true (x || list_any test names)
  on true true e = refl
  on true false e = refl
  on false y e = e

-- ---- imports

pub modules_in-append : (xs ys : List KeyedImport) → modules_in (xs ++ ys) ≡ modules_in xs ++ modules_in ys
modules_in-append [] ys = refl
modules_in-append (x ∷ xs) ys = on (bytes_eq x.definition.name in_out.name) (modules_in-append xs ys) where
  on : (b : Bool) → modules_in (xs ++ ys) ≡ modules_in xs ++ modules_in ys → cond b (modules_in (xs ++ ys)) (x.definition.name ∷ modules_in (xs ++ ys)) ≡ cond b (modules_in xs) (x.definition.name ∷ modules_in xs) ++ modules_in ys
  on true e = e
  on false e = ap (λ ms. x.definition.name ∷ ms) e

pub over_in_out : (old : List (List ℕ)) (i : KeyedImport) → bytes_eq i.definition.name in_out.name ≡ true → old ≡ with_names old (modules_in (i ∷ []))
over_in_out old i e = ap (λ (b : Bool). with_names old (cond b [] (i.definition.name ∷ []))) (sym e)

pub one_named : (old : List (List ℕ)) (i : KeyedImport) → bytes_eq i.definition.name in_out.name ≡ false → with_name old i.definition.name ≡ with_names old (modules_in (i ∷ []))
one_named old i e = ap (λ (b : Bool). with_names old (cond b [] (i.definition.name ∷ []))) (sym e)

-- one more import
pub one_more : {A : Type 0} (view : A → KeyedImport) (old : List (List ℕ)) (notes : List A) (k : ℕ) (d : A) → k < length notes
    → with_names old (modules_in (map view (take (k + 1) notes))) ≡ with_names (with_names old (modules_in (map view (take k notes)))) (modules_in (view (get_or notes k d) ∷ []))
one_more view old notes k d inside =
    ap (λ front. with_names old (modules_in (map view front))) (take_more notes k d inside)
    ∙ ap (λ is. with_names old (modules_in is)) (map-append view (take k notes) (get_or notes k d ∷ []))
    ∙ ap (with_names old) (modules_in-append (map view (take k notes)) (view (get_or notes k d) ∷ []))
    ∙ with_names-append old (modules_in (map view (take k notes))) (modules_in (view (get_or notes k d) ∷ []))

-- ---- what the set knows

pub known_more : (old new : BTreeSet (String Global)) (names : List (List ℕ)) (b : List ℕ) → AreKnown old names
    → ((cs : List ℕ) → contains_text new cs ≡ cond (bytes_eq b cs) true (contains_text old cs)) → AreKnown new (names ++ b ∷ [])
known_more old new names b known more cs =
    more cs ∙ ap (λ (x : Bool). cond x true (contains_text old cs)) (nat_list_eq_equiv.symm b cs) ∙ ap (cond (bytes_eq cs b) true) (known cs) ∙ sym (any_more (bytes_eq cs) names b)

-- a set without keys knows nothing
pub nothing_known : (s : BTreeSet (String Global)) → s.keys ≡ [] → AreKnown s []
nothing_known s none cs = ap (λ (ks : List (String Global)). list_any (is_at (text_cmp cs)) ks) none

-- a text was put into the set, and behind the names
pub known_so : (old new : BTreeSet (String Global)) (items news : List (String Global)) (s t : String Global) → AreKnown old (texts_of items)
    → UpdatesBy string_cmp (λ k. slice_cmp nat_cmp (string_bytes s) (string_bytes k)) old new true → string_bytes s ≡ string_bytes t → news ≡ items ++ t ∷ [] → AreKnown new (texts_of news)
known_so old new items news s t known updates same pushed cs =
    let texts : texts_of news ≡ texts_of items ++ string_bytes s ∷ [] = ap texts_of pushed ∙ map-append string_bytes items (t ∷ []) ∙ ap (λ (x : List ℕ). texts_of items ++ x ∷ []) (sym same) in
    known_more old new (texts_of items) (string_bytes s) known (btree_set_updates_text (string_bytes s) old new true updates) cs ∙ ap (list_any (bytes_eq cs)) (sym texts)

-- ---- the notes of an object

pub all_at : {A B : Type 0} (P : B → Type 0) (f : A → B) (xs : List A) (k : ℕ) (d : A) → k < length xs → AllByRecursion P (map f xs) → P (f (get_or xs k d))
all_at P f [] k d inside all = absurd (omega (arith, inside))
all_at P f (x ∷ xs) zero d inside all = all.0
all_at P f (x ∷ xs) (suc k) d inside all = all_at P f xs k d (omega (arith, inside)) all.1

-- a module that is asked for next is one of the names
pub asked_within : (items : List (String Global)) (asked : ℕ) → IsSome (slice_get (texts_of items) asked) → asked < length items
asked_within items asked some = on (slice_get (texts_of items) asked) refl some where
  on : (o : Option (List ℕ)) → slice_get (texts_of items) asked ≡ o → IsSome o → asked < length items
  on None e some = absurd (false≢true some)
  on (Some x) e some = omega (arith, slice_get_within (texts_of items) asked x e, length-map items string_bytes)

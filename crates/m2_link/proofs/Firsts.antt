-- The first import that passes a test.
use Rattle.std.proofs.Common.{◌≡◌, ℕ, zero, suc, ◌+◌, ◌<◌, ◌≤◌, get_or, Bool, true, false, cond, List, [], ◌∷◌, length, map, drop, Option, Some, None, refl, sym, ap, ◌∙◌, arith}
use Rattle.std.proofs.Math.Seq.{drop-cons}
use Rattle.object_file.specs.Contents.{KeyedImport, Contents}
use Rattle.object_file.specs.Directories.{IsDirectory, found_in}
use Rattle.object_file.specs.Views.{keyed_of}
use Rattle.object_file.specs.declared.directory.Directory.{Directory}
use Rattle.object_file.specs.declared.parts.ImportNote.{ImportNote}
use Rattle.m2_link.specs.Refusals.{lacks, is_missing, first_in, or_else, first_import}

-- ---- the imports of one object

pub next_note : (notes : List ImportNote) (is : List KeyedImport) (i : ℕ) (n : ImportNote) → map keyed_of notes ≡ is → i < length notes → n ≡ get_or notes i n → drop i is ≡ keyed_of n ∷ drop (i + 1) is
next_note notes is i n same lt at = ap (drop i) (sym same) ∙ in_map notes i lt at ∙ ap (λ (xs : List KeyedImport). keyed_of n ∷ drop (i + 1) xs) same where
  in_map : (ns : List ImportNote) (j : ℕ) → j < length ns → n ≡ get_or ns j n → drop j (map keyed_of ns) ≡ keyed_of n ∷ drop (j + 1) (map keyed_of ns)
  in_map [] j lt e = absurd (omega (arith, lt))
  in_map (m ∷ ns) zero lt e = ap (λ (x : ImportNote). keyed_of x ∷ map keyed_of ns) (sym e)
  in_map (m ∷ ns) (suc j) lt e =
      let one : suc j + 1 ≡ suc (j + 1) = omega arith in
      in_map ns j (omega (arith, lt)) e ∙ ap (λ (k : ℕ). keyed_of n ∷ drop k (map keyed_of (m ∷ ns))) (sym one)

pub first_here : (test : KeyedImport → Bool) (is after : List KeyedImport) (i : KeyedImport) → is ≡ i ∷ after → test i ≡ true → first_in test is ≡ Some i.definition.name
first_here test is after i e t = ap (first_in test) e ∙ ap (λ (b : Bool). cond b (Some i.definition.name) (first_in test after)) t

pub first_later : (test : KeyedImport → Bool) (is after : List KeyedImport) (i : KeyedImport) → is ≡ i ∷ after → test i ≡ false → first_in test is ≡ first_in test after
first_later test is after i e t = ap (first_in test) e ∙ ap (λ (b : Bool). cond b (Some i.definition.name) (first_in test after)) t

pub none_left : {A : Type 0} (xs : List A) (i : ℕ) → length xs ≤ i → drop i xs ≡ []
none_left [] zero le = refl
none_left [] (suc i) le = refl
none_left (x ∷ xs) zero le = absurd (omega (arith, le))
none_left (x ∷ xs) (suc i) le = none_left xs i (omega (arith, le))

same_first : (f g : KeyedImport → Bool) (is : List KeyedImport) → ((i : KeyedImport) → f i ≡ g i) → first_in f is ≡ first_in g is
same_first f g [] h = refl
same_first f g (i ∷ is) h = ap (λ (b : Bool). cond b (Some i.definition.name) (first_in f is)) (h i) ∙ ap (λ (o : Option (List ℕ)). cond (g i) (Some i.definition.name) o) (same_first f g is h)

-- what the directory tells is what the definition says
pub missing_of : (d : Directory) (os : List Contents) (is : List KeyedImport) → IsDirectory d os → first_in (λ i. lacks (found_in d i.definition.name) i.definition) is ≡ first_in (λ i. is_missing os i.definition) is
missing_of d os is h = same_first (λ i. lacks (found_in d i.definition.name) i.definition) (λ i. is_missing os i.definition) is (λ i. ap (λ (p : Option ℕ). lacks p i.definition) (h i.definition.name))

-- ---- the imports of all objects

pub next_object : (os : List Contents) (k : ℕ) (o : Contents) → k < length os → o ≡ get_or os k o → drop k os ≡ o ∷ drop (k + 1) os
next_object os k o lt is =
    let one : suc k ≡ k + 1 = omega arith in
    drop-cons os k o lt ∙ ap (λ (x : Contents). x ∷ drop (suc k) os) (sym is) ∙ ap (λ (n : ℕ). o ∷ drop n os) one

pub import_here : (test : Contents → KeyedImport → Bool) (os after : List Contents) (o : Contents) (name : List ℕ) → os ≡ o ∷ after → first_in (test o) o.imports ≡ Some name → first_import test os ≡ Some name
import_here test os after o name e f = ap (first_import test) e ∙ ap (λ (x : Option (List ℕ)). or_else x (first_import test after)) f

pub import_later : (test : Contents → KeyedImport → Bool) (os after : List Contents) (o : Contents) → os ≡ o ∷ after → first_in (test o) o.imports ≡ None → first_import test os ≡ first_import test after
import_later test os after o e f = ap (first_import test) e ∙ ap (λ (x : Option (List ℕ)). or_else x (first_import test after)) f

pub import_none : (test : Contents → KeyedImport → Bool) (os : List Contents) (k : ℕ) → length os ≤ k → first_import test (drop k os) ≡ None
import_none test os k le = ap (first_import test) (none_left os k le)

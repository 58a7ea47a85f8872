-- A name more in a directory, and what is told of names.
use Rattle.std.proofs.Common.{◌≡◌, ◌≢◌, ◌⊎◌, inl, inr, ℕ, zero, suc, ◌+◌, ◌<◌, ◌≤◌, Bool, true, false, cond, List, [], ◌∷◌, ◌++◌, length, take, drop, Option, Some, None, refl, sym, ap, subst, ◌∙◌, arith, append_assoc}
use Rattle.std.proofs.lemmas.Bool.{false≢true}
use Rattle.std.specs.Prelude.{slice_get, is_some}
use Rattle.std.specs.List.{position_from}
use Rattle.std.specs.Str.{bytes_eq}
use Rattle.std.proofs.lemmas.List.{length-take-le}
use Rattle.std.proofs.lemmas.Slice.Eq.{bytes_eq-Decides}
use Rattle.code_form.specs.Modules.{Import}
use Rattle.object_file.specs.Contents.{Contents}
use Rattle.object_file.specs.Directories.{IsDirectory, object_in}
use Rattle.object_file.specs.Programs.{in_out}
use Rattle.object_file.specs.Running.{object_of}
use Rattle.object_file.specs.declared.directory.Directory.{Directory}
use Rattle.object_file.specs.Naming.{object_named, taken_again, name_again}

-- ---- one object more

abbrev last_or : Option ℕ → Bool → ℕ → Option ℕ
last_or (Some k) b n = Some k
last_or None b n = cond b (Some n) None

from_more : {A : Type 0} (p : A → Bool) (i : ℕ) (xs : List A) (x : A) → position_from p i (xs ++ x ∷ []) ≡ last_or (position_from p i xs) (p x) (i + length xs)
from_more p i [] x = let n : i ≡ i + 0 = omega arith in ap (λ (k : ℕ). cond (p x) (Some k) None) n
from_more p i (y ∷ xs) x = chosen (p y) (from_more p (i + 1) xs x) where
  n : (i + 1) + length xs ≡ i + suc (length xs)
  n = omega arith

  chosen : (b : Bool) → position_from p (i + 1) (xs ++ x ∷ []) ≡ last_or (position_from p (i + 1) xs) (p x) ((i + 1) + length xs) → cond b (Some i) (position_from p (i + 1) (xs ++ x ∷ [])) ≡ last_or (cond b (Some i) (position_from p (i + 1) xs)) (p x) (i + suc (length xs))
  chosen true h = refl
  chosen false h = h ∙ ap (last_or (position_from p (i + 1) xs) (p x)) n

named_more : (os : List Contents) (o : Contents) (name : List ℕ) → object_named (os ++ o ∷ []) name ≡ last_or (object_named os name) (bytes_eq name o.name) (length os)
named_more os o name = from_more (λ p. bytes_eq name p.name) 0 os o ∙ ap (last_or (object_named os name) (bytes_eq name o.name)) (omega arith)

is_none : (o : Option ℕ) → is_some o ≡ false → o ≡ None
is_none None e = refl
is_none (Some k) e = absurd (false≢true (sym e))

-- one object more under its name, where none had it
pub directory_more : (os : List Contents) (o : Contents) (name : List ℕ) (old new : Option ℕ) → is_some (object_named os o.name) ≡ false → old ≡ object_named os name → new ≡ cond (bytes_eq o.name name) (Some (length os)) old → new ≡ object_named (os ++ o ∷ []) name
directory_more os o name old new none was is = is ∙ ap (cond (bytes_eq o.name name) (Some (length os))) was ∙ chosen (bytes_eq o.name name) refl ∙ sym (named_more os o name) where
  chosen : (b : Bool) → bytes_eq o.name name ≡ b → cond b (Some (length os)) (object_named os name) ≡ last_or (object_named os name) (bytes_eq name o.name) (length os)
  chosen true e =
      let same : o.name ≡ name = (bytes_eq-Decides o.name name).0 e in
      let free : object_named os name ≡ None = ap (object_named os) (sym same) ∙ is_none (object_named os o.name) none in
      rw (free, (bytes_eq-Decides name o.name).1 (sym same)) refl
  chosen false e = other (object_named os name) (bytes_eq name o.name) refl where
    other : (x : Option ℕ) (c : Bool) → bytes_eq name o.name ≡ c → x ≡ last_or x c (length os)
    other (Some k) c f = refl
    other None false f = refl
    other None true f = absurd (false≢true (sym e ∙ (bytes_eq-Decides o.name name).1 (sym ((bytes_eq-Decides name o.name).0 f))))

pub again_more : (before : List Contents) (o : Contents) (os : List Contents) → is_some (object_named before o.name) ≡ false → taken_again before (o ∷ os) ≡ taken_again (before ++ o ∷ []) os
again_more before o os e = ap (λ (b : Bool). cond b (Some o.name) (taken_again (before ++ o ∷ []) os)) e

pub again_here : (before : List Contents) (o : Contents) (os : List Contents) → is_some (object_named before o.name) ≡ true → taken_again before (o ∷ os) ≡ Some o.name
again_here before o os e = ap (λ (b : Bool). cond b (Some o.name) (taken_again (before ++ o ∷ []) os)) e

-- ---- where an object of a name is

pub within_from : {A : Type 0} (p : A → Bool) (i : ℕ) (xs : List A) (k : ℕ) → position_from p i xs ≡ Some k → (j : ℕ) × (x : A) × (k ≡ i + j) × (j < length xs) × (slice_get xs j ≡ Some x) × (p x ≡ true)
within_from p i [] k e = absurd cc
within_from {A} p i (y ∷ xs) k e = chosen (p y) refl e (λ f. within_from p (i + 1) xs k f) where
  one : ◌≡◌ {A = Option ℕ} (Some i) (Some k) → i ≡ k
  one e = cc

  chosen : (b : Bool) → p y ≡ b → cond b (Some i) (position_from p (i + 1) xs) ≡ Some k
      → (position_from p (i + 1) xs ≡ Some k → (j : ℕ) × (x : A) × (k ≡ (i + 1) + j) × (j < length xs) × (slice_get xs j ≡ Some x) × (p x ≡ true)) → (j : ℕ) × (x : A) × (k ≡ i + j) × (j < length (y ∷ xs)) × (slice_get (y ∷ xs) j ≡ Some x) × (p x ≡ true)
  chosen true t f more = let e = one f in (0, y, omega (arith, e), omega arith, refl, t)
  chosen false t f more = let h = more f in let le = h.2 in let lt = h.3 in (suc h.0, h.1, omega (arith, le), omega (arith, lt), h.4, h.5)

-- an object is found under its name, at a place that has that name
pub named_is : (os : List Contents) (name : List ℕ) (k : ℕ) → object_named os name ≡ Some k → (o : Contents) × (k < length os) × (slice_get os k ≡ Some o) × (name ≡ o.name)
named_is os name k e =
    let h = within_from (λ (o : Contents). bytes_eq name o.name) 0 os k e in
    let n : h.0 ≡ k = let s = h.2 in omega (arith, s) in
    (h.1, subst (λ (j : ℕ). j < length os) n h.3, subst (λ (j : ℕ). slice_get os j ≡ Some h.1) n h.4, (bytes_eq-Decides name h.1.name).0 h.5)

none_from : {A : Type 0} (p : A → Bool) (i : ℕ) (xs : List A) (j : ℕ) (x : A) → slice_get xs j ≡ Some x → p x ≡ true → position_from p i xs ≡ None → ⊥
none_from p i [] j x s t e = absurd cc
none_from {A} p i (y ∷ xs) j x s t e = chosen (p y) refl e (λ f k u. none_from p (i + 1) xs k x u t f) where
  one : ◌≡◌ {A = Option A} (Some y) (Some x) → y ≡ x
  one e = cc

  at : (j : ℕ) → slice_get (y ∷ xs) j ≡ Some x → p y ≡ false → ((j : ℕ) → slice_get xs j ≡ Some x → ⊥) → ⊥
  at zero s f more = false≢true (sym f ∙ ap p (one s) ∙ t)
  at (suc j) s f more = more j s

  chosen : (b : Bool) → p y ≡ b → cond b (Some i) (position_from p (i + 1) xs) ≡ None → (position_from p (i + 1) xs ≡ None → (j : ℕ) → slice_get xs j ≡ Some x → ⊥) → ⊥
  chosen true f e more = absurd cc
  chosen false f e more = at j s f (more e)

-- what is there is found
pub named_there : (os : List Contents) (j : ℕ) (o : Contents) → slice_get os j ≡ Some o → object_named os o.name ≡ None → ⊥
named_there os j o s e = none_from (λ (p : Contents). bytes_eq o.name p.name) 0 os j o s ((bytes_eq-Decides o.name o.name).1 refl) e

-- ---- where an import leads

-- the code's look-up is that of the definition
pub leads_is : (d : Directory) (os : List Contents) (i : Import) → IsDirectory d os → object_of os i ≡ object_in d i
leads_is d os i h = ap (cond (bytes_eq i.name in_out.name) None) (sym (h i.name))

pub leads_within : (os : List Contents) (i : Import) (k : ℕ) → object_of os i ≡ Some k → (o : Contents) × (k < length os) × (slice_get os k ≡ Some o)
leads_within os i k e = on (bytes_eq i.name in_out.name) e where
  on : (b : Bool) → cond b None (object_named os i.name) ≡ Some k → (o : Contents) × (k < length os) × (slice_get os k ≡ Some o)
  on true e = absurd cc
  on false e = let h = named_is os i.name k e in (h.0, h.1, h.2)

-- ---- the next object

pub next_is : (os : List Contents) (k : ℕ) (o : Contents) → slice_get os k ≡ Some o → drop k os ≡ o ∷ drop (k + 1) os
next_is [] k o e = absurd cc
next_is (p ∷ os) zero o e = ap (λ (x : Contents). x ∷ os) (one e) where
  one : ◌≡◌ {A = Option Contents} (Some p) (Some o) → p ≡ o
  one e = cc
next_is (p ∷ os) (suc k) o e = let n : suc k + 1 ≡ suc (k + 1) = omega arith in next_is os k o e ∙ ap (λ (m : ℕ). o ∷ drop m (p ∷ os)) (sym n)

pub take_next : (os : List Contents) (k : ℕ) (o : Contents) → slice_get os k ≡ Some o → take (k + 1) os ≡ take k os ++ o ∷ []
take_next [] k o e = absurd cc
take_next (p ∷ os) zero o e = ap (λ (x : Contents). x ∷ []) (one e) where
  one : ◌≡◌ {A = Option Contents} (Some p) (Some o) → p ≡ o
  one e = cc
take_next (p ∷ os) (suc k) o e = let n : suc k + 1 ≡ suc (k + 1) = omega arith in ap (λ (m : ℕ). take m (p ∷ os)) n ∙ ap (λ (xs : List Contents). p ∷ xs) (take_next os k o e)

-- the directory with the next object
pub kept_more : (os : List Contents) (k : ℕ) (o : Contents) (key name : List ℕ) (old new : Option ℕ) → k < length os → slice_get os k ≡ Some o → key ≡ o.name → is_some (object_named (take k os) o.name) ≡ false
    → old ≡ object_named (take k os) name → new ≡ cond (bytes_eq key name) (Some k) old → new ≡ object_named (take (k + 1) os) name
kept_more os k o key name old new lt there key_is free was is =
    let count : length (take k os) ≡ k = length-take-le k os (omega (arith, lt)) in
    directory_more (take k os) o name old new free was
    (is ∙ ap (λ (n : List ℕ). cond (bytes_eq n name) (Some k) old) key_is ∙ ap (λ (n : ℕ). cond (bytes_eq o.name name) (Some n) old) (sym count))
    ∙ ap (λ (xs : List Contents). object_named xs name) (sym (take_next os k o there))

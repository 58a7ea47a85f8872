-- What a call of a shelf gives of a text.
use Rattle.std.proofs.Common.{◌≡◌, ℕ, ◌≤◌, List, Option, Some, None, Bool, true, false, nat_eq, [], get_or, slice_get, subst, ◌∙◌, lit≤, Vec, Global, inl, inr, length, refl, sym, ap, arith, vec_len}
use Rattle.std.specs.Prelude.{IfOk, IfSome, Result, Ok, Err, option_map}
use Rattle.std.proofs.lemmas.Bool.Decides.{eqb_tells}
use Rattle.std.proofs.lemmas.Bool.{false≢true}
use Rattle.std.proofs.lemmas.List.{take_all}
use Rattle.m2_io.specs.Files.{Files, front_of}
use Rattle.std.specs.FinMap.{get}
use Rattle.std.proofs.lemmas.Option.{get_or_from_slice_get}
use Rattle.m2_base.specs.Units.{IsIdentifier}
use Rattle.def_import.specs.Library.{library_text}
use Rattle.def_import.specs.Shelves.{Has, HasDefinition, HasDefinitionOf, IsReadOf, definition_file}
use Rattle.def_import.specs.declared.library.TheConstants.{LIBRARY_TEXT}

pub read_of : (holds : Option Files) (file : List ℕ) (given : Option (Vec ℕ Global)) → IfSome holds (λ files. option_map (λ text. text.items) given ≡ front_of files file 1048577)
    → IfSome given (λ text. vec_len text ≤ 1048577) → IsReadOf (Has holds file) (option_map (λ text. text.items) given)
unfolding front_of
read_of None file None found most = record { text = None; is = tt; front = refl }
read_of None file (Some text) found most = record { text = Some text.items; is = tt; front = ap Some (sym (take_all 1048577 text.items (omega (arith, text.ok.0, most)))) }
read_of (Some files) file given found most = record { text = get files file; is = refl; front = found }

-- the text that the code has is the library's
library_is : LIBRARY_TEXT.now ≡ library_text
unfolding library_text
library_is = refl

library_short : length library_text ≤ 1000
unfolding library_text
library_short = lit≤ tt

of_library : (library : Bool) (holds : Option Files) (name bytes : List ℕ) → library ≡ true → bytes ≡ LIBRARY_TEXT.now → IsReadOf (HasDefinitionOf library holds name) (Some bytes)
of_library false holds name bytes e is = absurd (false≢true e)
of_library true holds name bytes e is =
    record { text = Some library_text; is = refl; front = ap Some (is ∙ library_is ∙ sym (take_all 1048577 library_text (omega (arith, library_short)))) }

pub library_read : (holds : Option Files) (names : List (List ℕ)) (name : ℕ) (bytes : List ℕ) → nat_eq name 27 ≡ true → bytes ≡ LIBRARY_TEXT.now
    → IsReadOf (HasDefinition holds names name) (Some bytes)
library_read holds names name bytes e is = of_library (nat_eq name 27) holds (get_or names name []) bytes e is

of_shelf : (library : Bool) (holds : Option Files) (name : List ℕ) (given : Option (List ℕ)) → library ≡ false → IsReadOf (Has holds (definition_file name)) given → IsReadOf (HasDefinitionOf library holds name) given
of_shelf false holds name given e read = read
of_shelf true holds name given e read = absurd (false≢true (sym e))

module_read : (holds : Option Files) (names : List (List ℕ)) (name : ℕ) (bytes file : List ℕ) (given : Option (List ℕ)) → nat_eq name 27 ≡ false → slice_get names name ≡ Some bytes
    → file ≡ definition_file bytes → IsReadOf (Has holds file) given → IsReadOf (HasDefinition holds names name) given
module_read holds names name bytes file given e there is read =
    of_shelf (nat_eq name 27) holds (get_or names name []) given e
    (subst (λ f. IsReadOf (Has holds f) given) (is ∙ ap definition_file (sym (get_or_from_slice_get names name bytes [] there))) read)

pub module_spelled : (names : List (List ℕ)) (name : ℕ) (bytes : List ℕ) → slice_get names name ≡ Some bytes → IsIdentifier (get_or names name []) → IsIdentifier bytes
module_spelled names name bytes there spelled = subst IsIdentifier (get_or_from_slice_get names name bytes [] there) spelled

pub module_reads : {E : Type 0} (holds : Option Files) (names : List (List ℕ)) (name : ℕ) (bytes file : List ℕ) (result : Result (Option (Vec ℕ Global)) E) → nat_eq name 27 ≡ false
    → slice_get names name ≡ Some bytes → file ≡ definition_file bytes → IfOk result (λ found. IsReadOf (Has holds file) (option_map (λ text. text.items) found))
    → IfOk result (λ found. IsReadOf (HasDefinition holds names name) (option_map (λ text. text.items) found))
module_reads holds names name bytes file (Ok found) e there is read = module_read holds names name bytes file (option_map (λ text. text.items) found) e there is read
module_reads holds names name bytes file (Err fault) e there is read = tt

pub not_equal : (a b : ℕ) → (a ≡ b → ⊥) → nat_eq a b ≡ false
not_equal a b differ = elim (eqb_tells a b) [ inl h ↦ absurd (differ h.1) | inr h ↦ h.0 ]

-- What is known of each text that is found: its front is the grammar's, and a module that was asked for has its own text.
use Rattle.std.proofs.Common.{◌≡◌, ℕ, ◌<◌, Bool, true, false, List, [], ◌∷◌, ◌++◌, Option, Some, None, length, length-append, refl, sym, ◌∙◌, ap, subst, arith, slice_get, nat_eq, get_or, inl, inr}
use Rattle.std.specs.Option.{option_flatten}
use Rattle.std.specs.Prelude.{position}
use Rattle.std.proofs.lemmas.Bool.{eqb-true}
use Rattle.std.proofs.lemmas.List.Quantifiers.{position-Some}
use Rattle.std.proofs.lemmas.Option.{get_or_from_slice_get}
use Rattle.m2_io.specs.Files.{Files}
use Rattle.m2_base.specs.Fronts.{IsFront}
use Rattle.m2_base.specs.Lists.{Each}
use Rattle.m2_base.specs.Units.{TextOf}
use Rattle.def_import.specs.Closure.{Found, Progress, answer_at, modules_named, modules_of, names_of, next_module, text_of_module}
use Rattle.def_import.specs.Outcomes.{IsRead, Reaches, Reads, begun, is_there, main_read, not_there, then_asks}
use Rattle.def_import.proofs.Naming.{modules_grow}
use Rattle.def_import.proofs.OneMore.{modules_with}
use Rattle.def_import.proofs.Places.{last_at, pushed_at, some_is, some_none, still_at}
use Rattle.def_import.proofs.UnitKept.{each_pushed}

abbrev pub HasFront : Found → Type 0
HasFront f = IsFront f.text.definition f.text.tokens f.front

-- the text of this number is that of the module at this place
pub record IsTextAt (modules : List ℕ) (found : List Found) (place number : ℕ) : Type 0 where
  pub text : Found
  pub at : slice_get found number ≡ Some text
  pub named : slice_get modules place ≡ Some text.text.name
  pub later : 0 < number

pub record IsRight (p : Progress) : Type 0 where
  pub some : 0 < length p.found
  pub fronts : Each HasFront p.found
  pub answers : (i k : ℕ) → slice_get p.asked i ≡ Some (Some k) → IsTextAt (modules_named p.found) p.found i k

read_front : (old new : List (List ℕ)) (definition : Bool) (name : ℕ) (bytes : List ℕ) (f : Found) → IsRead old definition name bytes new f → HasFront f
read_front old new definition name bytes f read = subst (λ d. IsFront d f.text.tokens f.front) (sym (ap (λ (t : TextOf). t.definition) read.text)) read.front

stays : (modules more : List ℕ) (found : List Found) (f : Found) (i k : ℕ) → IsTextAt modules found i k → IsTextAt (modules ++ more) (found ++ f ∷ []) i k
stays modules more found f i k h =
    record { text = h.text; at = still_at found (f ∷ []) k h.text h.at; named = still_at modules more i h.text.text.name h.named; later = h.later }

module _ (p q : Progress) (name : ℕ) (bytes : List ℕ) (h : IsRight p) (next : next_module p ≡ Some name) (reads : Reads (record { names = p.names; found = p.found; asked = p.asked ++ Some (length p.found) ∷ [] }) true name bytes q) where
  then_right : IsRight (record { names = reads.names; found = (p.found ++ reads.found ∷ []); asked = p.asked ++ Some (length p.found) ∷ [] })
  then_right =
      let f = reads.found in
      let grown = modules_grow (modules_named p.found) (names_of (modules_of f.front)) in
      let modules : modules_named p.found ++ grown.0 ≡ modules_named (p.found ++ reads.found ∷ []) = sym (modules_with p.found f ∙ grown.1) in
      record {
        some = omega (arith, length-append p.found (f ∷ []));
        fronts = each_pushed HasFront p.found f h.fronts (read_front p.names reads.names true name bytes f reads.read);
        answers = λ i k e. subst (λ (ms : List ℕ). IsTextAt ms (p.found ++ reads.found ∷ []) i k) modules (elim (pushed_at p.asked (Some (length p.found)) i (Some k) e) [
          | inl old ↦ stays (modules_named p.found) grown.0 p.found f i k (h.answers i k old)
          | inr this ↦
              let number : length p.found ≡ k = some_is (length p.found) k this.1 in
              record {
                text = f;
                at = subst (λ n. slice_get (p.found ++ reads.found ∷ []) n ≡ Some f) number (last_at p.found f);
                named =
                    subst (λ n. slice_get (modules_named p.found ++ grown.0) n ≡ Some f.text.name) (sym this.0)
                    (still_at (modules_named p.found) grown.0 (length p.asked) f.text.name (next ∙ ap (λ n. Some n) (sym (ap (λ (t : TextOf). t.name) reads.read.text))));
                later = omega (arith, number, h.some);
              }
        ]);
      }

pub reached_right : (holds : Option Files) (file main : List ℕ) (p : Progress) → Reaches holds file main p → IsRight p
reached_right holds file main p (main_read {number = number} numbered reads) = subst IsRight (sym reads.longer) (record {
  some = omega arith;
  fronts = (read_front (begun file).names reads.names false number main reads.found reads.read, tt);
  answers = λ i k e. cc;
})
reached_right holds file main _ (then_asks {p = p} {name = name} reached next (not_there has)) =
    let h = reached_right holds file main p reached in
    record {
      some = h.some;
      fronts = h.fronts;
      answers = λ i k e. elim (pushed_at p.asked None i (Some k) e) [
        | inl old ↦ h.answers i k old
        | inr this ↦ absurd (some_none k (sym this.1))
      ];
    }
reached_right holds file main q (then_asks {p = p} {name = name} reached next (is_there {bytes = text} has reads)) =
    subst IsRight (sym reads.longer) (then_right p q name text (reached_right holds file main p reached) next reads)

-- the text of a module that is there is one with that name, and not the main text
pub record IsModuleText (found : List Found) (name number : ℕ) : Type 0 where
  pub text : Found
  pub at : slice_get found number ≡ Some text
  pub named : text.text.name ≡ name
  pub later : 0 < number

pub module_text : (p : Progress) (name k : ℕ) → IsRight p → text_of_module p name ≡ Some k → IsModuleText p.found name k
module_text p name k h e = go (position (nat_eq name) (modules_named p.found)) refl e
  where
    at_place : (place : ℕ) (o : Option (Option ℕ)) → position (nat_eq name) (modules_named p.found) ≡ Some place → slice_get p.asked place ≡ o → option_flatten o ≡ Some k → IsModuleText p.found name k
    at_place place None here asked e = cc
    at_place place (Some None) here asked e = cc
    at_place place (Some (Some j)) here asked e =
        let same : j ≡ k = some_is j k e in
        let a = h.answers place k (asked ∙ ap (λ n. Some (Some n)) same) in
        let is = (position-Some (nat_eq name) (modules_named p.found) place 0 here).1 in
        let at : get_or (modules_named p.found) place 0 ≡ a.text.text.name = get_or_from_slice_get (modules_named p.found) place a.text.text.name 0 a.named in
        record { text = a.text; at = a.at; named = sym (eqb-true name (get_or (modules_named p.found) place 0) is ∙ at); later = a.later }

    go : (o : Option ℕ) → position (nat_eq name) (modules_named p.found) ≡ o → answer_at p.asked o ≡ Some k → IsModuleText p.found name k
    go None here e = cc
    go (Some place) here e = at_place place (slice_get p.asked place) here refl e

-- Imports that need no other object, and the program of an object that has no others.
use Rattle.std.proofs.Common.{◌≡◌, ℕ, suc, ◌+◌, ◌<◌, Bool, eqb, List, [], ◌∷◌, length, map, drop, get_or, refl, sym, ap, ◌∙◌, arith}
use Rattle.std.specs.Prelude.{◌&&◌}
use Rattle.std.specs.Bool.{Decides}
use Rattle.std.specs.List.{AllByRecursion}
use Rattle.std.specs.Cmp.Lexicographic.{pointwise}
use Rattle.std.proofs.lemmas.Bool.Decides.{Decides-and, Decides-eqb}
use Rattle.std.proofs.lemmas.Slice.Eq.{slice_eq-Decides}
use Rattle.std.proofs.Math.Seq.{drop-cons}
use Rattle.code_form.specs.Heights.{Callee}
use Rattle.code_form.specs.Modules.{Import}
use Rattle.object_file.specs.declared.parts.ImportNote.{ImportNote}
use Rattle.object_file.specs.Contents.{Contents, definitions_of}
use Rattle.object_file.specs.Programs.{IsApart, IsAlone, IsMet, apart, IsProgram}
use Rattle.object_file.specs.Validity.{IsValid}
use Rattle.object_file.specs.Views.{heading_of}

pair-Decides : (a b : ℕ × ℕ) → Decides (eqb a.0 b.0 && eqb a.1 b.1) (a ≡ b)
pair-Decides a b =
    let d = Decides-and (eqb a.0 b.0) (eqb a.1 b.1) (Decides-eqb a.0 b.0) (Decides-eqb a.1 b.1) in
    (λ e. both a b (d.0 e), λ e. d.1 (ap (λ (x : ℕ × ℕ). x.0) e, ap (λ (x : ℕ × ℕ). x.1) e))
  where
    both : (a b : ℕ × ℕ) → (a.0 ≡ b.0) × (a.1 ≡ b.1) → a ≡ b
    both a b h = ap (λ (n : ℕ). (n, a.1)) h.0 ∙ ap (λ (n : ℕ). (b.0, n)) h.1

back_again : (xs : List (ℕ × ℕ)) → map (λ (c : Callee). (c.params, c.result)) (map heading_of xs) ≡ xs
back_again [] = refl
back_again (x ∷ xs) = ap (λ (ys : List (ℕ × ℕ)). x ∷ ys) (back_again xs)

pub same-Decides : (xs ys : List (ℕ × ℕ)) (r : Bool) → r ≡ pointwise (λ a b. eqb a.0 b.0 && eqb a.1 b.1) xs ys → Decides r (map heading_of xs ≡ map heading_of ys)
same-Decides xs ys r e =
    let d = slice_eq-Decides pair-Decides xs ys r e in
    (λ t. ap (map heading_of) (d.0 t), λ h. d.1 (sym (back_again xs) ∙ ap (map (λ (c : Callee). (c.params, c.result))) h ∙ back_again ys))

-- ---- over all imports

pub from : (ns : List ImportNote) (i : ℕ) (n : ImportNote) → i < length ns → n ≡ get_or ns i n → drop i ns ≡ n ∷ drop (i + 1) ns
from ns i n lt is = let one : i + 1 ≡ suc i = omega arith in drop-cons ns i n lt ∙ ap (λ (x : ImportNote). x ∷ drop (suc i) ns) (sym is) ∙ ap (λ (k : ℕ). n ∷ drop k ns) (sym one)

-- ---- one object

pub alone_program : (o : Contents) → IsValid o → IsAlone o → IsProgram (o ∷ [])
alone_program o v a = record {
  some = omega arith;
  few = omega arith;
  valid = (v, tt);
  names_differ = (tt, tt);
  met = (all_met (definitions_of o) a, tt);
}
  where
    all_met : (is : List Import) → AllByRecursion IsApart is → AllByRecursion (IsMet (o ∷ [])) is
    all_met [] h = tt
    all_met (i ∷ is) h = (apart h.0, all_met is h.1)

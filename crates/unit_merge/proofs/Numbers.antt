-- The numbers of names are gathered from the last heading to the first.
use Rattle.std.proofs.Common.{◌≡◌, ℕ, cond, List, [], ◌∷◌, ◌++◌, length, Option, None, Some, sym, ap, ◌∙◌, nat_eq, suc-ne-zero}
use Rattle.std.proofs.lemmas.List.{append-nil, append_assoc}
use Rattle.m2_base.specs.declared.outputs.HeadingNote.{HeadingNote}
use Rattle.unit_merge.specs.Objects.{number_of}

-- The names of the headings behind those that are left are found, each by its first heading.
pub record IsFoundBehind (headings left : List HeadingNote) (found : ℕ → Option ℕ) : Type 0 where
  pub behind : List HeadingNote
  pub whole : headings ≡ left ++ behind
  pub first : (name : ℕ) → found name ≡ number_of behind name

-- where all are left
pub none_behind : (headings left : List HeadingNote) (found : ℕ → Option ℕ) → left ≡ headings → ((name : ℕ) → found name ≡ None) → IsFoundBehind headings left found
none_behind headings left found all none = record { behind = []; whole = sym all ∙ sym (append-nil left); first = none }

-- and where the last of them is found too
pub one_more : (headings left before : List HeadingNote) (h : HeadingNote) (found after : ℕ → Option ℕ) → left ≡ before ++ h ∷ []
    → ((name : ℕ) → after name ≡ cond (nat_eq h.name name) (Some h.number) (found name)) → IsFoundBehind headings left found → IsFoundBehind headings before after
one_more headings left before h found after last updated so =
    record { behind = h ∷ so.behind; whole = so.whole ∙ ap (λ xs. xs ++ so.behind) last ∙ append_assoc before (h ∷ []) so.behind; first = λ name. updated name ∙ ap (cond (nat_eq h.name name) (Some h.number)) (so.first name) }

-- and where none is left
pub all_found : (headings left : List HeadingNote) (found : ℕ → Option ℕ) → length left ≡ 0 → IsFoundBehind headings left found → (name : ℕ) → found name ≡ number_of headings name
all_found headings [] found none so name = so.first name ∙ ap (λ xs. number_of xs name) (sym so.whole)
all_found headings (h ∷ left) found none so name = absurd (suc-ne-zero (length left) none)

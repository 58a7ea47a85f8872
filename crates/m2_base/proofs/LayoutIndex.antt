-- The index of a layout is made from the last name to the first.
use Rattle.std.proofs.Common.{◌≡◌, ℕ, cond, List, [], ◌∷◌, ◌++◌, length, Option, None, Some, sym, ap, ◌∙◌, nat_eq, suc-ne-zero}
use Rattle.std.proofs.lemmas.List.{append-nil, append_assoc}
use Rattle.m2_base.specs.Statics.Lookup.{entry_named}
use Rattle.m2_base.specs.declared.sites.Named.{Named}

-- The names behind those that are left are found, each by its first entry.
pub record IsFoundBehind (names left : List Named) (found : ℕ → Option Named) : Type 0 where
  pub behind : List Named
  pub whole : names ≡ left ++ behind
  pub first : (name : ℕ) → found name ≡ entry_named behind name

-- where all are left
pub none_behind : (names left : List Named) (found : ℕ → Option Named) → left ≡ names → ((name : ℕ) → found name ≡ None) → IsFoundBehind names left found
none_behind names left found all none = record { behind = []; whole = sym all ∙ sym (append-nil left); first = none }

-- and where the last of them is found too
pub one_more : (names left before : List Named) (n : Named) (found after : ℕ → Option Named) → left ≡ before ++ n ∷ []
    → ((name : ℕ) → after name ≡ cond (nat_eq n.name name) (Some n) (found name)) → IsFoundBehind names left found → IsFoundBehind names before after
one_more names left before n found after last updated so =
    record { behind = n ∷ so.behind; whole = so.whole ∙ ap (λ xs. xs ++ so.behind) last ∙ append_assoc before (n ∷ []) so.behind; first = λ name. updated name ∙ ap (cond (nat_eq n.name name) (Some n)) (so.first name) }

-- and where none is left
pub all_found : (names left : List Named) (found : ℕ → Option Named) → length left ≡ 0 → IsFoundBehind names left found → (name : ℕ) → found name ≡ entry_named names name
all_found names [] found none so name = so.first name ∙ ap (λ xs. entry_named xs name) (sym so.whole)
all_found names (n ∷ left) found none so name = absurd (suc-ne-zero (length left) none)

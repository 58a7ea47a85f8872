-- What the first of some words can be.
use Rattle.std.proofs.Common.{◌≡◌, ℕ, List, [], ◌∷◌, ◌++◌, map, Some, refl, ap, subst}
use Rattle.std.specs.Prelude.{codes}
use Rattle.m2_base.specs.Lists.{Each}
use Rattle.command_words.specs.Parts.{IsOperand, Part, Spells, an_operand, a_value, over, named, spaced, joined, marked}
use Rattle.command_words.specs.Settings.{spelling, value_in}
use Rattle.command_words.specs.declared.setting.Setting.{Setting}

-- the word and the words behind it spell these parts, by one of the constructors
pub data Begins (word : List ℕ) (words : List (List ℕ)) (parts : List Part) : Type 0 where
  by_operand : (rest : List Part) → IsOperand word → Spells words rest → parts ≡ an_operand word ∷ rest → Begins word words parts
  by_spaced : (s : Setting) (v : List ℕ) (n : ℕ) (behind : List (List ℕ)) (rest : List Part) → word ≡ spelling s → words ≡ v ∷ behind → value_in s v ≡ Some n → Spells behind rest → parts ≡ a_value s n ∷ rest
      → Begins word words parts
  by_joined : (s : Setting) (v : List ℕ) (n : ℕ) (rest : List Part) → word ≡ spelling s ++ 61 ∷ v → value_in s v ≡ Some n → Spells words rest → parts ≡ a_value s n ∷ rest → Begins word words parts
  by_mark : word ≡ codes "--" → Each IsOperand words → parts ≡ map an_operand words → Begins word words parts

pub begins : (all : List (List ℕ)) (parts : List Part) (word : List ℕ) (words : List (List ℕ)) → all ≡ word ∷ words → Spells all parts → Begins word words parts
begins all parts word words e over = cc
begins all parts word words e (named w ws ps is rest) =
    let same : w ≡ word = cc in
    let others : ws ≡ words = cc in
    by_operand ps (subst IsOperand same is) (subst (λ x. Spells x ps) others rest) (ap (λ x. an_operand x ∷ ps) same)
begins all parts word words e (spaced s v n ws ps is rest) =
    let same : word ≡ spelling s = cc in
    let others : words ≡ v ∷ ws = cc in
    by_spaced s v n ws ps same others is rest refl
begins all parts word words e (joined s v n ws ps is rest) =
    let same : word ≡ spelling s ++ 61 ∷ v = cc in
    let others : ws ≡ words = cc in
    by_joined s v n ps same is (subst (λ x. Spells x ps) others rest) refl
begins all parts word words e (marked ws each) =
    let same : word ≡ codes "--" = cc in
    let others : ws ≡ words = cc in
    by_mark same (subst (Each IsOperand) others each) (ap (map an_operand) others)

pub begins_here : (parts : List Part) (word : List ℕ) (words : List (List ℕ)) → Spells (word ∷ words) parts → Begins word words parts
begins_here parts word words h = begins (word ∷ words) parts word words refl h

pub nothing_spelled : (words : List (List ℕ)) (parts : List Part) → words ≡ [] → Spells words parts → parts ≡ []
nothing_spelled words parts e over = refl
nothing_spelled words parts e (named w ws ps is rest) = cc
nothing_spelled words parts e (spaced s v n ws ps is rest) = cc
nothing_spelled words parts e (joined s v n ws ps is rest) = cc
nothing_spelled words parts e (marked ws each) = cc

-- A word is one of these at most: `--`, an option, an option with its value, an operand.
use Rattle.std.proofs.Common.{◌≡◌, ℕ, true, ◌||◌, List, Option, Some, None, length, [], ◌∷◌, ◌++◌, refl, sym, ◌∙◌, ap, subst, arith, drop, get_or}
use Rattle.std.proofs.lemmas.Bool.{and_parts, false≢true}
use Rattle.std.specs.Prelude.{◌&&◌, codes, is_some, nat_le}
use Rattle.std.specs.List.{list_all}
use Rattle.m2_base.specs.Letters.{is_digit}
use Rattle.command_words.specs.Names.{is_name}
use Rattle.command_words.specs.Numerals.{is_numeral}
use Rattle.command_words.specs.Operands.{is_operand, procedures_in}
use Rattle.command_words.specs.Parts.{IsOperand}
use Rattle.command_words.specs.Settings.{spelling}
use Rattle.command_words.specs.declared.setting.Setting.{Setting}
use Rattle.command_words.specs.declared.setting.Setting.TheVariants.{Workers, Steps, Cells}
use Rattle.command_words.proofs.Values.{valued}

-- options differ at the first letter, which is the third byte
letter : Setting → ℕ
letter Workers = 119
letter Steps = 115
letter Cells = 99

third : List ℕ → ℕ
third word = get_or word 2 0

spaced_third : (s : Setting) → third (spelling s) ≡ letter s
unfolding letter third
spaced_third Workers = refl
spaced_third Steps = refl
spaced_third Cells = refl

joined_third : (s : Setting) (v : List ℕ) → third (spelling s ++ 61 ∷ v) ≡ letter s
unfolding letter third
joined_third Workers v = refl
joined_third Steps v = refl
joined_third Cells v = refl

one_letter : (s t : Setting) → letter s ≡ letter t → s ≡ t
unfolding letter
one_letter Workers Workers e = refl
one_letter Workers Steps e = absurd (omega (arith, e))
one_letter Workers Cells e = absurd (omega (arith, e))
one_letter Steps Workers e = absurd (omega (arith, e))
one_letter Steps Steps e = refl
one_letter Steps Cells e = absurd (omega (arith, e))
one_letter Cells Workers e = absurd (omega (arith, e))
one_letter Cells Steps e = absurd (omega (arith, e))
one_letter Cells Cells e = refl

no_text : (x : ℕ) (xs : List ℕ) → [] ≡ x ∷ xs → ⊥
no_text x xs e = cc

mark_third : third (codes "--") ≡ 0
unfolding third
mark_third = refl

letter_some : (s : Setting) → 0 ≡ letter s → ⊥
unfolding letter
letter_some Workers e = omega (arith, e)
letter_some Steps e = omega (arith, e)
letter_some Cells e = omega (arith, e)

pub mark_spaced : (s : Setting) → codes "--" ≡ spelling s → ⊥
mark_spaced s e = letter_some s (sym mark_third ∙ ap third e ∙ spaced_third s)

pub mark_joined : (s : Setting) (v : List ℕ) → codes "--" ≡ spelling s ++ 61 ∷ v → ⊥
mark_joined s v e = letter_some s (sym mark_third ∙ ap third e ∙ joined_third s v)

same_spaced : (s : Setting) (v : List ℕ) → spelling s ≡ spelling s ++ 61 ∷ v → ⊥
same_spaced Workers v e = no_text 61 v (ap (drop 9) e)
same_spaced Steps v e = no_text 61 v (ap (drop 7) e)
same_spaced Cells v e = no_text 61 v (ap (drop 7) e)

pub spaced_joined : (s t : Setting) (v : List ℕ) → spelling s ≡ spelling t ++ 61 ∷ v → ⊥
spaced_joined s t v e =
    let same : s ≡ t = one_letter s t (sym (spaced_third s) ∙ ap third e ∙ joined_third t v) in
    same_spaced s v (subst (λ x. spelling s ≡ spelling x ++ 61 ∷ v) (sym same) e)

pub one_spaced : (s t : Setting) → spelling s ≡ spelling t → s ≡ t
one_spaced s t e = one_letter s t (sym (spaced_third s) ∙ ap third e ∙ spaced_third t)

same_joined : (s : Setting) (v u : List ℕ) → spelling s ++ 61 ∷ v ≡ spelling s ++ 61 ∷ u → v ≡ u
same_joined Workers v u e = ap (drop 10) e
same_joined Steps v u e = ap (drop 8) e
same_joined Cells v u e = ap (drop 8) e

pub one_joined : (s t : Setting) (v u : List ℕ) → spelling s ++ 61 ∷ v ≡ spelling t ++ 61 ∷ u → (s ≡ t) × (v ≡ u)
one_joined s t v u e =
    let same : s ≡ t = one_letter s t (sym (joined_third s v) ∙ ap third e ∙ joined_third t u) in
    (same, same_joined s v u (subst (λ x. spelling s ++ 61 ∷ v ≡ spelling x ++ 61 ∷ u) (sym same) e))

not_numeral : (word : List ℕ) → is_numeral (45 ∷ word) ≡ true → ⊥
not_numeral word h = false≢true (and_parts (nat_le 1 (length (45 ∷ word)) && nat_le (length (45 ∷ word)) 10) (list_all is_digit (45 ∷ word)) h).1

not_operand : (word : List ℕ) → is_operand (45 ∷ word) ≡ true → ⊥
not_operand word h = go (procedures_in (45 ∷ word)) refl
  where
    go : (o : Option ℕ) → procedures_in (45 ∷ word) ≡ o → ⊥
    go None is = false≢true (sym (ap (λ o. is_name (45 ∷ word) || is_some o) is) ∙ h)
    go (Some n) is = not_numeral word (valued 16384 (45 ∷ word) n is).numeral

hyphen : List ℕ → ℕ
hyphen word = get_or word 0 0

-- no operand begins with a hyphen
pub no_hyphen : (b : ℕ) (bs : List ℕ) → IsOperand (b ∷ bs) → b ≡ 45 → ⊥
no_hyphen b bs h e = not_operand bs (subst (λ x. is_operand (x ∷ bs) ≡ true) e h)

starts_other : (word : List ℕ) → IsOperand word → hyphen word ≡ 45 → ⊥
unfolding hyphen
starts_other [] h e = absurd (omega (arith, e))
starts_other (b ∷ bs) h e = not_operand bs (subst (λ x. is_operand (x ∷ bs) ≡ true) e h)

spaced_hyphen : (s : Setting) → hyphen (spelling s) ≡ 45
unfolding hyphen
spaced_hyphen Workers = refl
spaced_hyphen Steps = refl
spaced_hyphen Cells = refl

joined_hyphen : (s : Setting) (v : List ℕ) → hyphen (spelling s ++ 61 ∷ v) ≡ 45
unfolding hyphen
joined_hyphen Workers v = refl
joined_hyphen Steps v = refl
joined_hyphen Cells v = refl

mark_hyphen : hyphen (codes "--") ≡ 45
unfolding hyphen
mark_hyphen = refl

pub named_mark : (word : List ℕ) → IsOperand word → word ≡ codes "--" → ⊥
named_mark word h e = starts_other word h (ap hyphen e ∙ mark_hyphen)

pub named_spaced : (word : List ℕ) (s : Setting) → IsOperand word → word ≡ spelling s → ⊥
named_spaced word s h e = starts_other word h (ap hyphen e ∙ spaced_hyphen s)

pub named_joined : (word : List ℕ) (s : Setting) (v : List ℕ) → IsOperand word → word ≡ spelling s ++ 61 ∷ v → ⊥
named_joined word s v h e = starts_other word h (ap hyphen e ∙ joined_hyphen s v)

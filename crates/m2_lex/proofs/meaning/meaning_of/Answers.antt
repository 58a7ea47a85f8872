use Rattle.std.proofs.Common.{◌≡◌, ◌∙◌, sym, ap, ℕ, ◌-◌, Bool, true, false, List, [], ◌∷◌, if◌then◌else◌, length, get_or, take, drop, arith}
use Rattle.std.proofs.lemmas.Bool.{false≢true}
use Rattle.std.proofs.lemmas.List.{take_all}
use Rattle.m2_base.specs.Letters.{is_blank, is_digit, is_letter, is_quote}
use Rattle.m2_base.specs.Meanings.{Meaning, meaning_of, string_meaning}
use Rattle.m2_lex.proofs.meaning.meaning_of.Goals as goal

-- the fourth of five, where three tests fail and the next holds
fourth : (a b c d : Bool) (p q r x y : Meaning) → a ≡ false → b ≡ false → c ≡ false → d ≡ true
    → (if a then p else (if b then q else (if c then r else (if d then x else y)))) ≡ x
fourth a b c d p q r x y i j k l = rw (i, j, k, l)

-- what begins with a quote stands for a string
quoted : (s : List ℕ) → is_blank (get_or s 0 0) ≡ false → is_letter (get_or s 0 0) ≡ false → is_digit (get_or s 0 0) ≡ false → is_quote (get_or s 0 0) ≡ true
    → string_meaning (get_or s 0 0) (take (length s - 1) (drop 1 s)) ≡ meaning_of s
quoted [] i j k l = absurd (false≢true l)
quoted (b ∷ bs) i j k l =
    ap (string_meaning b) (take_all (length (b ∷ bs) - 1) bs (omega arith)) ∙ sym (fourth (is_blank b) (is_letter b) (is_digit b) (is_quote b) _ _ _ (string_meaning b bs) _ i j k l)

pub returns-then-is_quote : goal.returns-then-is_quote
returns-then-is_quote c =
    c.string_meaning.ensures ∙ quoted c.args.lexeme.now (sym c.is_blank.ensures ∙ c.if-is_blank.false) (sym c.is_letter.ensures ∙ c.if-is_letter.false)
    (sym c.is_digit.ensures ∙ c.if-is_digit.false) (sym c.is_quote.ensures ∙ c.if-is_quote.true)

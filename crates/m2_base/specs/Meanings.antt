-- What a lexeme stands for.
use Rattle.std.specs.Prelude.{ℕ, ◌+◌, ◌-◌, ◌*◌, nat_le, if◌then◌else◌, Bool, true, false, List, [], ◌∷◌, Option, Some}
use Rattle.std.specs.Prelude.{None, codes, fold, is_some}
use Rattle.std.specs.List.{take_while}
use Rattle.m2_base.specs.Diagnostics.{code_of}
use Rattle.m2_base.specs.declared.diagnostic.Diagnostic.TheVariants.{CharacterNotAllowed, CommentNotClosed}
use Rattle.m2_base.specs.declared.diagnostic.Diagnostic.TheVariants.{NumberTooLarge, StringNotClosed}
use Rattle.m2_base.specs.Comments.{opens_comment, behind_comment}
use Rattle.m2_base.specs.Letters.{is_blank, is_letter, is_digit, is_octal_digit, is_hexadecimal_digit, is_quote}
use Rattle.m2_base.specs.Letters.{stays_in}
use Rattle.m2_base.specs.Kinds.{kind_in, reserved_words, symbols}
use Rattle.m2_base.specs.Runs.{is_run_and}
use Rattle.m2_base.specs.declared.kind.TokenKind.{TokenKind}
use Rattle.m2_base.specs.declared.kind.TokenKind.TheVariants.{EndOfText}

-- nothing, a name, a number, a character, a string, a token of a kind that says all, or a fault with its code
pub data Meaning : Type 0 where
  blank : Meaning
  name : List ℕ → Meaning
  number : ℕ → Meaning
  character : ℕ → Meaning
  string : List ℕ → Meaning
  fixed : TokenKind → Meaning
  bad : ℕ → Meaning

-- A stands for ten.
abbrev pub digit_value : ℕ → ℕ
digit_value digit = if is_digit digit then digit - 48 else digit - 55

-- the value of digits to a base
abbrev pub value_in : ℕ → List ℕ → ℕ
value_in base digits = fold (λ value digit. value * base + digit_value digit) 0 digits

-- the greatest number, of 32 bits
abbrev pub greatest_number : ℕ
greatest_number = 4294967295

-- the greatest number of a character, of 8 bits
abbrev pub greatest_character : ℕ
greatest_character = 255

-- a greater number is a fault
abbrev pub number_of : ℕ → Meaning
number_of value = if nat_le value greatest_number then number value else bad (code_of NumberTooLarge)

-- a greater character is a fault
abbrev pub character_of : ℕ → Meaning
character_of value = if nat_le value greatest_character then character value else bad (code_of NumberTooLarge)

-- What a numeral stands for: `H` ends hexadecimal digits, `B` octal ones, and `C` those of a character.
abbrev pub numeral_meaning : List ℕ → Meaning
numeral_meaning bytes =
    if is_run_and is_hexadecimal_digit (codes "H") bytes then
    number_of (value_in 16 (take_while is_hexadecimal_digit bytes))
    else (if is_run_and is_octal_digit (codes "B") bytes then number_of (value_in 8 (take_while is_octal_digit bytes))
    else (if is_run_and is_octal_digit (codes "C") bytes then
    character_of (value_in 8 (take_while is_octal_digit bytes))
    else number_of (value_in 10 bytes)))

-- What a string stands for, by its quote and what follows that: what stands between the quotes.
-- An open one is fault 12.
abbrev pub string_meaning : ℕ → List ℕ → Meaning
string_meaning quote bytes = if is_run_and (stays_in quote) (quote ∷ []) bytes then
    string (take_while (stays_in quote) bytes) else bad (code_of StringNotClosed)

-- A comment separates tokens as a blank does. An open one is fault 11.
abbrev pub comment_meaning : List ℕ → Meaning
comment_meaning bytes = if is_some (behind_comment bytes) then blank else bad (code_of CommentNotClosed)

abbrev pub fixed_or : Option TokenKind → Meaning → Meaning
fixed_or (Some kind) other = fixed kind
fixed_or None other = other

-- What a lexeme stands for, by its first byte. Nothing spells the end of the text.
-- Fault 10 is a byte that no token has.
abbrev pub meaning_of : List ℕ → Meaning
meaning_of [] = fixed EndOfText
meaning_of (b ∷ bs) =
    if is_blank b then blank
    else (if is_letter b then fixed_or (kind_in reserved_words (b ∷ bs)) (name (b ∷ bs))
    else (if is_digit b then numeral_meaning (b ∷ bs)
    else (if is_quote b then string_meaning b bs
    else (if opens_comment (b ∷ bs) then comment_meaning (b ∷ bs)
    else fixed_or (kind_in symbols (b ∷ bs)) (bad (code_of CharacterNotAllowed))))))

abbrev pub is_blank_meaning : Meaning → Bool
is_blank_meaning blank = true
is_blank_meaning (name text) = false
is_blank_meaning (number value) = false
is_blank_meaning (character value) = false
is_blank_meaning (string bytes) = false
is_blank_meaning (fixed kind) = false
is_blank_meaning (bad code) = false

-- the lexeme is no token
abbrev pub is_blank_lexeme : List ℕ → Bool
is_blank_lexeme lexeme = is_blank_meaning (meaning_of lexeme)

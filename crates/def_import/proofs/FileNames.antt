-- The bytes of an identifier are letters and digits, so they are text.
use Rattle.std.proofs.Common.{◌≡◌, ℕ, ◌<◌, Bool, true, false, List, [], ◌∷◌, Option, Some, None, refl, sym, ◌∙◌, ap, arith, if◌then◌else◌}
use Rattle.std.specs.List.{list_all}
use Rattle.std.specs.Prelude.{nat_le, is_some, codes}
use Rattle.std.specs.Str.{IsAscii, IsUtf8}
use Rattle.std.proofs.lemmas.Bool.{and_parts, false≢true}
use Rattle.std.proofs.lemmas.Bool.Decides.{nat_tests}
use Rattle.std.proofs.lemmas.Str.{IsUtf8-from_ascii}
use Rattle.std.proofs.lemmas.Str.Ascii.{IsAscii-nil, IsAscii-cons}
use Rattle.m2_base.specs.Comments.{behind_comment, opens_comment}
use Rattle.m2_base.specs.Kinds.{kind_in, reserved_words, symbols}
use Rattle.m2_base.specs.Letters.{goes_on, is_blank, is_digit, is_hexadecimal_digit, is_letter, is_octal_digit, is_quote, stays_in}
use Rattle.m2_base.specs.Meanings.{Meaning, blank, name, number, character, string, fixed, bad, fixed_or, number_of, character_of, numeral_meaning, string_meaning, comment_meaning, value_in}
use Rattle.m2_base.specs.Runs.{is_run_and}
use Rattle.m2_base.specs.Units.{IsIdentifier}
use Rattle.m2_base.specs.declared.kind.TokenKind.{TokenKind}
use Rattle.std.specs.List.{take_while}

abbrev is_name : Meaning → Bool
is_name blank = false
is_name (name text) = true
is_name (number value) = false
is_name (character value) = false
is_name (string bytes) = false
is_name (fixed kind) = false
is_name (bad code) = false

abbrev Other : Meaning → Type 0
Other m = is_name m ≡ false

other_if : (t : Bool) (x y : Meaning) → Other x → Other y → Other (if t then x else y)
other_if true x y h k = h
other_if false x y h k = k

other_fixed : (o : Option TokenKind) (m : Meaning) → Other m → Other (fixed_or o m)
other_fixed None m h = h
other_fixed (Some kind) m h = refl

other_number : (value : ℕ) → Other (number_of value)
other_number value = other_if (nat_le value 4294967295) (number value) (bad 13) refl refl

other_character : (value : ℕ) → Other (character_of value)
other_character value = other_if (nat_le value 255) (character value) (bad 13) refl refl

other_numeral : (bytes : List ℕ) → Other (numeral_meaning bytes)
other_numeral bytes =
    other_if (is_run_and is_hexadecimal_digit (codes "H") bytes) _ _ (other_number (value_in 16 (take_while is_hexadecimal_digit bytes)))
    (other_if (is_run_and is_octal_digit (codes "B") bytes) _ _ (other_number (value_in 8 (take_while is_octal_digit bytes)))
    (other_if (is_run_and is_octal_digit (codes "C") bytes) _ _ (other_character (value_in 8 (take_while is_octal_digit bytes))) (other_number (value_in 10 bytes))))

-- what begins with no letter is no name
other_rest : (b : ℕ) (bs : List ℕ) → Other (if is_digit b then numeral_meaning (b ∷ bs)
    else (if is_quote b then string_meaning b bs
    else (if opens_comment (b ∷ bs) then comment_meaning (b ∷ bs)
    else fixed_or (kind_in symbols (b ∷ bs)) (bad 10))))
other_rest b bs =
    other_if (is_digit b) _ _ (other_numeral (b ∷ bs))
    (other_if (is_quote b) _ _ (other_if (is_run_and (stays_in b) (b ∷ []) bs) _ _ refl refl)
    (other_if (opens_comment (b ∷ bs)) _ _ (other_if (is_some (behind_comment (b ∷ bs))) _ _ refl refl)
    (other_fixed (kind_in symbols (b ∷ bs)) (bad 10) refl)))

small : (c : ℕ) → goes_on c ≡ true → c < 128
small c h = grind (arith, nat_tests)

letter : (c : ℕ) → is_letter c ≡ true → c < 128
letter c h = grind (arith, nat_tests)

all_small : (bytes : List ℕ) → list_all goes_on bytes ≡ true → IsAscii bytes
all_small [] h = IsAscii-nil
all_small (b ∷ bytes) h = let p = and_parts (goes_on b) (list_all goes_on bytes) h in IsAscii-cons b bytes (small b p.0) (all_small bytes p.1)

begins : (b : ℕ) (bs : List ℕ) (blank_first letter_first other : Bool) → is_letter b ≡ letter_first
    → is_name (if blank_first then blank else (if letter_first then fixed_or (kind_in reserved_words (b ∷ bs)) (name (b ∷ bs)) else (if is_digit b then numeral_meaning (b ∷ bs)
    else (if is_quote b then string_meaning b bs
    else (if opens_comment (b ∷ bs) then comment_meaning (b ∷ bs)
    else fixed_or (kind_in symbols (b ∷ bs)) (bad 10)))))) ≡ true
    → (if blank_first then list_all is_blank bs else (if letter_first then list_all goes_on bs else other)) ≡ true
    → IsAscii (b ∷ bs)
begins b bs true l other e h k = absurd (false≢true h)
begins b bs false true other e h k = IsAscii-cons b bs (letter b e) (all_small bs k)
begins b bs false false other e h k = absurd (false≢true (sym (other_rest b bs) ∙ h))

pub identifier_ascii : (bytes : List ℕ) → IsIdentifier bytes → IsAscii bytes
identifier_ascii [] i = IsAscii-nil
identifier_ascii (b ∷ bs) i = begins b bs (is_blank b) (is_letter b) _ refl (ap is_name i.spells) i.one

pub identifier_text : (bytes : List ℕ) → IsIdentifier bytes → IsUtf8 bytes
identifier_text bytes i = IsUtf8-from_ascii bytes (identifier_ascii bytes i)

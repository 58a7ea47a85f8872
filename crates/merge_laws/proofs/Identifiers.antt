-- The name of an identifier's token is an identifier of an object.
use Rattle.std.proofs.Common.{◌≡◌, ℕ, Bool, true, false, ◌&&◌, List, [], ◌∷◌, Option, Some, None, refl, sym, ◌∙◌, ap, if◌then◌else◌}
use Rattle.std.specs.List.{list_all, take_while}
use Rattle.std.specs.Prelude.{nat_le, is_some, codes}
use Rattle.m2_base.specs.Comments.{behind_comment, opens_comment}
use Rattle.m2_base.specs.Kinds.{kind_in, reserved_words, symbols}
use Rattle.m2_base.specs.Letters.{goes_on, is_blank, is_digit, is_hexadecimal_digit, is_letter, is_octal_digit, is_quote, stays_in}
use Rattle.m2_base.specs.Meanings.{Meaning, bad, blank, character, comment_meaning, fixed, fixed_or, name, number, number_of, numeral_meaning, string, string_meaning, value_in}
use Rattle.m2_base.specs.Runs.{is_run_and}
use Rattle.m2_base.specs.Units.{IsIdentifier}
use Rattle.m2_base.specs.declared.kind.TokenKind.{TokenKind}
use Rattle.object_file.specs.ObjectFormat.{is_identifier}

abbrev is_name : Meaning → Bool
is_name blank = false
is_name (name text) = true
is_name (number value) = false
is_name (character value) = false
is_name (string bytes) = false
is_name (fixed kind) = false
is_name (bad code) = false

abbrev Other : Meaning → Type 0
Other m = is_name m ≡ false

other_if : (t : Bool) (x y : Meaning) → Other x → Other y → Other (if t then x else y)
other_if true x y h k = h
other_if false x y h k = k

other_fixed : (o : Option TokenKind) (m : Meaning) → Other m → Other (fixed_or o m)
other_fixed None m h = h
other_fixed (Some kind) m h = refl

other_number : (value : ℕ) → Other (number_of value)
other_number value = other_if (nat_le value 4294967295) (number value) (bad 13) refl refl

other_numeral : (bytes : List ℕ) → Other (numeral_meaning bytes)
other_numeral bytes =
    other_if (is_run_and is_hexadecimal_digit (codes "H") bytes) _ _ (other_number (value_in 16 (take_while is_hexadecimal_digit bytes)))
    (other_if (is_run_and is_octal_digit (codes "B") bytes) _ _ (other_number (value_in 8 (take_while is_octal_digit bytes)))
    (other_if (is_run_and is_octal_digit (codes "C") bytes) _ _ (other_if (nat_le (value_in 8 (take_while is_octal_digit bytes)) 255) (character (value_in 8 (take_while is_octal_digit bytes))) (bad 13) refl refl) (other_number (value_in 10 bytes))))

-- what begins with no letter is no name
other_rest : (b : ℕ) (bs : List ℕ) → Other (if is_digit b then numeral_meaning (b ∷ bs)
    else (if is_quote b then string_meaning b bs
    else (if opens_comment (b ∷ bs) then comment_meaning (b ∷ bs)
    else fixed_or (kind_in symbols (b ∷ bs)) (bad 10))))
other_rest b bs =
    other_if (is_digit b) _ _ (other_numeral (b ∷ bs))
    (other_if (is_quote b) _ _ (other_if (is_run_and (stays_in b) (b ∷ []) bs) _ _ refl refl)
    (other_if (opens_comment (b ∷ bs)) _ _ (other_if (is_some (behind_comment (b ∷ bs))) _ _ refl refl)
    (other_fixed (kind_in symbols (b ∷ bs)) (bad 10) refl)))

begins : (b : ℕ) (bs : List ℕ) (blank_first letter_first other : Bool) → is_letter b ≡ letter_first
    → is_name (if blank_first then blank else (if letter_first then fixed_or (kind_in reserved_words (b ∷ bs)) (name (b ∷ bs)) else (if is_digit b then numeral_meaning (b ∷ bs)
    else (if is_quote b then string_meaning b bs
    else (if opens_comment (b ∷ bs) then comment_meaning (b ∷ bs)
    else fixed_or (kind_in symbols (b ∷ bs)) (bad 10)))))) ≡ true
    → (if blank_first then list_all is_blank bs else (if letter_first then list_all goes_on bs else other)) ≡ true
    → (is_letter b && list_all goes_on bs) ≡ true
begins b bs true l other e h k = absurd (let no : false ≡ true = h in cc)
begins b bs false true other e h k = ap (λ (t : Bool). t && list_all goes_on bs) e ∙ k
begins b bs false false other e h k = absurd (let no : false ≡ true = sym (other_rest b bs) ∙ h in cc)

pub identifier_is : (bytes : List ℕ) → IsIdentifier bytes → is_identifier bytes ≡ true
unfolding is_identifier
identifier_is [] i = absurd (let no : false ≡ true = i.one in cc)
identifier_is (b ∷ bs) i = begins b bs (is_blank b) (is_letter b) _ refl (ap is_name i.spells) i.one

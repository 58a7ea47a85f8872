-- The names that a text brings may be spelled so: they are short, and of bytes.
use Rattle.std.specs.Prelude.{◌≡◌, ℕ, zero, suc, ◌+◌, ◌<◌, ◌≤◌, ◌^◌, Bool, true, false, ◌&&◌, nat_le, nat_lt, if◌then◌else◌, List, [], ◌∷◌, ◌++◌, Option, Some, None, codes, is_some, length, min, slice_index_or, take}
use Rattle.std.proofs.Common.{refl, ap, subst, ◌∙◌, arith, get_or}
use Rattle.std.specs.List.{list_all, list_any, prefix_len, take_while}
use Rattle.std.specs.Str.{bytes_eq}
use Rattle.std.proofs.lemmas.Bool.{and_parts, le-leb, leb-true, lt-ltb, ltb-true}
use Rattle.std.proofs.lemmas.List.{length-append, length-take}
use Rattle.m2_base.specs.Comments.{behind_comment, opens_comment}
use Rattle.m2_base.specs.Kinds.{kind_in, reserved_words, symbols}
use Rattle.m2_base.specs.Letters.{is_blank, is_digit, is_hexadecimal_digit, is_letter, is_octal_digit, is_quote, stays_in}
use Rattle.m2_base.specs.Lexemes.{AreLexemes}
use Rattle.m2_base.specs.Lists.{Each}
use Rattle.m2_base.specs.Meanings.{Meaning, bad, character, character_of, fixed_or, meaning_of, name, number, number_of, numeral_meaning, string, value_in}
use Rattle.m2_base.specs.Names.{standard_names, with_name, with_names}
use Rattle.m2_base.specs.Runs.{is_run_and}
use Rattle.m2_base.specs.Tokens.{AreTokens, names_in, names_of}
use Rattle.m2_base.specs.Units.{IsSpelling}
use Rattle.m2_base.specs.declared.kind.TokenKind.{TokenKind}
use Rattle.m2_base.specs.declared.token.Token.{Token}

-- ** Bytes

abbrev is_byte : ℕ → Bool
is_byte b = nat_lt b 256

abbrev are_bytes : List ℕ → Bool
are_bytes bytes = list_all is_byte bytes

both_true : (a b : Bool) → a ≡ true → b ≡ true → (a && b) ≡ true
both_true true b e f = f
both_true false b e f = e

all_bytes : (bytes : List ℕ) → ((i : ℕ) → get_or bytes i 0 < 256) → are_bytes bytes ≡ true
all_bytes [] h = refl
all_bytes (b ∷ bytes) h = both_true (is_byte b) (are_bytes bytes) (lt-ltb b 256 (h 0)) (all_bytes bytes (λ i. h (suc i)))

bytes_front : (xs ys : List ℕ) → are_bytes (xs ++ ys) ≡ true → are_bytes xs ≡ true
bytes_front [] ys h = refl
bytes_front (x ∷ xs) ys h = let p = and_parts (is_byte x) (are_bytes (xs ++ ys)) h in both_true (is_byte x) (are_bytes xs) p.0 (bytes_front xs ys p.1)

bytes_behind : (xs ys : List ℕ) → are_bytes (xs ++ ys) ≡ true → are_bytes ys ≡ true
bytes_behind [] ys h = h
bytes_behind (x ∷ xs) ys h = bytes_behind xs ys (and_parts (is_byte x) (are_bytes (xs ++ ys)) h).1

-- ** Names

-- a text that is short, and of bytes
abbrev is_sound_name : List ℕ → Bool
is_sound_name text = nat_le (length text) 1048576 && are_bytes text

abbrev are_sound : List (List ℕ) → Bool
are_sound names = list_all is_sound_name names

first_bytes : (n : ℕ) (bytes : List ℕ) → are_bytes bytes ≡ true → are_bytes (take n bytes) ≡ true
first_bytes zero bytes h = refl
first_bytes (suc n) [] h = refl
first_bytes (suc n) (b ∷ bytes) h =
    let p = and_parts (is_byte b) (are_bytes bytes) h in both_true (is_byte b) (are_bytes (take n bytes)) p.0 (first_bytes n bytes p.1)

-- what is read of the front of some bytes
front_sound : (n : ℕ) (bytes : List ℕ) → length bytes ≤ 1048576 → are_bytes bytes ≡ true → is_sound_name (take n bytes) ≡ true
front_sound n bytes short h =
    let l : length (take n bytes) ≡ min n (length bytes) = length-take n bytes in
    both_true (nat_le (length (take n bytes)) 1048576) (are_bytes (take n bytes)) (le-leb (length (take n bytes)) 1048576 (omega (arith, l, short))) (first_bytes n bytes h)

name_sound : (b : ℕ) (bytes : List ℕ) → length (b ∷ bytes) ≤ 1048576 → are_bytes (b ∷ bytes) ≡ true → is_sound_name (b ∷ bytes) ≡ true
name_sound b bytes short h =
    both_true (nat_le (length (b ∷ bytes)) 1048576) (are_bytes (b ∷ bytes)) (le-leb (length (b ∷ bytes)) 1048576 short) h

one_sound : (text : List ℕ) → is_sound_name text ≡ true → are_sound (text ∷ []) ≡ true
one_sound text h = both_true (is_sound_name text) true h refl

-- ** The names of lexemes

-- the names that a meaning brings are sound
abbrev BringsSound : Meaning → Type 0
BringsSound m = are_sound (names_of m) ≡ true

brings_if : (t : Bool) (x y : Meaning) → BringsSound x → BringsSound y → BringsSound (if t then x else y)
brings_if true x y h k = h
brings_if false x y h k = k

brings_fixed : (o : Option TokenKind) (other : Meaning) → BringsSound other → BringsSound (fixed_or o other)
brings_fixed None other h = h
brings_fixed (Some k) other h = refl

brings_number : (value : ℕ) → BringsSound (number_of value)
brings_number value = brings_if (nat_le value 4294967295) (number value) (bad 13) refl refl

brings_character : (value : ℕ) → BringsSound (character_of value)
brings_character value = brings_if (nat_le value 255) (character value) (bad 13) refl refl

brings_numeral : (bytes : List ℕ) → BringsSound (numeral_meaning bytes)
brings_numeral bytes =
    brings_if (is_run_and is_hexadecimal_digit (codes "H") bytes) _ _ (brings_number (value_in 16 (take_while is_hexadecimal_digit bytes)))
    (brings_if (is_run_and is_octal_digit (codes "B") bytes) _ _ (brings_number (value_in 8 (take_while is_octal_digit bytes)))
    (brings_if (is_run_and is_octal_digit (codes "C") bytes) _ _ (brings_character (value_in 8 (take_while is_octal_digit bytes))) (brings_number (value_in 10 bytes))))

lexeme_sound : (lexeme : List ℕ) → length lexeme ≤ 1048576 → are_bytes lexeme ≡ true → BringsSound (meaning_of lexeme)
lexeme_sound [] short h = refl
lexeme_sound (b ∷ bs) short h =
    let l : List ℕ = b ∷ bs in
    brings_if (is_blank b) _ _ refl
    (brings_if (is_letter b) _ _ (brings_fixed (kind_in reserved_words l) (name l) (one_sound l (name_sound b bs short h)))
    (brings_if (is_digit b) _ _ (brings_numeral l)
    (brings_if (is_quote b) _ _
    (brings_if (is_run_and (stays_in b) (b ∷ []) bs) (string (take_while (stays_in b) bs)) (bad 12)
    (one_sound (take_while (stays_in b) bs) (front_sound (prefix_len (stays_in b) bs) bs (omega (arith, short)) (and_parts (is_byte b) (are_bytes bs) h).1)) refl)
    (brings_if (opens_comment l) _ _ (brings_if (is_some (behind_comment l)) _ _ refl refl)
    (brings_fixed (kind_in symbols l) (bad 10) refl)))))

joined_sound : (xs ys : List (List ℕ)) → are_sound xs ≡ true → are_sound ys ≡ true → are_sound (xs ++ ys) ≡ true
joined_sound [] ys h k = k
joined_sound (x ∷ xs) ys h k = let p = and_parts (is_sound_name x) (are_sound xs) h in both_true (is_sound_name x) (are_sound (xs ++ ys)) p.0 (joined_sound xs ys p.1 k)

lexemes_sound : (text : List ℕ) (lexemes : List (List ℕ)) → length text ≤ 1048576 → are_bytes text ≡ true → AreLexemes text lexemes → are_sound (names_in lexemes) ≡ true
lexemes_sound text [] short h split = refl
lexemes_sound text (lexeme ∷ lexemes) short h split =
    let sizes : length text ≡ length lexeme + length split.0 = ap length split.1 ∙ length-append lexeme split.0 in
    let bytes : are_bytes (lexeme ++ split.0) ≡ true = subst (λ (t : List ℕ). are_bytes t ≡ true) split.1 h in
    joined_sound (names_of (meaning_of lexeme)) (names_in lexemes) (lexeme_sound lexeme (omega (arith, sizes, short)) (bytes_front lexeme split.0 bytes))
    (lexemes_sound split.0 lexemes (omega (arith, sizes, short)) (bytes_behind lexeme split.0 bytes) split.3)

-- ** The names of the unit

with_sound : (names : List (List ℕ)) (text : List ℕ) → are_sound names ≡ true → is_sound_name text ≡ true → are_sound (with_name names text) ≡ true
with_sound names text h k = by_test (list_any (bytes_eq text) names)
  where
    by_test : (t : Bool) → are_sound (if t then names else names ++ text ∷ []) ≡ true
    by_test true = h
    by_test false = joined_sound names (text ∷ []) h (one_sound text k)

all_with_sound : (new names : List (List ℕ)) → are_sound names ≡ true → are_sound new ≡ true → are_sound (with_names names new) ≡ true
all_with_sound [] names h k = h
all_with_sound (x ∷ new) names h k =
    let p = and_parts (is_sound_name x) (are_sound new) k in all_with_sound new (with_name names x) (with_sound names x h p.0) p.1

standard_sound : are_sound standard_names ≡ true
unfolding standard_names
standard_sound = refl

-- ** As facts

bytes_each : (bytes : List ℕ) → are_bytes bytes ≡ true → Each (λ byte. byte < 256) bytes
bytes_each [] h = tt
bytes_each (b ∷ bytes) h = let p = and_parts (is_byte b) (are_bytes bytes) h in (ltb-true b 256 p.0, bytes_each bytes p.1)

spelling : (text : List ℕ) → is_sound_name text ≡ true → IsSpelling text
spelling text h =
    let p = and_parts (nat_le (length text) 1048576) (are_bytes text) h in record { short = leb-true (length text) 1048576 p.0; bytes = bytes_each text p.1 }

spellings : (names : List (List ℕ)) → are_sound names ≡ true → Each IsSpelling names
spellings [] h = tt
spellings (x ∷ names) h = let p = and_parts (is_sound_name x) (are_sound names) h in (spelling x p.0, spellings names p.1)

each_bytes : (bytes : List ℕ) → Each (λ byte. byte < 256) bytes → are_bytes bytes ≡ true
each_bytes [] h = refl
each_bytes (b ∷ bytes) h = both_true (is_byte b) (are_bytes bytes) (lt-ltb b 256 h.0) (each_bytes bytes h.1)

sound_spelling : (text : List ℕ) → IsSpelling text → is_sound_name text ≡ true
sound_spelling text h =
    both_true (nat_le (length text) 1048576) (are_bytes text) (le-leb (length text) 1048576 h.short) (each_bytes text h.bytes)

sound_spellings : (names : List (List ℕ)) → Each IsSpelling names → are_sound names ≡ true
sound_spellings [] h = refl
sound_spellings (x ∷ names) h = both_true (is_sound_name x) (are_sound names) (sound_spelling x h.0) (sound_spellings names h.1)

-- the names that every unit begins with
pub standard_spelled : Each IsSpelling standard_names
standard_spelled = spellings standard_names standard_sound

-- with one more name
pub spelled_with : (names : List (List ℕ)) (text : List ℕ) → Each IsSpelling names → length text ≤ 1048576 → ((i : ℕ) → get_or text i 0 < 256) → Each IsSpelling (with_name names text)
spelled_with names text h short bytes =
    let sound : is_sound_name text ≡ true = both_true (nat_le (length text) 1048576) (are_bytes text) (le-leb (length text) 1048576 short) (all_bytes text bytes) in
    spellings (with_name names text) (with_sound names text (sound_spellings names h) sound)

-- with those of a text of bytes
pub spelled_after : (old new : List (List ℕ)) (text : List ℕ) (tokens : List Token) → Each IsSpelling old → length text ≤ 1048576 → ((i : ℕ) → get_or text i 0 < 256) → AreTokens old new text tokens
    → Each IsSpelling new
spelled_after old new text tokens h short bytes are =
    let lexemes : are_sound (names_in are.lexemes) ≡ true = lexemes_sound text are.lexemes short (all_bytes text bytes) are.split in
    spellings new (ap are_sound are.names ∙ all_with_sound (names_in are.lexemes) old (sound_spellings old h) lexemes)

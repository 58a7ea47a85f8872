-- The lexemes of a text, as the bytes that spell them.
use Rattle.std.specs.Prelude.{◌≡◌, ℕ, ◌<◌, ◌≤◌, Bool, false, ◌||◌, is_some, if◌then◌else◌, List, [], ◌∷◌, ◌++◌, length}
use Rattle.std.specs.Prelude.{take, codes, IsTrue}
use Rattle.std.specs.List.{list_all}
use Rattle.std.specs.Str.{bytes_eq}
use Rattle.m2_base.specs.Comments.{is_comment}
use Rattle.m2_base.specs.Letters.{is_digit, is_octal_digit, is_hexadecimal_digit, is_letter, goes_on, is_blank}
use Rattle.m2_base.specs.Letters.{is_quote, stays_in}
use Rattle.m2_base.specs.Kinds.{kind_in, symbols}
use Rattle.m2_base.specs.Runs.{is_run_and}

-- digits; octal digits and `B`, or `C` for a character; or hexadecimal digits and `H`
abbrev pub is_numeral : List ℕ → Bool
is_numeral bytes =
    list_all is_digit bytes
    || is_run_and is_octal_digit (codes "B") bytes
    || is_run_and is_octal_digit (codes "C") bytes
    || is_run_and is_hexadecimal_digit (codes "H") bytes

-- What follows the quote that opens a string: what it holds, and the quote that closes it, unless it is open.
abbrev pub fills_string : ℕ → List ℕ → Bool
fills_string quote bytes = list_all (stays_in quote) bytes || is_run_and (stays_in quote) (quote ∷ []) bytes

-- Which bytes may follow the first one in a lexeme: blanks a blank, letters and digits a letter, the rest of a numeral
-- a digit, the rest of a string a quote. Any other byte stands alone, or begins a symbol or a comment.
abbrev pub continues : ℕ → List ℕ → Bool
continues b bs =
    if is_blank b then list_all is_blank bs
    else (if is_letter b then list_all goes_on bs
    else (if is_digit b then is_numeral (b ∷ bs)
    else (if is_quote b then fills_string b bs
    else (bytes_eq bs [] || is_some (kind_in symbols (b ∷ bs)) || is_comment (b ∷ bs)))))

-- the bytes spell one lexeme
abbrev pub is_lexeme : List ℕ → Bool
is_lexeme [] = false
is_lexeme (b ∷ bs) = continues b bs

-- the bytes spell a lexeme, and it doesn't go on with any of what follows
pub record IsLongest (lexeme after : List ℕ) : Type 0 where
  pub spells : IsTrue (is_lexeme lexeme)
  pub none_longer : (n : ℕ) → 0 < n → n ≤ length after → is_lexeme (lexeme ++ take n after) ≡ false

-- These are the lexemes of a text: they make it up one after another, and each is the longest match at its place.
abbrev pub AreLexemes : List ℕ → List (List ℕ) → Type 0
AreLexemes text [] = text ≡ []
AreLexemes text (lexeme ∷ lexemes) =
    (after : List ℕ) × (text ≡ lexeme ++ after) × IsLongest lexeme after × AreLexemes after lexemes

-- The bytes that tell the tokens of a text. Blanks and comments are no tokens, so they tell nothing.
use Rattle.std.specs.Prelude.{ℕ, Bool, ◌==◌, ◌||◌, if◌then◌else◌, List, [], ◌∷◌, ◌++◌, length, slice_index_or}
use Rattle.std.specs.Int.{w32, w64, to_le_bytes}
use Rattle.std.specs.List.{flat_map}
use Rattle.m2_base.specs.KindNumbers.{kind_number}
use Rattle.m2_base.specs.declared.kind.TokenKind.{TokenKind}
use Rattle.m2_base.specs.declared.kind.TokenKind.TheVariants.{EndOfText, Identifier, Number, Character, «String»}
use Rattle.m2_base.specs.declared.token.Token.{Token}

-- the token is of this kind
abbrev pub is_of : TokenKind → Token → Bool
is_of kind t = kind_number t.kind == kind_number kind

-- a name, or what stands between the quotes of a string: its length in four bytes, and its bytes
abbrev pub spelled_bytes : List ℕ → List ℕ
spelled_bytes text = to_le_bytes w32 (length text) ++ text

-- what stands behind a token's kind: its name, the value of a number or a character in eight bytes, or nothing
abbrev pub value_bytes : (names : List (List ℕ)) → Token → List ℕ
value_bytes names t =
    if is_of Identifier t || is_of «String» t then spelled_bytes (slice_index_or names t.value [])
    else if is_of Number t || is_of Character t then to_le_bytes w64 t.value else []

-- a token: the number of its kind in one byte, and what stands behind it. The end of the text tells nothing.
abbrev pub token_bytes : (names : List (List ℕ)) → Token → List ℕ
token_bytes names t = if is_of EndOfText t then [] else kind_number t.kind ∷ value_bytes names t

-- the tokens of a text
abbrev pub text_bytes : (names : List (List ℕ)) → List Token → List ℕ
text_bytes names tokens = flat_map (token_bytes names) tokens

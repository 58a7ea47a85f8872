-- The tokens of a text: its lexemes that aren't blanks, each with its number and its place, and the end as the last.
use Rattle.std.specs.Prelude.{◌≡◌, ℕ, ◌+◌, List, [], ◌∷◌, ◌++◌, if◌then◌else◌, Some}
use Rattle.std.specs.List.{AllZip}
use Rattle.m2_base.specs.Lexemes.{AreLexemes}
use Rattle.m2_base.specs.Meanings.{Meaning, blank, name, number, character, string, fixed, bad, meaning_of}
use Rattle.m2_base.specs.Meanings.{is_blank_lexeme}
use Rattle.m2_base.specs.Names.{number_in, with_names}
use Rattle.m2_base.specs.Positions.{Position, first_position, after_bytes}
use Rattle.m2_base.specs.declared.kind.TokenKind.{TokenKind}
use Rattle.m2_base.specs.declared.kind.TokenKind.TheVariants.{Identifier, Number, Character, String as StringKind, Bad}
use Rattle.m2_base.specs.declared.token.Token.{Token}

-- a lexeme that is a token, with the token's number and the place of its first byte
pub record Placed : Type 0 where
  pub lexeme : List ℕ
  pub at : ℕ
  pub position : Position

-- the tokens among these lexemes, of which the first stands at that place and is that token; the end comes last
abbrev pub placed_from : Position → ℕ → List (List ℕ) → List Placed
placed_from p at [] = record { lexeme = []; at = at; position = p } ∷ []
placed_from p at (lexeme ∷ lexemes) =
    if is_blank_lexeme lexeme then placed_from (after_bytes p lexeme) at lexemes
    else record { lexeme = lexeme; at = at; position = p } ∷ placed_from (after_bytes p lexeme) (at + 1) lexemes

abbrev pub placed : List (List ℕ) → List Placed
placed lexemes = placed_from first_position 0 lexemes

-- the names that a meaning brings: a string is numbered as a name is
abbrev pub names_of : Meaning → List (List ℕ)
names_of blank = []
names_of (name text) = text ∷ []
names_of (number value) = []
names_of (character value) = []
names_of (string bytes) = bytes ∷ []
names_of (fixed kind) = []
names_of (bad code) = []

-- the names among these lexemes, in order
abbrev pub names_in : List (List ℕ) → List (List ℕ)
names_in [] = []
names_in (lexeme ∷ lexemes) = names_of (meaning_of lexeme) ++ names_in lexemes

-- the token has this kind and this value
abbrev pub Says : Token → TokenKind → ℕ → Type 0
Says token kind value = (token.kind ≡ kind) × (token.value ≡ value)

-- the token has this kind and the number of these bytes
abbrev pub SaysName : List (List ℕ) → Token → TokenKind → List ℕ → Type 0
SaysName names token kind bytes = (token.kind ≡ kind) × (number_in names bytes ≡ Some token.value)

-- the token's kind and value say the meaning; a name and a string are given by their numbers
abbrev pub Means : List (List ℕ) → Meaning → Token → Type 0
Means names blank token = ⊥
Means names (name text) token = SaysName names token Identifier text
Means names (number value) token = Says token Number value
Means names (character value) token = Says token Character value
Means names (string bytes) token = SaysName names token StringKind bytes
Means names (fixed kind) token = Says token kind 0
Means names (bad code) token = Says token Bad code

pub record IsToken (names : List (List ℕ)) (placed : Placed) (token : Token) : Type 0 where
  pub means : Means names (meaning_of placed.lexeme) token
  pub at : token.at ≡ placed.at
  pub line : token.line ≡ placed.position.line
  pub column : token.column ≡ placed.position.column

-- These are the tokens of a text whose names are numbered on from the old ones.
pub record AreTokens (old new : List (List ℕ)) (text : List ℕ) (tokens : List Token) : Type 0 where
  pub lexemes : List (List ℕ)
  pub split : AreLexemes text lexemes
  pub names : new ≡ with_names old (names_in lexemes)
  pub each : AllZip (IsToken new) (placed lexemes) tokens

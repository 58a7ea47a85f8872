-- What a lexeme adds to the tokens.
use Rattle.std.specs.Prelude.{◌≡◌, ℕ, List, [], ◌∷◌, ◌++◌, length, if◌then◌else◌, Option, Some, None}
use Rattle.std.specs.List.{AllZip}
use Rattle.m2_base.specs.Meanings.{is_blank_lexeme}
use Rattle.m2_base.specs.Positions.{Position}
use Rattle.m2_base.specs.Tokens.{Placed, IsToken}
use Rattle.m2_base.specs.declared.token.Token.{Token}

abbrev pub tokens_in : Option Token → List Token
tokens_in (Some token) = token ∷ []
tokens_in None = []

-- the lexeme with its number and its place, and none for a blank
abbrev pub placed_one : Position → ℕ → List ℕ → List Placed
placed_one p at lexeme = if is_blank_lexeme lexeme then [] else record { lexeme = lexeme; at = at; position = p } ∷ []

-- these are the tokens of one lexeme: one, or none of a blank
abbrev pub GivesTokens : List (List ℕ) → Position → ℕ → List ℕ → List Token → Type 0
GivesTokens names p at lexeme tokens = AllZip (IsToken names) (placed_one p at lexeme) tokens

-- the new tokens are the old ones and those of this lexeme
pub record AddsToken (names : List (List ℕ)) (p : Position) (lexeme : List ℕ) (old new : List Token) : Type 0 where
  pub added : List Token
  pub pushed : new ≡ old ++ added
  pub each : GivesTokens names p (length old) lexeme added

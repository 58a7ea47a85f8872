-- The unit of a main text alone.
use Rattle.std.specs.Prelude.{◌≡◌, ℕ, false, List, [], ◌∷◌, Some, None}
use Rattle.m2_base.specs.Names.{number_in, standard_names, with_name}
use Rattle.m2_base.specs.Tokens.{AreTokens}
use Rattle.m2_base.specs.Units.{UnitTexts}
use Rattle.m2_base.specs.declared.token.Token.{Token}

-- the unit of a main text of this name with these tokens
abbrev pub one_text : (names : List (List ℕ)) → (name : ℕ) → List Token → UnitTexts
one_text names name tokens = record {
  names = names;
  list = record { name = name; definition = false; tokens = tokens } ∷ [];
  order = [];
  own = None;
}

-- The unit has this text alone, whose file has that name. Its names are the standard ones, the file's, and the text's
-- in order.
pub record IsLoneText (name text : List ℕ) (u : UnitTexts) : Type 0 where
  pub number : ℕ
  pub tokens : List Token
  pub alone : u ≡ one_text u.names number tokens
  pub named : number_in u.names name ≡ Some number
  pub are_tokens : AreTokens (with_name standard_names name) u.names text tokens

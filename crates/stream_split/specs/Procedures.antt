-- Which streams the procedures of a main text have, where these are told by the tokens alone:
-- also of a text that has a syntax error.
use Rattle.std.specs.Prelude.{◌≡◌, ℕ, List, [], ◌∷◌, Option, Some, None, slice_get}
use Rattle.m2_base.specs.Statics.BlockLimits.{Begun}
use Rattle.m2_base.specs.declared.token.Token.{Token}
use Rattle.m2_base.specs.declared.trees.declarations.StreamKind.TheVariants.{Procedure}
use Rattle.stream_split.specs.Streams.{StreamOf}

-- the number of the first of these tokens
abbrev pub first_at : List Token → Option ℕ
first_at [] = None
first_at (t ∷ tokens) = Some t.at

-- The stream is that of this procedure of the main text: it has this number and the procedure's level, and begins with
-- the procedure's first token.
pub record IsStreamOf (number : ℕ) (p : Begun) (s : StreamOf) : Type 0 where
  pub number_is : s.stream ≡ number
  pub text_is : s.text ≡ 0
  pub kind_is : s.kind ≡ Procedure
  pub level_is : s.level ≡ p.level
  pub begins : first_at s.tokens ≡ Some p.at

-- the stream at this index is that of this procedure
pub record HasStream (streams : List StreamOf) (index number : ℕ) (p : Begun) : Type 0 where
  pub stream : StreamOf
  pub there : slice_get streams index ≡ Some stream
  pub is : IsStreamOf number p stream

-- the procedure at this index is the stream's
pub record HasProcedure (procedures : List Begun) (index number : ℕ) (s : StreamOf) : Type 0 where
  pub procedure : Begun
  pub there : slice_get procedures index ≡ Some procedure
  pub is : IsStreamOf number procedure s

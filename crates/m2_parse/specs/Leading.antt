-- The tokens that a front is read from: those before the first string, cut or fault. No front has one of these.
use Rattle.std.specs.Prelude.{ℕ, suc, Bool, List, [], ◌∷◌, map, if◌then◌else◌}
use Rattle.m2_base.specs.declared.kind.TokenKind.{TokenKind}
use Rattle.m2_base.specs.declared.kind.TokenKind.TheVariants.{String, Bad, Cut}
use Rattle.m2_base.specs.declared.token.Token.{Token}
use Rattle.m2_base.specs.KindNumbers.{kind_number}
use Rattle.ll_grammar.specs.LookAhead.{member}

abbrev pub outside : List TokenKind
outside = String ∷ Bad ∷ Cut ∷ []

abbrev pub is_outside : Token → Bool
is_outside t = member (kind_number t.kind) (map kind_number outside)

abbrev pub leading : List Token → List Token
leading [] = []
leading (t ∷ ts) = if is_outside t then [] else t ∷ leading ts

-- how many tokens lead
abbrev pub leading_count : List Token → ℕ
leading_count [] = 0
leading_count (t ∷ ts) = if is_outside t then 0 else suc (leading_count ts)

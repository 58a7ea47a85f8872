-- What is told of a fault, by its reason and the tokens from the refused one on.
use Rattle.std.specs.Prelude.{ℕ, List, [], ◌∷◌, ◌==◌, if◌then◌else◌}
use Rattle.m2_base.specs.Diagnostics as diagnostics
use Rattle.m2_base.specs.declared.diagnostic.Diagnostic.TheVariants.{UnexpectedToken}
use Rattle.m2_base.specs.declared.kind.TokenKind.TheVariants.{Bad}
use Rattle.m2_base.specs.declared.outputs.StreamFault.{StreamFault}
use Rattle.m2_base.specs.declared.outputs.StreamFault.TheVariants as faults
use Rattle.m2_base.specs.declared.token.Token.{Token}
use Rattle.m2_base.specs.KindNumbers.{kind_number}
use Rattle.m2_base.specs.StatementsOf.{place}
use Rattle.ll_grammar.specs.Sentences.{Fault, Syntax, TooDeep}

-- a token with which no sentence goes on
abbrev pub unexpected_token : ℕ
unexpected_token = diagnostics.code_of UnexpectedToken

-- a fault of the text has its own code, any other token is unexpected
abbrev pub code_of : List Token → ℕ
code_of [] = unexpected_token
code_of (t ∷ ts) = if kind_number t.kind == kind_number Bad then t.value else unexpected_token

-- the fault, in the text of this number
abbrev pub fault_in : ℕ → Fault → List Token → StreamFault
fault_in text Syntax rest = faults.Syntax (record { text = text; at = place rest; code = code_of rest })
fault_in text TooDeep rest = faults.TooDeep text (place rest)

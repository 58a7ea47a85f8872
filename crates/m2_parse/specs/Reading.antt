-- Reading tokens by descent: what the grammar's readers are at this language's tokens and faults.
use Rattle.std.specs.Prelude.{◌≡◌, ℕ, Bool, true, false, List, map, Result, Ok, Option, Some, None, if◌then◌else◌}
use Rattle.m2_base.specs.declared.kind.TokenKind.{TokenKind}
use Rattle.m2_base.specs.FaultsOf.{code_of}
use Rattle.m2_base.specs.declared.token.Token.{Token}
use Rattle.m2_base.specs.KindNumbers.{kind_number}
use Rattle.m2_base.specs.Grammar.{number_of_token}
use Rattle.m2_base.specs.StatementsOf as statements
use Rattle.m2_parse.specs.declared.faults.Refusal.{Refusal}
use Rattle.m2_parse.specs.declared.faults.Refusal.TheVariants as refusals
use Rattle.m2_parse.specs.declared.faults.ReadFault.{ReadFault}
use Rattle.m2_parse.specs.declared.faults.ReadFault.TheVariants.{Memory, Refused}
use Rattle.ll_grammar.specs.Sentences.{Fault, Syntax, TooDeep}
use Rattle.ll_grammar.specs.Readers.{◌>>=◌}
use Rattle.ll_grammar.specs.Readers as readers

-- the number of the next token
abbrev pub place : List Token → ℕ
place ts = statements.place ts

-- what is told of a fault, by its reason and the tokens from the refused one on
abbrev pub tell : Fault → List Token → Refusal
tell Syntax rest = refusals.Syntax (place rest) (code_of rest)
tell TooDeep rest = refusals.TooDeep (place rest)

-- what an error tells of
abbrev pub cause : ReadFault → Option Refusal
cause Memory = None
cause (Refused r) = Some r

-- the next token is refused
abbrev pub syntax_fault : List Token → ReadFault
syntax_fault ts = Refused (tell Syntax ts)

-- no token of a counted rule may stand here
abbrev pub depth_fault : Bool → List Token → ReadFault
depth_fault begins ts = if begins then Refused (tell TooDeep ts) else Refused (tell Syntax ts)

abbrev pub Read : Type 0 → Type 0
Read X = readers.Reader Token Refusal X

-- what code returned, seen by `view`, is what reading gives, unless memory is out
abbrev pub Gives : {X Y : Type 0} → (X → Y) → Result X ReadFault → Result Y Refusal → Type 0
Gives view result read = readers.Gives cause view result read

abbrev pub next_is : TokenKind → List Token → Bool
next_is kind ts = readers.next_is number_of_token (kind_number kind) ts

abbrev pub next_in : List TokenKind → List Token → Bool
next_in kinds ts = readers.next_in number_of_token (map kind_number kinds) ts

abbrev pub skip : TokenKind → List Token → Option (List Token)
skip kind ts = readers.skip number_of_token (kind_number kind) ts

abbrev pub expect : TokenKind → Read Token
expect kind ts = readers.expect tell number_of_token (kind_number kind) ts

abbrev pub expect_in : List TokenKind → Read Token
expect_in kinds ts = readers.expect_in tell number_of_token (map kind_number kinds) ts

-- what was read, with a token of this kind behind it
unfoldable pub until : {X : Type 0} → TokenKind → Result (X × List Token) Refusal → Result (X × List Token) Refusal
until kind read = do
  x ← read
  e ← expect kind x.1
  Ok (x.0, e.1)

-- a token of this kind stands there and is taken, or none does and nothing changes
abbrev pub Takes : TokenKind → Option Token → (old new : List Token) → Type 0
Takes kind (Some t) old new = (next_is kind old ≡ true) × (expect kind old ≡ Ok (t, new))
Takes kind None old new = (next_is kind old ≡ false) × (new ≡ old)

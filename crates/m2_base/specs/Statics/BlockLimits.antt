-- How many procedures a main text has, and how deep they are nested, by its tokens alone: also of a text that has a
-- syntax error.
use Rattle.std.specs.Prelude.{ℕ, zero, suc, ◌+◌, ◌-◌, ◌==◌, Bool, true, false, ◌&&◌, if◌then◌else◌, List, [], ◌∷◌}
use Rattle.std.specs.Prelude.{length, nat_lt, Option, Some, None}
use Rattle.m2_base.specs.declared.kind.TokenKind.{TokenKind}
use Rattle.m2_base.specs.declared.kind.TokenKind.TheVariants.{Identifier, Case, End, For, If, Loop, Procedure, Record}
use Rattle.m2_base.specs.declared.kind.TokenKind.TheVariants.{While, With, Semicolon, LeftParenthesis}
use Rattle.m2_base.specs.declared.kind.TokenKind.TheVariants.{RightParenthesis}
use Rattle.m2_base.specs.declared.token.Token.{Token}
use Rattle.m2_base.specs.declared.limits.TheConstants.{DEEPEST_LEVEL, MOST_PROCEDURES}

-- Where a token stands: in a block; in the heading of a procedure, behind so many open brackets; or behind the END
-- that closes a procedure's block, where its name and a semicolon come.
pub data Standing : Type 0 where
  in_block : Standing
  in_heading : (brackets : ℕ) → Standing
  behind_end : Standing
  behind_name : Standing

-- a procedure, by its first token and its level
pub record Begun : Type 0 where
  pub at : ℕ
  pub level : ℕ

-- the words that END closes
abbrev pub opens : TokenKind → Bool
opens Record = true
opens Case = true
opens If = true
opens While = true
opens For = true
opens Loop = true
opens With = true
opens other = false

-- an identifier
abbrev pub is_identifier : TokenKind → Bool
is_identifier Identifier = true
is_identifier other = false

-- the word PROCEDURE
abbrev pub is_procedure_word : TokenKind → Bool
is_procedure_word Procedure = true
is_procedure_word other = false

-- an identifier comes next
abbrev pub names_next : List Token → Bool
names_next [] = false
names_next (t ∷ tokens) = is_identifier t.kind

-- In a block PROCEDURE begins a procedure where an identifier follows.
abbrev pub begins_procedure : TokenKind → List Token → Bool
begins_procedure kind tokens = is_procedure_word kind && names_next tokens

-- a heading goes up to the first semicolon outside brackets
abbrev pub heading_step : ℕ → TokenKind → Standing
heading_step n LeftParenthesis = in_heading (n + 1)
heading_step n RightParenthesis = in_heading (n - 1)
heading_step n Semicolon = if n == 0 then in_block else in_heading n
heading_step n other = in_heading n

-- where one stands behind a token of a block, by how many constructs are open in each procedure round it
abbrev pub block_step : List ℕ → TokenKind → Standing
block_step (zero ∷ outer) End = behind_end
block_step counts kind = in_block

-- what is open behind a token of a block; outside all procedures nothing is counted
abbrev pub open_after : List ℕ → TokenKind → List ℕ
open_after [] kind = []
open_after (zero ∷ outer) End = outer
open_after (suc n ∷ outer) End = n ∷ outer
open_after (n ∷ outer) kind = if opens kind then (n + 1) ∷ outer else n ∷ outer

-- The procedures that begin in these tokens. `counts` has for each procedure round them, from the inside out, how many
-- constructs are open in its block; the level of a procedure is 1 plus the number of procedures round it.
abbrev pub begun_in : Standing → (counts : List ℕ) → List Token → List Begun
begun_in standing counts [] = []
begun_in (in_heading n) counts (t ∷ tokens) = begun_in (heading_step n t.kind) counts tokens
begun_in behind_end counts (t ∷ tokens) = begun_in behind_name counts tokens
begun_in behind_name counts (t ∷ tokens) = begun_in in_block counts tokens
begun_in in_block counts (t ∷ tokens) =
    if begins_procedure t.kind tokens then
    record { at = t.at; level = length counts + 1 } ∷ begun_in (in_heading 0) (0 ∷ counts) tokens
    else begun_in (block_step counts t.kind) (open_after counts t.kind) tokens

-- the procedures of a main text, in the order of their first tokens
abbrev pub procedures_of : List Token → List Begun
procedures_of tokens = begun_in in_block [] tokens

-- a text has too many procedures, or one that is nested too deep
pub data BlockLimit : Type 0 where
  too_many_procedures : (at : ℕ) → BlockLimit
  too_deep_procedure : (at : ℕ) → BlockLimit

-- a main text has at most so many procedures
abbrev pub most_procedures : ℕ
most_procedures = MOST_PROCEDURES

-- a procedure has at most this level
abbrev pub deepest_level : ℕ
deepest_level = DEEPEST_LEVEL

-- The first procedure that passes a limit, of those after the first n. Where both are passed, it is that on their
-- number.
abbrev pub limit_from : ℕ → List Begun → Option BlockLimit
limit_from n [] = None
limit_from n (p ∷ procedures) =
    if n == most_procedures then Some (too_many_procedures p.at) else
    if nat_lt deepest_level p.level then Some (too_deep_procedure p.at) else limit_from (n + 1) procedures

-- the limit that a main text passes, if it passes one
abbrev pub limit_of : List Token → Option BlockLimit
limit_of tokens = limit_from 0 (procedures_of tokens)

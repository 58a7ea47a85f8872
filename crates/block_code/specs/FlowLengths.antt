-- How long the code of statements is, by the tokens that it was made of.
use Rattle.std.specs.Prelude.{ℕ, ◌*◌, ◌≤◌}
use Rattle.m2_base.specs.declared.limits.TheConstants.{MOST_TOKENS}
use Rattle.block_code.specs.Lengths.{bytes_for_token}
use Rattle.block_code.specs.Parts.{Spot, steps_size}
use Rattle.block_code.specs.Flows.{Flow}

-- wherever they stand, statements have no more bytes than so many tokens may have
abbrev pub IsShortFor : (tokens : ℕ) → Flow → Type 0
IsShortFor n f = (at : Spot) (out : ℕ) → steps_size ((f at).code out) ≤ bytes_for_token * n

-- the greatest number of tokens of a unit's text
abbrev pub most_tokens : ℕ
most_tokens = MOST_TOKENS

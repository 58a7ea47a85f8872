-- How long code is, by the tokens that it was made of.
use Rattle.std.specs.Prelude.{ℕ, ◌*◌, ◌≤◌}
use Rattle.block_code.specs.Parts.{Part, Spot, steps_size}

-- the greatest number of bytes of code for one token
abbrev pub bytes_for_token : ℕ
bytes_for_token = 64

-- wherever it stands, the part has at most so many bytes
abbrev pub IsShort : (most : ℕ) → Part → Type 0
IsShort n p = (at : Spot) → steps_size (p at).code ≤ n

-- wherever it stands, the part has no more bytes than so many tokens may have
abbrev pub IsShortFor : (tokens : ℕ) → Part → Type 0
IsShortFor n p = IsShort (bytes_for_token * n) p

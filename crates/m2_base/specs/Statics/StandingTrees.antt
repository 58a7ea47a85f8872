-- Trees that name tokens of some places alone, by the tokens' numbers: the first n of a text.
use Rattle.std.specs.Prelude.{ℕ, ◌<◌}
use Rattle.m2_base.specs.Statics.Items.{Item}
use Rattle.m2_base.specs.Statics.Leaves.{Leaf, token_leaf, name_leaf, ItemHas, StatementsHave, StreamHas}
use Rattle.m2_base.specs.Trees.{Statements, Stream}

-- a leaf whose token is here
abbrev pub Stands : (Here : ℕ → Type 0) → Leaf → Type 0
Stands Here (token_leaf at) = Here at
Stands Here (name_leaf i) = Here i.at
Stands Here value = Unit {0}

-- the first n tokens
abbrev pub IsBelow : ℕ → ℕ → Type 0
IsBelow n at = at < n

-- an item of a block, of which each token that it names is among the first n
abbrev pub StandsIn : (n : ℕ) → Item → Type 0
StandsIn n x = ItemHas (Stands (IsBelow n)) x

-- statements of which each token is
abbrev pub AreStandingStatements : (n : ℕ) → Statements → Type 0
AreStandingStatements n ss = StatementsHave (Stands (IsBelow n)) ss

-- the tree of a block: its items, its name where it has one, its statements, and its closing name
abbrev pub IsStandingStream : (n : ℕ) → Stream → Type 0
IsStandingStream n s = StreamHas (Stands (IsBelow n)) s

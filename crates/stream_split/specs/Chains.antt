-- What surrounds a block: the scopes that its names are looked up in are its own, those of the procedures round it
-- from the inside out, the module's, and that of the own definition of an implementation module.
-- A definition module has its own alone.
use Rattle.std.specs.Prelude.{ℕ, zero, suc, List, [], ◌∷◌, slice_get, Option, Some, None}
use Rattle.m2_base.specs.declared.sites.Around.{Around}
use Rattle.m2_base.specs.declared.trees.declarations.StreamKind.{StreamKind}
use Rattle.m2_base.specs.declared.trees.declarations.StreamKind.TheVariants.{Definition}
pub use Rattle.m2_base.specs.Finished.{own_scope, scope_in}
use Rattle.m2_base.specs.Statics.Blocks.{with_own}
use Rattle.m2_base.specs.Statics.Contexts.{Block}
use Rattle.stream_split.specs.Streams.{StreamOf}

-- the stream of this number
abbrev pub stream_at : List StreamOf → ℕ → Option StreamOf
stream_at streams zero = None
stream_at streams (suc n) = slice_get streams n

abbrev pub outer_in : Option StreamOf → ℕ
outer_in None = 0
outer_in (Some s) = s.outer

-- the scope right round that of this number
abbrev pub outer_of : List StreamOf → ℕ → ℕ
outer_of streams n = outer_in (stream_at streams n)

-- a scope, and so many round it
abbrev pub chain_from : (count : ℕ) → List StreamOf → ℕ → List ℕ
chain_from zero streams n = n ∷ []
chain_from (suc count) streams n = n ∷ chain_from count streams (outer_of streams n)

-- the block of a stream, by its kind; the main module has the scope `home`
abbrev pub block_by : StreamKind → (home : ℕ) → (own : Option ℕ) → List StreamOf → StreamOf → Block
block_by Definition home own streams s =
    record { scope = s.stream; text = s.text; level = 0; home = s.stream; own = None; chain = s.stream ∷ [] }
block_by kind home own streams s =
    record {
      scope = s.stream;
      text = s.text;
      level = s.level;
      home = home;
      own = own;
      chain = with_own (chain_from s.level streams s.stream) own;
    }

abbrev pub block_of : (home : ℕ) → (own : Option ℕ) → List StreamOf → StreamOf → Block
block_of home own streams s = block_by s.kind home own streams s

-- what surrounds a block, as plain data
abbrev pub around_view : Around → Block
around_view a =
    record { scope = a.scope; text = a.text; level = a.level; home = a.module; own = a.own; chain = a.chain }

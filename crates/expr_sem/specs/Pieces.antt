-- What a piece of a block's code has after a part of code more.
use Rattle.std.specs.Prelude.{◌≡◌, List, ◌++◌, map}
use Rattle.m2_base.specs.Lists.{IsPrefixOf}
use Rattle.expr_sem.specs.Fragments.{step_view}
use Rattle.block_code.specs.Parts.{Made, Part, Spot}
use Rattle.expr_sem.specs.declared.pieces.Piece.{Piece}
use Rattle.expr_sem.specs.declared.pieces.With.{With}

-- where the next part begins
abbrev pub spot_of : Piece → List With → Spot
spot_of p ws = record { cell = p.cell; byte = p.byte; withs = map (λ w. w.cell) ws }

-- what is made, with what this part makes behind it
abbrev pub extend : Made → Part → Made
extend m r = record { code = m.code ++ (r m.next).code; bytes = m.bytes ++ (r m.next).bytes; next = (r m.next).next }

-- the piece has grown by the steps and the bytes of this part, and the next part begins where it says
pub record Appended (before after : Piece) (ws : List With) (p : Part) : Type 0 where
  pub steps : map step_view after.steps.items ≡ map step_view before.steps.items ++ (p (spot_of before ws)).code
  pub bytes : after.bytes.items ≡ before.bytes.items ++ (p (spot_of before ws)).bytes
  pub next : spot_of after ws ≡ (p (spot_of before ws)).next

-- the piece has what it had before, and perhaps more
pub record Begins (before after : Piece) : Type 0 where
  pub steps : IsPrefixOf before.steps.items after.steps.items
  pub bytes : IsPrefixOf before.bytes.items after.bytes.items

-- the piece has what it had before, and nothing else
pub record IsAsBefore (before after : Piece) : Type 0 where
  pub steps : after.steps.items ≡ before.steps.items
  pub bytes : after.bytes.items ≡ before.bytes.items
  pub cell : after.cell ≡ before.cell
  pub byte : after.byte ≡ before.byte

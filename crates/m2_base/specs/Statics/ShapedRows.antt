-- Rows that have the shapes that the syntax gives them.
use Rattle.std.specs.Prelude.{◌≡◌, ◌⊎◌, List, [], ◌∷◌}
use Rattle.m2_base.specs.Rows.{Row}
use Rattle.m2_base.specs.Statics.Shapes.{Shape}

-- the row has the shape's kind and token, and its name or none
pub record IsShaped (s : Shape) (r : Row) : Type 0 where
  pub kind : r.kind ≡ s.kind
  pub at : r.at ≡ s.at
  pub name : (r.name ≡ s.name) ⊎ (r.name ≡ 0)

-- there are as many rows as shapes, and each row has its shape
pub data AreShaped : List Shape → List Row → Type 0 where
  none_of : AreShaped [] []
  more_of : {s : Shape} {ss : List Shape} {r : Row} {rs : List Row} → IsShaped s r → AreShaped ss rs
      → AreShaped (s ∷ ss) (r ∷ rs)

-- Shapes of rows, as the code keeps them.
use Rattle.m2_base.specs.Statics.Shapes as plain
use Rattle.std.specs.Prelude.{ℕ, List, map}
use Rattle.m2_base.specs.Rows.{array_kind}
use Rattle.m2_base.specs.declared.trees.types.TypeExpr.{TypeExpr}
use Rattle.decl_sem.specs.declared.shapes.Shape.{Shape}

-- a shape as plain data
abbrev pub shape_view : Shape → plain.Shape
shape_view s = record { name = s.name; kind = s.kind; at = s.at }

-- one array for each of the index types
unfoldable pub arrays_of : (at : ℕ) → List TypeExpr → List plain.Shape
arrays_of at index = map (λ t. plain.nameless array_kind at) index

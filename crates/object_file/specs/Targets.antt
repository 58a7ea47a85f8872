-- The point at a place, and its height.
use Rattle.std.specs.Prelude.{ℤ, List, [], ◌∷◌, Option, Some, None, if◌then◌else◌}
use Rattle.std.specs.Option.{option_map}
use Rattle.code_form.specs.Valid.{Point, same_place}

unfoldable pub point_at : List Point → ℤ → Option Point
point_at [] to = None
point_at (p ∷ ps) to = if same_place to p.at then Some p else point_at ps to

abbrev pub height_at : List Point → ℤ → Option ℤ
height_at ps to = option_map (λ p. p.height) (point_at ps to)

-- The rows of an enumeration.
use Rattle.std.specs.Prelude.{List, [], pos, ℕ, ◌+◌, ◌∷◌}
use Rattle.m2_base.specs.Rows.{Const, Place}
use Rattle.m2_base.specs.Statics.Contexts.{Context}
use Rattle.m2_base.specs.Statics.Makes.{Makes, make_then, makes, makes_named}
use Rattle.m2_base.specs.Trees.{Ident}

-- the constants from this value on
abbrev pub constant_rows : Context → Place → (value : ℕ) → List Ident → Makes Place
constant_rows c t n [] = makes t
constant_rows c t n (i ∷ names) =
    make_then c (makes_named c i.name i.at (Const t (pos n) 0)) (λ d p. constant_rows d t (n + 1) names)

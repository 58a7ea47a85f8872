-- What an analysis gives beside code: types and numbers.
use Rattle.std.specs.Prelude.{ℤ, List}
use Rattle.m2_base.specs.States.{Frame}
use Rattle.m2_base.specs.declared.rows.Place.{Place}
use Rattle.type_rules.specs.Scenes.{IsThere}
use Rattle.expr_sem.specs.declared.fragments.Node.{Node}

-- the same whatever the fragments
abbrev pub itself : {T : Type 0} → List Node → T → T
itself ns v = v

-- a type that can be asked for
abbrev pub IsType : Frame → List Node → Place → Type 0
IsType f ns t = IsThere f t

-- any number
abbrev pub IsStep : Frame → List Node → ℤ → Type 0
IsStep f ns by = Unit {0}

-- The operands of an instruction as the code keeps them.
use Rattle.std.specs.Prelude.{ℤ, List, [], ◌∷◌}
use Rattle.object_text.specs.declared.operands.Numbers.{Numbers}
use Rattle.object_text.specs.declared.operands.Numbers.TheVariants.{None, One, Two, Three}

abbrev pub numbers_of : Numbers → List ℤ
numbers_of None = []
numbers_of (One a) = a ∷ []
numbers_of (Two a b) = a ∷ b ∷ []
numbers_of (Three a b c) = a ∷ b ∷ c ∷ []

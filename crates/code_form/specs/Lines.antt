-- The operands of an instruction, as a list.
use Rattle.std.specs.Prelude.{List, [], ◌∷◌}
use Rattle.code_form.specs.Instructions.{Operand}
use Rattle.code_form.specs.declared.line.Operands.{Operands}
use Rattle.code_form.specs.declared.line.Operands.TheVariants.{Zero, One, Two, Three}

abbrev pub listed : Operands → List Operand
listed Zero = []
listed (One a) = a ∷ []
listed (Two a b) = a ∷ b ∷ []
listed (Three a b c) = a ∷ b ∷ c ∷ []

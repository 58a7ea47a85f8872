-- An instruction, as the check against a range, where there is one.
use Rattle.std.specs.Prelude.{List, [], ◌∷◌, Option, Some, None}
use Rattle.code_form.specs.declared.instr.Instr.{Instr}

abbrev pub instrs_if : Option Instr → List Instr
instrs_if None = []
instrs_if (Some i) = i ∷ []

-- The bytes of instructions: the opcode, then the operands, the lowest byte first.
use Rattle.std.specs.Prelude.{◌≡◌, ℕ, suc, ◌+◌, List, [], ◌∷◌, ◌++◌}
use Rattle.std.specs.List.{flat_map}
use Rattle.std.specs.Int.{w32, w64, to_le_bytes, cast_unsigned}
use Rattle.code_form.specs.Instructions.{Instr, Operand, number, count, distance, value, flag, trap, line_of, IsInstr}

-- an operand's bytes
unfoldable pub operand_bytes : Operand → List ℕ
operand_bytes (number n) = to_le_bytes w32 n
operand_bytes (count n) = to_le_bytes w32 n
operand_bytes (distance j) = to_le_bytes w32 (cast_unsigned w32 j)
operand_bytes (value v) = to_le_bytes w64 (cast_unsigned w64 v)
operand_bytes (flag b) = b ∷ []
operand_bytes (trap c) = c ∷ []

abbrev pub all_bytes : List Operand → List ℕ
all_bytes os = flat_map operand_bytes os

-- an instruction's bytes
abbrev pub spelling : Instr → List ℕ
spelling i = (line_of i).opcode ∷ all_bytes (line_of i).operands

-- how many bytes an operand has, and an instruction
abbrev pub width : Operand → ℕ
width (number n) = 4
width (count n) = 4
width (distance j) = 4
width (value v) = 8
width (flag b) = 1
width (trap c) = 1

abbrev pub all_widths : List Operand → ℕ
all_widths [] = 0
all_widths (o ∷ os) = width o + all_widths os

abbrev pub size : Instr → ℕ
size i = suc (all_widths (line_of i).operands)

-- the bytes begin with this instruction's spelling, and these follow
pub record BeginsWith (bytes : List ℕ) (i : Instr) (rest : List ℕ) : Type 0 where
  pub in_range : IsInstr i
  pub spelled : bytes ≡ spelling i ++ rest

-- the bytes of instructions one after another
abbrev pub code_bytes : List Instr → List ℕ
code_bytes is = flat_map spelling is

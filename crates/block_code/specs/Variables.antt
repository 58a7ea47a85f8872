-- Where a variable is. A module's variable is at a cell of that module; one of a procedure at a cell of its frame,
-- reached over as many static links as levels lie between. The cell of a variable by address, and the first cell of an
-- open array, have the address; the second cell of an open array has the number of its elements less 1.
use Rattle.std.specs.Prelude.{ℕ, ◌+◌, ◌-◌, ◌==◌, List, [], ◌∷◌, if◌then◌else◌, Option, Some, None}
use Rattle.m2_base.specs.Rows.{row_meaning}
use Rattle.m2_base.specs.declared.rows.Mode.{Mode}
use Rattle.m2_base.specs.declared.rows.RowMeaning.{RowMeaning}
use Rattle.m2_base.specs.declared.rows.RowMeaning.TheVariants.{Var}
use Rattle.m2_base.specs.declared.rows.Mode.TheVariants.{Plain, ByAddress, Open}
use Rattle.m2_base.specs.Statics.Contexts.{Context, Block, level_of}
use Rattle.m2_base.specs.Statics.Lookup.{Entry}
use Rattle.m2_base.specs.Statics.NamedOperands.{operand_of}
use Rattle.m2_base.specs.declared.operands.Operand.{Operand}
use Rattle.m2_base.specs.declared.operands.Operand.TheVariants.{Variable}
use Rattle.code_form.specs.declared.instr.Instr.{Instr}
use Rattle.code_form.specs.declared.instr.Instr.TheVariants.{Local, Global, Load}
use Rattle.block_code.specs.Coded.{Coded, bare, in_error, no_high}
use Rattle.block_code.specs.Parts.{Part, plain}
use Rattle.block_code.specs.ProcedureNames.{import_number, is_own}

-- how many static links lead from a block out to the block of this scope
abbrev pub links_out : Block → (scope : ℕ) → ℕ
links_out b s = b.level - level_of b s

-- the address of the cell of a scope at this offset
abbrev pub cell_instr : Block → (scope offset : ℕ) → Instr
cell_instr b s o =
    if is_own b s then Global 0 o else
    if level_of b s == 0 then Global (import_number b s) o else
    Local (links_out b s) o

-- what leads from the cell's address to the variable's
abbrev pub through : Mode → List Instr
through Plain = []
through ByAddress = Load ∷ []
through Open = Load ∷ []

-- the number of elements less 1 of an open array whose first cell has this offset
abbrev pub high_of_mode : Block → (scope offset : ℕ) → Mode → Part
high_of_mode b s o Open = plain (cell_instr b s (o + 1) ∷ Load ∷ [])
high_of_mode b s o other = no_high

-- An operand with the address of the variable that the row's meaning tells of. What is no variable has none, nor has a
-- variable in error.
abbrev pub with_address : Block → (scope : ℕ) → RowMeaning → Operand → Coded
with_address b s (Var t mode o) (Variable u) = record {
  operand = Variable u;
  code = plain (cell_instr b s o ∷ through mode);
  high = high_of_mode b s o mode;
}
with_address b s other x = bare x

-- what a name is bound to, with its address where that is a variable
abbrev pub entry_coded : Context → Option Entry → Coded
entry_coded c None = in_error
entry_coded c (Some e) = with_address c.scene.block e.0.scope (row_meaning e.1) (operand_of c.scene e)

-- What a name stands for that is bound to a row: its operand.
use Rattle.std.specs.Prelude.{Bool, None, Option, Some, false, ℕ, if◌then◌else◌, ◌||◌}
use Rattle.m2_base.specs.Rows.{Const, Module, OpenArray, Place, Proc, RowMeaning, Standard, TypeName, Var}
use Rattle.m2_base.specs.Rows.{is_same_place, natural, row_meaning}
use Rattle.m2_base.specs.Standard.{text_type}
use Rattle.m2_base.specs.Statics.Contexts.{Scene}
use Rattle.m2_base.specs.Statics.Lookup.{Entry}
use Rattle.m2_base.specs.Statics.Types.{is_broken, kind_of}
use Rattle.m2_base.specs.declared.operands.Operand.TheVariants.{Constant, InError, ModuleName, NamedType, Procedure}
use Rattle.m2_base.specs.declared.operands.Operand.TheVariants.{StandardProcedure, StringConstant, Variable}
use Rattle.m2_base.specs.declared.operands.Operand.{Operand}

-- an open array of what is in error
abbrev pub is_open_of_broken : Scene → RowMeaning → Bool
is_open_of_broken scene (OpenArray elem) = is_broken scene elem
is_open_of_broken scene other = false

-- the type is in error, or an open array of such
abbrev pub is_in_error : Scene → Place → Bool
is_in_error scene t = is_broken scene t || is_open_of_broken scene (kind_of scene t)

-- A constant, a type or a variable whose type is in error is in error; a constant of the type of strings is a string.
abbrev pub operand_by : Scene → (name : ℕ) → RowMeaning → Operand
operand_by scene name (Const t v len) =
    if is_broken scene t then InError else
    if is_same_place t text_type then StringConstant (natural v) len else Constant t v
operand_by scene name (TypeName t) = if is_broken scene t then InError else NamedType t
operand_by scene name (Var t mode offset) = if is_in_error scene t then InError else Variable t
operand_by scene name (Proc t number s) = Procedure name t number s
operand_by scene name (Module s) = ModuleName s
operand_by scene name (Standard n) = StandardProcedure n
operand_by scene name other = InError

-- the operand of a row that a name is bound to
abbrev pub operand_of : Scene → Entry → Operand
operand_of scene e = operand_by scene e.1.name (row_meaning e.1)

-- of a use: without an entry it is in error
abbrev pub operand_of_use : Scene → Option Entry → Operand
operand_of_use scene None = InError
operand_of_use scene (Some e) = operand_of scene e

-- What an expression or a designator stands for, with its code: an operand beside the code that computes it. A
-- constant is pushed; a string is the address of its characters; a variable is loaded from its address, but an array
-- or a record is its address; a procedure is its value.
use Rattle.std.specs.Prelude.{ℕ, Bool, true, false, pos, List, [], ◌∷◌, if◌then◌else◌}
use Rattle.m2_base.specs.declared.rows.Place.{Place}
use Rattle.m2_base.specs.declared.rows.RowMeaning.{RowMeaning}
use Rattle.m2_base.specs.declared.rows.RowMeaning.TheVariants.{Array, OpenArray, Record}
use Rattle.m2_base.specs.Statics.Contexts.{Context, Scene, Source, spelling}
use Rattle.m2_base.specs.Statics.Operands.{characters_of, char_or_same}
use Rattle.m2_base.specs.Statics.Types.{kind_of}
use Rattle.m2_base.specs.declared.operands.Operand.TheVariants.{Constant, InError, Procedure, StringConstant, Variable}
use Rattle.m2_base.specs.declared.operands.Operand.{Operand}
use Rattle.code_form.specs.declared.instr.Instr.TheVariants.{Push, Load}
use Rattle.block_code.specs.Parts.{Part, plain, none, ◌⨟◌, text}
use Rattle.block_code.specs.ProcedureNames.{procedure_code, target_of_procedure}

-- An operand and its code. The code of a variable gives its address, the code of a computed value gives it. Of an open
-- array `high` is the code of the number of its elements less 1; elsewhere nobody asks for it.
pub record Coded : Type 0 where
  pub operand : Operand
  pub code : Part
  pub high : Part

-- what is no open array
abbrev pub no_high : Part
no_high = plain (Push (pos 0) ∷ [])

-- an operand that is no open array, with its code
abbrev pub coded : Operand → Part → Coded
coded o code = record { operand = o; code = code; high = no_high }

-- what needs no code of its own
abbrev pub bare : Operand → Coded
bare o = coded o none

-- what is in error; it has no code
abbrev pub in_error : Coded
in_error = bare InError

-- the same code for an operand as another rule takes it
abbrev pub taken : Operand → Coded → Coded
taken o x = record { operand = o; code = x.code; high = x.high }

-- a string of one character as a CHAR, anything else as it is
abbrev pub with_char : Context → Coded → Coded
with_char c x = taken (char_or_same c.source x.operand) x

-- the meaning of an array's or a record's row
abbrev pub is_structure : RowMeaning → Bool
is_structure (Array i t s) = true
is_structure (OpenArray t) = true
is_structure (Record f s) = true
is_structure other = false

-- an array, open or fixed, or a record: its value is its address
abbrev pub is_structured : Scene → Place → Bool
is_structured scene t = is_structure (kind_of scene t)

-- the characters of the string of this name
abbrev pub characters : Source → (name : ℕ) → List ℕ
characters source name = characters_of (spelling source name)

-- the value of an operand whose own code is this
abbrev pub value_by : Context → Part → Operand → Part
value_by c code (Constant t v) = plain (Push v ∷ [])
value_by c code (StringConstant n l) = text (characters c.source n)
value_by c code (Variable t) = if is_structured c.scene t then code else (code ⨟ plain (Load ∷ []))
value_by c code (Procedure n t k s) = procedure_code c.scene (target_of_procedure c.scene n t k)
value_by c code other = code

-- the code of a value
abbrev pub value_code : Context → Coded → Part
value_code c x = value_by c x.code x.operand

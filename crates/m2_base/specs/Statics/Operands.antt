-- Operands: what a designator or an expression stands for.
use Rattle.std.specs.Prelude.{Bool, List, None, Option, Some, [], false, length, pos, true, ℕ, ℤ, if◌then◌else◌, ◌∷◌}
use Rattle.std.specs.Prelude.{◌==◌}
use Rattle.m2_base.specs.Rows.{Place}
use Rattle.m2_base.specs.Standard.{broken, character, text_type}
use Rattle.m2_base.specs.Statics.Contexts.{Source, spelling}
use Rattle.m2_base.specs.declared.operands.Operand.TheVariants.{Computed, Constant, InError, NotConstant, Procedure}
use Rattle.m2_base.specs.declared.operands.Operand.TheVariants.{StringConstant, Variable}
use Rattle.m2_base.specs.declared.operands.Operand.{Operand}

-- the type of a value or a variable
abbrev pub operand_type : Operand → Place
operand_type (Constant t v) = t
operand_type (StringConstant n l) = text_type
operand_type (Computed t) = t
operand_type (Variable t) = t
operand_type other = broken

-- a string
abbrev pub is_string : Operand → Bool
is_string (StringConstant n l) = true
is_string other = false

-- a procedure that isn't a standard one
abbrev pub is_procedure : Operand → Bool
is_procedure (Procedure n t k s) = true
is_procedure other = false

-- it takes part in no further check
abbrev pub is_bad : Operand → Bool
is_bad InError = true
is_bad NotConstant = true
is_bad other = false

-- the value of a constant that isn't a string
abbrev pub constant_of_operand : Operand → Option ℤ
constant_of_operand (Constant t v) = Some v
constant_of_operand other = None

-- of two operands: broken where one is, otherwise no constant
abbrev pub worse : Operand → Operand → Operand
worse InError y = InError
worse x InError = InError
worse x y = NotConstant

-- the empty string counts as the one character of code 0
abbrev pub characters_of : List ℕ → List ℕ
characters_of [] = 0 ∷ []
characters_of (b ∷ bytes) = b ∷ bytes

-- the number of a string's characters
abbrev pub string_length : Source → ℕ → ℕ
string_length source name = length (characters_of (spelling source name))

-- a string of one character
abbrev pub is_one_char : Operand → Bool
is_one_char (StringConstant n l) = l == 1
is_one_char other = false

-- the first character, of an empty string 0
abbrev pub first_of : List ℕ → ℕ
first_of [] = 0
first_of (b ∷ bytes) = b

-- a string of one character as a CHAR
abbrev pub as_char : Source → Operand → Operand
as_char source (StringConstant n l) = Constant character (pos (first_of (spelling source n)))
as_char source other = other

-- a string of one character as a CHAR, anything else as it is
abbrev pub char_or_same : Source → Operand → Operand
char_or_same source o = if is_one_char o then as_char source o else o

-- The options of the verbs, with how each is spelled and what its value may be.
use Rattle.std.specs.Prelude.{ℕ, List, Option, codes}
use Rattle.command_words.specs.Numerals.{value_to}
use Rattle.command_words.specs.declared.setting.Setting.{Setting}
use Rattle.command_words.specs.declared.setting.Setting.TheVariants.{Workers, Steps, Cells}

abbrev pub spelling : Setting → List ℕ
spelling Workers = codes "--workers"
spelling Steps = codes "--steps"
spelling Cells = codes "--cells"

-- what its value is at most; at least it is 1
abbrev pub most : Setting → ℕ
most Workers = 64
most Steps = 1000000000
most Cells = 16777216

-- its value where it isn't given
abbrev pub standard : Setting → ℕ
standard Workers = 4
standard Steps = 10000000
standard Cells = 1000000

-- the value that a word gives an option: a numeral within its range
abbrev pub value_in : Setting → List ℕ → Option ℕ
value_in s word = value_to (most s) word

-- What a verb is about: a module's name or, in its place, how many procedures the big module has.
use Rattle.std.specs.Prelude.{ℕ, Bool, ◌||◌, is_some, List, Option}
use Rattle.m2_base.specs.declared.limits.TheConstants.{MOST_PROCEDURES}
use Rattle.command_words.specs.Names.{is_name}
use Rattle.command_words.specs.Numerals.{value_to}

-- from 1 on
abbrev pub procedures_in : List ℕ → Option ℕ
procedures_in word = value_to MOST_PROCEDURES word

abbrev pub is_operand : List ℕ → Bool
is_operand word = is_name word || is_some (procedures_in word)

-- What the program holds of the words behind a verb.
use Rattle.std.specs.Prelude.{◌≡◌, ℕ, List, Some, option_map}
use Rattle.m2_base.specs.Lists.{IsIn}
use Rattle.command_words.specs.Asking.{value_of}
use Rattle.command_words.specs.Parts.{Adds, Given, nothing}
use Rattle.command_words.specs.Verbs.{settings_of}
use Rattle.command_words.specs.declared.given.Given.{Given as HeldGiven}
use Rattle.command_words.specs.declared.setting.Setting.{Setting}
use Rattle.command_words.specs.declared.verb.Verb.{Verb}

abbrev pub given_of : HeldGiven → Given
given_of g = record {
  operand = option_map (λ n. n.now) g.operand;
  workers = g.workers;
  steps = g.steps;
  cells = g.cells;
}

-- the options that are given are some of these
abbrev pub HasSettings : List Setting → Given → Type 0
HasSettings settings given = (s : Setting) (n : ℕ) → value_of given s ≡ Some n → IsIn s settings

-- the words give nothing with options of the verb alone
abbrev pub GivesNone : Verb → List (List ℕ) → Type 0
GivesNone verb words = (given : Given) → HasSettings (settings_of verb) given → Adds nothing words given → ⊥

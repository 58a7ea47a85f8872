-- What the kit's `clap` is asked of the words behind a verb, and what is read from its answer.
use Rattle.std.specs.Prelude.{◌≡◌, ℕ, true, List, [], ◌∷◌, ◌++◌, map, Option, Some, None, codes, if◌then◌else◌}
use Rattle.std.specs.Prelude.{option_map}
use Rattle.clap.specs.Simple.{App, new_rule, new_shape, on_top}
use Rattle.clap.specs.Walk.{Row, Rule, first_of}
use Rattle.command_words.specs.Operands.{is_operand}
use Rattle.command_words.specs.Parts.{Given}
use Rattle.command_words.specs.Settings.{value_in}
use Rattle.command_words.specs.declared.setting.Setting.{Setting}
use Rattle.command_words.specs.declared.setting.Setting.TheVariants.{Workers, Steps, Cells}

-- the name of an option, without its hyphens
abbrev pub id_of : Setting → List ℕ
id_of Workers = codes "workers"
id_of Steps = codes "steps"
id_of Cells = codes "cells"

abbrev pub option_named : List ℕ → Rule
option_named name = record (new_rule name) { long = Some name }

abbrev pub option_for : Setting → Rule
option_for s = option_named (id_of s)

abbrev pub operand_id : List ℕ
operand_id = codes "NAME"

-- no program's name in front, and no option for help
abbrev pub bare_app : App
bare_app =
    record { top = record (new_shape (codes "m2c")) { no_binary_name = true; disable_help_flag = true }; subs = [] }

-- these options with one value each, and one word that is none
abbrev pub app_for : List Setting → App
app_for settings = on_top (λ s. record s { rules = map option_for settings ++ new_rule operand_id ∷ [] }) bare_app

-- the operand, and an option's value, where the word that was found for it is one
abbrev pub operand_found : Option (List ℕ) → Option (Option (List ℕ))
operand_found None = Some None
operand_found (Some word) = if is_operand word then Some (Some word) else None

abbrev pub value_found : Setting → Option (List ℕ) → Option (Option ℕ)
value_found s None = Some None
value_found s (Some word) = option_map (λ n. Some n) (value_in s word)

abbrev pub value_of : Given → Setting → Option ℕ
value_of g Workers = g.workers
value_of g Steps = g.steps
value_of g Cells = g.cells

-- the words that were found give this
pub record Finds (rows : List Row) (g : Given) : Type 0 where
  pub operand : operand_found (first_of operand_id rows) ≡ Some g.operand
  pub values : (s : Setting) → value_found s (first_of (id_of s) rows) ≡ Some (value_of g s)

abbrev pub FindsNone : List Row → Type 0
FindsNone rows = (g : Given) → Finds rows g → ⊥

-- The verbs, with how each is spelled.
use Rattle.std.specs.Prelude.{◌≡◌, ◌≢◌, ℕ, List, [], ◌∷◌, Option, Some, None, codes}
use Rattle.command_words.specs.declared.setting.Setting.{Setting}
use Rattle.command_words.specs.declared.setting.Setting.TheVariants.{Workers, Steps, Cells}
use Rattle.command_words.specs.declared.verb.Verb.{Verb}
use Rattle.command_words.specs.declared.verb.Verb.TheVariants.{Big, Compile, Dump, Run}

abbrev pub verb_text : Verb → List ℕ
verb_text Compile = codes "compile"
verb_text Run = codes "run"
verb_text Dump = codes "dump"
verb_text Big = codes "big"

abbrev pub IsVerb : List ℕ → Option Verb → Type 0
IsVerb word None = (v : Verb) → word ≢ verb_text v
IsVerb word (Some v) = word ≡ verb_text v

-- the options of a verb
abbrev pub settings_of : Verb → List Setting
settings_of Compile = Workers ∷ []
settings_of Run = Steps ∷ Cells ∷ []
settings_of Dump = []
settings_of Big = Workers ∷ []

-- What stands behind a verb: what it is about, and options with their values.
use Rattle.std.specs.Prelude.{◌≡◌, ℕ, List, [], ◌∷◌, ◌++◌, map, Option, Some, None, codes, IsTrue, if◌then◌else◌}
use Rattle.std.specs.Prelude.{is_some, option_and_then}
use Rattle.m2_base.specs.Lists.{Each}
use Rattle.command_words.specs.Operands.{is_operand}
use Rattle.command_words.specs.Settings.{spelling, value_in}
use Rattle.command_words.specs.declared.setting.Setting.{Setting}
use Rattle.command_words.specs.declared.setting.Setting.TheVariants.{Workers, Steps, Cells}

pub data Part : Type 0 where
  an_operand : List ℕ → Part
  a_value : Setting → ℕ → Part

abbrev pub IsOperand : List ℕ → Type 0
IsOperand word = IsTrue (is_operand word)

-- The words spell these parts.
pub data Spells : List (List ℕ) → List Part → Type 0 where
  over : Spells [] []
  named : (word : List ℕ) (words : List (List ℕ)) (parts : List Part) → IsOperand word → Spells words parts
      → Spells (word ∷ words) (an_operand word ∷ parts)
  -- an option's value is the next word
  spaced : (s : Setting) (word : List ℕ) (n : ℕ) (words : List (List ℕ)) (parts : List Part) → value_in s word ≡ Some n
      → Spells words parts → Spells (spelling s ∷ word ∷ words) (a_value s n ∷ parts)
  -- or it follows `=`
  joined : (s : Setting) (word : List ℕ) (n : ℕ) (words : List (List ℕ)) (parts : List Part) → value_in s word ≡ Some n
      → Spells words parts → Spells ((spelling s ++ 61 ∷ word) ∷ words) (a_value s n ∷ parts)
  -- after `--` every word is an operand
  marked : (words : List (List ℕ)) → Each IsOperand words → Spells (codes "--" ∷ words) (map an_operand words)

-- what is given by some parts
pub record Given : Type 0 where
  pub operand : Option (List ℕ)
  pub workers : Option ℕ
  pub steps : Option ℕ
  pub cells : Option ℕ

abbrev pub nothing : Given
nothing = record { operand = None; workers = None; steps = None; cells = None }

-- one part more; each is given at most once
abbrev pub with_part : Given → Part → Option Given
with_part g (an_operand word) = if is_some g.operand then None else Some (record g { operand = Some word })
with_part g (a_value Workers n) = if is_some g.workers then None else Some (record g { workers = Some n })
with_part g (a_value Steps n) = if is_some g.steps then None else Some (record g { steps = Some n })
with_part g (a_value Cells n) = if is_some g.cells then None else Some (record g { cells = Some n })

abbrev pub with_parts : Given → List Part → Option Given
with_parts g [] = Some g
with_parts g (part ∷ parts) = option_and_then (λ h. with_parts h parts) (with_part g part)

-- with what was given before, the words give this, and nothing twice
pub record Adds (before : Given) (words : List (List ℕ)) (given : Given) : Type 0 where
  pub parts : List Part
  pub spelled : Spells words parts
  pub once : with_parts before parts ≡ Some given

-- what the words give
abbrev pub Gives : List (List ℕ) → Given → Type 0
Gives words given = Adds nothing words given

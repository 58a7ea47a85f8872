-- The faults of a unit's texts, text by text.
use Rattle.std.specs.Prelude.{ℕ, ◌+◌, Bool, true, false, List, [], ◌∷◌, Option, Some, None}
use Rattle.m2_base.specs.Finished.{main_number}
use Rattle.m2_base.specs.Trees.{Stream}
use Rattle.m2_base.specs.Units.{TextOf, UnitTexts}
use Rattle.m2_base.specs.WholeTexts.{IsFirstInDefinition, IsFirstInMain, SpellsDefinition, SpellsMain}
use Rattle.m2_base.specs.declared.outputs.StreamFault.{StreamFault}

-- the text spells trees; the module of a main text has this number
abbrev pub Spells : (main : ℕ) → (definition : Bool) → TextOf → Type 0
Spells m true t = (tree : Stream) × SpellsDefinition (tree ∷ []) t.tokens
Spells m false t = (trees : List Stream) × SpellsMain m trees t.tokens

-- the fault is the first of the text, which has this number
abbrev pub IsFirstIn : (number : ℕ) → (definition : Bool) → TextOf → StreamFault → Type 0
IsFirstIn k true t fault = IsFirstInDefinition k fault t.tokens
IsFirstIn k false t fault = IsFirstInMain k fault t.tokens

-- the first fault of a text, or none where it spells trees
abbrev pub IsFaultOfText : (main number : ℕ) → TextOf → Option StreamFault → Type 0
IsFaultOfText m k t None = Spells m t.definition t
IsFaultOfText m k t (Some fault) = IsFirstIn k t.definition t fault

-- these are the faults of these texts, the first of which has this number
abbrev pub AreFaultsFrom : (main number : ℕ) → List TextOf → List (Option StreamFault) → Type 0
AreFaultsFrom m k [] [] = Unit {0}
AreFaultsFrom m k (t ∷ texts) (f ∷ faults) = IsFaultOfText m k t f × AreFaultsFrom m (k + 1) texts faults
AreFaultsFrom m k texts faults = ⊥

-- the faults of a unit's texts
abbrev pub AreFaults : UnitTexts → List (Option StreamFault) → Type 0
AreFaults texts faults = AreFaultsFrom (main_number texts) 0 texts.list faults

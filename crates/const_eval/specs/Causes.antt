-- Why a constant expression stands for no constant: a diagnostic was noted, or a row that it uses has a part in error.
use Rattle.std.specs.Prelude.{◌≡◌, ◌≢◌, true, false, List, ◌++◌, Option, Some, None}
use Rattle.m2_base.specs.Lists.{Each}
use Rattle.m2_base.specs.Statics.Constants.{in_constant}
use Rattle.m2_base.specs.Statics.Contexts.{Scene}
use Rattle.m2_base.specs.Statics.NamedOperands.{operand_of}
use Rattle.m2_base.specs.Statics.Operations.{is_set_kind}
use Rattle.m2_base.specs.Statics.Sets.{set_base_by}
use Rattle.m2_base.specs.Statics.Types.{is_broken, kind_of}
use Rattle.m2_base.specs.Statics.Uses.{followed}
use Rattle.m2_base.specs.declared.notes.Answer.{Answer}
use Rattle.m2_base.specs.declared.notes.Notes.{Notes}
use Rattle.m2_base.specs.declared.operands.Operand.{Operand}
use Rattle.m2_base.specs.declared.operands.Operand.TheVariants.{Computed, Constant, InError, NamedType, Variable}
use Rattle.m2_base.specs.declared.rows.Place.{Place}

-- where the type is a set's, its base isn't in error
abbrev pub HasWholeBase : Scene → Place → Type 0
HasWholeBase scene t = is_set_kind (kind_of scene t) ≡ true → is_broken scene (set_base_by (kind_of scene t)) ≡ false

-- What a name stands for in a constant expression isn't in error; nor is the base of its type.
-- A variable is no constant there.
abbrev pub IsWholeOperand : Scene → Operand → Type 0
IsWholeOperand scene (Constant t v) = HasWholeBase scene t
IsWholeOperand scene (Computed t) = HasWholeBase scene t
IsWholeOperand scene (NamedType t) = (is_broken scene t ≡ false) × HasWholeBase scene t
IsWholeOperand scene (Variable t) = ⊥
IsWholeOperand scene InError = ⊥
IsWholeOperand scene other = Unit {0}

-- what the row of this answer stands for, an alias followed
abbrev pub used_operand : Scene → Answer → Operand
used_operand scene a = in_constant (operand_of scene (followed scene (a.place, a.row)))

-- that row has no part in error
abbrev pub IsWholeUse : Scene → Answer → Type 0
IsWholeUse scene a = IsWholeOperand scene (used_operand scene a)

-- it isn't in error as a whole
abbrev pub IsSoundUse : Scene → Answer → Type 0
IsSoundUse scene a = used_operand scene a ≢ InError

-- without a constant a diagnostic was added, where each answer added is of a row without a part in error
abbrev pub IsCaused : Scene → (before after : Notes) → Option Operand → Type 0
IsCaused scene before after None = (added : List Answer) → after.answers.items ≡ before.answers.items ++ added
    → Each (IsWholeUse scene) added → after.diags.items ≢ before.diags.items
IsCaused scene before after (Some o) = Unit {0}

-- with a constant each answer added is of a row that isn't in error
abbrev pub IsUnspoilt : Scene → (before after : Notes) → Option Operand → Type 0
IsUnspoilt scene before after None = Unit {0}
IsUnspoilt scene before after (Some o) =
    (added : List Answer) → after.answers.items ≡ before.answers.items ++ added → Each (IsSoundUse scene) added

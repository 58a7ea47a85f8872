-- The questions of rows that designators ask, and what is given by their answers.
use Rattle.std.specs.Prelude.{ℕ, suc, List, [], ◌∷◌, if◌then◌else◌, Option, Some, None}
use Rattle.m2_base.specs.States.{Frame}
use Rattle.m2_base.specs.Rows.{HasSmallNumbers}
use Rattle.m2_base.specs.Statics.Contexts.{Scene}
use Rattle.m2_base.specs.Statics.TypeParts.{field_of}
use Rattle.m2_base.specs.declared.rows.Place.{Place}
use Rattle.m2_base.specs.declared.rows.Row.{Row}
use Rattle.m2_base.specs.declared.rows.RowMeaning.{RowMeaning}
use Rattle.m2_base.specs.Gives.{Gives, gives}
use Rattle.m2_base.specs.Statics.Types.{is_broken}
use Rattle.m2_base.specs.declared.operands.Operand.TheVariants.{Variable}
use Rattle.code_form.specs.declared.instr.Instr.TheVariants.{Load, Nil}
use Rattle.type_rules.specs.Members.{IsFieldThere}
use Rattle.block_code.specs.Coded.{Coded, coded, in_error}
use Rattle.block_code.specs.Parts.{Part, plain, ◌⨟◌}

-- the row of a field: its numbers have 32 bits, and its type can be asked for
pub record IsField (f : Frame) (m : RowMeaning) : Type 0 where
  pub small : HasSmallNumbers m
  pub there : IsFieldThere f m

-- the number of a WITH and its field, or else what the outer ones have
abbrev pub number_or : (k : ℕ) → Option Row → Option (ℕ × Row) → Option (ℕ × Row)
number_or k None outer = outer
number_or k (Some r) outer = Some (k, r)

-- The number of the first of these WITHs whose record has a field of this name, and the field's row.
-- Their numbers begin at k.
abbrev pub with_number : Scene → (k : ℕ) → (withs : List Place) → (name : ℕ) → Option (ℕ × Row)
with_number scene k [] name = None
with_number scene k (t ∷ ts) name = number_or k (field_of scene t name) (with_number scene (suc k) ts name)

-- what the pointer at this address points to, by the type that it leads to
abbrev pub pointed : Scene → Part → Place → Gives Coded
pointed scene code t =
    if is_broken scene t then gives in_error else gives (coded (Variable t) (code ⨟ plain (Load ∷ Nil ∷ [])))

-- What the code gives, as plain data.
use Rattle.std.specs.Prelude.{◌≡◌, ◌≢◌, List, []}
use Rattle.m2_base.specs.Fronts as fronts
use Rattle.m2_base.specs.Fronts.{IsFront}
use Rattle.m2_base.specs.Lists.{Each}
use Rattle.m2_base.specs.Units.{Front, IsWholeBy, TextOf, UnitTexts}
use Rattle.m2_base.specs.declared.notes.Diag.{Diag}
use Rattle.def_import.specs.Closure.{front_by_names}
use Rattle.def_import.specs.declared.gathering.Gathered.TheVariants.{Whole, Wrong}
use Rattle.def_import.specs.declared.gathering.Gathered.{Gathered}

abbrev pub unit_given : Gathered → UnitTexts
unit_given (Whole texts) = texts
unit_given (Wrong texts wrongs) = texts

abbrev pub wrongs_given : Gathered → List Diag
wrongs_given (Whole texts) = []
wrongs_given (Wrong texts wrongs) = wrongs.items

-- what is said to be wrong has a diagnostic
abbrev pub IsTold : Gathered → Type 0
IsTold (Whole texts) = Unit {0}
IsTold (Wrong texts wrongs) = wrongs.items ≢ []

-- the text has a front by the grammar, and this is it
pub record HasFrontBy (front : TextOf → Front) (t : TextOf) : Type 0 where
  pub told : fronts.Front
  pub is : IsFront t.definition t.tokens told
  pub same : front t ≡ front_by_names told

-- and the grammar tells no other
abbrev pub HasNoOther : (front : TextOf → Front) → TextOf → Type 0
HasNoOther front t = (told : fronts.Front) → IsFront t.definition t.tokens told → front t ≡ front_by_names told

-- Nothing is left out of the unit, by the fronts that the grammar tells of its texts.
pub record IsWhole (u : UnitTexts) : Type 0 where
  pub front : TextOf → Front
  pub fronts : Each (HasFrontBy front) u.list
  pub no_others : Each (HasNoOther front) u.list
  pub whole : IsWholeBy front u

-- what is said to be whole is
abbrev pub IsWholeWhereSaid : Gathered → Type 0
IsWholeWhereSaid (Whole texts) = IsWhole texts
IsWholeWhereSaid (Wrong texts wrongs) = Unit {0}

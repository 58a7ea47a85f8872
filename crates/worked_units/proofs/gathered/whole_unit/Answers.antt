use Rattle.std.proofs.Common.{◌≡◌, subst}
use Rattle.def_import.specs.Answers.{IsWhole, IsWholeWhereSaid}
use Rattle.def_import.specs.declared.gathering.Gathered.TheVariants.{Whole}
use Rattle.def_import.specs.declared.gathering.Gathered.{Gathered}
use Rattle.m2_base.specs.Units.{IsUnit, UnitTexts}
use Rattle.worked_units.proofs.gathered.whole_unit.Goals as goal

said_whole : (g : Gathered) (texts : UnitTexts) → g ≡ Whole texts → IsWholeWhereSaid g → IsWhole texts
said_whole g texts is said = subst IsWholeWhereSaid is said

pub returns-clause-laws : goal.returns-clause-laws
returns-clause-laws g c = λ u read.
    let unit : IsUnit c.in-Ok-Whole.texts = c.main-main.ensures.unit in
    let is : c.in-Ok-Whole.field-0 ≡ Whole c.in-Ok-Whole.texts = cc c.in-Ok-Whole.field-0-is in
    let whole = said_whole c.in-Ok-Whole.field-0 c.in-Ok-Whole.texts is c.in-Ok-Whole.ensures.whole in
    let imports = c.imports_come_before.ensures c.in-Ok-Whole.texts u whole.front unit read whole.no_others whole.whole in
    record {
      imports = imports;
      sound = c.units_are_sound.ensures c.in-Ok-Whole.texts u unit read imports;
      items = c.trees_are_read.ensures.items c.in-Ok-Whole.texts u unit read;
      statements = c.trees_are_read.ensures.statements c.in-Ok-Whole.texts u unit read;
      short = c.blocks_are_short.ensures c.in-Ok-Whole.texts u unit read;
      code = c.unit_code_is_valid.ensures c.in-Ok-Whole.texts u unit read imports;
    }

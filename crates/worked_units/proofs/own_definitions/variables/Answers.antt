use Rattle.std.proofs.Common.{refl}
use Rattle.m2_base.specs.Names.{standard_names}
use Rattle.m2_base.specs.Statics.BlockRows.{declare_block}
use Rattle.m2_base.specs.Statics.Blocks.{blocks_of}
use Rattle.m2_base.specs.Statics.UnitNotes.{declaration_diags}
use Rattle.m2_base.specs.Statics.UnitRows.{unit_rows}
use Rattle.worked_units.proofs.own_definitions.variables.Goals as goal

pub returns-clause-noted : goal.returns-clause-noted
unfolding blocks_of declaration_diags declare_block standard_names unit_rows
returns-clause-noted c = refl

pub returns-clause-rows : goal.returns-clause-rows
unfolding blocks_of declaration_diags declare_block standard_names unit_rows
returns-clause-rows c = refl

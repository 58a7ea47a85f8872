use Rattle.std.proofs.Common.{refl}
use Rattle.m2_base.specs.Names.{standard_names}
use Rattle.m2_base.specs.Statics.BlockRows.{declare_block}
use Rattle.m2_base.specs.Statics.Blocks.{blocks_of}
use Rattle.m2_base.specs.Statics.UnitNotes.{declaration_diags}
use Rattle.m2_base.specs.Statics.UnitRows.{unit_rows}
use Rattle.worked_units.proofs.own_definitions.both.Goals as goal

pub returns-clause-same : goal.returns-clause-same
unfolding blocks_of declaration_diags declare_block standard_names unit_rows
returns-clause-same c = refl

pub returns-clause-own : goal.returns-clause-own
unfolding blocks_of declaration_diags declare_block standard_names unit_rows
returns-clause-own c = refl

pub returns-clause-other : goal.returns-clause-other
unfolding blocks_of declaration_diags declare_block standard_names unit_rows
returns-clause-other c = refl

pub returns-clause-wrong : goal.returns-clause-wrong
unfolding blocks_of declaration_diags declare_block standard_names unit_rows
returns-clause-wrong c = refl

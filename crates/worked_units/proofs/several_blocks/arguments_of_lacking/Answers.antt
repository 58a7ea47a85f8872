use Rattle.std.proofs.Common.{refl}
use Rattle.m2_base.specs.Names.{standard_names}
use Rattle.m2_base.specs.Statics.BlockRows.{declare_block}
use Rattle.m2_base.specs.Statics.Blocks.{blocks_of}
use Rattle.m2_base.specs.Statics.UnitRows.{unit_rows}
use Rattle.worked_units.proofs.several_blocks.arguments_of_lacking.Goals as goal

pub returns-clause-value : goal.returns-clause-value
unfolding blocks_of declare_block standard_names unit_rows
returns-clause-value c = refl

pub returns-clause-values : goal.returns-clause-values
unfolding blocks_of declare_block standard_names unit_rows
returns-clause-values c = refl

pub returns-clause-result : goal.returns-clause-result
unfolding blocks_of declare_block standard_names unit_rows
returns-clause-result c = refl

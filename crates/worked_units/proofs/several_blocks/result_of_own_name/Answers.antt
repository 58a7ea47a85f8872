use Rattle.std.proofs.Common.{refl}
use Rattle.m2_base.specs.Names.{standard_names}
use Rattle.m2_base.specs.Statics.BlockRows.{declare_block}
use Rattle.m2_base.specs.Statics.Blocks.{blocks_of}
use Rattle.m2_base.specs.Statics.UnitRows.{unit_rows}
use Rattle.worked_units.proofs.several_blocks.result_of_own_name.Goals as goal

pub returns : goal.returns
unfolding blocks_of declare_block standard_names unit_rows
returns c = refl

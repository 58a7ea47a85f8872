use Rattle.std.proofs.Common.{refl}
use Rattle.m2_base.specs.Names.{standard_names}
use Rattle.m2_base.specs.Statics.BlockRows.{declare_block}
use Rattle.m2_base.specs.Statics.Blocks.{blocks_of}
use Rattle.m2_base.specs.Statics.UnitNotes.{declaration_diags}
use Rattle.m2_base.specs.Statics.UnitRows.{unit_rows}
use Rattle.worked_units.proofs.own_definitions.opaque_types.Goals as goal

pub returns-clause-left_out : goal.returns-clause-left_out
unfolding blocks_of declaration_diags declare_block standard_names unit_rows
returns-clause-left_out c = refl

pub returns-clause-scalar : goal.returns-clause-scalar
unfolding blocks_of declaration_diags declare_block standard_names unit_rows
returns-clause-scalar c = refl

pub returns-clause-pointer : goal.returns-clause-pointer
unfolding blocks_of declaration_diags declare_block standard_names unit_rows
returns-clause-pointer c = refl

pub returns-clause-structure : goal.returns-clause-structure
unfolding blocks_of declaration_diags declare_block standard_names unit_rows
returns-clause-structure c = refl

pub returns-clause-procedure : goal.returns-clause-procedure
unfolding blocks_of declaration_diags declare_block standard_names unit_rows
returns-clause-procedure c = refl

pub returns-clause-variable : goal.returns-clause-variable
unfolding blocks_of declaration_diags declare_block standard_names unit_rows
returns-clause-variable c = refl

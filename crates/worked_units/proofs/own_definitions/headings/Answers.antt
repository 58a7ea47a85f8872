use Rattle.std.proofs.Common.{refl}
use Rattle.m2_base.specs.Names.{standard_names}
use Rattle.m2_base.specs.Statics.BlockRows.{declare_block}
use Rattle.m2_base.specs.Statics.Blocks.{blocks_of}
use Rattle.m2_base.specs.Statics.UnitNotes.{declaration_diags}
use Rattle.m2_base.specs.Statics.UnitRows.{unit_rows}
use Rattle.worked_units.proofs.own_definitions.headings.Goals as goal

pub returns-clause-left_out : goal.returns-clause-left_out
unfolding blocks_of declaration_diags declare_block standard_names unit_rows
returns-clause-left_out c = refl

pub returns-clause-variable : goal.returns-clause-variable
unfolding blocks_of declaration_diags declare_block standard_names unit_rows
returns-clause-variable c = refl

pub returns-clause-name : goal.returns-clause-name
unfolding blocks_of declaration_diags declare_block standard_names unit_rows
returns-clause-name c = refl

pub returns-clause-by_ref : goal.returns-clause-by_ref
unfolding blocks_of declaration_diags declare_block standard_names unit_rows
returns-clause-by_ref c = refl

pub returns-clause-more : goal.returns-clause-more
unfolding blocks_of declaration_diags declare_block standard_names unit_rows
returns-clause-more c = refl

pub returns-clause-none : goal.returns-clause-none
unfolding blocks_of declaration_diags declare_block standard_names unit_rows
returns-clause-none c = refl

pub returns-clause-typ : goal.returns-clause-typ
unfolding blocks_of declaration_diags declare_block standard_names unit_rows
returns-clause-typ c = refl

pub returns-clause-alias : goal.returns-clause-alias
unfolding blocks_of declaration_diags declare_block standard_names unit_rows
returns-clause-alias c = refl

pub returns-clause-result : goal.returns-clause-result
unfolding blocks_of declaration_diags declare_block standard_names unit_rows
returns-clause-result c = refl

pub returns-clause-without : goal.returns-clause-without
unfolding blocks_of declaration_diags declare_block standard_names unit_rows
returns-clause-without c = refl

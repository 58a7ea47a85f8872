use Rattle.row_laws.proofs.Units.{unit_cells, unit_in_range, unit_own_cells}
use Rattle.row_laws.proofs.laws.rows_are_in_range.Goals as goal

pub returns-clause-ranges : goal.returns-clause-ranges
returns-clause-ranges c = unit_in_range

pub returns-clause-cells : goal.returns-clause-cells
returns-clause-cells c = unit_cells

pub returns-clause-own_cells : goal.returns-clause-own_cells
returns-clause-own_cells c = unit_own_cells

use Rattle.m2_base.specs.declared.rows.Mode.TheVariants.{ByAddress, Open}
use Rattle.decl_sem.proofs.OwnParameters.{cells_after, placed_as, same_cells}
use Rattle.decl_sem.proofs.own_parameters.put_by_ref.Goals as goal

pub put_parameter-requires-clause-cells : goal.put_parameter-requires-clause-cells
put_parameter-requires-clause-cells g c = same_cells c.after_cells-next.ensures (cells_after 2 c.args.from c.requires.cells)

pub put_parameter-requires-else-is_open-clause-cells : goal.put_parameter-requires-else-is_open-clause-cells
put_parameter-requires-else-is_open-clause-cells g c = same_cells c.after_cells-next-else-is_open.ensures (cells_after 1 c.args.from c.requires.cells)

pub returns-then-is_open : goal.returns-then-is_open
returns-then-is_open g c =
    rw c.if-is_open.true (placed_as c.args.name c.args.of Open _ c.cell-cell.ensures c.after_cells-next.ensures c.put_parameter.ensures)

pub returns-else-is_open : goal.returns-else-is_open
returns-else-is_open g c =
    rw c.if-is_open.false (placed_as c.args.name c.args.of ByAddress _ c.cell-cell.ensures c.after_cells-next-else-is_open.ensures c.put_parameter-else-is_open.ensures)

use Rattle.m2_base.specs.declared.rows.Mode.TheVariants.{Plain}
use Rattle.decl_sem.proofs.OwnParameters.{cells_after, own_after, placed_as, same_cells}
use Rattle.decl_sem.proofs.TypeForms.{unmade}
use Rattle.decl_sem.proofs.own_parameters.put_value.Goals as goal

pub put_parameter-requires-clause-cells : goal.put_parameter-requires-clause-cells
put_parameter-requires-clause-cells g c = same_cells c.in-Ok.ensures (own_after c.args.size c.args.from c.requires.cells)

pub put_parameter-requires-else-structured-clause-cells : goal.put_parameter-requires-else-structured-clause-cells
put_parameter-requires-else-structured-clause-cells g c = same_cells c.after_cells-next.ensures (cells_after 1 c.args.from c.requires.cells)

pub returns-in-Err : goal.returns-in-Err
returns-in-Err g c = unmade _ _ _ _ _ _ _

pub returns-in-Ok : goal.returns-in-Ok
returns-in-Ok g c = rw c.if-structured.true (placed_as c.args.name c.args.of Plain _ c.own-own.ensures c.in-Ok.ensures c.put_parameter.ensures)

pub returns-else-structured : goal.returns-else-structured
returns-else-structured g c =
    rw c.if-structured.false (placed_as c.args.name c.args.of Plain _ c.cell-cell.ensures c.after_cells-next.ensures c.put_parameter-else-structured.ensures)

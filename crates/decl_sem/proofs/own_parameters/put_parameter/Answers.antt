use Rattle.decl_sem.proofs.OwnParameters.{parameter_put, var_meaning}
use Rattle.decl_sem.proofs.own_parameters.put_parameter.Goals as goal

pub name_row-requires-clause-meaning : goal.name_row-requires-clause-meaning
name_row-requires-clause-meaning g c = var_meaning c.args.of c.args.mode c.args.cell c.ranges.cell.fits c.requires.making c.requires.of

pub returns-in-Ok : goal.returns-in-Ok
returns-in-Ok g c = parameter_put c.args.name c.args.of c.args.mode c.args.cell c.args.next c.requires.cells c.in-Ok.ensures

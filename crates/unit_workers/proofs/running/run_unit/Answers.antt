use Rattle.unit_tasks.proofs.Starting.{if_ok}
use Rattle.unit_workers.proofs.Endings.{finished_outputs}
use Rattle.unit_workers.proofs.running.run_unit.Goals as goal

pub returns-clause-unit : goal.returns-clause-unit
returns-clause-unit g c = if_ok _ _ c.run_as.result (λ all are. finished_outputs c.args.table.now c.args.texts.now all.items c.requires.unit.limits are) c.run_as.ensures

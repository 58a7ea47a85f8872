use Rattle.std.specs.Prelude.{Some}
use Rattle.unit_workers.proofs.running.run_unit.Given as goal

abbrev pub ghosts-run_as : goal.ghosts-run_as
ghosts-run_as g a = record { table = Some a.table.now }

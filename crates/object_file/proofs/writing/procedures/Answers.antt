use Rattle.object_file.specs.Short.{ShortProcedure}
use Rattle.object_file.specs.Views.{procedure_of}
use Rattle.object_file.proofs.Each.{one_of_all}
use Rattle.object_file.proofs.writing.procedures.Goals as goal

pub procedure-requires : goal.procedure-requires
procedure-requires c = one_of_all ShortProcedure procedure_of c.args.all.now c.loop-one.one-index c.one-item.result c.requires c.loop-one-test.true c.one-item.is

use Rattle.std.proofs.Common.{◌≡◌, []}
use Rattle.stack_machine.specs.State.{state_of}
use Rattle.stack_machine.specs.Readings.{got_of}
use Rattle.stack_machine.proofs.Serving.{served_told}
use Rattle.stack_machine.proofs.run.read_and_serve.Goals as goal

pub returns-in-Ok-clause-comes : goal.returns-in-Ok-clause-comes
returns-in-Ok-clause-comes g c = (got_of c.in-Ok.reading [], c.serve.ensures.comes)

pub returns-in-Ok-clause-told : goal.returns-in-Ok-clause-told
returns-in-Ok-clause-told g c =
    served_told c.args.service c.args.n (state_of c.args.core.now) (state_of c.serve.new.core) c.serve.result c.in-Ok.reading (g.K.Source.left c.args.keys.now) (g.K.Source.left c.read.new.keys) c.in-Ok.ensures.ok c.serve.ensures.comes

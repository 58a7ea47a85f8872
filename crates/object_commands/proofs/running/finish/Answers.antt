use Rattle.std.proofs.Common.{◌∙◌}
use Rattle.object_commands.proofs.Finishing.{ends_trapped}
use Rattle.object_commands.proofs.running.finish.Goals as goal

pub returns-in_ok-write_all-in-Trapped-clause-finishes : goal.returns-in_ok-write_all-in-Trapped-clause-finishes
returns-in_ok-write_all-in-Trapped-clause-finishes g c =
    ends_trapped c.args.machine.now.objects c.args.end (g.P.Sink.written c.args.print.now) (g.P.Sink.written c.write_all-in-Trapped.new.sink) c.in-Trapped.code c.in-Trapped.«module» c.in-Trapped.procedure c.in-Trapped.offset
    c.in-Trapped.is c.module_name.result.now c.deref.result.now c.module_name.ensures (λ t e. c.deref.ensures.value ∙ c.in_ok-line-in-Trapped.ensures t e) c.in_ok-write_all-in-Trapped.ensures.ok

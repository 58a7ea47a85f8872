use Rattle.std.proofs.Common.{◌≡◌}
use Rattle.std.proofs.lemmas.Result.{on_err_weaker}
use Rattle.stack_machine.specs.State.{state_of}
use Rattle.stack_machine.specs.InOut.{printed}
use Rattle.stack_machine.proofs.Serving.{has_served, broken_print, broken_read, failed_read, handed_before}
use Rattle.stack_machine.proofs.run.call_service.Goals as goal

pub returns-in-Err-clause-broken : goal.returns-in-Err-clause-broken
returns-in-Err-clause-broken g c =
    broken_print (printed c.args.service c.args.core.now.cells.items (state_of c.args.core.now).operands) (g.K.Source.left c.args.keys.now) (g.P.Sink.written c.args.print.now) (g.P.Sink.written c.print.new.print) c.in-Err.ensures.err

pub returns-in-Ok-clause-told : goal.returns-in-Ok-clause-told
returns-in-Ok-clause-told g c =
    has_served c.args.service c.args.n (state_of c.args.core.now) (state_of c.read_and_serve.new.core) c.read_and_serve.result (g.K.Source.left c.args.keys.now) (g.K.Source.left c.read_and_serve.new.keys) (g.P.Sink.written c.args.print.now) (g.P.Sink.written c.print.new.print)
    c.read_and_serve.ensures.told c.in-Ok.ensures.ok

pub returns-in-Ok-clause-broken : goal.returns-in-Ok-clause-broken
returns-in-Ok-clause-broken g c =
    on_err_weaker c.read_and_serve.result
    (broken_read (printed c.args.service c.args.core.now.cells.items (state_of c.args.core.now).operands) (g.K.Source.left c.args.keys.now) (g.K.Source.left c.read_and_serve.new.keys) (g.P.Sink.written c.args.print.now) (g.P.Sink.written c.print.new.print) c.in-Ok.ensures.ok)
    c.read_and_serve.ensures.taken

pub returns-in-Ok-clause-failed : goal.returns-in-Ok-clause-failed
returns-in-Ok-clause-failed g c =
    failed_read c.read_and_serve.result (g.P.Sink.faults c.args.print.now) (g.P.Sink.faults c.print.new.print) (g.K.Source.faults c.args.keys.now) (g.K.Source.faults c.read_and_serve.new.keys) c.read_and_serve.ensures.which c.read_and_serve.ensures.failed

pub returns-in-Ok-clause-handed : goal.returns-in-Ok-clause-handed
returns-in-Ok-clause-handed g c = handed_before c.read_and_serve.result c.args.service (g.P.Sink.kept c.print.new.print) c.read_and_serve.ensures.reads c.in-Ok.ensures.handed

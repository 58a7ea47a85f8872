use Rattle.object_text.proofs.Shown.{on_err}
use Rattle.object_commands.proofs.Doing.{dump_done, dump_says, dump_says_part, dump_stopped}
use Rattle.object_commands.proofs.dumping.dump.Goals as goal

pub returns-in_err-print_object-in-Ok-clause-part : goal.returns-in_err-print_object-in-Ok-clause-part
returns-in_err-print_object-in-Ok-clause-part g c =
    on_err c.from_residual.result
    (dump_stopped (g.H.Shelf.holds c.args.shelf.now) c.args.name.now (g.P.Sink.written c.args.print.now) (g.P.Sink.written c.print_object.new.print) c.in-Ok.object c.in-Ok.ensures.found c.in_err-print_object-in-Ok.ensures.part)

pub returns-in_ok-print_object-in-Ok-clause-prints : goal.returns-in_ok-print_object-in-Ok-clause-prints
returns-in_ok-print_object-in-Ok-clause-prints g c =
    dump_done (g.H.Shelf.holds c.args.shelf.now) c.args.name.now (g.P.Sink.written c.args.print.now) (g.P.Sink.written c.print_object.new.print) c.in-Ok.object c.in-Ok.ensures.found c.in_ok-print_object-in-Ok.ensures.ok

pub returns-in-Err-clause-prints : goal.returns-in-Err-clause-prints
returns-in-Err-clause-prints g c =
    dump_says (g.H.Shelf.holds c.args.shelf.now) c.args.name.now (g.P.Sink.written c.args.print.now) (g.P.Sink.written c.print_failure.new.print) c.in-Err.fault c.in-Err.ensures.fault c.print_failure.result c.print_failure.ensures.says

pub returns-in-Err-clause-part : goal.returns-in-Err-clause-part
returns-in-Err-clause-part g c =
    dump_says_part (g.H.Shelf.holds c.args.shelf.now) c.args.name.now (g.P.Sink.written c.args.print.now) (g.P.Sink.written c.print_failure.new.print) c.in-Err.fault c.in-Err.ensures.fault c.print_failure.result c.print_failure.ensures.part

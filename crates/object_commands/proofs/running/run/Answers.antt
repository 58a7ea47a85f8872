use Rattle.object_commands.proofs.Doing.{run_loaded, run_loaded_part, run_says, run_says_part}
use Rattle.object_commands.proofs.running.run.Goals as goal

pub returns-in-Ok-clause-leaves : goal.returns-in-Ok-clause-leaves
returns-in-Ok-clause-leaves g c =
    run_loaded (g.H.Shelf.holds c.args.shelf.now) c.args.settings.now.name.now c.args.settings.now.steps c.args.settings.now.cells (g.K.Source.left c.args.keys.now) (g.P.Sink.written c.args.print.now)
    (g.P.Sink.written c.run_program.new.print) c.run_program.result (g.K.Source.left c.run_program.new.keys) c.in-Ok.program c.in-Ok.ensures.linked c.run_program.ensures.leaves

pub returns-in-Ok-clause-part : goal.returns-in-Ok-clause-part
returns-in-Ok-clause-part g c =
    run_loaded_part (g.H.Shelf.holds c.args.shelf.now) c.args.settings.now.name.now c.args.settings.now.steps c.args.settings.now.cells (g.K.Source.left c.args.keys.now) (g.P.Sink.written c.args.print.now)
    (g.P.Sink.written c.run_program.new.print) c.run_program.result (g.K.Source.left c.run_program.new.keys) c.in-Ok.program c.in-Ok.ensures.linked c.run_program.ensures.part

pub returns-in-Err-clause-leaves : goal.returns-in-Err-clause-leaves
returns-in-Err-clause-leaves g c =
    run_says (g.H.Shelf.holds c.args.shelf.now) c.args.settings.now.name.now c.args.settings.now.steps c.args.settings.now.cells (g.K.Source.left c.args.keys.now) (g.P.Sink.written c.args.print.now)
    (g.P.Sink.written c.print_failure.new.print) c.print_failure.result c.in-Err.fault c.in-Err.ensures.fault c.print_failure.ensures.says

pub returns-in-Err-clause-part : goal.returns-in-Err-clause-part
returns-in-Err-clause-part g c =
    run_says_part (g.H.Shelf.holds c.args.shelf.now) c.args.settings.now.name.now c.args.settings.now.steps c.args.settings.now.cells (g.K.Source.left c.args.keys.now) (g.P.Sink.written c.args.print.now)
    (g.P.Sink.written c.print_failure.new.print) c.print_failure.result c.in-Err.fault c.in-Err.ensures.fault c.print_failure.ensures.part

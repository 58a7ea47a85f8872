use Rattle.std.proofs.Common.{◌≡◌, ◌∙◌, ℕ, Err, List, ap, subst}
use Rattle.std.specs.Prelude.{IfOk, OnErr}
use Rattle.object_file.specs.Contents.{Contents}
use Rattle.object_text.proofs.Shown.{on_err}
use Rattle.m2_io.specs.Written.{WritesPart, with_bytes}
use Rattle.stack_machine.specs.Loading.{frames_of}
use Rattle.stack_machine.specs.declared.machine.StartFault.TheVariants.{NoRoom}
use Rattle.object_commands.specs.Runs.{Finishes, FinishesPart, HasCode}
use Rattle.object_commands.proofs.Doing.{enough_cells, room_leaves, room_part, too_few_cells}
use Rattle.object_commands.proofs.Ending.{run_leaves, run_part}
use Rattle.object_commands.proofs.Rears.{run_left}
use Rattle.object_commands.proofs.running.run_program.Goals as goal

pub returns-in-Ok-clause-leaves : goal.returns-in-Ok-clause-leaves
returns-in-Ok-clause-leaves g c =
    let os = c.args.program in
    let w1 = g.P.Sink.written c.run-end.new.print in
    let w2 = g.P.Sink.written c.finish.new.print in
    let enough = enough_cells c.args.settings.now.cells (frames_of os) c.new.result c.in-Ok.machine NoRoom c.in-Ok.is c.new.ensures.no_room in
    let same : c.run-end.new.self.objects ≡ os = c.run-end.ensures.objects ∙ c.in-Ok.ensures.program in
    run_leaves os c.in-Ok.machine.code c.args.settings.now.steps c.args.settings.now.cells c.in-Ok.ensures.code enough (g.K.Source.left c.args.keys.now) (g.P.Sink.written c.args.print.now) w1 w2 (g.K.Source.left c.run-end.new.keys)
    c.run-end.result c.in-Ok.machine.now c.run-end.new.self.now c.in-Ok.ensures.stands c.run-end.ensures.ends c.finish.result
    (subst (λ (xs : List Contents). HasCode c.run-end.result → IfOk c.finish.result (λ answer. Finishes xs c.run-end.result answer w1 w2)) same c.finish.ensures.finishes)

pub returns-in-Ok-clause-part : goal.returns-in-Ok-clause-part
returns-in-Ok-clause-part g c =
    let os = c.args.program in
    let w1 = g.P.Sink.written c.run-end.new.print in
    let w2 = g.P.Sink.written c.finish.new.print in
    let enough = enough_cells c.args.settings.now.cells (frames_of os) c.new.result c.in-Ok.machine NoRoom c.in-Ok.is c.new.ensures.no_room in
    let same : c.run-end.new.self.objects ≡ os = c.run-end.ensures.objects ∙ c.in-Ok.ensures.program in
    run_part os c.in-Ok.machine.code c.args.settings.now.steps c.args.settings.now.cells c.in-Ok.ensures.code enough (g.K.Source.left c.args.keys.now) (g.P.Sink.written c.args.print.now) w1 w2 (g.K.Source.left c.run-end.new.keys)
    c.run-end.result c.in-Ok.machine.now c.run-end.new.self.now c.in-Ok.ensures.stands c.run-end.ensures.ends c.finish.result
    (subst (λ (xs : List Contents). OnErr c.finish.result (FinishesPart xs c.run-end.result w1 w2)) same c.finish.ensures.part)

pub returns-in_err-write_all-in-Err-NoRoom-clause-part : goal.returns-in_err-write_all-in-Err-NoRoom-clause-part
returns-in_err-write_all-in-Err-NoRoom-clause-part g c =
    let old = g.P.Sink.written c.args.print.now in
    let new = g.P.Sink.written c.write_all.new.sink in
    let less = too_few_cells c.args.settings.now.cells (frames_of c.args.program) c.new.result (c.in-Err-NoRoom.is ∙ ap Err c.in-Err-NoRoom.field-0-is) c.new.ensures.memory in
    let said = c.deref.ensures.value ∙ c.in_ok-line-in-Err-NoRoom.ensures in
    on_err c.from_residual-in_err-write_all-in-Err-NoRoom.result
    (room_part c.args.program c.args.settings.now.steps c.args.settings.now.cells (g.K.Source.left c.args.keys.now) old new less (subst (λ (t : List ℕ). WritesPart old t new) said c.in_err-write_all-in-Err-NoRoom.ensures.err))

pub returns-in_ok-write_all-in-Err-NoRoom-clause-leaves : goal.returns-in_ok-write_all-in-Err-NoRoom-clause-leaves
returns-in_ok-write_all-in-Err-NoRoom-clause-leaves g c =
    let old = g.P.Sink.written c.args.print.now in
    let new = g.P.Sink.written c.write_all.new.sink in
    let less = too_few_cells c.args.settings.now.cells (frames_of c.args.program) c.new.result (c.in-Err-NoRoom.is ∙ ap Err c.in-Err-NoRoom.field-0-is) c.new.ensures.memory in
    room_leaves c.args.program c.args.settings.now.steps c.args.settings.now.cells (g.K.Source.left c.args.keys.now) old new less
    (c.in_ok-write_all-in-Err-NoRoom.ensures.ok ∙ ap (with_bytes old) (c.deref.ensures.value ∙ c.in_ok-line-in-Err-NoRoom.ensures))

pub returns-in-Ok-clause-left : goal.returns-in-Ok-clause-left
returns-in-Ok-clause-left g c =
    run_left c.in-Ok.machine.code c.args.settings.now.steps (g.K.Source.left c.args.keys.now) (g.P.Sink.written c.args.print.now) (g.P.Sink.written c.run-end.new.print) (g.K.Source.left c.run-end.new.keys)
    c.run-end.result c.in-Ok.machine.now c.run-end.new.self.now c.run-end.ensures.ends

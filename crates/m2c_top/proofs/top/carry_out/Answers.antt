use Rattle.std.proofs.Common.{◌<◌, ◌≤◌, ap, inr, subst, sym}
use Rattle.command_words.specs.Command.{IsSound, big, command_of, compile}
use Rattle.module_outcome.specs.Outcome.{KeepsButObject}
use Rattle.m2c_top.specs.Effects.{IsToCompile}
use Rattle.m2c_top.proofs.Carrying.{ComesDone, LeavesDone, PrintsDone, compiled_comes, compiled_leaves, compiled_prints, counted_comes, counted_leaves, counted_prints, dumped_comes, dumped_leaves, dumped_prints, ran_comes, ran_leaves, ran_prints}
use Rattle.m2c_top.proofs.Keeping.{compiling_keeps}
use Rattle.m2c_top.proofs.Named.{name_identifier}
use Rattle.m2c_top.proofs.top.carry_out.Goals as goal

pub compile-requires-clause-named : goal.compile-requires-clause-named
compile-requires-clause-named g c κs within =
    let sound : IsSound (compile c.in-Compile.name.now c.in-Compile.workers) = subst (λ k. IsSound (command_of k)) c.in-Compile.is c.requires.sound in
    name_identifier c.in-Compile.name.now sound.0

pub compile-requires-clause-workers : goal.compile-requires-clause-workers
compile-requires-clause-workers g c κs within =
    let sound : IsSound (compile c.in-Compile.name.now c.in-Compile.workers) = subst (λ k. IsSound (command_of k)) c.in-Compile.is c.requires.sound in
    subst (λ n. (0 < n) × (n ≤ 64)) (sym c.crew-crew.ensures) (sound.1, sound.2)

pub compile_big-requires-clause-most : goal.compile_big-requires-clause-most
compile_big-requires-clause-most g c κs within =
    let sound : IsSound (big c.in-Big.procedures c.in-Big.workers) = subst (λ k. IsSound (command_of k)) c.in-Big.is c.requires.sound in
    sound.1

pub compile_big-requires-clause-workers : goal.compile_big-requires-clause-workers
compile_big-requires-clause-workers g c κs within =
    let sound : IsSound (big c.in-Big.procedures c.in-Big.workers) = subst (λ k. IsSound (command_of k)) c.in-Big.is c.requires.sound in
    subst (λ n. (0 < n) × (n ≤ 64)) (sym c.crew-crew-in-Big.ensures) (sound.2, sound.3)

pub returns-in-Compile-clause-part : goal.returns-in-Compile-clause-part
returns-in-Compile-clause-part g c =
    let holds = g.H.Shelf.holds c.args.shelf.now in
    let after = g.H.Shelf.holds c.compile.new.shelf in
    inr (subst (λ k. IsToCompile (command_of k) (λ name. KeepsButObject name holds after)) (sym c.in-Compile.is)
    (compiling_keeps c.in-Compile.name.now holds after (g.P.Sink.written c.args.print.now) (g.P.Sink.written c.compile.new.print) c.compile.result c.compile.ensures.leaves c.compile.ensures.unread c.compile.ensures.memory c.compile.ensures.part))

pub returns-in-Compile-clause-leaves : goal.returns-in-Compile-clause-leaves
returns-in-Compile-clause-leaves g c =
    let holds = g.H.Shelf.holds c.args.shelf.now in
    let after = g.H.Shelf.holds c.compile.new.shelf in
    let old = g.P.Sink.written c.args.print.now in
    let new = g.P.Sink.written c.compile.new.print in
    let left = g.K.Source.left c.args.keys.now in
    subst (LeavesDone holds after old new left left c.ended_compiling.result) (ap command_of (sym c.in-Compile.is))
    (compiled_leaves holds old new left c.in-Compile.name.now c.in-Compile.workers after c.compile.result c.ended_compiling.result c.ended_compiling.ensures c.compile.ensures.leaves)

pub returns-in-Compile-clause-prints : goal.returns-in-Compile-clause-prints
returns-in-Compile-clause-prints g c =
    let holds = g.H.Shelf.holds c.args.shelf.now in
    let after = g.H.Shelf.holds c.compile.new.shelf in
    let old = g.P.Sink.written c.args.print.now in
    let new = g.P.Sink.written c.compile.new.print in
    let left = g.K.Source.left c.args.keys.now in
    subst (PrintsDone holds after old new left left c.ended_compiling.result) (ap command_of (sym c.in-Compile.is))
    (compiled_prints holds old new left c.in-Compile.name.now c.in-Compile.workers c.compile.result c.ended_compiling.result c.ended_compiling.ensures c.compile.ensures.prints)

pub returns-in-Compile-clause-comes : goal.returns-in-Compile-clause-comes
returns-in-Compile-clause-comes g c =
    let holds = g.H.Shelf.holds c.args.shelf.now in
    subst (ComesDone holds c.ended_compiling.result) (ap command_of (sym c.in-Compile.is))
    (compiled_comes holds c.in-Compile.name.now c.in-Compile.workers c.compile.result c.ended_compiling.result c.ended_compiling.ensures c.compile.ensures.answers)

pub returns-in-Run-clause-comes : goal.returns-in-Run-clause-comes
returns-in-Run-clause-comes g c =
    let holds = g.H.Shelf.holds c.args.shelf.now in
    subst (ComesDone holds c.ended.result) (ap command_of (sym c.in-Run.is)) (ran_comes holds c.ended.result c.in-Run.name.now c.in-Run.steps c.in-Run.cells)

pub returns-in-Dump-clause-comes : goal.returns-in-Dump-clause-comes
returns-in-Dump-clause-comes g c =
    let holds = g.H.Shelf.holds c.args.shelf.now in
    subst (ComesDone holds c.ended-in-Dump.result) (ap command_of (sym c.in-Dump.is)) (dumped_comes holds c.ended-in-Dump.result c.in-Dump.name.now)

pub returns-in-Run-clause-leaves : goal.returns-in-Run-clause-leaves
returns-in-Run-clause-leaves g c =
    let holds = g.H.Shelf.holds c.args.shelf.now in
    let after = g.H.Shelf.holds c.run.new.shelf in
    let old = g.P.Sink.written c.args.print.now in
    let new = g.P.Sink.written c.run.new.print in
    let left = g.K.Source.left c.args.keys.now in
    subst (LeavesDone holds after old new left (g.K.Source.left c.run.new.keys) c.ended.result) (ap command_of (sym c.in-Run.is))
    (ran_leaves holds old new left c.in-Run.name.now c.in-Run.steps c.in-Run.cells after (g.K.Source.left c.run.new.keys) c.run.result c.ended.result c.run.ensures.holds c.ended.ensures c.run.ensures.leaves)

pub returns-in-Run-clause-prints : goal.returns-in-Run-clause-prints
returns-in-Run-clause-prints g c =
    let holds = g.H.Shelf.holds c.args.shelf.now in
    let after = g.H.Shelf.holds c.run.new.shelf in
    let old = g.P.Sink.written c.args.print.now in
    let new = g.P.Sink.written c.run.new.print in
    let left = g.K.Source.left c.args.keys.now in
    subst (PrintsDone holds after old new left left c.ended.result) (ap command_of (sym c.in-Run.is))
    (ran_prints holds old new left c.in-Run.name.now c.in-Run.steps c.in-Run.cells c.run.result c.ended.result c.ended.ensures c.run.ensures.part)

pub returns-in-Dump-clause-leaves : goal.returns-in-Dump-clause-leaves
returns-in-Dump-clause-leaves g c =
    let holds = g.H.Shelf.holds c.args.shelf.now in
    let after = g.H.Shelf.holds c.dump.new.shelf in
    let old = g.P.Sink.written c.args.print.now in
    let new = g.P.Sink.written c.dump.new.print in
    let left = g.K.Source.left c.args.keys.now in
    subst (LeavesDone holds after old new left left c.ended-in-Dump.result) (ap command_of (sym c.in-Dump.is))
    (dumped_leaves holds old new left c.in-Dump.name.now after c.dump.result c.ended-in-Dump.result c.dump.ensures.holds c.ended-in-Dump.ensures c.dump.ensures.prints)

pub returns-in-Dump-clause-prints : goal.returns-in-Dump-clause-prints
returns-in-Dump-clause-prints g c =
    let holds = g.H.Shelf.holds c.args.shelf.now in
    let after = g.H.Shelf.holds c.dump.new.shelf in
    let old = g.P.Sink.written c.args.print.now in
    let new = g.P.Sink.written c.dump.new.print in
    let left = g.K.Source.left c.args.keys.now in
    subst (PrintsDone holds after old new left left c.ended-in-Dump.result) (ap command_of (sym c.in-Dump.is))
    (dumped_prints holds old new left c.in-Dump.name.now c.dump.result c.ended-in-Dump.result c.ended-in-Dump.ensures c.dump.ensures.part)

pub returns-in-Big-clause-comes : goal.returns-in-Big-clause-comes
returns-in-Big-clause-comes g c =
    let holds = g.H.Shelf.holds c.args.shelf.now in
    subst (ComesDone holds c.ended_compiling-in-Big.result) (ap command_of (sym c.in-Big.is)) (counted_comes holds c.ended_compiling-in-Big.result c.in-Big.procedures c.in-Big.workers)

pub returns-in-Big-clause-leaves : goal.returns-in-Big-clause-leaves
returns-in-Big-clause-leaves g c =
    let holds = g.H.Shelf.holds c.args.shelf.now in
    let after = g.H.Shelf.holds c.compile_big.new.shelf in
    let old = g.P.Sink.written c.args.print.now in
    let new = g.P.Sink.written c.compile_big.new.print in
    let left = g.K.Source.left c.args.keys.now in
    subst (LeavesDone holds after old new left left c.ended_compiling-in-Big.result) (ap command_of (sym c.in-Big.is))
    (counted_leaves holds old new left c.in-Big.procedures c.in-Big.workers after c.compile_big.result c.ended_compiling-in-Big.result c.compile_big.ensures.holds c.ended_compiling-in-Big.ensures c.compile_big.ensures.leaves)

pub returns-in-Big-clause-prints : goal.returns-in-Big-clause-prints
returns-in-Big-clause-prints g c =
    let holds = g.H.Shelf.holds c.args.shelf.now in
    let after = g.H.Shelf.holds c.compile_big.new.shelf in
    let old = g.P.Sink.written c.args.print.now in
    let new = g.P.Sink.written c.compile_big.new.print in
    let left = g.K.Source.left c.args.keys.now in
    subst (PrintsDone holds after old new left left c.ended_compiling-in-Big.result) (ap command_of (sym c.in-Big.is))
    (counted_prints holds old new left c.in-Big.procedures c.in-Big.workers c.compile_big.result c.ended_compiling-in-Big.result c.ended_compiling-in-Big.ensures c.compile_big.ensures.prints)

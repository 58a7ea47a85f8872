use Rattle.std.proofs.Common.{ℕ, ◌⊎◌, subst}
use Rattle.m2_io.specs.Causes.{Rose}
use Rattle.module_outcome.specs.Verdicts.{decision_of}
use Rattle.module_outcome.proofs.Answering.{answers_come}
use Rattle.module_outcome.proofs.Leaving.{has_its_object, keeps_but_object, leaves, on_err, prints_nothing, prints_part}
use Rattle.compile_command.proofs.compiling.compile.Goals as goal

pub returns-in_err-verdict-clause-prints : goal.returns-in_err-verdict-clause-prints
returns-in_err-verdict-clause-prints g c = on_err c.from_residual.result (prints_nothing (g.H.Shelf.holds c.args.shelf.now) c.args.name.now (g.P.Sink.written c.args.print.now))

pub returns-clause-leaves : goal.returns-clause-leaves
returns-clause-leaves g c =
    leaves (g.H.Shelf.holds c.args.shelf.now) c.args.name.now (g.P.Sink.written c.args.print.now) (decision_of c.in_ok-verdict.verdict) c.in_ok-verdict.ensures.decides (g.P.Sink.written c.deliver.new.print)
    (g.H.Shelf.holds c.judge.new.shelf) (g.H.Shelf.holds c.deliver.new.shelf) c.judge.ensures.holds c.deliver.result c.deliver.ensures.delivers

pub returns-clause-answers : goal.returns-clause-answers
returns-clause-answers g c =
    answers_come (g.H.Shelf.holds c.args.shelf.now) (g.H.Shelf.holds c.judge.new.shelf) (g.H.Shelf.holds c.deliver.new.shelf) c.args.name.now (decision_of c.in_ok-verdict.verdict) (g.P.Sink.written c.args.print.now)
    (g.P.Sink.written c.deliver.new.print) (λ files. c.one_outcome.ensures files c.args.name.now) c.in_ok-verdict.ensures.decides c.deliver.result c.deliver.ensures.delivers

pub returns-clause-object : goal.returns-clause-object
returns-clause-object g c =
    has_its_object c.args.name.now (g.H.Shelf.holds c.judge.new.shelf) (g.H.Shelf.holds c.deliver.new.shelf) (decision_of c.in_ok-verdict.verdict) (g.P.Sink.written c.args.print.now) (g.P.Sink.written c.deliver.new.print)
    c.in_ok-verdict.ensures.named c.deliver.result c.deliver.ensures.sound c.deliver.ensures.delivers

pub returns-clause-part : goal.returns-clause-part
returns-clause-part g c stop =
    keeps_but_object (g.H.Shelf.holds c.args.shelf.now) (g.H.Shelf.holds c.judge.new.shelf) (g.H.Shelf.holds c.deliver.new.shelf) c.args.name.now (decision_of c.in_ok-verdict.verdict) c.judge.ensures.holds
    c.in_ok-verdict.ensures.decides (c.deliver.ensures.part stop)

pub returns-clause-prints : goal.returns-clause-prints
returns-clause-prints g c =
    prints_part (g.H.Shelf.holds c.args.shelf.now) c.args.name.now (g.P.Sink.written c.args.print.now) (decision_of c.in_ok-verdict.verdict) c.in_ok-verdict.ensures.decides (g.P.Sink.written c.deliver.new.print)
    (λ files. c.one_outcome.ensures files c.args.name.now) c.deliver.result c.deliver.ensures.prints

pub returns-clause-write : goal.returns-clause-write
returns-clause-write g c stop =
    subst (λ (n : ℕ). Rose n (g.H.Shelf.put_faults c.deliver.new.shelf) ⊎ Rose (g.P.Sink.faults c.args.print.now) (g.P.Sink.faults c.deliver.new.print)) c.judge.ensures.put_faults (c.deliver.ensures.write stop)

use Rattle.module_outcome.proofs.Leaving.{on_err}
use Rattle.module_outcome.proofs.Summing.{leaves_summary, prints_no_summary, prints_summary_part}
use Rattle.compile_command.proofs.big.compile_big.Goals as goal

pub returns-in_err-summary-clause-prints : goal.returns-in_err-summary-clause-prints
returns-in_err-summary-clause-prints g c = on_err c.from_residual.result (prints_no_summary (g.H.Shelf.holds c.args.shelf.now) c.args.procedures (g.P.Sink.written c.args.print.now))

pub returns-clause-leaves : goal.returns-clause-leaves
returns-clause-leaves g c =
    leaves_summary (g.H.Shelf.holds c.args.shelf.now) c.args.procedures (g.P.Sink.written c.args.print.now) c.in_ok-summary.summary c.in_ok-summary.ensures.tells (g.P.Sink.written c.print_summary.new.print) c.print_summary.result
    c.print_summary.ensures.answer c.print_summary.ensures.ok

pub returns-clause-prints : goal.returns-clause-prints
returns-clause-prints g c =
    prints_summary_part (g.H.Shelf.holds c.args.shelf.now) c.args.procedures (g.P.Sink.written c.args.print.now) c.in_ok-summary.summary c.in_ok-summary.ensures.tells (g.P.Sink.written c.print_summary.new.print)
    (λ files. c.one_summary.ensures files c.args.procedures) c.print_summary.result c.print_summary.ensures.part

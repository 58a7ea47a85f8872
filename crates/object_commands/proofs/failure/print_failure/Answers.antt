use Rattle.std.proofs.Common.{◌∙◌, Some, ap, sym}
use Rattle.object_text.proofs.Shown.{on_err}
use Rattle.object_commands.proofs.Saying.{says_nothing, says_part, says_so}
use Rattle.object_commands.proofs.failure.print_failure.Goals as goal

pub returns-in_err-line-clause-part : goal.returns-in_err-line-clause-part
returns-in_err-line-clause-part g c = on_err c.from_residual.result (says_nothing c.args.main.now c.args.fault.now (g.P.Sink.written c.args.print.now))

pub returns-in_err-write_all-clause-part : goal.returns-in_err-write_all-clause-part
returns-in_err-write_all-clause-part g c =
    on_err c.from_residual-in_err-write_all.result
    (says_part c.args.main.now c.args.fault.now c.deref.result.now (g.P.Sink.written c.args.print.now) (g.P.Sink.written c.write_all.new.sink) (c.in_ok-line.ensures.line ∙ ap Some (sym c.deref.ensures.value)) c.in_err-write_all.ensures.err)

pub returns-clause-says : goal.returns-clause-says
returns-clause-says g c =
    says_so c.args.main.now c.args.fault.now c.deref.result.now c.answer_to.result (g.P.Sink.written c.args.print.now) (g.P.Sink.written c.write_all.new.sink) (c.in_ok-line.ensures.line ∙ ap Some (sym c.deref.ensures.value))
    c.answer_to.ensures c.in_ok-write_all.ensures.ok

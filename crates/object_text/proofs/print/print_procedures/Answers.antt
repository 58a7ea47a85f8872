use Rattle.std.proofs.Common.{◌≡◌, ◌++◌, ◌+◌, List, ℕ, arith, drop, map}
use Rattle.object_file.specs.Views.{procedure_of}
use Rattle.object_text.specs.Text.{instr_lines, procedure_line}
use Rattle.object_text.proofs.Lines.{from_next, next_own, next_procedure}
use Rattle.object_text.proofs.Shown.{on_err, shown_more, shown_part}
use Rattle.object_text.proofs.print.print_procedures.Goals as goal

pub returns-in_err-print_procedure-clause-part : goal.returns-in_err-print_procedure-clause-part
returns-in_err-print_procedure-clause-part g c =
    let ps = c.args.procedures.now in
    let k = c.loop-k.k in
    let p = procedure_of c.index-procedures-k.result in
    on_err c.from_residual.result (λ text a.
    let r = c.loop-k.invariant.shown text a in
    let lines = next_own ps k c.index-procedures-k.result r.0 c.loop-k-test.true c.index-procedures-k.is r.1 in
    shown_part (g.P.Sink.written c.args.print.now) (g.P.Sink.written c.loop-k.print) (g.P.Sink.written c.print_procedure.new.print) text r.0 (procedure_line k p ++ instr_lines 0 lines.0) lines.1
    r.2 (next_procedure k p (map procedure_of (drop (k + 1) ps)) r.0 lines) (c.in_err-print_procedure.ensures.part lines.0 lines.2))

pub loop-k-preserved : goal.loop-k-preserved
loop-k-preserved g c =
    let ps = c.args.procedures.now in
    let k = c.loop-k.k in
    let p = procedure_of c.index-procedures-k.result in
    record {
      shown = λ text a.
          let r = c.loop-k.invariant.shown text a in
          let lines = next_own ps k c.index-procedures-k.result r.0 c.loop-k-test.true c.index-procedures-k.is r.1 in (
            lines.1,
            from_next ps k lines.1 lines.3,
            shown_more (g.P.Sink.written c.args.print.now) (g.P.Sink.written c.loop-k.print) (g.P.Sink.written c.print_procedure.new.print) text r.0 (procedure_line k p ++ instr_lines 0 lines.0) lines.1
                r.2 (next_procedure k p (map procedure_of (drop (k + 1) ps)) r.0 lines) (c.in_ok-print_procedure.ensures.ok lines.0 lines.2),
          );
      later = (let a = c.loop-k.invariant.later in let b = c.print_procedure.ensures.later in omega (arith, a, b));
    }

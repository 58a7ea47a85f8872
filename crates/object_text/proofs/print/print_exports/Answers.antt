use Rattle.std.proofs.Common.{◌≡◌, ◌∙◌, ◌++◌, ◌+◌, List, ℕ, ap, arith, drop, get_or, sym}
use Rattle.object_text.specs.Text.{export_line, export_lines}
use Rattle.object_text.proofs.Lines.{next_export}
use Rattle.object_text.proofs.Shown.{on_err, shown_more, shown_part, shown_so_far}
use Rattle.object_text.proofs.print.print_exports.Goals as goal

pub returns-in_err-export_line-clause-part : goal.returns-in_err-export_line-clause-part
returns-in_err-export_line-clause-part g c =
    on_err c.from_residual.result (shown_so_far (g.P.Sink.written c.args.print.now) (g.P.Sink.written c.loop-k.print) (export_lines 0 c.args.exports.now) (export_lines c.loop-k.k (drop c.loop-k.k c.args.exports.now)) c.loop-k.invariant.shown)

pub returns-in_err-write_all-clause-part : goal.returns-in_err-write_all-clause-part
returns-in_err-write_all-clause-part g c =
    let exports = c.args.exports.now in
    let k = c.loop-k.k in
    let after = export_lines (k + 1) (drop (k + 1) exports) in
    let piece : c.deref.result.now ≡ export_line k (get_or exports k (0, 0, 0)) = c.deref.ensures.value ∙ c.in_ok-export_line.ensures in
    on_err c.from_residual-in_err-write_all.result
    (shown_part (g.P.Sink.written c.args.print.now) (g.P.Sink.written c.loop-k.print) (g.P.Sink.written c.write_all.new.sink) (export_lines 0 exports) (export_lines k (drop k exports)) c.deref.result.now after
    c.loop-k.invariant.shown (next_export exports k (0, 0, 0) c.loop-k-test.true ∙ ap (λ (b : List ℕ). b ++ after) (sym piece)) c.in_err-write_all.ensures.err)

pub loop-k-preserved : goal.loop-k-preserved
loop-k-preserved g c =
    let exports = c.args.exports.now in
    let k = c.loop-k.k in
    let after = export_lines (k + 1) (drop (k + 1) exports) in
    let piece : c.deref.result.now ≡ export_line k (get_or exports k (0, 0, 0)) = c.deref.ensures.value ∙ c.in_ok-export_line.ensures in
    record {
      shown =
          shown_more (g.P.Sink.written c.args.print.now) (g.P.Sink.written c.loop-k.print) (g.P.Sink.written c.write_all.new.sink) (export_lines 0 exports) (export_lines k (drop k exports)) c.deref.result.now after
          c.loop-k.invariant.shown (next_export exports k (0, 0, 0) c.loop-k-test.true ∙ ap (λ (b : List ℕ). b ++ after) (sym piece)) c.in_ok-write_all.ensures.ok;
      later = (let a = c.loop-k.invariant.later in let b = c.write_all.ensures.later in omega (arith, a, b));
    }

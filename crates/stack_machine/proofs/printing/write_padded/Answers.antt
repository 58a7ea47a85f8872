use Rattle.std.proofs.Common.{◌≡◌, List, ℕ, w64, to_z, of_z, subst}
use Rattle.std.specs.Prelude.{replicate, OnErr, OnOk}
use Rattle.std.proofs.lemmas.Result.{on_err_weaker, on_ok_weaker}
use Rattle.m2_io.specs.Written.{WritesPart, with_bytes}
use Rattle.stack_machine.specs.InOut.{number_digits}
use Rattle.stack_machine.proofs.Written.{all_back, narrow, on_err, part_back, part_front, wide}
use Rattle.stack_machine.proofs.printing.write_padded.Goals as goal

pub returns-then-n-le0-clause-ok : goal.returns-then-n-le0-clause-ok
returns-then-n-le0-clause-ok g c =
    subst (λ (b : List ℕ). OnOk c.write_signed.result (g.P.Sink.written c.write_signed.new.print ≡ with_bytes (g.P.Sink.written c.args.print.now) b)) (narrow c.args.n c.args.v c.ranges.n c.ranges.v c.if-n-le0.true) c.write_signed.ensures.ok

pub returns-then-n-le0-clause-err : goal.returns-then-n-le0-clause-err
returns-then-n-le0-clause-err g c =
    subst (λ (b : List ℕ). OnErr c.write_signed.result (WritesPart (g.P.Sink.written c.args.print.now) b (g.P.Sink.written c.write_signed.new.print))) (narrow c.args.n c.args.v c.ranges.n c.ranges.v c.if-n-le0.true) c.write_signed.ensures.err

pub returns-in_err-write_blanks-clause-err : goal.returns-in_err-write_blanks-clause-err
returns-in_err-write_blanks-clause-err g c =
    on_err c.from_residual.result
    (subst (λ (b : List ℕ). WritesPart (g.P.Sink.written c.args.print.now) b (g.P.Sink.written c.write_blanks.new.print)) (wide c.args.n c.args.v c.saturating_sub.result c.width.result c.unsigned_abs.result c.ranges.n c.ranges.v c.if-n-le0.false c.saturating_sub.ensures c.unsigned_abs.ensures.value c.width.ensures.value)
    (part_front (g.P.Sink.written c.args.print.now) (g.P.Sink.written c.write_blanks.new.print) (replicate c.saturating_sub.result 32) (number_digits (to_z w64 (of_z w64 c.args.v))) c.in_err-write_blanks.ensures.err))

pub returns-clause-ok : goal.returns-clause-ok
returns-clause-ok g c =
    on_ok_weaker c.write_signed-2.result (λ h. subst (λ (b : List ℕ). g.P.Sink.written c.write_signed-2.new.print ≡ with_bytes (g.P.Sink.written c.args.print.now) b) (wide c.args.n c.args.v c.saturating_sub.result c.width.result c.unsigned_abs.result c.ranges.n c.ranges.v c.if-n-le0.false c.saturating_sub.ensures c.unsigned_abs.ensures.value c.width.ensures.value)
    (all_back (g.P.Sink.written c.args.print.now) (g.P.Sink.written c.write_blanks.new.print) (g.P.Sink.written c.write_signed-2.new.print) (replicate c.saturating_sub.result 32) (number_digits (to_z w64 (of_z w64 c.args.v))) c.in_ok-write_blanks.ensures.ok h)) c.write_signed-2.ensures.ok

pub returns-clause-err : goal.returns-clause-err
returns-clause-err g c =
    on_err_weaker c.write_signed-2.result (λ h. subst (λ (b : List ℕ). WritesPart (g.P.Sink.written c.args.print.now) b (g.P.Sink.written c.write_signed-2.new.print)) (wide c.args.n c.args.v c.saturating_sub.result c.width.result c.unsigned_abs.result c.ranges.n c.ranges.v c.if-n-le0.false c.saturating_sub.ensures c.unsigned_abs.ensures.value c.width.ensures.value)
    (part_back (g.P.Sink.written c.args.print.now) (g.P.Sink.written c.write_blanks.new.print) (g.P.Sink.written c.write_signed-2.new.print) (replicate c.saturating_sub.result 32) (number_digits (to_z w64 (of_z w64 c.args.v))) c.in_ok-write_blanks.ensures.ok h)) c.write_signed-2.ensures.err

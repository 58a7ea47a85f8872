use Rattle.std.proofs.Common.{◌≡◌, ◌∷◌, [], List, ℕ, refl, subst}
use Rattle.std.specs.Prelude.{decimal, OnErr, OnOk}
use Rattle.std.proofs.lemmas.Result.{on_err_weaker, on_ok_weaker}
use Rattle.m2_io.specs.Written.{WritesPart, with_bytes}
use Rattle.stack_machine.proofs.Written.{all_back, negative_digits, on_err, part_back, positive_digits, sign_back}
use Rattle.stack_machine.proofs.printing.write_signed.Goals as goal

pub returns-then-v-ge0-clause-ok : goal.returns-then-v-ge0-clause-ok
returns-then-v-ge0-clause-ok g c =
    subst (λ (b : List ℕ). OnOk c.write_digits.result (g.P.Sink.written c.write_digits.new.print ≡ with_bytes (g.P.Sink.written c.args.print.now) b))
    (positive_digits c.args.v c.unsigned_abs.result c.ranges.v c.if-v-ge0.true c.unsigned_abs.ensures.value) c.write_digits.ensures.ok

pub returns-then-v-ge0-clause-err : goal.returns-then-v-ge0-clause-err
returns-then-v-ge0-clause-err g c =
    subst (λ (b : List ℕ). OnErr c.write_digits.result (WritesPart (g.P.Sink.written c.args.print.now) b (g.P.Sink.written c.write_digits.new.print)))
    (positive_digits c.args.v c.unsigned_abs.result c.ranges.v c.if-v-ge0.true c.unsigned_abs.ensures.value) c.write_digits.ensures.err

pub returns-in_err-write_byte-clause-err : goal.returns-in_err-write_byte-clause-err
returns-in_err-write_byte-clause-err g c =
    on_err c.from_residual.result
    (subst (λ (b : List ℕ). WritesPart (g.P.Sink.written c.args.print.now) b (g.P.Sink.written c.write_byte.new.print))
    (negative_digits c.args.v _ c.ranges.v c.if-v-ge0.false refl)
    (sign_back (g.P.Sink.written c.args.print.now) (g.P.Sink.written c.write_byte.new.print) _ c.in_err-write_byte.ensures.err))

pub returns-clause-ok : goal.returns-clause-ok
returns-clause-ok g c =
    let text = negative_digits c.args.v c.unsigned_abs-2.result c.ranges.v c.if-v-ge0.false c.unsigned_abs-2.ensures.value in
    on_ok_weaker c.write_digits-2.result (λ h. subst (λ (b : List ℕ). g.P.Sink.written c.write_digits-2.new.print ≡ with_bytes (g.P.Sink.written c.args.print.now) b) text
    (all_back (g.P.Sink.written c.args.print.now) (g.P.Sink.written c.write_byte.new.print) (g.P.Sink.written c.write_digits-2.new.print) (45 ∷ []) (decimal c.unsigned_abs-2.result) c.in_ok-write_byte.ensures.ok h)) c.write_digits-2.ensures.ok

pub returns-clause-err : goal.returns-clause-err
returns-clause-err g c =
    let text = negative_digits c.args.v c.unsigned_abs-2.result c.ranges.v c.if-v-ge0.false c.unsigned_abs-2.ensures.value in
    on_err_weaker c.write_digits-2.result (λ h. subst (λ (b : List ℕ). WritesPart (g.P.Sink.written c.args.print.now) b (g.P.Sink.written c.write_digits-2.new.print)) text
    (part_back (g.P.Sink.written c.args.print.now) (g.P.Sink.written c.write_byte.new.print) (g.P.Sink.written c.write_digits-2.new.print) (45 ∷ []) (decimal c.unsigned_abs-2.result) c.in_ok-write_byte.ensures.ok h)) c.write_digits-2.ensures.err

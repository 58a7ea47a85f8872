use Rattle.std.proofs.Common.{◌≡◌, arith, rules, sym, Some, None, Option, ℕ, subst}
use Rattle.std.specs.Prelude.{IfSome}
use Rattle.stack_machine.specs.Readings.{IsOver, digit_at}
use Rattle.stack_machine.proofs.Taking.{Digiting, on_err, digits_start, digits_fail, digits_go, digits_end}
use Rattle.stack_machine.proofs.reading.take_digits.Goals as goal

pub loop-byte-preserved : goal.loop-byte-preserved
loop-byte-preserved g c = record {
  told =
      let is : digit_at c.loop-byte.ahead.byte ≡ Some c.in-Some.byte = search rules in
      subst (λ (o : Option ℕ). IfSome (g.K.Source.left c.args.keys.now) (λ x. IsOver c.args.ahead.now x → Digiting o c.args.ahead.now x c.advance.new.ahead (g.K.Source.left c.advance.new.keys))) (sym c.with_digit-number.ensures.value)
      (digits_go c.loop-byte.number c.args.ahead.now c.loop-byte.ahead c.advance.new.ahead c.in-Some.byte (g.K.Source.left c.args.keys.now) (g.K.Source.left c.loop-byte.keys) (g.K.Source.left c.advance.new.keys) is c.loop-byte.invariant.told c.in_ok-advance.ensures.moves);
  most = c.with_digit-number.ensures.most;
  later = let a = c.loop-byte.invariant.later in let b = c.advance.ensures.later in omega (arith, a, b);
}

pub returns-clause-digits : goal.returns-clause-digits
returns-clause-digits g c =
    let is : digit_at c.loop-byte.ahead.byte ≡ None = search rules in
    digits_end c.loop-byte.number c.args.ahead.now c.loop-byte.ahead (g.K.Source.left c.args.keys.now) (g.K.Source.left c.loop-byte.keys) is c.loop-byte.invariant.told

pub loop-byte-init : goal.loop-byte-init
loop-byte-init g c = record { told = digits_start c.args.ahead.now (g.K.Source.left c.args.keys.now); most = tt; later = omega arith }

pub returns-in_err-advance-clause-err : goal.returns-in_err-advance-clause-err
returns-in_err-advance-clause-err g c =
    on_err c.from_residual.result _ (digits_fail c.loop-byte.number c.args.ahead.now c.loop-byte.ahead (g.K.Source.left c.args.keys.now) (g.K.Source.left c.loop-byte.keys) (g.K.Source.left c.advance.new.keys) c.loop-byte.invariant.told c.in_err-advance.ensures.err)

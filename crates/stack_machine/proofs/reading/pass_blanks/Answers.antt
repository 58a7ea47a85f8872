use Rattle.std.proofs.Common.{◌≡◌, arith, rules, true, false}
use Rattle.stack_machine.specs.InOut.{is_blank}
use Rattle.stack_machine.specs.Readings.{next_is}
use Rattle.stack_machine.proofs.Taking.{on_err, passing_starts, passing_fails, passing_goes, passing_ends}
use Rattle.stack_machine.proofs.reading.pass_blanks.Goals as goal

pub loop-ahead-preserved : goal.loop-ahead-preserved
loop-ahead-preserved g c = record {
  told =
      let is : next_is is_blank c.loop-ahead.ahead.byte ≡ true = search rules in
      passing_goes is_blank c.args.ahead.now c.loop-ahead.ahead c.advance.new.ahead (g.K.Source.left c.args.keys.now) (g.K.Source.left c.loop-ahead.keys) (g.K.Source.left c.advance.new.keys) is c.loop-ahead.invariant.told c.in_ok-advance.ensures.moves;
  later = let a = c.loop-ahead.invariant.later in let b = c.advance.ensures.later in omega (arith, a, b);
}

pub returns-clause-passed : goal.returns-clause-passed
returns-clause-passed g c =
    let is : next_is is_blank c.loop-ahead.ahead.byte ≡ false = search rules in
    passing_ends is_blank c.args.ahead.now c.loop-ahead.ahead (g.K.Source.left c.args.keys.now) (g.K.Source.left c.loop-ahead.keys) is c.loop-ahead.invariant.told

pub loop-ahead-init : goal.loop-ahead-init
loop-ahead-init g c = record { told = passing_starts is_blank c.args.ahead.now (g.K.Source.left c.args.keys.now); later = omega arith }

pub returns-in_err-advance-clause-err : goal.returns-in_err-advance-clause-err
returns-in_err-advance-clause-err g c =
    on_err c.from_residual.result _ (passing_fails is_blank c.args.ahead.now c.loop-ahead.ahead (g.K.Source.left c.args.keys.now) (g.K.Source.left c.loop-ahead.keys) (g.K.Source.left c.advance.new.keys) c.loop-ahead.invariant.told c.in_err-advance.ensures.err)

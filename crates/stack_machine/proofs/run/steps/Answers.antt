use Rattle.std.proofs.Common.{◌≡◌, ◌≤◌, ◌+◌, ℕ, List, arith, rules, subst, sym, ap, ◌∙◌, true, false}
use Rattle.std.specs.Prelude.{IfSome}
use Rattle.stack_machine.specs.declared.next.Next.{Next as CodeNext}
use Rattle.stack_machine.specs.declared.next.Next.TheVariants as code_next
use Rattle.stack_machine.specs.State.{state_of, program_of}
use Rattle.stack_machine.specs.Stepping.{Stepped, is_going}
use Rattle.stack_machine.proofs.Readiness.{origin_within}
use Rattle.stack_machine.proofs.Running.{run_starts, run_goes, run_spent, run_stops, ended_ends, failed_ends, write_failed, read_failed, read_handed, no_failure, goes_is}
use Rattle.stack_machine.proofs.Starting.{failed_placed, ended_placed}
use Rattle.stack_machine.proofs.run.steps.Goals as goal

pub loop-init : goal.loop-init
loop-init g c = record {
  ready = c.requires.ready;
  told = run_starts (program_of c.args.code.now) (state_of c.args.core.now) (g.P.Sink.written c.args.print.now) (g.K.Source.left c.args.keys.now);
  prints = omega arith;
  reads = omega arith;
}

pub loop-preserved : goal.loop-preserved
loop-preserved g c =
    let going : is_going c.in-Ok.next ≡ true = search rules in
    let is = goes_is c.in-Ok.next going in
    let p = program_of c.args.code.now in
    let a = c.loop.invariant.prints in
    let b = c.one_step.ensures.prints_later in
    let d = c.loop.invariant.reads in
    let e = c.one_step.ensures.reads_later in
    record {
      ready = c.one_step.ensures.ready;
      told = run_goes p c.loop.counter (state_of c.args.core.now) (state_of c.loop.core) (state_of c.one_step.new.core) (g.P.Sink.written c.args.print.now) (g.P.Sink.written c.loop.print) (g.P.Sink.written c.one_step.new.print) (g.K.Source.left c.args.keys.now) (g.K.Source.left c.loop.keys) (g.K.Source.left c.one_step.new.keys) c.loop.invariant.told
          (subst (λ (n : CodeNext). IfSome (g.K.Source.left c.loop.keys) (λ l. Stepped p (state_of c.loop.core) n (state_of c.one_step.new.core) l (g.P.Sink.written c.loop.print) (g.P.Sink.written c.one_step.new.print) (g.K.Source.left c.one_step.new.keys))) is c.in-Ok.ensures.told);
      prints = omega (arith, a, b);
      reads = omega (arith, d, e);
    }

pub returns-in-Err-clause-ends : goal.returns-in-Err-clause-ends
returns-in-Err-clause-ends g c =
    let p = program_of c.args.code.now in
    failed_ends c.in-Err.failure c.failed.result p c.args.most (state_of c.args.core.now) (state_of c.one_step.new.core) (g.P.Sink.written c.args.print.now) (g.P.Sink.written c.one_step.new.print) (g.K.Source.left c.args.keys.now) (g.K.Source.left c.one_step.new.keys) c.failed.ensures
    (run_stops p c.loop.counter c.args.most (state_of c.args.core.now) (state_of c.loop.core) (state_of c.one_step.new.core) (g.P.Sink.written c.args.print.now) (g.P.Sink.written c.loop.print) (g.P.Sink.written c.one_step.new.print) (g.K.Source.left c.args.keys.now) (g.K.Source.left c.loop.keys) (g.K.Source.left c.one_step.new.keys) c.loop-test.true c.in-Err.ensures.same c.loop.invariant.told c.in-Err.ensures.broken)

pub returns-in-Err-clause-write_failed : goal.returns-in-Err-clause-write_failed
returns-in-Err-clause-write_failed g c =
    write_failed c.in-Err.failure c.failed.result (g.P.Sink.faults c.args.print.now) (g.P.Sink.faults c.loop.print) (g.P.Sink.faults c.one_step.new.print) (g.K.Source.faults c.loop.keys) (g.K.Source.faults c.one_step.new.keys) c.failed.ensures c.loop.invariant.prints c.in-Err.ensures.failed

pub returns-in-Err-clause-read_failed : goal.returns-in-Err-clause-read_failed
returns-in-Err-clause-read_failed g c =
    read_failed c.in-Err.failure c.failed.result (g.P.Sink.faults c.loop.print) (g.P.Sink.faults c.one_step.new.print) (g.K.Source.faults c.args.keys.now) (g.K.Source.faults c.loop.keys) (g.K.Source.faults c.one_step.new.keys) c.failed.ensures c.loop.invariant.reads c.in-Err.ensures.failed

pub returns-in-Err-clause-handed : goal.returns-in-Err-clause-handed
returns-in-Err-clause-handed g c = read_handed c.in-Err.failure c.failed.result (g.P.Sink.kept c.one_step.new.print) c.failed.ensures c.in-Err.ensures.handed

pub ended-requires-clause-at : goal.ended-requires-clause-at
ended-requires-clause-at g c = origin_within c.args.code.now c.one_step.new.core c.one_step.ensures.ready

pub returns-then-not-goes_on-clause-ends : goal.returns-then-not-goes_on-clause-ends
returns-then-not-goes_on-clause-ends g c =
    let not_going : is_going c.in-Ok.next ≡ false = search rules in
    ended_ends c.ended.result (program_of c.args.code.now) c.loop.counter c.args.most (state_of c.args.core.now) (state_of c.loop.core) (state_of c.one_step.new.core) (g.P.Sink.written c.args.print.now) (g.P.Sink.written c.loop.print) (g.P.Sink.written c.one_step.new.print) (g.K.Source.left c.args.keys.now) (g.K.Source.left c.loop.keys) (g.K.Source.left c.one_step.new.keys)
    c.in-Ok.next c.loop-test.true not_going c.ended.ensures c.loop.invariant.told c.in-Ok.ensures.told

pub returns-then-not-goes_on-clause-write_failed : goal.returns-then-not-goes_on-clause-write_failed
returns-then-not-goes_on-clause-write_failed g c =
    let not_going : is_going c.in-Ok.next ≡ false = search rules in
    λ e. absurd ((no_failure c.ended.result (program_of c.args.code.now) c.one_step.new.core.at c.in-Ok.next not_going c.ended.ensures).0 e)

pub returns-then-not-goes_on-clause-read_failed : goal.returns-then-not-goes_on-clause-read_failed
returns-then-not-goes_on-clause-read_failed g c =
    let not_going : is_going c.in-Ok.next ≡ false = search rules in
    λ e. absurd ((no_failure c.ended.result (program_of c.args.code.now) c.one_step.new.core.at c.in-Ok.next not_going c.ended.ensures).1 e)

pub returns-then-not-goes_on-clause-handed : goal.returns-then-not-goes_on-clause-handed
returns-then-not-goes_on-clause-handed g c =
    let not_going : is_going c.in-Ok.next ≡ false = search rules in
    λ e. absurd ((no_failure c.ended.result (program_of c.args.code.now) c.one_step.new.core.at c.in-Ok.next not_going c.ended.ensures).1 e)

pub returns-clause-ends : goal.returns-clause-ends
returns-clause-ends g c =
    let over = c.loop-test.false in
    let within = c.loop.auto.counter-end in
    run_spent (program_of c.args.code.now) c.loop.counter c.args.most (state_of c.args.core.now) (state_of c.loop.core) (g.P.Sink.written c.args.print.now) (g.P.Sink.written c.loop.print) (g.K.Source.left c.args.keys.now) (g.K.Source.left c.loop.keys) (omega (arith, over, within)) c.loop.invariant.told

pub returns-in-Err-clause-prints_later : goal.returns-in-Err-clause-prints_later
returns-in-Err-clause-prints_later g c = let a = c.loop.invariant.prints in let b = c.one_step.ensures.prints_later in omega (arith, a, b)

pub returns-in-Err-clause-reads_later : goal.returns-in-Err-clause-reads_later
returns-in-Err-clause-reads_later g c = let a = c.loop.invariant.reads in let b = c.one_step.ensures.reads_later in omega (arith, a, b)

pub returns-then-not-goes_on-clause-prints_later : goal.returns-then-not-goes_on-clause-prints_later
returns-then-not-goes_on-clause-prints_later g c = let a = c.loop.invariant.prints in let b = c.one_step.ensures.prints_later in omega (arith, a, b)

pub returns-then-not-goes_on-clause-reads_later : goal.returns-then-not-goes_on-clause-reads_later
returns-then-not-goes_on-clause-reads_later g c = let a = c.loop.invariant.reads in let b = c.one_step.ensures.reads_later in omega (arith, a, b)

pub returns-in-Err-clause-placed : goal.returns-in-Err-clause-placed
returns-in-Err-clause-placed g c = failed_placed c.in-Err.failure c.failed.result (program_of c.args.code.now) c.failed.ensures

pub returns-then-not-goes_on-clause-placed : goal.returns-then-not-goes_on-clause-placed
returns-then-not-goes_on-clause-placed g c =
    let not_going : is_going c.in-Ok.next ≡ false = search rules in
    ended_placed c.ended.result (program_of c.args.code.now) c.one_step.new.core.at c.in-Ok.next not_going c.ended.ensures

use Rattle.std.proofs.Common.{◌≡◌, ℕ, Option, sym, subst}
use Rattle.std.specs.Prelude.{IfSome}
use Rattle.stack_machine.specs.Machines.{EndsFrom, now_of}
use Rattle.stack_machine.specs.State.{state_of, program_of}
use Rattle.stack_machine.proofs.Starting.{run_ends, full_ends, trapped_placed, trap_fails_not}
use Rattle.stack_machine.specs.declared.trap.Trap.TheVariants as traps
use Rattle.stack_machine.proofs.machine.go_on.Goals as goal

pub returns-in-None-clause-ends : goal.returns-in-None-clause-ends
returns-in-None-clause-ends g c =
    subst (λ (full : Option ℕ). IfSome (g.K.Source.left c.args.keys.now) (λ input. EndsFrom c.steps.result (program_of c.args.code.now) c.args.most (now_of full c.args.core.now) (now_of full c.steps.new.core) input (g.P.Sink.written c.args.print.now) (g.P.Sink.written c.steps.new.print) (g.K.Source.left c.steps.new.keys))) (sym c.in-None.is)
    (run_ends c.steps.result (program_of c.args.code.now) c.args.most (state_of c.args.core.now) (state_of c.steps.new.core) (g.P.Sink.written c.args.print.now) (g.P.Sink.written c.steps.new.print) (g.K.Source.left c.args.keys.now) (g.K.Source.left c.steps.new.keys) c.steps.ensures.ends)

pub returns-in-Some-clause-ends : goal.returns-in-Some-clause-ends
returns-in-Some-clause-ends g c =
    subst (λ (full : Option ℕ). IfSome (g.K.Source.left c.args.keys.now) (λ input. EndsFrom c.trapped.result (program_of c.args.code.now) c.args.most (now_of full c.args.core.now) (now_of full c.args.core.now) input (g.P.Sink.written c.args.print.now) (g.P.Sink.written c.args.print.now) (g.K.Source.left c.args.keys.now))) (sym c.in-Some.is)
    (full_ends c.trapped.result (program_of c.args.code.now) c.args.most c.in-Some.at (g.P.Sink.written c.args.print.now) (g.K.Source.left c.args.keys.now) c.trapped.ensures)

pub returns-in-Some-clause-placed : goal.returns-in-Some-clause-placed
returns-in-Some-clause-placed g c = trapped_placed c.trapped.result (program_of c.args.code.now) traps.Memory c.in-Some.at c.trapped.ensures

pub returns-in-Some-clause-write_failed : goal.returns-in-Some-clause-write_failed
returns-in-Some-clause-write_failed g c = λ e. absurd ((trap_fails_not c.trapped.result (program_of c.args.code.now) traps.Memory c.in-Some.at c.trapped.ensures).0 e)

pub returns-in-Some-clause-read_failed : goal.returns-in-Some-clause-read_failed
returns-in-Some-clause-read_failed g c = λ e. absurd ((trap_fails_not c.trapped.result (program_of c.args.code.now) traps.Memory c.in-Some.at c.trapped.ensures).1 e)

pub returns-in-Some-clause-handed : goal.returns-in-Some-clause-handed
returns-in-Some-clause-handed g c = λ e. absurd ((trap_fails_not c.trapped.result (program_of c.args.code.now) traps.Memory c.in-Some.at c.trapped.ensures).1 e)

use Rattle.std.proofs.Common.{length, subst}
use Rattle.std.specs.Prelude.{IfSome}
use Rattle.stack_machine.specs.Machines.{Machinery, EndsFrom, TrapsWithin, now_of}
use Rattle.stack_machine.specs.State.{program_of}
use Rattle.stack_machine.proofs.Starting.{traps_within}
use Rattle.stack_machine.proofs.machine.Machine.run.Goals as goal

pub returns-clause-ends : goal.returns-clause-ends
returns-clause-ends g c =
    subst (λ (m : Machinery). IfSome (g.K.Source.left c.args.keys.now) (λ input. EndsFrom c.go_on.result m.code c.args.most m.now (now_of c.self.inside.full c.go_on.new.core) input (g.P.Sink.written c.args.print.now) (g.P.Sink.written c.go_on.new.print) (g.K.Source.left c.go_on.new.keys))) c.self.view_is c.go_on.ensures.ends

pub returns-clause-trap_within : goal.returns-clause-trap_within
returns-clause-trap_within g c =
    subst (λ (m : Machinery). TrapsWithin c.go_on.result (length m.objects)) c.self.view_is
    (traps_within c.self.inside.program (program_of c.self.inside.code) c.go_on.result c.self.invariant.0 c.go_on.ensures.placed)

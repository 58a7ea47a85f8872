use Rattle.std.proofs.Common.{◌+◌, rules, sym, Option, subst, ℕ, pos}
use Rattle.stack_machine.specs.State.{state_of}
use Rattle.stack_machine.specs.Step.{does, gives, local_at}
use Rattle.stack_machine.specs.Able.{Comes}
use Rattle.stack_machine.proofs.flow.local.Goals as goal

pub returns-clause-comes : goal.returns-clause-comes
unfolding does
returns-clause-comes c =
    let s = state_of c.args.core.now in
    let given : Comes c.give.result (gives s 0 (pos (c.base_from-base.result + c.args.o))) s (state_of c.give.new.core) = search rules in
    subst (λ (o : Option ℕ). Comes c.give.result (local_at s o c.args.o) s (state_of c.give.new.core)) (sym c.base_from-base.ensures) given

use Rattle.std.proofs.Common.{◌≡◌, sym, refl, rules, Some}
use Rattle.stack_machine.specs.InOut.{params_of}
use Rattle.stack_machine.specs.Operands.{top_of}
use Rattle.stack_machine.specs.Step.{callee_of}
use Rattle.stack_machine.specs.Runs.{service_in}
use Rattle.stack_machine.specs.State.{state_of, program_of}
use Rattle.stack_machine.proofs.Serving.{not_asked, serves_service, serves_variable}
use Rattle.stack_machine.proofs.run.asked_for.Goals as goal

pub returns-in_default-clause-service : goal.returns-in_default-clause-service
returns-in_default-clause-service c = sym (not_asked (program_of c.args.code.now) c.args.op.now (state_of c.args.core.now) c.in_default.not-CallService c.in_default.not-CallVar)

pub returns-in-CallService-clause-serves : goal.returns-in-CallService-clause-serves
returns-in-CallService-clause-serves c = serves_service (program_of c.args.code.now) c.args.op.now (state_of c.args.core.now) c.in-CallService.service c.params.result c.in-CallService.is c.params.ensures

pub returns-in-Some-clause-serves : goal.returns-in-Some-clause-serves
returns-in-Some-clause-serves c =
    let is : Some c.in-Some.service ≡ service_in (callee_of (program_of c.args.code.now) (top_of c.in-CallVar.n (state_of c.args.core.now).operands) c.in-CallVar.n c.in-CallVar.r) = search rules in
    serves_variable (program_of c.args.code.now) c.args.op.now (state_of c.args.core.now) c.in-Some.service c.in-CallVar.n c.in-CallVar.r c.in-CallVar.is is

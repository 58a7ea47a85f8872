use Rattle.std.proofs.Common.{◌∙◌, ℕ, Option, Some, ap, subst, sym, arith}
use Rattle.stack_machine.specs.declared.code.Routine.{Routine}
use Rattle.stack_machine.specs.Able.{Comes}
use Rattle.stack_machine.specs.Ready.{IsSmall}
use Rattle.stack_machine.specs.State.{state_of, program_of}
use Rattle.stack_machine.specs.Step.{Next, entered, next_body}
use Rattle.stack_machine.proofs.Callees.{body_is, found}
use Rattle.stack_machine.proofs.Links.{within}
use Rattle.stack_machine.proofs.flow.next_body.Goals as goal

pub index-requires : goal.index-requires
index-requires c =
    let code = c.args.code.now in
    let body = body_is (program_of code) c.args.core.now.at c.in-Some.k c.requires.bodies (sym c.body_after.ensures ∙ c.in-Some.is) in
    let lt = within code.routines.items c.in-Some.k body.0 body.1 in
    let len = code.routines.ok.0 in
    omega (arith, lt, len)

pub enter-requires-clause-small : goal.enter-requires-clause-small
enter-requires-clause-small c =
    let code = c.args.code.now in
    let body = body_is (program_of code) c.args.core.now.at c.in-Some.k c.requires.bodies (sym c.body_after.ensures ∙ c.in-Some.is) in
    subst IsSmall (found code.routines.items c.in-Some.k body.0 c.index.result.now body.1 c.index.ensures) body.2

pub returns-in-Some-clause-comes : goal.returns-in-Some-clause-comes
returns-in-Some-clause-comes c =
    let code = c.args.code.now in
    let s = state_of c.args.core.now in
    let is = sym c.body_after.ensures ∙ c.in-Some.is in
    let body = body_is (program_of code) c.args.core.now.at c.in-Some.k c.requires.bodies is in
    let same = found code.routines.items c.in-Some.k body.0 c.index.result.now body.1 c.index.ensures in
    subst (λ (next : Next). Comes c.enter.result next s (state_of c.enter.new.core))
    (sym (ap (λ (o : Option ℕ). next_body (program_of code) o s) is ∙ ap (λ (o : Option Routine). entered o s) (body.1 ∙ ap Some same)))
    c.enter.ensures.comes

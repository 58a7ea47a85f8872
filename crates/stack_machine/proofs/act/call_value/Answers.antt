use Rattle.std.proofs.Common.{◌≡◌, ◌∙◌, ◌+◌, ◌≤◌, arith, refl, sym, ap, Some, subst}
use Rattle.std.specs.Prelude.{slice_get, Option}
use Rattle.stack_machine.specs.declared.code.Callee.{Callee}
use Rattle.stack_machine.specs.declared.code.Callee.TheVariants as callees
use Rattle.stack_machine.specs.declared.code.Routine.{Routine}
use Rattle.stack_machine.specs.State.{state_of, program_of}
use Rattle.stack_machine.specs.Operands.{top_of}
use Rattle.stack_machine.specs.Ready.{IsSmall}
use Rattle.stack_machine.specs.Step.{callee_of, called_var, reached, does, Next}
use Rattle.stack_machine.specs.Able.{Comes}
use Rattle.stack_machine.proofs.Callees.{callee_routine, callee_told, found}
use Rattle.stack_machine.proofs.Links.{within}
use Rattle.stack_machine.proofs.act.call_value.Goals as goal

pub call-requires-clause-params : goal.call-requires-clause-params
call-requires-clause-params c =
    let e0 : callee_of (program_of c.args.code.now) (top_of c.args.n (state_of c.args.core.now).operands) c.args.n c.args.r ≡ Some (callees.Routine c.in-Some-Routine.k) =
    callee_told (program_of c.args.code.now) c.operand.result (top_of c.args.n (state_of c.args.core.now).operands) c.args.n c.args.r c.callee.result (record { sfits = c.operand.type_inv }) c.operand.ensures c.callee.ensures ∙ c.in-Some-Routine.is ∙ ap Some c.in-Some-Routine.field-0-is in
    let is = callee_routine (program_of c.args.code.now) (top_of c.args.n (state_of c.args.core.now).operands) c.args.n c.args.r c.in-Some-Routine.k e0 in
    let same = found c.args.code.now.routines.items c.in-Some-Routine.k is.routine c.index.result.now is.is c.index.ensures in
    let params = is.params in
    subst (λ (p : Routine). p.params ≤ c.args.n + 1) same (omega (arith, params))

pub call-requires-clause-small : goal.call-requires-clause-small
call-requires-clause-small c =
    let e0 : callee_of (program_of c.args.code.now) (top_of c.args.n (state_of c.args.core.now).operands) c.args.n c.args.r ≡ Some (callees.Routine c.in-Some-Routine.k) =
    callee_told (program_of c.args.code.now) c.operand.result (top_of c.args.n (state_of c.args.core.now).operands) c.args.n c.args.r c.callee.result (record { sfits = c.operand.type_inv }) c.operand.ensures c.callee.ensures ∙ c.in-Some-Routine.is ∙ ap Some c.in-Some-Routine.field-0-is in
    let is = callee_routine (program_of c.args.code.now) (top_of c.args.n (state_of c.args.core.now).operands) c.args.n c.args.r c.in-Some-Routine.k e0 in
    let same = found c.args.code.now.routines.items c.in-Some-Routine.k is.routine c.index.result.now is.is c.index.ensures in
    subst IsSmall same (c.requires.small c.in-Some-Routine.k is.routine is.is)

pub returns-in-Some-Routine-clause-comes : goal.returns-in-Some-Routine-clause-comes
unfolding does
returns-in-Some-Routine-clause-comes c = λ got.
    let p = program_of c.args.code.now in
    let s = state_of c.args.core.now in
    let e0 : callee_of (program_of c.args.code.now) (top_of c.args.n (state_of c.args.core.now).operands) c.args.n c.args.r ≡ Some (callees.Routine c.in-Some-Routine.k) =
    callee_told (program_of c.args.code.now) c.operand.result (top_of c.args.n (state_of c.args.core.now).operands) c.args.n c.args.r c.callee.result (record { sfits = c.operand.type_inv }) c.operand.ensures c.callee.ensures ∙ c.in-Some-Routine.is ∙ ap Some c.in-Some-Routine.field-0-is in
    let is = callee_routine p (top_of c.args.n (state_of c.args.core.now).operands) c.args.n c.args.r c.in-Some-Routine.k e0 in
    let same = found c.args.code.now.routines.items c.in-Some-Routine.k is.routine c.index.result.now is.is c.index.ensures in
    let e1 : slice_get p.routines c.in-Some-Routine.k ≡ Some c.index.result.now = is.is ∙ ap Some same in
    let e3 = ap (λ (o : Option Callee). reached p o c.args.n got s) e0 ∙ ap (λ (o : Option Routine). called_var o (c.args.n + 1) s) e1 in
    subst (λ (next : Next). Comes c.call.result next s (state_of c.call.new.core)) (sym e3) c.call.ensures.comes

pub index-requires : goal.index-requires
index-requires c =
    let e0 : callee_of (program_of c.args.code.now) (top_of c.args.n (state_of c.args.core.now).operands) c.args.n c.args.r ≡ Some (callees.Routine c.in-Some-Routine.k) =
    callee_told (program_of c.args.code.now) c.operand.result (top_of c.args.n (state_of c.args.core.now).operands) c.args.n c.args.r c.callee.result (record { sfits = c.operand.type_inv }) c.operand.ensures c.callee.ensures ∙ c.in-Some-Routine.is ∙ ap Some c.in-Some-Routine.field-0-is in
    let is = callee_routine (program_of c.args.code.now) (top_of c.args.n (state_of c.args.core.now).operands) c.args.n c.args.r c.in-Some-Routine.k e0 in
    let lt = within c.args.code.now.routines.items c.in-Some-Routine.k is.routine is.is in
    let len = c.args.code.now.routines.ok.0 in
    omega (arith, lt, len)

pub returns-in-None-clause-comes : goal.returns-in-None-clause-comes
unfolding does
returns-in-None-clause-comes c = λ got.
    let p = program_of c.args.code.now in
    let s = state_of c.args.core.now in
    let none = callee_told p c.operand.result (top_of c.args.n s.operands) c.args.n c.args.r c.callee.result (record { sfits = c.operand.type_inv }) c.operand.ensures c.callee.ensures ∙ c.in-None.is in
    (ap (λ (o : Option Callee). reached p o c.args.n got s) none, refl)

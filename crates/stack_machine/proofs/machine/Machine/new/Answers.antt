use Rattle.std.proofs.Common.{List, ap, ◌∙◌, subst, sym, arith}
use Rattle.std.specs.Prelude.{slice_get}
use Rattle.object_file.specs.Contents.{Contents}
use Rattle.object_file.specs.Programs.{IsProgram}
use Rattle.stack_machine.specs.Loading.{IsLoaded, blank, frames_of}
use Rattle.stack_machine.specs.State.{State, program_of}
use Rattle.stack_machine.specs.Step.{next_body}
use Rattle.stack_machine.proofs.Pushing.{none_asked}
use Rattle.stack_machine.proofs.Starting.{first_there, stands}
use Rattle.stack_machine.proofs.machine.Machine.new.Goals as goal

pub begin-full-requires : goal.begin-full-requires
begin-full-requires c =
    let program : IsProgram c.args.program = subst IsProgram c.program.view_is c.program.invariant in
    let loaded : IsLoaded c.args.program (program_of c.in_ok-code.code) = subst (λ (os : List Contents). IsLoaded os (program_of c.in_ok-code.code)) c.objects-2.ensures c.in_ok-code.ensures.loaded in
    record { first = first_there c.args.program c.in_ok-code.code c.in_ok-core.core program loaded c.in_ok-code.ensures.short c.in_ok-core.ensures.room }

pub invariant_of-result : goal.invariant_of-result
invariant_of-result c =
    let program : IsProgram c.args.program = subst IsProgram c.program.view_is c.program.invariant in
    let loaded : IsLoaded c.args.program (program_of c.in_ok-code.code) = subst (λ (os : List Contents). IsLoaded os (program_of c.in_ok-code.code)) c.objects-2.ensures c.in_ok-code.ensures.loaded in (
      loaded,
      stands c.args.program c.in_ok-code.code c.begin-full.new.core c.begin-full.result c.args.cells program loaded c.in_ok-code.ensures.short c.begin-full.ensures.room
          (c.begin-full.ensures.begun ∙ ap (λ (s : State). next_body (program_of c.in_ok-code.code) (slice_get c.in_ok-code.code.bodies.items 0) s) (c.in_ok-core.ensures.state ∙ ap (λ (os : List Contents). blank os c.args.cells) c.objects-3.ensures)),
    )

pub load-requires-clause-program : goal.load-requires-clause-program
load-requires-clause-program c =
    let program : IsProgram c.args.program = subst IsProgram c.program.view_is c.program.invariant in
    subst IsProgram (sym c.objects-2.ensures) program

pub blank-requires-clause-room : goal.blank-requires-clause-room
blank-requires-clause-room c =
    let same = ap frames_of c.objects.ensures in let frames = c.in-Some.ensures.some.3 in let fits = c.in-Some.ensures.some.4 in
    let here = ap frames_of c.objects-3.ensures in
    omega (arith, same, frames, fits, here)

pub returns-in_err-core-clause-program : goal.returns-in_err-core-clause-program
returns-in_err-core-clause-program c = none_asked c.from_residual-in_err-core.result _ c.from_residual-in_err-core.ensures.0

pub returns-in_err-core-clause-code : goal.returns-in_err-core-clause-code
returns-in_err-core-clause-code c = none_asked c.from_residual-in_err-core.result _ c.from_residual-in_err-core.ensures.0

pub returns-in_err-core-clause-stands : goal.returns-in_err-core-clause-stands
returns-in_err-core-clause-stands c = none_asked c.from_residual-in_err-core.result _ c.from_residual-in_err-core.ensures.0

pub returns-in_err-core-clause-no_room : goal.returns-in_err-core-clause-no_room
returns-in_err-core-clause-no_room c = λ few.
    let same = ap frames_of c.objects.ensures in let frames = c.in-Some.ensures.some.3 in let fits = c.in-Some.ensures.some.4 in
    absurd (omega (arith, same, frames, fits, few))

pub returns-clause-code : goal.returns-clause-code
returns-clause-code c = subst (λ (os : List Contents). IsLoaded os (program_of c.in_ok-code.code)) c.objects-2.ensures c.in_ok-code.ensures.loaded

pub returns-clause-no_room : goal.returns-clause-no_room
returns-clause-no_room c = λ few.
    let same = ap frames_of c.objects.ensures in let frames = c.in-Some.ensures.some.3 in let fits = c.in-Some.ensures.some.4 in
    absurd (omega (arith, same, frames, fits, few))

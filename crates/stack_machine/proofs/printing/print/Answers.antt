use Rattle.std.proofs.Common.{◌≡◌, ◌≤◌, Bool, sym, subst}
use Rattle.std.specs.Prelude.{IfOk, OnErr, OnOk}
use Rattle.m2_io.specs.Written.{WritesPart, with_bytes}
use Rattle.stack_machine.specs.declared.op.Service.{Service}
use Rattle.stack_machine.specs.State.{state_of}
use Rattle.stack_machine.specs.InOut.{Reads, can_go_on, params_of, printed}
use Rattle.stack_machine.proofs.Written.{on_ok}
use Rattle.stack_machine.proofs.printing.print.Goals as goal

pub returns-in-WriteString-clause-err : goal.returns-in-WriteString-clause-err
returns-in-WriteString-clause-err g c =
    subst (λ (v : Service). OnErr c.write_string.result (WritesPart (g.P.Sink.written c.args.print.now) (printed v c.args.core.now.cells.items (state_of c.args.core.now).operands) (g.P.Sink.written c.write_string.new.print))) (sym c.in-WriteString.is) c.write_string.ensures.err

pub returns-in-WriteInt-clause-err : goal.returns-in-WriteInt-clause-err
returns-in-WriteInt-clause-err g c =
    subst (λ (v : Service). OnErr c.write_number.result (WritesPart (g.P.Sink.written c.args.print.now) (printed v c.args.core.now.cells.items (state_of c.args.core.now).operands) (g.P.Sink.written c.write_number.new.print))) (sym c.in-WriteInt.is) c.write_number.ensures.err

pub returns-in-WriteCard-clause-err : goal.returns-in-WriteCard-clause-err
returns-in-WriteCard-clause-err g c =
    subst (λ (v : Service). OnErr c.write_number-in-WriteCard.result (WritesPart (g.P.Sink.written c.args.print.now) (printed v c.args.core.now.cells.items (state_of c.args.core.now).operands) (g.P.Sink.written c.write_number-in-WriteCard.new.print))) (sym c.in-WriteCard.is) c.write_number-in-WriteCard.ensures.err

pub write_string-requires-clause-there : goal.write_string-requires-clause-there
write_string-requires-clause-there g c = subst (λ (v : Service). params_of v ≤ c.args.core.now.sp) c.in-WriteString.is c.requires.there

pub write_string-requires-clause-room : goal.write_string-requires-clause-room
write_string-requires-clause-room g c = c.requires.room

pub returns-in-WriteString-clause-goes : goal.returns-in-WriteString-clause-goes
returns-in-WriteString-clause-goes g c =
    subst (λ (v : Service). IfOk c.write_string.result (λ (ok : Bool). ok ≡ can_go_on v c.args.core.now.cells.items (state_of c.args.core.now).operands)) (sym c.in-WriteString.is) c.write_string.ensures.whole

pub returns-in-WriteString-clause-ok : goal.returns-in-WriteString-clause-ok
returns-in-WriteString-clause-ok g c =
    subst (λ (v : Service). OnOk c.write_string.result (g.P.Sink.written c.write_string.new.print ≡ with_bytes (g.P.Sink.written c.args.print.now) (printed v c.args.core.now.cells.items (state_of c.args.core.now).operands))) (sym c.in-WriteString.is) c.write_string.ensures.ok

pub returns-in-WriteString-clause-handed : goal.returns-in-WriteString-clause-handed
returns-in-WriteString-clause-handed g c = on_ok c.write_string.result (λ reads. absurd (subst Reads c.in-WriteString.is reads))

pub returns-in-WriteString-clause-failed : goal.returns-in-WriteString-clause-failed
returns-in-WriteString-clause-failed g c = c.write_string.ensures.failed

pub returns-in-WriteString-clause-later : goal.returns-in-WriteString-clause-later
returns-in-WriteString-clause-later g c = c.write_string.ensures.later

pub write_number-requires-clause-there : goal.write_number-requires-clause-there
write_number-requires-clause-there g c = subst (λ (v : Service). params_of v ≤ c.args.core.now.sp) c.in-WriteInt.is c.requires.there

pub write_number-requires-clause-room : goal.write_number-requires-clause-room
write_number-requires-clause-room g c = c.requires.room

pub returns-in-WriteInt-clause-goes : goal.returns-in-WriteInt-clause-goes
returns-in-WriteInt-clause-goes g c =
    subst (λ (v : Service). IfOk c.write_number.result (λ (ok : Bool). ok ≡ can_go_on v c.args.core.now.cells.items (state_of c.args.core.now).operands)) (sym c.in-WriteInt.is) c.write_number.ensures.width

pub returns-in-WriteInt-clause-ok : goal.returns-in-WriteInt-clause-ok
returns-in-WriteInt-clause-ok g c =
    subst (λ (v : Service). OnOk c.write_number.result (g.P.Sink.written c.write_number.new.print ≡ with_bytes (g.P.Sink.written c.args.print.now) (printed v c.args.core.now.cells.items (state_of c.args.core.now).operands))) (sym c.in-WriteInt.is) c.write_number.ensures.ok

pub returns-in-WriteInt-clause-handed : goal.returns-in-WriteInt-clause-handed
returns-in-WriteInt-clause-handed g c = on_ok c.write_number.result (λ reads. absurd (subst Reads c.in-WriteInt.is reads))

pub returns-in-WriteInt-clause-failed : goal.returns-in-WriteInt-clause-failed
returns-in-WriteInt-clause-failed g c = c.write_number.ensures.failed

pub returns-in-WriteInt-clause-later : goal.returns-in-WriteInt-clause-later
returns-in-WriteInt-clause-later g c = c.write_number.ensures.later

pub write_number-requires-in-WriteCard-clause-there : goal.write_number-requires-in-WriteCard-clause-there
write_number-requires-in-WriteCard-clause-there g c = subst (λ (v : Service). params_of v ≤ c.args.core.now.sp) c.in-WriteCard.is c.requires.there

pub write_number-requires-in-WriteCard-clause-room : goal.write_number-requires-in-WriteCard-clause-room
write_number-requires-in-WriteCard-clause-room g c = c.requires.room

pub returns-in-WriteCard-clause-goes : goal.returns-in-WriteCard-clause-goes
returns-in-WriteCard-clause-goes g c =
    subst (λ (v : Service). IfOk c.write_number-in-WriteCard.result (λ (ok : Bool). ok ≡ can_go_on v c.args.core.now.cells.items (state_of c.args.core.now).operands)) (sym c.in-WriteCard.is) c.write_number-in-WriteCard.ensures.width

pub returns-in-WriteCard-clause-ok : goal.returns-in-WriteCard-clause-ok
returns-in-WriteCard-clause-ok g c =
    subst (λ (v : Service). OnOk c.write_number-in-WriteCard.result (g.P.Sink.written c.write_number-in-WriteCard.new.print ≡ with_bytes (g.P.Sink.written c.args.print.now) (printed v c.args.core.now.cells.items (state_of c.args.core.now).operands))) (sym c.in-WriteCard.is) c.write_number-in-WriteCard.ensures.ok

pub returns-in-WriteCard-clause-handed : goal.returns-in-WriteCard-clause-handed
returns-in-WriteCard-clause-handed g c = on_ok c.write_number-in-WriteCard.result (λ reads. absurd (subst Reads c.in-WriteCard.is reads))

pub returns-in-WriteCard-clause-failed : goal.returns-in-WriteCard-clause-failed
returns-in-WriteCard-clause-failed g c = c.write_number-in-WriteCard.ensures.failed

pub returns-in-WriteCard-clause-later : goal.returns-in-WriteCard-clause-later
returns-in-WriteCard-clause-later g c = c.write_number-in-WriteCard.ensures.later

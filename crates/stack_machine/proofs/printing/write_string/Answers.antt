use Rattle.std.proofs.Common.{◌≡◌, Bool, subst}
use Rattle.std.specs.Prelude.{IfOk, OnErr, OnOk}
use Rattle.m2_io.specs.Written.{WritesPart, with_bytes}
use Rattle.stack_machine.specs.InOut.{Text}
use Rattle.stack_machine.specs.State.{state_of}
use Rattle.stack_machine.proofs.Cells.{short_as}
use Rattle.stack_machine.proofs.Written.{string_told}
use Rattle.stack_machine.proofs.printing.write_string.Goals as goal

pub write_from-requires : goal.write_from-requires
write_from-requires g c = short_as c.deref.ensures.value c.requires.room.small

pub returns-clause-whole : goal.returns-clause-whole
returns-clause-whole g c =
    subst (λ (t : Text). IfOk c.write_from.result (λ (whole : Bool). whole ≡ t.whole)) (string_told c.args.core.now.cells.items c.deref.result.now (state_of c.args.core.now).operands c.operand.result c.operand-2.result c.count-n.result c.deref.ensures.value (record { sfits = c.operand.type_inv }) (record { sfits = c.operand-2.type_inv }) c.operand.ensures c.operand-2.ensures c.count-n.ensures)
    c.write_from.ensures.whole

pub returns-clause-ok : goal.returns-clause-ok
returns-clause-ok g c =
    subst (λ (t : Text). OnOk c.write_from.result (g.P.Sink.written c.write_from.new.print ≡ with_bytes (g.P.Sink.written c.args.print.now) t.bytes)) (string_told c.args.core.now.cells.items c.deref.result.now (state_of c.args.core.now).operands c.operand.result c.operand-2.result c.count-n.result c.deref.ensures.value (record { sfits = c.operand.type_inv }) (record { sfits = c.operand-2.type_inv }) c.operand.ensures c.operand-2.ensures c.count-n.ensures)
    c.write_from.ensures.ok

pub returns-clause-err : goal.returns-clause-err
returns-clause-err g c =
    subst (λ (t : Text). OnErr c.write_from.result (WritesPart (g.P.Sink.written c.args.print.now) t.bytes (g.P.Sink.written c.write_from.new.print))) (string_told c.args.core.now.cells.items c.deref.result.now (state_of c.args.core.now).operands c.operand.result c.operand-2.result c.count-n.result c.deref.ensures.value (record { sfits = c.operand.type_inv }) (record { sfits = c.operand-2.type_inv }) c.operand.ensures c.operand-2.ensures c.count-n.ensures)
    c.write_from.ensures.err

pub returns-clause-failed : goal.returns-clause-failed
returns-clause-failed g c = c.write_from.ensures.failed

pub returns-clause-later : goal.returns-clause-later
returns-clause-later g c = c.write_from.ensures.later

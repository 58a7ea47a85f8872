use Rattle.std.proofs.Common.{◌≡◌, ◌∙◌, ◌+◌, List, ℤ, length, ap, refl, arith}
use Rattle.std.specs.Vec.{with_items}
use Rattle.stack_machine.specs.State.{state_of}
use Rattle.stack_machine.specs.Step.{cleared, size_of}
use Rattle.stack_machine.proofs.Cells.{enters, enters_not, refilled, room_to}
use Rattle.stack_machine.proofs.flow.enter.Goals as goal

pub returns-then-core-size-clause-comes : goal.returns-then-core-size-clause-comes
returns-then-core-size-clause-comes c = (enters_not c.args.p.now (state_of c.args.core.now) c.if-core-size.true, refl)

pub returns-clause-comes : goal.returns-clause-comes
returns-clause-comes c =
    let core = c.args.core.now in
    let p = c.args.p.now in
    let cells = core.cells in
    let long : length c.clear.new.cells ≡ length cells.items = c.clear.auto.cells ∙ ap length c.deref_mut.ensures.value in
    enters p (state_of core) (with_items cells c.clear.new.cells).items c.if-core-size.false
    (refilled cells c.clear.new.cells long ∙ c.clear.ensures ∙ ap (λ (xs : List ℤ). cleared xs core.base (size_of p)) c.deref_mut.ensures.value)

pub returns-clause-room : goal.returns-clause-room
returns-clause-room c =
    let core = c.args.core.now in
    let p = c.args.p.now in
    let cells = core.cells in
    let long : length c.clear.new.cells ≡ length cells.items = c.clear.auto.cells ∙ ap length c.deref_mut.ensures.value in
    room_to core p.entry (core.base + size_of p) 0 (with_items cells c.clear.new.cells) (ap length (refilled cells c.clear.new.cells long) ∙ long) (omega arith) c.if-core-size.false c.requires.room

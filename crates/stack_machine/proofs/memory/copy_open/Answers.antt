use Rattle.std.proofs.Common.{◌≡◌, ◌∙◌, ◌+◌, List, ℤ, length, ap, arith, pos}
use Rattle.std.specs.List.{copy_within}
use Rattle.std.specs.Prelude.{slice_set}
use Rattle.std.specs.Vec.{with_items}
use Rattle.stack_machine.specs.State.{state_of}
use Rattle.stack_machine.proofs.Cells.{copies, refilled, room_to}
use Rattle.stack_machine.proofs.memory.copy_open.Goals as goal

pub returns-clause-comes : goal.returns-clause-comes
returns-clause-comes c =
    let core = c.args.core.now in
    let s = state_of core in
    let cells = core.cells in
    let long : length c.copy_noted.new.cells ≡ length cells.items = c.copy_noted.auto.cells ∙ ap length c.deref_mut.ensures.value in
    let lt = c.if-core-len.false in let len = c.len.ensures in let ok = cells.ok.0 in
    copies c.args.n c.args.o c.args.from s (with_items cells c.copy_noted.new.cells).items (omega (arith, lt, len, ok))
    (refilled cells c.copy_noted.new.cells long ∙ c.copy_noted.ensures ∙ ap (λ (xs : List ℤ). slice_set (copy_within xs c.args.from (c.args.from + c.args.n) core.top) (core.base + c.args.o) (pos core.top)) c.deref_mut.ensures.value)

pub returns-clause-room : goal.returns-clause-room
returns-clause-room c =
    let core = c.args.core.now in
    let cells = core.cells in
    let long : length c.copy_noted.new.cells ≡ length cells.items = c.copy_noted.auto.cells ∙ ap length c.deref_mut.ensures.value in
    let base = c.requires.able.room.base in
    room_to core (core.at + 1) (core.top + c.args.n) core.link (with_items cells c.copy_noted.new.cells) (ap length (refilled cells c.copy_noted.new.cells long) ∙ long) (omega (arith, base)) c.requires.free c.requires.able.room

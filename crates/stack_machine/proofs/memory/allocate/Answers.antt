use Rattle.std.proofs.Common.{◌≡◌, ◌∙◌, ◌-◌, ◌<◌, ◌^◌, List, ℤ, length, Some, None, ap, refl, arith, pos}
use Rattle.std.specs.Prelude.{slice_set}
use Rattle.std.specs.Vec.{with_item, with_items}
use Rattle.std.proofs.lemmas.List.{length-set}
use Rattle.stack_machine.specs.Operands.{top_of}
use Rattle.stack_machine.specs.State.{state_of}
use Rattle.stack_machine.specs.Step.{cleared}
use Rattle.stack_machine.proofs.Cells.{able_with, allocates, allocates_none, allocates_nowhere, cell_told, cell_within, comes_to, noted, refilled, short_as}
use Rattle.stack_machine.proofs.memory.allocate.Goals as goal

pub returns-then-core-n-clause-comes : goal.returns-then-core-n-clause-comes
returns-then-core-n-clause-comes c = (allocates_none c.args.n (state_of c.args.core.now) c.if-core-n.true, refl)

pub returns-then-core-n-clause-room : goal.returns-then-core-n-clause-room
returns-then-core-n-clause-room c = c.requires.able.room

pub operand-requires-clause-there : goal.operand-requires-clause-there
operand-requires-clause-there c = c.requires.able.there

pub operand-requires-clause-room : goal.operand-requires-clause-room
operand-requires-clause-room c = c.requires.able.room

pub cell-requires : goal.cell-requires
cell-requires c = short_as c.deref.ensures.value c.requires.able.room.small

pub returns-in_default-clause-comes : goal.returns-in_default-clause-comes
returns-in_default-clause-comes c =
    let s = state_of c.args.core.now in (
      allocates_nowhere c.args.n s c.if-core-n.false (cell_told s.cells c.deref.result.now c.operand.result (top_of 0 s.operands) c.cell.result None c.deref.ensures.value (record { sfits = c.operand.type_inv }) c.operand.ensures c.cell.ensures c.in_default.is),
      refl,
    )

pub returns-in_default-clause-room : goal.returns-in_default-clause-room
returns-in_default-clause-room c = c.requires.able.room

pub overflow_sub-heap : goal.overflow_sub-heap
overflow_sub-heap c = let room = c.if-core-n.false in omega (arith, room)

pub clear-requires : goal.clear-requires
clear-requires c =
    let room = c.if-core-n.false in
    let heap = c.requires.able.room.heap in
    let same = ap length c.deref_mut.ensures.value in
    omega (arith, room, heap, same)

pub index_mut-requires : goal.index_mut-requires
index_mut-requires c =
    let s = state_of c.args.core.now in
    let lt = cell_within s.cells (top_of 0 s.operands) c.in-Some.a (cell_told s.cells c.deref.result.now c.operand.result (top_of 0 s.operands) c.cell.result (Some c.in-Some.a) c.deref.ensures.value (record { sfits = c.operand.type_inv }) c.operand.ensures c.cell.ensures c.in-Some.is) in
    let len = c.args.core.now.cells.ok.0 in
    omega (arith, lt, len)

pub take-requires : goal.take-requires
take-requires c =
    let core = c.args.core.now in
    let cells = core.cells in
    let room = c.if-core-n.false in
    let long : length c.clear.new.cells ≡ length cells.items = c.clear.auto.cells ∙ ap length c.deref_mut.ensures.value in
    let filled = with_items cells c.clear.new.cells in
    record { able = able_with core 1 (with_item filled c.in-Some.a _) (core.heap - c.args.n) (length-set filled.items c.in-Some.a _ ∙ ap length (refilled cells c.clear.new.cells long) ∙ long) (omega (arith, room)) (omega arith) c.requires.able }

pub returns-clause-comes : goal.returns-clause-comes
returns-clause-comes c =
    let core = c.args.core.now in
    let s = state_of core in
    let cells = core.cells in
    let heap = core.heap - c.args.n in
    let room = c.requires.able.room in
    let below = room.heap in let few = room.small in
    let small : heap < 2 ^ 63 = omega (arith, below, few) in
    let long : length c.clear.new.cells ≡ length cells.items = c.clear.auto.cells ∙ ap length c.deref_mut.ensures.value in
    let items : slice_set c.clear.new.cells c.in-Some.a (pos heap) ≡ slice_set (cleared s.cells heap c.args.n) c.in-Some.a (pos heap) =
    ap (λ (xs : List ℤ). slice_set xs c.in-Some.a (pos heap)) (c.clear.ensures ∙ ap (λ (xs : List ℤ). cleared xs heap c.args.n) c.deref_mut.ensures.value) in
    comes_to c.take.result _ _ s (state_of c.take.new.core) _
    (allocates c.args.n s c.in-Some.a _ c.if-core-n.false
    (cell_told s.cells c.deref.result.now c.operand.result (top_of 0 s.operands) c.cell.result (Some c.in-Some.a) c.deref.ensures.value (record { sfits = c.operand.type_inv }) c.operand.ensures c.cell.ensures c.in-Some.is)
    (noted cells c.clear.new.cells c.in-Some.a heap long small ∙ items))
    c.take.ensures.comes

pub returns-clause-room : goal.returns-clause-room
returns-clause-room c = c.take.ensures.room

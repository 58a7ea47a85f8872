use Rattle.std.proofs.Common.{◌≡◌, ◌∙◌, ◌+◌, List, ℤ, length, Some, None, ap, refl, sym, subst, arith}
use Rattle.std.specs.List.{copy_within}
use Rattle.std.specs.Vec.{with_items}
use Rattle.stack_machine.specs.Able.{Comes}
use Rattle.stack_machine.specs.Operands.{top_of}
use Rattle.stack_machine.specs.State.{state_of}
use Rattle.stack_machine.specs.Step.{Next}
use Rattle.stack_machine.proofs.Cells.{able_cells, comes_to, moves, moves_none, moves_nothing, moves_nowhere, part_told, part_within, refilled, short_as}
use Rattle.stack_machine.proofs.memory.copy_cells.Goals as goal

pub take-requires : goal.take-requires
take-requires c = record { able = c.requires.able }

pub returns-then-n-eq0-clause-comes : goal.returns-then-n-eq0-clause-comes
returns-then-n-eq0-clause-comes c =
    let s = state_of c.args.core.now in
    subst (λ (next : Next). Comes c.take.result next s (state_of c.take.new.core)) (sym (moves_none c.args.n s c.if-n-eq0.true)) c.take.ensures.comes

pub returns-then-n-eq0-clause-room : goal.returns-then-n-eq0-clause-room
returns-then-n-eq0-clause-room c = c.take.ensures.room

pub operand-requires-clause-there : goal.operand-requires-clause-there
operand-requires-clause-there c = c.requires.able.there

pub operand-requires-clause-room : goal.operand-requires-clause-room
operand-requires-clause-room c = c.requires.able.room

pub part-requires-clause-small : goal.part-requires-clause-small
part-requires-clause-small c = short_as c.deref.ensures.value c.requires.able.room.small

pub returns-in_default-clause-comes : goal.returns-in_default-clause-comes
returns-in_default-clause-comes c =
    let s = state_of c.args.core.now in (
      moves_nowhere c.args.n s c.if-n-eq0.false (part_told s.cells c.deref.result.now c.args.n c.operand.result (top_of 1 s.operands) c.part.result None c.deref.ensures.value (record { sfits = c.operand.type_inv }) c.operand.ensures c.part.ensures c.in_default.is),
      refl,
    )

pub returns-in_default-clause-room : goal.returns-in_default-clause-room
returns-in_default-clause-room c = c.requires.able.room

pub operand-requires-2-clause-there : goal.operand-requires-2-clause-there
operand-requires-2-clause-there c = let there = c.requires.able.there in omega (arith, there)

pub operand-requires-2-clause-room : goal.operand-requires-2-clause-room
operand-requires-2-clause-room c = c.requires.able.room

pub part-requires-2-clause-small : goal.part-requires-2-clause-small
part-requires-2-clause-small c = short_as c.deref-2.ensures.value c.requires.able.room.small

pub returns-in_default-part-clause-comes : goal.returns-in_default-part-clause-comes
returns-in_default-part-clause-comes c =
    let s = state_of c.args.core.now in (
      moves_nothing c.args.n s c.in-Some.to c.if-n-eq0.false
          (part_told s.cells c.deref.result.now c.args.n c.operand.result (top_of 1 s.operands) c.part.result (Some c.in-Some.to) c.deref.ensures.value (record { sfits = c.operand.type_inv }) c.operand.ensures c.part.ensures c.in-Some.is)
          (part_told s.cells c.deref-2.result.now c.args.n c.operand-2.result (top_of 0 s.operands) c.part-2.result None c.deref-2.ensures.value (record { sfits = c.operand-2.type_inv }) c.operand-2.ensures c.part-2.ensures c.in_default-part.is),
      refl,
    )

pub returns-in_default-part-clause-room : goal.returns-in_default-part-clause-room
returns-in_default-part-clause-room c = c.requires.able.room

pub copy-requires-clause-from : goal.copy-requires-clause-from
copy-requires-clause-from c =
    let s = state_of c.args.core.now in
    let le = part_within s.cells c.args.n (top_of 0 s.operands) c.in-Some-part.from (part_told s.cells c.deref-2.result.now c.args.n c.operand-2.result (top_of 0 s.operands) c.part-2.result (Some c.in-Some-part.from) c.deref-2.ensures.value (record { sfits = c.operand-2.type_inv }) c.operand-2.ensures c.part-2.ensures c.in-Some-part.is) in
    let same = ap length c.deref_mut.ensures.value in
    omega (arith, le, same)

pub copy-requires-clause-to : goal.copy-requires-clause-to
copy-requires-clause-to c =
    let s = state_of c.args.core.now in
    let le = part_within s.cells c.args.n (top_of 1 s.operands) c.in-Some.to (part_told s.cells c.deref.result.now c.args.n c.operand.result (top_of 1 s.operands) c.part.result (Some c.in-Some.to) c.deref.ensures.value (record { sfits = c.operand.type_inv }) c.operand.ensures c.part.ensures c.in-Some.is) in
    let same = ap length c.deref_mut.ensures.value in
    omega (arith, le, same)

pub take-requires-2 : goal.take-requires-2
take-requires-2 c =
    let cells = c.args.core.now.cells in
    let long : length c.copy.new.cells ≡ length cells.items = c.copy.auto.cells ∙ ap length c.deref_mut.ensures.value in
    record { able = able_cells c.args.core.now 2 (with_items cells c.copy.new.cells) (ap length (refilled cells c.copy.new.cells long) ∙ long) c.requires.able }

pub returns-clause-comes : goal.returns-clause-comes
returns-clause-comes c =
    let s = state_of c.args.core.now in
    let cells = c.args.core.now.cells in
    let long : length c.copy.new.cells ≡ length cells.items = c.copy.auto.cells ∙ ap length c.deref_mut.ensures.value in
    let items : (with_items cells c.copy.new.cells).items ≡ copy_within s.cells c.in-Some-part.from (c.in-Some-part.from + c.args.n) c.in-Some.to =
    refilled cells c.copy.new.cells long ∙ c.copy.ensures ∙ ap (λ (xs : List ℤ). copy_within xs c.in-Some-part.from (c.in-Some-part.from + c.args.n) c.in-Some.to) c.deref_mut.ensures.value in
    comes_to c.take-2.result _ _ s (state_of c.take-2.new.core) _
    (moves c.args.n s c.in-Some.to c.in-Some-part.from (with_items cells c.copy.new.cells).items c.if-n-eq0.false
    (part_told s.cells c.deref.result.now c.args.n c.operand.result (top_of 1 s.operands) c.part.result (Some c.in-Some.to) c.deref.ensures.value (record { sfits = c.operand.type_inv }) c.operand.ensures c.part.ensures c.in-Some.is)
    (part_told s.cells c.deref-2.result.now c.args.n c.operand-2.result (top_of 0 s.operands) c.part-2.result (Some c.in-Some-part.from) c.deref-2.ensures.value (record { sfits = c.operand-2.type_inv }) c.operand-2.ensures c.part-2.ensures c.in-Some-part.is)
    items)
    c.take-2.ensures.comes

pub returns-clause-room : goal.returns-clause-room
returns-clause-room c = c.take-2.ensures.room

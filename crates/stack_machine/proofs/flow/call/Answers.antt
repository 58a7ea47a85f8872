use Rattle.std.proofs.Common.{◌≡◌, length, ◌∙◌, ◌+◌, ◌-◌, take, drop, ◌++◌, ◌∷◌, [], arith, rules, refl, ap, sym}
use Rattle.std.proofs.lemmas.List.{length-take-le, take_at}
use Rattle.std.specs.Vec.{with_items}
use Rattle.stack_machine.specs.State.{state_of}
use Rattle.stack_machine.specs.Step.{with_frame_at, size_of}
use Rattle.stack_machine.proofs.Cells.{calls_not, refilled}
use Rattle.stack_machine.proofs.OperandLaws.{call_is}
use Rattle.stack_machine.proofs.flow.call.Goals as goal

pub returns-clause-comes : goal.returns-clause-comes
returns-clause-comes c =
    let core = c.args.core.now in
    let p = c.args.p.now in
    let e1 : c.lay.new.cells ≡ with_frame_at core.cells.items core.top (size_of p) (take (core.sp - (core.sp - p.params)) (drop (core.sp - p.params) core.stack.items)) = search (rules, c.lay.ensures) in
    let kept : length c.lay.new.cells ≡ core.cells.len = search rules in
    let e2 : (with_items core.cells c.lay.new.cells).items ≡ with_frame_at core.cells.items core.top (size_of p) (take (core.sp - (core.sp - p.params)) (drop (core.sp - p.params) core.stack.items)) = take_at c.lay.new.cells (drop (length c.lay.new.cells) core.cells.items) core.cells.len kept ∙ e1 in
    let e3 : c.push.new.self.items ≡ core.frames.items ++ (record { at = core.at + 1; base = core.base; top = core.top; link = core.link }) ∷ [] = search rules in
    call_is p c.args.n c.args.link (state_of core) core.sp core.stack.items (with_items core.cells c.lay.new.cells).items c.push.new.self.items refl c.requires.able.room.within c.requires.able.there c.requires.params (omega arith) e2 e3

pub returns-then-core-size-clause-comes : goal.returns-then-core-size-clause-comes
returns-then-core-size-clause-comes c =
    let core = c.args.core.now in
    let there = c.requires.able.there in
    let long = length-take-le core.sp core.stack.items c.requires.able.room.within in
    (calls_not c.args.p.now c.args.n c.args.link (state_of core) (omega (arith, there, long)) c.if-core-size.true, refl)

pub returns-clause-room : goal.returns-clause-room
returns-clause-room c =
    let core = c.args.core.now in
    let cells = core.cells in
    let new : length c.lay.new.cells ≡ length cells.items = c.lay.auto.cells ∙ ap length c.deref_mut.ensures.value in
    let long = ap length (refilled cells c.lay.new.cells new) ∙ new in
    let r = c.requires.able.room in
    let small = r.small in let within = r.within in let heap = r.heap in let frames = r.frames in let more = c.push.ensures.capacity in
    record {
      small = omega (arith, long, small);
      stack = r.stack ∙ sym long;
      within = omega (arith, within);
      heap = omega (arith, long, heap);
      top = c.if-core-size.false;
      base = omega arith;
      frames = omega (arith, long, frames, more);
    }

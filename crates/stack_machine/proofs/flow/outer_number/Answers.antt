use Rattle.std.proofs.Common.{◌+◌, ◌-◌, arith, get_or}
use Rattle.std.proofs.lemmas.Option.{slice_get-get_or}
use Rattle.stack_machine.proofs.Links.{number_next, number_goes, number_ends, number_within}
use Rattle.stack_machine.proofs.flow.outer_number.Goals as goal

pub bounds-frames-next : goal.bounds-frames-next
bounds-frames-next c =
    number_within c.args.frames.now (c.args.h - (c.loop.counter + 1)) c.loop.reached c.loop.next c.requires.linked.0
    (number_next c.args.frames.now c.args.h c.loop.counter c.loop.reached c.loop.next c.args.number c.args.link c.requires.linked.0 c.loop-test.true c.loop.invariant c.requires.linked.1)

pub offset_bounds-frames-next : goal.offset_bounds-frames-next
offset_bounds-frames-next c =
    let lt = number_within c.args.frames.now (c.args.h - (c.loop.counter + 1)) c.loop.reached c.loop.next c.requires.linked.0
    (number_next c.args.frames.now c.args.h c.loop.counter c.loop.reached c.loop.next c.args.number c.args.link c.requires.linked.0 c.loop-test.true c.loop.invariant c.requires.linked.1) in
    let short = c.requires.short in
    omega (arith, lt, short)

pub loop-preserved : goal.loop-preserved
loop-preserved c =
    let lt = number_within c.args.frames.now (c.args.h - (c.loop.counter + 1)) c.loop.reached c.loop.next c.requires.linked.0
    (number_next c.args.frames.now c.args.h c.loop.counter c.loop.reached c.loop.next c.args.number c.args.link c.requires.linked.0 c.loop-test.true c.loop.invariant c.requires.linked.1) in
    number_goes c.args.frames.now c.args.h c.loop.counter c.loop.reached c.loop.next c.args.number c.args.link
    (get_or c.args.frames.now c.loop.next (record { at = 0; base = 0; top = 0; link = 0 })) c.loop-test.true c.loop.invariant (slice_get-get_or c.args.frames.now c.loop.next (record { at = 0; base = 0; top = 0; link = 0 }) lt)

pub returns : goal.returns
returns c = let over = c.loop-test.false in number_ends c.args.frames.now c.args.h c.loop.counter c.loop.reached c.loop.next c.args.number c.args.link (omega (arith, over)) c.loop.invariant

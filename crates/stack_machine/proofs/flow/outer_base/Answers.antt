use Rattle.std.proofs.Common.{◌+◌, ◌-◌, arith, get_or}
use Rattle.std.proofs.lemmas.Option.{slice_get-get_or}
use Rattle.stack_machine.proofs.Links.{base_next, base_goes, base_ends, base_within}
use Rattle.stack_machine.proofs.flow.outer_base.Goals as goal

pub bounds-frames-next : goal.bounds-frames-next
bounds-frames-next c =
    base_within c.args.frames.now (c.args.h - (c.loop.counter + 1)) c.loop.first c.loop.next c.requires.linked.0
    (base_next c.args.frames.now c.args.h c.loop.counter c.loop.first c.loop.next c.args.base c.args.link c.requires.linked.0 c.loop-test.true c.loop.invariant c.requires.linked.1)

pub offset_bounds-frames-next : goal.offset_bounds-frames-next
offset_bounds-frames-next c =
    let lt = base_within c.args.frames.now (c.args.h - (c.loop.counter + 1)) c.loop.first c.loop.next c.requires.linked.0
    (base_next c.args.frames.now c.args.h c.loop.counter c.loop.first c.loop.next c.args.base c.args.link c.requires.linked.0 c.loop-test.true c.loop.invariant c.requires.linked.1) in
    let short = c.requires.short in
    omega (arith, lt, short)

pub loop-preserved : goal.loop-preserved
loop-preserved c =
    let lt = base_within c.args.frames.now (c.args.h - (c.loop.counter + 1)) c.loop.first c.loop.next c.requires.linked.0
    (base_next c.args.frames.now c.args.h c.loop.counter c.loop.first c.loop.next c.args.base c.args.link c.requires.linked.0 c.loop-test.true c.loop.invariant c.requires.linked.1) in
    base_goes c.args.frames.now c.args.h c.loop.counter c.loop.first c.loop.next c.args.base c.args.link
    (get_or c.args.frames.now c.loop.next (record { at = 0; base = 0; top = 0; link = 0 })) c.loop-test.true c.loop.invariant (slice_get-get_or c.args.frames.now c.loop.next (record { at = 0; base = 0; top = 0; link = 0 }) lt)

pub returns : goal.returns
returns c = let over = c.loop-test.false in base_ends c.args.frames.now c.args.h c.loop.counter c.loop.first c.loop.next c.args.base c.args.link (omega (arith, over)) c.loop.invariant

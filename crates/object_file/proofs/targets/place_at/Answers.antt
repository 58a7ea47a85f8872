use Rattle.std.proofs.Common.{◌≡◌, ◌≤◌, ◌<◌, length, arith}
use Rattle.object_file.specs.Views.{procedure_of, world_in}
use Rattle.object_file.proofs.Walking.{mark_is, sought_first, sought_on, sought_found, sought_past, sought_beyond, sought_none}
use Rattle.object_file.proofs.targets.place_at.Goals as goal

pub loop-place-init : goal.loop-place-init
loop-place-init c =
    let w = world_in c.args.parts.now in
    let p = procedure_of c.args.own.now in
    let m = c.start-place.result in
    let known = mark_is w p c.args.marks.now m c.requires c.start-place.ensures.known in
    (known.within, sought_first w p c.args.to m.at m.height known c.start-place.ensures.before)

pub returns-in_default : goal.returns-in_default
returns-in_default c =
    sought_none (world_in c.args.parts.now) (procedure_of c.args.own.now) c.args.to c.loop-place.place.at c.loop-place.place.height c.loop-place.invariant.1 c.in_default.ensures.none

pub loop-place-preserved : goal.loop-place-preserved
loop-place-preserved c =
    let m = c.loop-place.place in
    let here = c.in-Some.ensures.found in
    rw (c.behind-place.ensures.at, c.behind-place.ensures.height)
    (here.within, sought_on (world_in c.args.parts.now) (procedure_of c.args.own.now) c.args.to m.at m.height c.in-Some.point c.loop-place.invariant.1 c.loop-place-test.true here)

pub returns-then-to-place : goal.returns-then-to-place
returns-then-to-place c =
    sought_past (world_in c.args.parts.now) (procedure_of c.args.own.now) c.args.to c.loop-place.place.at c.loop-place.place.height c.loop-place.invariant.1 c.if-to-place.true

pub returns-then-len-to : goal.returns-then-len-to
returns-then-len-to c =
    let m = c.loop-place.place in
    let le : c.args.to ≤ m.at = omega (arith, c.loop-place-test.false) in
    let past : length c.args.own.now.code.items ≤ c.args.to = omega (arith, c.if-len-to.true, c.len.ensures) in
    sought_beyond (world_in c.args.parts.now) (procedure_of c.args.own.now) c.args.to m.at m.height c.loop-place.invariant.1 le past

pub returns : goal.returns
returns c =
    let m = c.loop-place.place in
    let same : m.at ≡ c.args.to = omega (arith, c.loop-place-test.false, c.if-to-place.false) in
    let lt : c.args.to < length c.args.own.now.code.items = omega (arith, c.if-len-to.false, c.len.ensures) in
    sought_found (world_in c.args.parts.now) (procedure_of c.args.own.now) c.args.to m.at m.height c.loop-place.invariant.1 same lt

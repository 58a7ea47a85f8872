use Rattle.std.proofs.Common.{arith}
use Rattle.stack_machine.proofs.Growing.{all_more, next_object}
use Rattle.stack_machine.proofs.loading.add_objects.Goals as goal

pub add_object-requires-clause-text : goal.add_object-requires-clause-text
add_object-requires-clause-text c =
    let at = c.loop-m.invariant.at_is in
    let n = next_object c.args.scene.now.objects.now c.loop-m.m c.loop-m-test.true in
    let within = n.within in
    let room = c.requires.text in
    omega (arith, at, within, room)

pub loop-m-preserved : goal.loop-m-preserved
loop-m-preserved c =
    let at = c.loop-m.invariant.at_is in
    let n = next_object c.args.scene.now.objects.now c.loop-m.m c.loop-m-test.true in
    let next = n.next in
    let new = c.in_ok-at.ensures.text in
    record {
      grows = all_more c.args.scene.now.objects.now c.args.text c.loop-m.m c.loop-m.at c.args.listing.now c.loop-m.listing c.add_object.new.listing c.loop-m-test.true c.loop-m.invariant.grows c.in_ok-at.ensures.grows at;
      at_is = omega (arith, at, next, new);
    }

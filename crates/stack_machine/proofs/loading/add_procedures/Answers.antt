use Rattle.std.proofs.Common.{arith, length}
use Rattle.stack_machine.proofs.Growing.{object_more, next_data}
use Rattle.stack_machine.proofs.Placing.{get_index}
use Rattle.stack_machine.proofs.loading.add_procedures.Goals as goal

pub add_procedure-requires-clause-text : goal.add_procedure-requires-clause-text
add_procedure-requires-clause-text c =
    let at = c.loop-k.invariant.at_is in
    let n = next_data c.args.procedures.now c.loop-k.k c.index-procedures-k.result c.loop-k-test.true c.index-procedures-k.is in
    let within = n.within in
    let room = c.requires.text in
    omega (arith, at, within, room)

pub add_procedure-requires-clause-short : goal.add_procedure-requires-clause-short
add_procedure-requires-clause-short c =
    (c.requires.sound c.loop-k.k c.index-procedures-k.result (get_index c.args.procedures.now c.loop-k.k c.index-procedures-k.result c.loop-k-test.true c.index-procedures-k.is)).0

pub add_procedure-requires-clause-instrs : goal.add_procedure-requires-clause-instrs
add_procedure-requires-clause-instrs c =
    (c.requires.sound c.loop-k.k c.index-procedures-k.result (get_index c.args.procedures.now c.loop-k.k c.index-procedures-k.result c.loop-k-test.true c.index-procedures-k.is)).1

pub overflow_add-at : goal.overflow_add-at
overflow_add-at c =
    let at = c.loop-k.invariant.at_is in
    let n = next_data c.args.procedures.now c.loop-k.k c.index-procedures-k.result c.loop-k-test.true c.index-procedures-k.is in
    let within = n.within in
    let room = c.requires.text in
    let len = c.len-at.ensures in
    omega (arith, at, within, room, len)

pub loop-k-preserved : goal.loop-k-preserved
loop-k-preserved c =
    let at = c.loop-k.invariant.at_is in
    let p = c.index-procedures-k.result in
    let n = next_data c.args.procedures.now c.loop-k.k p c.loop-k-test.true c.index-procedures-k.is in
    let next = n.next in
    let len = c.len-at.ensures in
    record {
      grows = object_more c.args.scene.now.objects.now c.args.home.now.«module» c.args.home.now.object.now c.args.text c.args.procedures.now p c.loop-k.k c.loop-k.at c.args.listing.now c.loop-k.listing c.add_procedure.new.listing
          c.loop-k-test.true c.index-procedures-k.is c.loop-k.invariant.grows c.in_ok-add_procedure.ensures at;
      at_is = omega (arith, at, next, len);
    }

use Rattle.std.proofs.Common.{arith}
use Rattle.stack_machine.proofs.Pushing.{bodies_all, bodies_more, counted_all, counted_more, none_asked}
use Rattle.stack_machine.proofs.loading.number_bodies.Goals as goal

pub returns-in_err-push-clause-bodies : goal.returns-in_err-push-clause-bodies
returns-in_err-push-clause-bodies c = none_asked c.from_residual.result _ c.from_residual.ensures.0

pub returns-in_err-push-clause-count : goal.returns-in_err-push-clause-count
returns-in_err-push-clause-count c = none_asked c.from_residual.result _ c.from_residual.ensures.0

pub returns-in_err-push-clause-few : goal.returns-in_err-push-clause-few
returns-in_err-push-clause-few c = none_asked c.from_residual.result _ c.from_residual.ensures.0

pub loop-object-preserved : goal.loop-object-preserved
loop-object-preserved c =
    let few = c.loop-object.invariant.few in let more = c.if-more-count.false in
    record {
      so_far = counted_more c.args.objects.now c.loop-object.object-index c.object-item.result c.loop-object.count c.procedures_in-more.result _ c.loop-object-test.true c.object-item.is c.procedures_in-more.ensures c.loop-object.invariant.so_far;
      all_are = bodies_more c.args.objects.now c.loop-object.object-index c.object-item.result c.loop-object.count c.procedures_in-more.result c.loop-object.bodies.items c.push.new.self.items _ c.loop-object-test.true c.object-item.is c.procedures_in-more.ensures c.in_ok-push.ensures.items c.loop-object.invariant.all_are;
      few = omega (arith, few, more);
    }

pub returns-clause-bodies : goal.returns-clause-bodies
returns-clause-bodies c = bodies_all c.args.objects.now c.loop-object.object-index c.loop-object.count c.loop-object.bodies.items _ c.loop-object-test.false c.loop-object.invariant.all_are

pub returns-clause-count : goal.returns-clause-count
returns-clause-count c = counted_all c.args.objects.now c.loop-object.object-index c.loop-object.count _ c.loop-object-test.false c.loop-object.invariant.so_far

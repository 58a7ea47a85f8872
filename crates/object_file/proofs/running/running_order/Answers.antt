use Rattle.std.proofs.Common.{◌≡◌, [], refl, rules}
use Rattle.object_file.proofs.OnWays.{under_way, on_popped, fewer_left, arrived}
use Rattle.object_file.proofs.running.running_order.Goals as goal

pub loop-frame-init : goal.loop-frame-init
loop-frame-init c = under_way c.args.objects.now c.in_ok-walk.walk c.enter.new.self c.requires.some c.in_ok-walk.ensures.marks c.in_ok-walk.ensures.way c.in_ok-walk.ensures.order c.in_ok-enter.ensures

pub step-requires-clause-frame : goal.step-requires-clause-frame
step-requires-clause-frame c =
    (on_popped c.args.objects.now c.loop-frame.walk (record { marks = c.loop-frame.walk.marks; way = c.pop.new.self; order = c.loop-frame.walk.order }) c.in-Some.frame c.in-Some.ensures.items refl c.loop-frame.invariant.on).1

pub loop-frame-smaller : goal.loop-frame-smaller
loop-frame-smaller c =
    fewer_left c.args.objects.now c.loop-frame.walk (record { marks = c.loop-frame.walk.marks; way = c.pop.new.self; order = c.loop-frame.walk.order }) c.step.new.self c.in-Some.frame c.in-Some.ensures.items refl c.in_ok-step.ensures

pub returns : goal.returns
returns c =
    let none : c.loop-frame.walk.way.items ≡ [] = search rules in
    arrived c.args.objects.now c.loop-frame.walk c.loop-frame.invariant none

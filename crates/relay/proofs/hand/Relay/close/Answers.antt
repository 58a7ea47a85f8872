use Rattle.std.proofs.Common.{rules, ◌≡◌, ◌∙◌, ◌+◌, ◌∷◌, ℕ, ap, arith, sum_by, sym}
use Rattle.std.specs.Vec.Iter.{into_iter_items}
use Rattle.std.proofs.lemmas.List.Sorted.{All-permutation}
use Rattle.relay.specs.Places.{ComesFrom}
use Rattle.relay.specs.Hands.{jobs_of, part, Rests}
use Rattle.relay.proofs.Closed.{uncons, less, popped, in_order, are_later}
use Rattle.m2_base.proofs.Without.{none_of}
use Rattle.relay.proofs.hand.Relay.close.Goals as goal

-- where the others have nothing
alone : (a b n : ℕ) → a + b ≡ n → b ≡ 0 → a ≡ n
alone a b n e z = omega arith

pub loop-hand-init : goal.loop-hand-init
loop-hand-init g c =
    let all = c.requires.all in let free = c.requires.free in
    let p = popped (Rests g.J.Job.number g.J.Job.stays c.args.self) part c.args.hands.items c.pop.new.self.items (into_iter_items c.into_iter-hand-iterator.result) c.in-Some.whole 1024
    c.in-Some.ensures.items c.into_iter-hand-iterator.ensures.into_iter_gives.0 (λ k d l. (all.each k d l, free k d l)) all.whole in
    (tt, tt, p.0, p.1, p.2)

pub join-whole-requires : goal.join-whole-requires
join-whole-requires g c =
    let inv = c.loop-hand.invariant in
    let e : into_iter_items c.loop-hand.hand-iterator ≡ c.in-Some-hand.hand ∷ into_iter_items c.next.new.self = search rules in
    record { both = (inv.2, (uncons (Rests g.J.Job.number g.J.Job.stays c.args.self) _ c.in-Some-hand.hand _ e inv.3).0) }

pub loop-hand-preserved : goal.loop-hand-preserved
loop-hand-preserved g c =
    let inv = c.loop-hand.invariant in
    let e : into_iter_items c.loop-hand.hand-iterator ≡ c.in-Some-hand.hand ∷ into_iter_items c.next.new.self = search rules in
    let t = less part _ c.in-Some-hand.hand _ e in let s = c.join-whole.ensures.part in let b = inv.4 in
    (tt, tt, c.join-whole.ensures.hand, (uncons (Rests g.J.Job.number g.J.Job.stays c.args.self) _ c.in-Some-hand.hand _ e inv.3).1, omega arith)

pub returns-clause-numbers : goal.returns-clause-numbers
returns-clause-numbers g c = in_order g.J.Job.number _ _ _ c.by_number.ensures.permutation c.by_number.ensures.rises c.drain.ensures.once

pub returns-clause-jobs : goal.returns-clause-jobs
returns-clause-jobs g c =
    let order = in_order g.J.Job.number _ _ _ c.by_number.ensures.permutation c.by_number.ensures.rises c.drain.ensures.once in
    are_later g.J.Job.number g.J.Job.stays (jobs_of c.args.self) _ g.met.J.Job.number_stays c.requires.all.order order
    (All-permutation (ComesFrom g.J.Job.stays (jobs_of c.args.self)) _ _ c.by_number.ensures.permutation c.drain.ensures.jobs)

pub loop-hand-smaller : goal.loop-hand-smaller
loop-hand-smaller g c = (c.in-Some-hand.ensures.goes.on tt).2

pub drain-requires-clause-whole : goal.drain-requires-clause-whole
drain-requires-clause-whole g c =
    let none = none_of _ (sym c.loop-hand.hand-iterator.rest.ok.0 ∙ c.in-None.ensures.steps.0) in
    alone _ _ _ c.loop-hand.invariant.4 (ap (sum_by part) none)

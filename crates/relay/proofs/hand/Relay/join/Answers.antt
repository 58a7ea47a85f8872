use Rattle.std.proofs.Common.{◌∙◌, ◌<◌, ◌≤◌, ap, sym, refl, arith, length, rules}
use Rattle.crossbeam_queue.specs.Passes.{view}
use Rattle.relay.proofs.KeptRule.{merges, counts}
use Rattle.relay.proofs.Carrying.{joined, free, listed}
use Rattle.relay.proofs.hand.Relay.join.Goals as goal

pub absorb-requires-clause-rule : goal.absorb-requires-clause-rule
absorb-requires-clause-rule g c = merges g.J.Job.number g.J.Job.done g.J.Job.stays _ _ _ _ c.requires.both.0.0.some_part

pub learn_as-requires-clause-rule : goal.learn_as-requires-clause-rule
learn_as-requires-clause-rule g c =
    let e = ap (λ u. u.parts) c.absorb.ensures.rule in let p = c.requires.both.0.0.some_part in
    let some : 0 < (view c.absorb.new.pass).parts = omega arith in counts g.J.Job.number g.J.Job.done g.J.Job.stays _ _ some

pub returns-clause-hand : goal.returns-clause-hand
returns-clause-hand g c =
    let number = g.J.Job.number in let stays = g.J.Job.stays in let one = c.requires.both.0 in let other = c.requires.both.1 in
    let w = view c.learn_as.new.pass in let same = c.learn_as.ensures.queue.1 in let is = same ∙ c.absorb.ensures.rule in
    let low : length w.out ≤ length w.jobs =
    (let f = c.learn_as.ensures.rule.1 in let a = ap (λ z. length z.out) same in let b = ap (λ z. length z.jobs) same in omega arith) in
    let j = joined number stays _ _ w _ _ _ _ (free number stays _ _ _ _ one.1 one.0.carries) (free number stays _ _ _ _ other.1 other.0.carries)
    (other.0.jobs ∙ sym one.0.jobs) is low in
    let parts = ap (λ u. u.parts) is in let some = one.0.some_part in (
      record {
        pass = search rules;
        some_part = omega arith;
        jobs = ap (λ u. u.jobs) is ∙ one.0.jobs;
        carries = listed number stays _ _ _ _ _ _ c.push_all-kept.ensures.items c.push_all-kept.ensures.room j.1;
      },
      refl,
    )

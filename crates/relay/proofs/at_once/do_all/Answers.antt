use Rattle.std.proofs.Common.{◌∙◌, ◌≡◌, true, All, length, sym, ap, subst, map}
use Rattle.relay.specs.Hands.{AreLater}
use Rattle.relay.proofs.Ended.{later_on, later_numbers, written}
use Rattle.relay.proofs.at_once.do_all.Goals as goal

pub returns-clause-numbers : goal.returns-clause-numbers
returns-clause-numbers g c =
    let laws = g.met.J.Job g.world.𝓛 g.world.𝓜 g.world.𝓡 ((λ s x. x), (λ x. x), (λ x. x), λ x. x) in
    let later = subst (λ jobs. AreLater g.J.Job.stays jobs c.finish.new.jobs) c.as_mut_slice.ensures.value c.finish.ensures.later in
    let same = written c.finish.new.jobs c.in_ok-left.left.items _ (c.in_ok-left.left.ok.0 ∙ sym later.many) in
    ap (map g.J.Job.number) same ∙ later_numbers g.J.Job.stays g.J.Job.number laws.number_stays _ _ later ∙ c.in_ok-left.ensures.numbers

pub returns-clause-jobs : goal.returns-clause-jobs
returns-clause-jobs g c =
    let laws = g.met.J.Job g.world.𝓛 g.world.𝓜 g.world.𝓡 ((λ s x. x), (λ x. x), (λ x. x), λ x. x) in
    let later = subst (λ jobs. AreLater g.J.Job.stays jobs c.finish.new.jobs) c.as_mut_slice.ensures.value c.finish.ensures.later in
    let same = written c.finish.new.jobs c.in_ok-left.left.items _ (c.in_ok-left.left.ok.0 ∙ sym later.many) in
    subst (AreLater g.J.Job.stays c.args.jobs.items) (sym same)
    (later_on g.J.Job.stays laws.stays_as_it_is laws.stays_on _ _ _ c.in_ok-left.ensures.jobs later)

pub returns-clause-ready : goal.returns-clause-ready
returns-clause-ready g c =
    let same = written c.finish.new.jobs c.in_ok-left.left.items _
    (c.in_ok-left.left.ok.0 ∙ ap length (sym c.as_mut_slice.ensures.value) ∙ sym c.finish.ensures.later.many) in
    subst (λ jobs. All (g.T.Turns.ready c.args.turns.now) jobs) (sym same) c.in_ok-finish.ensures.ready

pub returns-clause-done : goal.returns-clause-done
returns-clause-done g c =
    let same = written c.finish.new.jobs c.in_ok-left.left.items _
    (c.in_ok-left.left.ok.0 ∙ ap length (sym c.as_mut_slice.ensures.value) ∙ sym c.finish.ensures.later.many) in
    subst (λ jobs. All (λ job. g.J.Job.done job ≡ true) jobs) (sym same) c.in_ok-finish.ensures.done

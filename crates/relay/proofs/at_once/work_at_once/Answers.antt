use Rattle.std.proofs.Common.{◌∙◌, ◌≡◌, ◌++◌, ℕ, List, None, All, ap, drop, length, subst, sym, take}
use Rattle.relay.specs.Hands.{AllHands, AreLater, held}
use Rattle.relay.proofs.Ended.{later_all, written}
use Rattle.m2_base.proofs.Without.{if_ok_of_err}
use Rattle.relay.proofs.at_once.work_at_once.Goals as goal

-- what the hands have become as a slice, once they are a list again
hands_back : {A : Type 0} (now was slice : List A) (n : ℕ) → n ≡ length was → slice ≡ was → length now ≡ length slice
    → take n (now ++ drop (length now) was) ≡ now
hands_back now was slice n e s l = written now was n (e ∙ ap length (sym s) ∙ sym l)

pub returns-in_err-relay-clause-numbers : goal.returns-in_err-relay-clause-numbers
returns-in_err-relay-clause-numbers g c = if_ok_of_err _ c.from_residual.result c.from_residual.ensures.0

pub returns-in_err-relay-clause-jobs : goal.returns-in_err-relay-clause-jobs
returns-in_err-relay-clause-jobs g c = if_ok_of_err _ c.from_residual.result c.from_residual.ensures.0

pub returns-in_err-relay-clause-fits : goal.returns-in_err-relay-clause-fits
returns-in_err-relay-clause-fits g c = if_ok_of_err _ c.from_residual.result c.from_residual.ensures.0

pub work_all-requires-clause-all : goal.work_all-requires-clause-all
work_all-requires-clause-all g c κs within =
    subst (AllHands g.J.Job.number g.J.Job.stays c.in_ok-relay.relay) (sym c.as_mut_slice.ensures.value) c.in_ok-relay.ensures.hands.0

pub close-requires-clause-all : goal.close-requires-clause-all
close-requires-clause-all g c =
    subst (AllHands g.J.Job.number g.J.Job.stays c.in_ok-relay.relay) (sym (hands_back _ _ _ _ c.in_ok-relay.hands.ok.0 c.as_mut_slice.ensures.value c.work_all.auto.hands)) c.work_all.ensures.all

pub close-requires-clause-free : goal.close-requires-clause-free
close-requires-clause-free g c =
    subst (λ hands. All (λ hand. held hand ≡ None) hands) (sym (hands_back _ _ _ _ c.in_ok-relay.hands.ok.0 c.as_mut_slice.ensures.value c.work_all.auto.hands)) c.work_all.ensures.free

pub returns-clause-jobs : goal.returns-clause-jobs
returns-clause-jobs g c = subst (λ jobs. AreLater g.J.Job.stays jobs c.close.result.items) c.in_ok-relay.ensures.jobs c.close.ensures.jobs

pub returns-clause-fits : goal.returns-clause-fits
returns-clause-fits g c =
    let laws = g.met.T.Turns g.world.𝓛 g.world.𝓜 g.world.𝓡 ((λ s x. x), (λ x. x), (λ x. x), λ x. x) in
    let later = subst (λ jobs. AreLater g.J.Job.stays jobs c.close.result.items) c.in_ok-relay.ensures.jobs c.close.ensures.jobs in
    later_all g.J.Job.stays (g.T.Turns.fits c.args.turns.now) (laws.fits_on c.args.turns.now) _ _ later c.requires.fits

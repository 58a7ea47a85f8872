use Rattle.std.proofs.Common.{◌≡◌, ◌<◌, ℕ, subst, sym}
use Rattle.std.proofs.lemmas.Result.{on_ok_weaker}
use Rattle.relay.proofs.Ended.{later_all, later_on, later_set, over_more}
use Rattle.relay.proofs.finishing.end_at.Goals as goal

-- a place of a list is one of a list that is as long
within : (k m n : ℕ) → k < m → n ≡ m → k < n
within k m n l e = subst (λ many. k < many) (sym e) l

pub tell_at-requires-clause-there : goal.tell_at-requires-clause-there
tell_at-requires-clause-there g c = c.requires.there

pub end-requires-clause-fits : goal.end-requires-clause-fits
end-requires-clause-fits g c =
    let later = c.tell_at.ensures.later in
    later_all g.J.Job.stays (g.T.Turns.fits c.args.turns.now) (g.met.T.Turns.fits_on c.args.turns.now) _ _ later c.requires.fits
    c.args.place c.index-jobs-place.result (within _ _ _ c.requires.there later.many)

pub returns-clause-later : goal.returns-clause-later
returns-clause-later g c =
    let stays = g.J.Job.stays in let same = g.met.J.Job.stays_as_it_is in let on = g.met.J.Job.stays_on in let later = c.tell_at.ensures.later in
    later_on stays same on _ _ _ later
    (later_set stays same on c.tell_at.new.jobs c.args.place c.end.new.job c.index-jobs-place.result (within _ _ _ c.requires.there later.many)
    c.end.ensures.later)

pub returns-clause-over : goal.returns-clause-over
returns-clause-over g c =
    on_ok_weaker c.end.result
    (over_more g.J.Job.stays (g.T.Turns.ready c.args.turns.now) g.J.Job.done (g.met.T.Turns.ready_on c.args.turns.now) c.tell_at.new.jobs c.args.place
    c.end.new.job c.index-jobs-place.result (within _ _ _ c.requires.there c.tell_at.ensures.later.many) (c.tell_at.ensures.ready c.index-jobs-place.result)
    c.end.ensures.later c.tell_at.ensures.before) c.end.ensures.done

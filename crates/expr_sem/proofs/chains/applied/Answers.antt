use Rattle.expr_sem.proofs.Sequencing.{behind_both, in_later}
use Rattle.expr_sem.proofs.chains.applied.Goals as goal

pub after_both-requires-clause-x : goal.after_both-requires-clause-x
after_both-requires-clause-x c = in_later c.in_ok-last.ensures.made.grows c.args.x c.requires.x

pub after_both-requires-clause-y : goal.after_both-requires-clause-y
after_both-requires-clause-y c = in_later c.in_ok-last.ensures.made.grows c.args.y c.requires.y

pub after_both-requires-clause-last : goal.after_both-requires-clause-last
after_both-requires-clause-last c = c.in_ok-last.ensures.made.made.there

pub returns : goal.returns
returns c = behind_both c.after_both.result c.args.x c.args.y c.requires.x c.requires.y c.in_ok-last.ensures.made c.after_both.ensures

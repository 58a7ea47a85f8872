use Rattle.decl_sem.proofs.subranges.verdict_on.Goals as goal

pub returns-in-Known-clause-there : goal.returns-in-Known-clause-there
returns-in-Known-clause-there g c = c.judge.ensures.there (g.S.Scopes.state c.args.scopes.now).frame (rw c.in-Chosen.is at c.requires.choice)

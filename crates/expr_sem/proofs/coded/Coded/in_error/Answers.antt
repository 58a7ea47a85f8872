use Rattle.expr_sem.proofs.coded.Coded.in_error.Goals as goal

pub returns-clause-there : goal.returns-clause-there
returns-clause-there c = λ f nodes. c.bare.ensures.there f nodes tt

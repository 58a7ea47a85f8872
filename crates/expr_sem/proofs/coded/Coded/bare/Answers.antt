use Rattle.expr_sem.proofs.coded.Coded.bare.Goals as goal

pub returns-clause-there : goal.returns-clause-there
returns-clause-there c = λ f nodes h. c.new.ensures.there f nodes h tt

use Rattle.expr_sem.proofs.values.is_structured.Goals as goal

pub stand-requires-clause-suits : goal.stand-requires-clause-suits
stand-requires-clause-suits g c = c.requires.suits

pub stand-requires-clause-there : goal.stand-requires-clause-there
stand-requires-clause-there g c = c.requires.of

pub returns-in-DontKnowYet-clause-reads : goal.returns-in-DontKnowYet-clause-reads
returns-in-DontKnowYet-clause-reads g c = c.in-DontKnowYet.ensures.reads

pub returns-in-DontKnowYet-clause-waits : goal.returns-in-DontKnowYet-clause-waits
returns-in-DontKnowYet-clause-waits g c = c.in-DontKnowYet.ensures.waits

pub returns-in-DontKnowYet-clause-told : goal.returns-in-DontKnowYet-clause-told
returns-in-DontKnowYet-clause-told g c made in_hand told = tt

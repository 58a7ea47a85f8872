use Rattle.type_rules.proofs.Later.{IsThere_read, Suits_read, Waits_asked}
use Rattle.type_rules.proofs.Reading.{Reads-trans}
use Rattle.type_rules.proofs.assigning.takes_text.Goals as goal

pub array_takes-requires-clause-suits : goal.array_takes-requires-clause-suits
array_takes-requires-clause-suits g c = Suits_read c.in-Known.ensures.reads c.requires.suits

pub array_takes-requires-clause-to : goal.array_takes-requires-clause-to
array_takes-requires-clause-to g c = IsThere_read c.in-Known.ensures.reads c.requires.to

pub returns-clause-reads : goal.returns-clause-reads
returns-clause-reads g c = Reads-trans c.in-Known.ensures.reads c.array_takes.ensures.reads

pub returns-clause-waits : goal.returns-clause-waits
returns-clause-waits g c = Waits_asked c.array_takes.result (g.S.Scopes.state c.array_takes.new.scopes) c.in-Known.ensures.reads c.array_takes.ensures.waits

use Rattle.type_rules.proofs.Later.{IsThere_read, Suits_read, Waits_asked}
use Rattle.type_rules.proofs.Reading.{Reads-trans}
use Rattle.type_rules.proofs.assigning.assignable.Goals as goal

pub takes-requires-clause-suits : goal.takes-requires-clause-suits
takes-requires-clause-suits g c = Suits_read c.in-Known.ensures.reads c.requires.suits

pub takes-requires-clause-to : goal.takes-requires-clause-to
takes-requires-clause-to g c = IsThere_read c.in-Known.ensures.reads c.requires.to

pub returns-clause-reads : goal.returns-clause-reads
returns-clause-reads g c = Reads-trans c.in-Known.ensures.reads c.takes.ensures.reads

pub returns-clause-waits : goal.returns-clause-waits
returns-clause-waits g c = Waits_asked c.takes.result (g.S.Scopes.state c.takes.new.scopes) c.in-Known.ensures.reads c.takes.ensures.waits

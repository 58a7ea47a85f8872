use Rattle.type_rules.proofs.Later.{Suits_read, Waits_asked}
use Rattle.type_rules.proofs.Reading.{Reads-trans}
use Rattle.decl_sem.proofs.targets.aliased.Goals as goal

pub follow-requires-clause-suits : goal.follow-requires-clause-suits
follow-requires-clause-suits g c = Suits_read c.in-Known.ensures.reads c.requires.suits.around

pub returns-clause-reads : goal.returns-clause-reads
returns-clause-reads g c = Reads-trans c.in-Known.ensures.reads c.follow.ensures.reads

pub returns-clause-waits : goal.returns-clause-waits
returns-clause-waits g c = Waits_asked c.follow.result (g.S.Scopes.state c.follow.new.scopes) c.in-Known.ensures.reads c.follow.ensures.waits

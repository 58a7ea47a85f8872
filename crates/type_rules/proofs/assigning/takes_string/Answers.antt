use Rattle.type_rules.proofs.Later.{IsThere_read, Suits_read}
use Rattle.type_rules.proofs.Reading.{Reads-trans, Waits_read}
use Rattle.type_rules.proofs.assigning.takes_string.Goals as goal

pub range_of-requires-clause-suits : goal.range_of-requires-clause-suits
range_of-requires-clause-suits g c = Suits_read c.in-Known.ensures.reads c.requires.suits

pub range_of-requires-clause-there : goal.range_of-requires-clause-there
range_of-requires-clause-there g c = IsThere_read c.in-Known.ensures.reads c.requires.index

pub returns-in-DontKnowYet-range_of-clause-reads : goal.returns-in-DontKnowYet-range_of-clause-reads
returns-in-DontKnowYet-range_of-clause-reads g c = Reads-trans c.in-Known.ensures.reads c.in-DontKnowYet-range_of.ensures.reads

pub returns-in-DontKnowYet-range_of-clause-waits : goal.returns-in-DontKnowYet-range_of-clause-waits
returns-in-DontKnowYet-range_of-clause-waits g c = Waits_read c.in-Known.ensures.reads c.in-DontKnowYet-range_of.ensures.waits

pub returns-clause-reads : goal.returns-clause-reads
returns-clause-reads g c = Reads-trans c.in-Known.ensures.reads c.in-Known-range_of.ensures.reads

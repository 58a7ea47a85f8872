use Rattle.std.proofs.Common.{refl}
use Rattle.type_rules.proofs.Reading.{Reads-refl}
use Rattle.type_rules.proofs.forms.compare.Goals as goal

pub same_parameter-requires : goal.same_parameter-requires
same_parameter-requires g c = record { suits = c.requires.suits; x = c.requires.first; y = c.requires.second }

pub returns-in-DontKnowYet : goal.returns-in-DontKnowYet
returns-in-DontKnowYet g c =
    record {
      reads = c.in-DontKnowYet.ensures.reads;
      waits = c.in-DontKnowYet.ensures.waits;
      told = λ made in_hand told x y. tt;
      next = tt;
    }

pub returns-then-first-second-clause-reads : goal.returns-then-first-second-clause-reads
returns-then-first-second-clause-reads g c = Reads-refl _

pub returns-then-first-second-clause-waits : goal.returns-then-first-second-clause-waits
returns-then-first-second-clause-waits g c = tt

pub returns-then-first-second-clause-next : goal.returns-then-first-second-clause-next
returns-then-first-second-clause-next g c = tt

pub returns-then-value-clause-reads : goal.returns-then-value-clause-reads
returns-then-value-clause-reads g c = c.in-Known.ensures.reads

pub returns-then-value-clause-waits : goal.returns-then-value-clause-waits
returns-then-value-clause-waits g c = tt

pub returns-then-value-clause-next : goal.returns-then-value-clause-next
returns-then-value-clause-next g c = refl

pub returns-else-value-clause-reads : goal.returns-else-value-clause-reads
returns-else-value-clause-reads g c = c.in-Known.ensures.reads

pub returns-else-value-clause-waits : goal.returns-else-value-clause-waits
returns-else-value-clause-waits g c = tt

pub returns-else-value-clause-next : goal.returns-else-value-clause-next
returns-else-value-clause-next g c = tt

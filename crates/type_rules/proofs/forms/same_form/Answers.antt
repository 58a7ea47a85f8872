use Rattle.type_rules.proofs.Later.{Suits_read, Waits_asked}
use Rattle.type_rules.proofs.Reading.{Reads-trans}
use Rattle.type_rules.proofs.forms.same_form.Goals as goal

pub same_result-requires-clause-suits : goal.same_result-requires-clause-suits
same_result-requires-clause-suits g c = Suits_read c.in-Known.ensures.reads c.requires.suits

pub returns-clause-reads : goal.returns-clause-reads
returns-clause-reads g c = Reads-trans c.in-Known.ensures.reads c.same_result.ensures.reads

pub returns-clause-waits : goal.returns-clause-waits
returns-clause-waits g c = Waits_asked c.same_result.result (g.S.Scopes.state c.same_result.new.scopes) c.in-Known.ensures.reads c.same_result.ensures.waits

pub same_parameters-requires : goal.same_parameters-requires
same_parameters-requires g c = record { suits = c.requires.suits; x = c.requires.x; y = c.requires.y }

pub returns-in-DontKnowYet : goal.returns-in-DontKnowYet
returns-in-DontKnowYet g c =
    record {
      reads = c.in-DontKnowYet.ensures.reads;
      waits = c.in-DontKnowYet.ensures.waits;
      told = λ made in_hand told. tt;
    }

pub returns-then-not-value-clause-reads : goal.returns-then-not-value-clause-reads
returns-then-not-value-clause-reads g c = c.in-Known.ensures.reads

pub returns-then-not-value-clause-waits : goal.returns-then-not-value-clause-waits
returns-then-not-value-clause-waits g c = tt

use Rattle.std.proofs.Common.{◌∙◌, ap}
use Rattle.m2_base.specs.Rows.{is_same_place}
use Rattle.m2_base.specs.declared.rows.Place.{Place}
use Rattle.expr_sem.proofs.step_numbers.has_base.Goals as goal

pub base_of-requires-clause-suits : goal.base_of-requires-clause-suits
base_of-requires-clause-suits g c = c.requires.suits

pub base_of-requires-clause-there : goal.base_of-requires-clause-there
base_of-requires-clause-there g c = c.requires.of

pub returns-in-DontKnowYet-clause-reads : goal.returns-in-DontKnowYet-clause-reads
returns-in-DontKnowYet-clause-reads g c = c.in-DontKnowYet.ensures.reads

pub returns-in-DontKnowYet-clause-waits : goal.returns-in-DontKnowYet-clause-waits
returns-in-DontKnowYet-clause-waits g c = c.in-DontKnowYet.ensures.waits

pub returns-in-DontKnowYet-clause-told : goal.returns-in-DontKnowYet-clause-told
returns-in-DontKnowYet-clause-told g c made in_hand told = tt

pub returns-clause-reads : goal.returns-clause-reads
returns-clause-reads g c = c.in-Known.ensures.reads

pub returns-clause-waits : goal.returns-clause-waits
returns-clause-waits g c = tt

pub returns-clause-told : goal.returns-clause-told
returns-clause-told g c made in_hand told = c.eq.ensures ∙ ap (λ (t : Place). is_same_place t c.args.want) (c.in-Known.ensures.told made in_hand told)

use Rattle.std.proofs.Common.{refl}
use Rattle.m2_base.proofs.Kept.{IsPrefixOf-refl}
use Rattle.const_eval.proofs.noting.note.Goals as goal

pub refuse-requires : goal.refuse-requires
refuse-requires c = tt

pub returns-in-DontKnowYet-clause-answers : goal.returns-in-DontKnowYet-clause-answers
returns-in-DontKnowYet-clause-answers c = refl

pub returns-in-DontKnowYet-clause-diags : goal.returns-in-DontKnowYet-clause-diags
returns-in-DontKnowYet-clause-diags c = IsPrefixOf-refl _

pub returns-in-DontKnowYet-clause-waits : goal.returns-in-DontKnowYet-clause-waits
returns-in-DontKnowYet-clause-waits c = c.in-DontKnowYet.is

pub returns-in-DontKnowYet-clause-there : goal.returns-in-DontKnowYet-clause-there
returns-in-DontKnowYet-clause-there c f stands = tt

pub returns-in-DontKnowYet-clause-told : goal.returns-in-DontKnowYet-clause-told
returns-in-DontKnowYet-clause-told c k given text same = tt

pub returns-in-Known-Ok-clause-answers : goal.returns-in-Known-Ok-clause-answers
returns-in-Known-Ok-clause-answers c = refl

pub returns-in-Known-Ok-clause-diags : goal.returns-in-Known-Ok-clause-diags
returns-in-Known-Ok-clause-diags c = IsPrefixOf-refl _

pub returns-in-Known-Ok-clause-waits : goal.returns-in-Known-Ok-clause-waits
returns-in-Known-Ok-clause-waits c = tt

pub returns-in-Err-clause-waits : goal.returns-in-Err-clause-waits
returns-in-Err-clause-waits c = tt

pub returns-in-Err-clause-there : goal.returns-in-Err-clause-there
returns-in-Err-clause-there c f stands = tt

pub returns-in-Err-clause-told : goal.returns-in-Err-clause-told
returns-in-Err-clause-told c k given text same = tt

pub returns-in-Ok-clause-waits : goal.returns-in-Ok-clause-waits
returns-in-Ok-clause-waits c = tt

pub returns-in-Ok-clause-there : goal.returns-in-Ok-clause-there
returns-in-Ok-clause-there c f stands = tt

pub returns-in-Err-clause-answers : goal.returns-in-Err-clause-answers
returns-in-Err-clause-answers c = c.in-Err.ensures.answers

pub returns-in-Ok-clause-answers : goal.returns-in-Ok-clause-answers
returns-in-Ok-clause-answers c = c.in-Ok.ensures.answers

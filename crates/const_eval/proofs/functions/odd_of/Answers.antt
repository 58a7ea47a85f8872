use Rattle.std.proofs.Common.{◌∙◌, ap}
use Rattle.m2_base.specs.Gives.{and_then, gives}
use Rattle.m2_base.specs.Statics.Functions.{oddness}
use Rattle.const_eval.proofs.Judging.{after_ok}
use Rattle.const_eval.proofs.TypesThere.{standard_there}
use Rattle.const_eval.proofs.functions.odd_of.Goals as goal

pub returns-in-Ok-clause-told : goal.returns-in-Ok-clause-told
returns-in-Ok-clause-told g c made in_hand told =
    ap (λ o. gives o) c.oddness.ensures.told
    ∙ after_ok _ c.in-Ok.x (λ v. gives (oddness v)) ((rw c.in-Ok.is at c.in-Known.ensures.told) made in_hand told)

pub returns-in-Err-clause-told : goal.returns-in-Err-clause-told
returns-in-Err-clause-told g c made in_hand told = ap (λ t. and_then t (λ v. gives (oddness v))) ((rw c.in-Err.is at c.in-Known.ensures.told) made in_hand told)

pub number_argument-requires : goal.number_argument-requires
number_argument-requires g c = record { suits = c.requires.suits; x = c.requires.x }

pub oddness-requires : goal.oddness-requires
oddness-requires g c = tt

pub returns-in-DontKnowYet : goal.returns-in-DontKnowYet
returns-in-DontKnowYet g c =
    record {
      reads = c.in-DontKnowYet.ensures.reads;
      waits = c.in-DontKnowYet.ensures.waits;
      told = λ made in_hand told. tt;
      there = tt;
    }

pub returns-in-Err-clause-reads : goal.returns-in-Err-clause-reads
returns-in-Err-clause-reads g c = c.in-Known.ensures.reads

pub returns-in-Err-clause-there : goal.returns-in-Err-clause-there
returns-in-Err-clause-there g c = tt

pub returns-in-Err-clause-waits : goal.returns-in-Err-clause-waits
returns-in-Err-clause-waits g c = tt

pub returns-in-Ok-clause-reads : goal.returns-in-Ok-clause-reads
returns-in-Ok-clause-reads g c = c.in-Known.ensures.reads

pub returns-in-Ok-clause-waits : goal.returns-in-Ok-clause-waits
returns-in-Ok-clause-waits g c = tt

pub returns-in-Ok-clause-there : goal.returns-in-Ok-clause-there
returns-in-Ok-clause-there g c = c.oddness.ensures.there (g.S.Scopes.state c.args.scopes.now).frame (standard_there c.requires.suits.around 3)

use Rattle.std.proofs.Common.{ap}
use Rattle.m2_base.specs.Gives.{and_then}
use Rattle.m2_base.specs.Standard.{character}
use Rattle.m2_base.specs.Statics.Functions.{converted}
use Rattle.type_rules.specs.Sites.{context_of}
use Rattle.type_rules.proofs.Later.{Waits_asked, IsThere_read}
use Rattle.type_rules.proofs.Reading.{Reads-trans}
use Rattle.const_eval.proofs.Judging.{after_ok, judged_as}
use Rattle.const_eval.proofs.Later.{IsOperand_given, SuitsSite_read, IsOperand_read}
use Rattle.const_eval.proofs.TypesThere.{standard_there}
use Rattle.const_eval.proofs.functions.chr_of.Goals as goal

pub converted-requires-clause-suits : goal.converted-requires-clause-suits
converted-requires-clause-suits g c = SuitsSite_read c.in-Known.ensures.reads c.requires.suits

pub returns-in-Ok-clause-reads : goal.returns-in-Ok-clause-reads
returns-in-Ok-clause-reads g c = Reads-trans c.in-Known.ensures.reads c.converted.ensures.reads

pub returns-in-Ok-clause-waits : goal.returns-in-Ok-clause-waits
returns-in-Ok-clause-waits g c = Waits_asked c.converted.result (g.S.Scopes.state c.converted.new.scopes) c.in-Known.ensures.reads c.converted.ensures.waits

pub returns-in-Ok-clause-there : goal.returns-in-Ok-clause-there
returns-in-Ok-clause-there g c = IsOperand_given c.converted.result c.in-Known.ensures.reads c.converted.ensures.there

pub returns-in-Ok-clause-told : goal.returns-in-Ok-clause-told
returns-in-Ok-clause-told g c made in_hand told =
    let f = (g.S.Scopes.state c.args.scopes.now).frame in
    let s = c.args.site.now in
    judged_as c.converted.result f _ s (λ h rows. converted (context_of h rows s) c.args.at character c.in-Ok.x) made _
    c.in-Known.ensures.reads.keeps.frame c.converted.ensures.told
    (after_ok _ c.in-Ok.x (λ v. converted (context_of f made s) c.args.at character v) ((rw c.in-Ok.is at c.in-Known.ensures.told) made in_hand told)) in_hand told

pub returns-in-Err-clause-told : goal.returns-in-Err-clause-told
returns-in-Err-clause-told g c made in_hand told =
    let now = context_of (g.S.Scopes.state c.args.scopes.now).frame made c.args.site.now in
    ap (λ t. and_then t (λ v. converted now c.args.at character v)) ((rw c.in-Err.is at c.in-Known.ensures.told) made in_hand told)

pub converted-requires-clause-of : goal.converted-requires-clause-of
converted-requires-clause-of g c = IsThere_read c.in-Known.ensures.reads (standard_there c.requires.suits.around 2)

pub converted-requires-clause-x : goal.converted-requires-clause-x
converted-requires-clause-x g c = IsOperand_read c.in-Ok.x c.in-Known.ensures.reads (rw c.in-Ok.is at c.in-Known.ensures.there)

pub number_argument-requires : goal.number_argument-requires
number_argument-requires g c = record { suits = c.requires.suits; x = c.requires.x }

pub returns-in-DontKnowYet : goal.returns-in-DontKnowYet
returns-in-DontKnowYet g c =
    record {
      reads = c.in-DontKnowYet.ensures.reads;
      waits = c.in-DontKnowYet.ensures.waits;
      told = λ made in_hand told. tt;
      there = tt;
    }

pub returns-in-Err-clause-reads : goal.returns-in-Err-clause-reads
returns-in-Err-clause-reads g c = c.in-Known.ensures.reads

pub returns-in-Err-clause-there : goal.returns-in-Err-clause-there
returns-in-Err-clause-there g c = tt

pub returns-in-Err-clause-waits : goal.returns-in-Err-clause-waits
returns-in-Err-clause-waits g c = tt

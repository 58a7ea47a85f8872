use Rattle.std.proofs.Common.{ap}
use Rattle.m2_base.specs.Gives.{and_then}
use Rattle.m2_base.specs.Standard.{cardinal}
use Rattle.m2_base.specs.Statics.Functions.{converted}
use Rattle.type_rules.specs.Sites.{context_of}
use Rattle.type_rules.proofs.Later.{Waits_asked, IsThere_read}
use Rattle.type_rules.proofs.Reading.{Reads-trans}
use Rattle.const_eval.proofs.Judging.{after_ok, judged_as}
use Rattle.const_eval.proofs.Later.{IsOperand_given, SuitsSite_read, IsOperand_read}
use Rattle.const_eval.proofs.TypesThere.{standard_there}
use Rattle.const_eval.proofs.functions.ord_of.Goals as goal

pub converted-requires-clause-suits : goal.converted-requires-clause-suits
converted-requires-clause-suits g c = SuitsSite_read c.in-Known.ensures.reads c.requires.suits

pub returns-in-Ok-clause-reads : goal.returns-in-Ok-clause-reads
returns-in-Ok-clause-reads g c = Reads-trans c.in-Known.ensures.reads c.converted.ensures.reads

pub returns-in-Ok-clause-waits : goal.returns-in-Ok-clause-waits
returns-in-Ok-clause-waits g c = Waits_asked c.converted.result (g.S.Scopes.state c.converted.new.scopes) c.in-Known.ensures.reads c.converted.ensures.waits

pub returns-in-Ok-clause-there : goal.returns-in-Ok-clause-there
returns-in-Ok-clause-there g c = IsOperand_given c.converted.result c.in-Known.ensures.reads c.converted.ensures.there

pub returns-in-Ok-clause-told : goal.returns-in-Ok-clause-told
returns-in-Ok-clause-told g c made in_hand told =
    let f = (g.S.Scopes.state c.args.scopes.now).frame in
    let s = c.args.site.now in
    judged_as c.converted.result f _ s (λ h rows. converted (context_of h rows s) c.args.at cardinal c.in-Ok.x) made _
    c.in-Known.ensures.reads.keeps.frame c.converted.ensures.told
    (after_ok _ c.in-Ok.x (λ v. converted (context_of f made s) c.args.at cardinal v) ((rw c.in-Ok.is at c.in-Known.ensures.told) made in_hand told)) in_hand told

pub ordinal_argument-requires : goal.ordinal_argument-requires
ordinal_argument-requires g c = record { suits = c.requires.suits; x = c.requires.x }

pub returns-in-DontKnowYet : goal.returns-in-DontKnowYet
returns-in-DontKnowYet g c =
    record {
      reads = c.in-DontKnowYet.ensures.reads;
      waits = c.in-DontKnowYet.ensures.waits;
      told = λ made in_hand told. tt;
      there = tt;
    }

pub returns-in-Err : goal.returns-in-Err
returns-in-Err g c =
    record {
      reads = c.in-Known.ensures.reads;
      waits = tt;
      told = λ made in_hand told. (let now = context_of (g.S.Scopes.state c.args.scopes.now).frame made c.args.site.now in
          ap (λ t. and_then t (λ v. converted now c.args.at cardinal v)) ((rw c.in-Err.is at c.in-Known.ensures.told) made in_hand told));
      there = tt;
    }

pub converted-requires-clause-of : goal.converted-requires-clause-of
converted-requires-clause-of g c = IsThere_read c.in-Known.ensures.reads (standard_there c.requires.suits.around 1)

pub converted-requires-clause-x : goal.converted-requires-clause-x
converted-requires-clause-x g c = IsOperand_read c.in-Ok.x c.in-Known.ensures.reads (rw c.in-Ok.is at c.in-Known.ensures.there)

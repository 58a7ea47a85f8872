use Rattle.std.proofs.Common.{◌∙◌, false, true, ap, sym}
use Rattle.m2_base.specs.Gives.{and_then}
use Rattle.m2_base.specs.Statics.Functions.{converted, val_as}
use Rattle.m2_base.specs.Statics.Types.{is_broken}
use Rattle.type_rules.specs.Sites.{context_of}
use Rattle.type_rules.proofs.Later.{IsThere_read, Suits_read, Waits_asked}
use Rattle.type_rules.proofs.Reading.{Reads-trans, Waits_read}
use Rattle.const_eval.proofs.FunctionArguments.{val_by}
use Rattle.const_eval.proofs.Judging.{after_ok, judged_as, told_first}
use Rattle.const_eval.proofs.Later.{IsOperand_given, IsOperand_read, SuitsSite_read}
use Rattle.const_eval.proofs.TypeArguments.{val_refused}
use Rattle.const_eval.proofs.functions.val_of.Goals as goal

pub is_broken-requires-clause-suits : goal.is_broken-requires-clause-suits
is_broken-requires-clause-suits g c = Suits_read c.in-Known.ensures.reads c.requires.suits.around

pub is_broken-requires-clause-there : goal.is_broken-requires-clause-there
is_broken-requires-clause-there g c = IsThere_read c.in-Known.ensures.reads c.requires.of

pub returns-in-DontKnowYet-is_broken-clause-reads : goal.returns-in-DontKnowYet-is_broken-clause-reads
returns-in-DontKnowYet-is_broken-clause-reads g c = Reads-trans c.in-Known.ensures.reads c.in-DontKnowYet-is_broken.ensures.reads

pub returns-in-DontKnowYet-is_broken-clause-waits : goal.returns-in-DontKnowYet-is_broken-clause-waits
returns-in-DontKnowYet-is_broken-clause-waits g c = Waits_read c.in-Known.ensures.reads c.in-DontKnowYet-is_broken.ensures.waits

pub returns-then-value-clause-reads : goal.returns-then-value-clause-reads
returns-then-value-clause-reads g c = Reads-trans c.in-Known.ensures.reads c.in-Known-is_broken.ensures.reads

pub returns-then-value-clause-told : goal.returns-then-value-clause-told
returns-then-value-clause-told g c made in_hand told =
    let f = (g.S.Scopes.state c.args.scopes.now).frame in
    let s = c.args.site.now in
    let now = context_of f made s in
    let bad = told_first _ f _ (λ h rows. is_broken (context_of h rows s).scene c.args.of) c.in-Known.ensures.reads.keeps.frame c.in-Known-is_broken.ensures.told made in_hand told in
    val_by now c.args.at c.args.of c.in-Ok.x true (sym c.if-value.true ∙ bad)
    ∙ after_ok _ c.in-Ok.x (λ v. val_as now c.args.at c.args.of v) ((rw c.in-Ok.is at c.in-Known.ensures.told) made in_hand told)

pub converted-requires-clause-suits : goal.converted-requires-clause-suits
converted-requires-clause-suits g c = SuitsSite_read c.in-Known-is_broken.ensures.reads (SuitsSite_read c.in-Known.ensures.reads c.requires.suits)

pub converted-requires-clause-of : goal.converted-requires-clause-of
converted-requires-clause-of g c = IsThere_read c.in-Known-is_broken.ensures.reads (IsThere_read c.in-Known.ensures.reads c.requires.of)

pub converted-requires-clause-x : goal.converted-requires-clause-x
converted-requires-clause-x g c =
    IsOperand_read c.in-Ok.x c.in-Known-is_broken.ensures.reads (IsOperand_read c.in-Ok.x c.in-Known.ensures.reads (rw c.in-Ok.is at c.in-Known.ensures.there))

pub returns-clause-reads : goal.returns-clause-reads
returns-clause-reads g c = Reads-trans (Reads-trans c.in-Known.ensures.reads c.in-Known-is_broken.ensures.reads) c.converted.ensures.reads

pub returns-clause-waits : goal.returns-clause-waits
returns-clause-waits g c =
    Waits_asked c.converted.result (g.S.Scopes.state c.converted.new.scopes) (Reads-trans c.in-Known.ensures.reads c.in-Known-is_broken.ensures.reads) c.converted.ensures.waits

pub returns-clause-there : goal.returns-clause-there
returns-clause-there g c = IsOperand_given c.converted.result (Reads-trans c.in-Known.ensures.reads c.in-Known-is_broken.ensures.reads) c.converted.ensures.there

pub returns-clause-told : goal.returns-clause-told
returns-clause-told g c made in_hand told =
    let f = (g.S.Scopes.state c.args.scopes.now).frame in
    let s = c.args.site.now in
    let now = context_of f made s in
    let both = Reads-trans c.in-Known.ensures.reads c.in-Known-is_broken.ensures.reads in
    let bad = told_first _ f _ (λ h rows. is_broken (context_of h rows s).scene c.args.of) c.in-Known.ensures.reads.keeps.frame c.in-Known-is_broken.ensures.told made in_hand told in
    judged_as c.converted.result f _ s (λ h rows. converted (context_of h rows s) c.args.at c.args.of c.in-Ok.x) made _ both.keeps.frame c.converted.ensures.told
    (val_by now c.args.at c.args.of c.in-Ok.x false (sym c.if-value.false ∙ bad)
    ∙ after_ok _ c.in-Ok.x (λ v. val_as now c.args.at c.args.of v) ((rw c.in-Ok.is at c.in-Known.ensures.told) made in_hand told)) in_hand told

pub returns-in-Err-clause-told : goal.returns-in-Err-clause-told
returns-in-Err-clause-told g c made in_hand told =
    let now = context_of (g.S.Scopes.state c.args.scopes.now).frame made c.args.site.now in
    val_refused now c.in-Err.fault c.args.at c.args.of
    ∙ ap (λ t. and_then t (λ v. val_as now c.args.at c.args.of v)) ((rw c.in-Err.is at c.in-Known.ensures.told) made in_hand told)

pub ordinal_argument-requires : goal.ordinal_argument-requires
ordinal_argument-requires g c = record { suits = c.requires.suits; x = c.requires.x }

pub returns-in-DontKnowYet : goal.returns-in-DontKnowYet
returns-in-DontKnowYet g c =
    record {
      reads = c.in-DontKnowYet.ensures.reads;
      waits = c.in-DontKnowYet.ensures.waits;
      told = λ made in_hand told. tt;
      there = tt;
    }

pub returns-in-DontKnowYet-is_broken-clause-told : goal.returns-in-DontKnowYet-is_broken-clause-told
returns-in-DontKnowYet-is_broken-clause-told g c made in_hand told = tt

pub returns-in-DontKnowYet-is_broken-clause-there : goal.returns-in-DontKnowYet-is_broken-clause-there
returns-in-DontKnowYet-is_broken-clause-there g c = tt

pub returns-then-value-clause-there : goal.returns-then-value-clause-there
returns-then-value-clause-there g c = tt

pub returns-then-value-clause-waits : goal.returns-then-value-clause-waits
returns-then-value-clause-waits g c = tt

pub returns-in-Err-clause-reads : goal.returns-in-Err-clause-reads
returns-in-Err-clause-reads g c = c.in-Known.ensures.reads

pub returns-in-Err-clause-there : goal.returns-in-Err-clause-there
returns-in-Err-clause-there g c = tt

pub returns-in-Err-clause-waits : goal.returns-in-Err-clause-waits
returns-in-Err-clause-waits g c = tt

use Rattle.std.proofs.Common.{◌∙◌, false, true, ap, refl, sym, if◌then◌else◌}
use Rattle.std.specs.Prelude.{◌&&◌, is_none, not, option_map}
use Rattle.m2_base.specs.Gives.{and_then, gives}
use Rattle.m2_base.specs.Standard.{broken}
use Rattle.m2_base.specs.Statics.Contexts.{refuse}
use Rattle.m2_base.specs.Statics.Diagnostics.{wrong_argument}
use Rattle.m2_base.specs.Statics.Functions.{ordinal_type, ordinal_type_argument}
use Rattle.m2_base.specs.Statics.Ranges.{range}
use Rattle.m2_base.specs.Statics.Types.{range_of}
use Rattle.m2_base.specs.declared.diagnostic.Diagnostic.TheVariants.{NotAType}
use Rattle.type_rules.specs.Sites.{context_of}
use Rattle.type_rules.proofs.Later.{IsThere_read, Suits_read}
use Rattle.type_rules.proofs.Reading.{Reads-trans, Waits_read, Reads-refl}
use Rattle.const_eval.proofs.FunctionArguments.{type_by_range}
use Rattle.const_eval.proofs.Judging.{told_first}
use Rattle.const_eval.proofs.TypeArguments.{broken_passes, no_type, type_refused}
use Rattle.const_eval.proofs.TypesThere.{standard_there}
use Rattle.const_eval.proofs.functions.ordinal_type_argument.Goals as goal

pub returns-in-InError-clause-told : goal.returns-in-InError-clause-told
returns-in-InError-clause-told g c made in_hand told =
    let f = (g.S.Scopes.state c.args.scopes.now).frame in
    let s = c.args.site.now in
    sym (broken_passes f made s c.requires.suits told c.args.at) ∙ ap (ordinal_type_argument (context_of f made s) c.args.at) (sym c.in-InError.is)

pub returns-in_default-clause-told : goal.returns-in_default-clause-told
returns-in_default-clause-told g c made in_hand told =
    let f = (g.S.Scopes.state c.args.scopes.now).frame in
    let s = c.args.site.now in
    let now = context_of f made s in
    type_refused f made s c.requires.suits told (record { at = c.args.at; kind = NotAType }) c.args.at
    ∙ ap (λ t. and_then t (ordinal_type now c.args.at)) (no_type now c.args.at c.args.x c.in_default.not-NamedType c.in_default.not-InError)

pub is_broken-requires-clause-there : goal.is_broken-requires-clause-there
is_broken-requires-clause-there g c = rw c.in-NamedType.is at c.requires.x

pub returns-then-value-clause-told : goal.returns-then-value-clause-told
returns-then-value-clause-told g c made in_hand told =
    let f = (g.S.Scopes.state c.args.scopes.now).frame in
    let s = c.args.site.now in
    let now = context_of f made s in
    type_by_range now c.args.at c.in-NamedType.of true (range_of now.scene c.in-NamedType.of) (sym c.if-value.true ∙ c.in-Known.ensures.told made in_hand told) refl
    ∙ ap (ordinal_type_argument now c.args.at) (sym c.in-NamedType.is)

pub range_of-requires-clause-suits : goal.range_of-requires-clause-suits
range_of-requires-clause-suits g c = Suits_read c.in-Known.ensures.reads c.requires.suits.around

pub range_of-requires-clause-there : goal.range_of-requires-clause-there
range_of-requires-clause-there g c = IsThere_read c.in-Known.ensures.reads (rw c.in-NamedType.is at c.requires.x)

pub returns-in-Some-clause-reads : goal.returns-in-Some-clause-reads
returns-in-Some-clause-reads g c = Reads-trans c.in-Known.ensures.reads c.in-Known-range_of.ensures.reads

pub returns-in-None-clause-reads : goal.returns-in-None-clause-reads
returns-in-None-clause-reads g c = Reads-trans c.in-Known.ensures.reads c.in-Known-range_of.ensures.reads

pub returns-in-Some-clause-told : goal.returns-in-Some-clause-told
returns-in-Some-clause-told g c made in_hand told =
    let f = (g.S.Scopes.state c.args.scopes.now).frame in
    let s = c.args.site.now in
    let now = context_of f made s in
    let of = c.in-NamedType.of in
    let ends = told_first _ f _ (λ h rows. range_of (context_of h rows s).scene of) c.in-Known.ensures.reads.keeps.frame c.in-Known-range_of.ensures.told made in_hand told in
    ap (λ v. if not false && is_none (option_map (λ ends. range ends.0 ends.1) v) then refuse now c.args.at wrong_argument broken else gives of) (sym c.in-Some.is)
    ∙ type_by_range now c.args.at of false _ (sym c.if-value.false ∙ c.in-Known.ensures.told made in_hand told) ends
    ∙ ap (ordinal_type_argument now c.args.at) (sym c.in-NamedType.is)

pub returns-in-None-clause-told : goal.returns-in-None-clause-told
returns-in-None-clause-told g c made in_hand told =
    let f = (g.S.Scopes.state c.args.scopes.now).frame in
    let s = c.args.site.now in
    let now = context_of f made s in
    let of = c.in-NamedType.of in
    let ends = told_first _ f _ (λ h rows. range_of (context_of h rows s).scene of) c.in-Known.ensures.reads.keeps.frame c.in-Known-range_of.ensures.told made in_hand told in
    ap (λ v. if not false && is_none (option_map (λ ends. range ends.0 ends.1) v) then refuse now c.args.at wrong_argument broken else gives of) (sym c.in-None.is)
    ∙ type_by_range now c.args.at of false _ (sym c.if-value.false ∙ c.in-Known.ensures.told made in_hand told) ends
    ∙ ap (ordinal_type_argument now c.args.at) (sym c.in-NamedType.is)

pub is_broken-requires-clause-suits : goal.is_broken-requires-clause-suits
is_broken-requires-clause-suits g c = c.requires.suits.around

pub returns-in-DontKnowYet : goal.returns-in-DontKnowYet
returns-in-DontKnowYet g c =
    record {
      reads = c.in-DontKnowYet.ensures.reads;
      waits = c.in-DontKnowYet.ensures.waits;
      told = λ made in_hand told. tt;
      there = tt;
    }

pub returns-in-DontKnowYet-range_of : goal.returns-in-DontKnowYet-range_of
returns-in-DontKnowYet-range_of g c =
    record {
      reads = Reads-trans c.in-Known.ensures.reads c.in-DontKnowYet-range_of.ensures.reads;
      waits = Waits_read c.in-Known.ensures.reads c.in-DontKnowYet-range_of.ensures.waits;
      told = λ made in_hand told. tt;
      there = tt;
    }

pub returns-in-InError-clause-reads : goal.returns-in-InError-clause-reads
returns-in-InError-clause-reads g c = Reads-refl _

pub returns-in-InError-clause-waits : goal.returns-in-InError-clause-waits
returns-in-InError-clause-waits g c = tt

pub returns-in-None-clause-waits : goal.returns-in-None-clause-waits
returns-in-None-clause-waits g c = tt

pub returns-in-Some-clause-waits : goal.returns-in-Some-clause-waits
returns-in-Some-clause-waits g c = tt

pub returns-in_default-clause-reads : goal.returns-in_default-clause-reads
returns-in_default-clause-reads g c = Reads-refl _

pub returns-in_default-clause-waits : goal.returns-in_default-clause-waits
returns-in_default-clause-waits g c = tt

pub returns-then-value-clause-reads : goal.returns-then-value-clause-reads
returns-then-value-clause-reads g c = c.in-Known.ensures.reads

pub returns-then-value-clause-waits : goal.returns-then-value-clause-waits
returns-then-value-clause-waits g c = tt

pub returns-in-InError-clause-there : goal.returns-in-InError-clause-there
returns-in-InError-clause-there g c = standard_there c.requires.suits.around 10

pub returns-in-None-clause-there : goal.returns-in-None-clause-there
returns-in-None-clause-there g c = tt

pub returns-in_default-clause-there : goal.returns-in_default-clause-there
returns-in_default-clause-there g c = tt

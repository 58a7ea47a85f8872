use Rattle.std.proofs.Common.{◌∙◌, ap, sym}
use Rattle.m2_base.specs.Statics.Types.{kind_of, stands_for}
use Rattle.type_rules.specs.Sites.{context_of}
use Rattle.type_rules.proofs.Reading.{Reads-refl}
use Rattle.const_eval.specs.Structures.{type_by}
use Rattle.const_eval.proofs.SetRows.{set_type_is, no_type}
use Rattle.m2_base.specs.Statics.Sets.{set_type_of}
use Rattle.const_eval.proofs.TypesThere.{standard_there}
use Rattle.const_eval.proofs.sets.set_type_of.Goals as goal

pub returns-in-Some-clause-told : goal.returns-in-Some-clause-told
returns-in-Some-clause-told g c made in_hand told =
    let now = context_of (g.S.Scopes.state c.args.scopes.now).frame made c.args.site.now in
    rw c.in-NamedType.is
    (ap (type_by now c.args.at) ((rw c.in-Some.is at c.in-Known.ensures.told) made in_hand told)
    ∙ set_type_is now c.args.at (stands_for now.scene c.in-NamedType.of) (kind_of now.scene c.in-NamedType.of))

pub returns-in-None-clause-told : goal.returns-in-None-clause-told
returns-in-None-clause-told g c made in_hand told =
    let now = context_of (g.S.Scopes.state c.args.scopes.now).frame made c.args.site.now in
    rw c.in-NamedType.is
    (ap (type_by now c.args.at) ((rw c.in-None.is at c.in-Known.ensures.told) made in_hand told)
    ∙ set_type_is now c.args.at (stands_for now.scene c.in-NamedType.of) (kind_of now.scene c.in-NamedType.of))

pub returns-in-DontKnowYet : goal.returns-in-DontKnowYet
returns-in-DontKnowYet g c =
    record {
      reads = c.in-DontKnowYet.ensures.reads;
      waits = c.in-DontKnowYet.ensures.waits;
      told = λ made in_hand told. tt;
      there = tt;
    }

pub returns-in-InError-clause-reads : goal.returns-in-InError-clause-reads
returns-in-InError-clause-reads g c = Reads-refl _

pub returns-in-InError-clause-waits : goal.returns-in-InError-clause-waits
returns-in-InError-clause-waits g c = tt

pub returns-in-None-clause-reads : goal.returns-in-None-clause-reads
returns-in-None-clause-reads g c = c.in-Known.ensures.reads

pub returns-in-None-clause-waits : goal.returns-in-None-clause-waits
returns-in-None-clause-waits g c = tt

pub returns-in-Some-clause-reads : goal.returns-in-Some-clause-reads
returns-in-Some-clause-reads g c = c.in-Known.ensures.reads

pub returns-in-Some-clause-waits : goal.returns-in-Some-clause-waits
returns-in-Some-clause-waits g c = tt

pub returns-in-InError-clause-there : goal.returns-in-InError-clause-there
returns-in-InError-clause-there g c = standard_there c.requires.suits.around 10

pub returns-in-InError-clause-told : goal.returns-in-InError-clause-told
returns-in-InError-clause-told g c made in_hand told = ap (set_type_of (context_of (g.S.Scopes.state c.args.scopes.now).frame made c.args.site.now) c.args.at) (sym c.in-InError.is)

pub returns-in-None-clause-there : goal.returns-in-None-clause-there
returns-in-None-clause-there g c = tt

pub returns-in-Some-clause-there : goal.returns-in-Some-clause-there
returns-in-Some-clause-there g c = (rw c.in-Some.is at c.in-Known.ensures.there).0

pub set_row-requires : goal.set_row-requires
set_row-requires g c = record { suits = c.requires.suits.around; there = rw c.in-NamedType.is at c.requires.x }

pub returns-in_default : goal.returns-in_default
returns-in_default g c =
    record {
      reads = Reads-refl _;
      waits = tt;
      told = λ made in_hand told. no_type (context_of (g.S.Scopes.state c.args.scopes.now).frame made c.args.site.now) c.args.at c.args.x c.in_default.not-NamedType c.in_default.not-InError;
      there = tt;
    }

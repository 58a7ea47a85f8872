use Rattle.std.proofs.Common.{◌∙◌, sym, ap, subst}
use Rattle.m2_base.specs.Statics.Types.{base_of}
use Rattle.type_rules.specs.Sites.{context_of}
use Rattle.const_eval.proofs.Operating.{apply_by}
use Rattle.m2_base.specs.declared.rows.Place.{Place}
use Rattle.type_rules.specs.Scenes.{IsThere}
use Rattle.const_eval.proofs.TypesThere.{standard_there, type_there}
use Rattle.type_rules.proofs.Reading.{Reads-refl}
use Rattle.const_eval.proofs.operators.apply_one.Goals as goal

pub returns-then-is_bad-clause-told : goal.returns-then-is_bad-clause-told
returns-then-is_bad-clause-told g c made in_hand told =
    let now = context_of (g.S.Scopes.state c.args.scopes.now).frame made c.args.site.now in
    apply_by now c.args.operator.operator c.args.operator.at c.args.operand _ (sym c.if-is_bad.true ∙ c.is_bad.ensures)

pub returns-clause-told : goal.returns-clause-told
returns-clause-told g c made in_hand told =
    let now = context_of (g.S.Scopes.state c.args.scopes.now).frame made c.args.site.now in
    c.applied.ensures.told now (c.in-Known.ensures.told made in_hand told ∙ ap (base_of now.scene) c.operand_type.ensures)
    ∙ apply_by now c.args.operator.operator c.args.operator.at c.args.operand _ (sym c.if-is_bad.false ∙ c.is_bad.ensures)

pub applied-requires : goal.applied-requires
applied-requires g c = tt

pub is_bad-requires : goal.is_bad-requires
is_bad-requires g c = tt

pub base_of-requires : goal.base_of-requires
base_of-requires g c = record { suits = c.requires.suits.around; there = subst (λ (t : Place). IsThere (g.S.Scopes.state c.args.scopes.now).frame t) (sym c.operand_type.ensures) (type_there c.requires.suits.around c.args.operand c.requires.operand) }

pub operand_type-requires : goal.operand_type-requires
operand_type-requires g c = tt

pub returns-clause-reads : goal.returns-clause-reads
returns-clause-reads g c = c.in-Known.ensures.reads

pub returns-clause-waits : goal.returns-clause-waits
returns-clause-waits g c = tt

pub returns-clause-there : goal.returns-clause-there
returns-clause-there g c = c.applied.ensures.there (g.S.Scopes.state c.args.scopes.now).frame (standard_there c.requires.suits.around 0) (standard_there c.requires.suits.around 9) (standard_there c.requires.suits.around 3)

pub returns-in-DontKnowYet : goal.returns-in-DontKnowYet
returns-in-DontKnowYet g c =
    record {
      reads = c.in-DontKnowYet.ensures.reads;
      waits = c.in-DontKnowYet.ensures.waits;
      told = λ made in_hand told. tt;
      there = tt;
    }

pub returns-then-is_bad-clause-reads : goal.returns-then-is_bad-clause-reads
returns-then-is_bad-clause-reads g c = Reads-refl _

pub returns-then-is_bad-clause-waits : goal.returns-then-is_bad-clause-waits
returns-then-is_bad-clause-waits g c = tt

pub returns-then-is_bad-clause-there : goal.returns-then-is_bad-clause-there
returns-then-is_bad-clause-there g c = c.requires.operand

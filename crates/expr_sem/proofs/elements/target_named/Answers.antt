use Rattle.std.proofs.Common.{◌≡◌, ◌∙◌, Fits, ap, length, refl, rules, subst, sym, w32}
use Rattle.m2_base.specs.Rows as rows
use Rattle.m2_base.specs.Rows.{row_meaning}
use Rattle.m2_base.specs.Statics.TypeParts.{named_target}
use Rattle.m2_base.specs.declared.rows.Place.{Place}
use Rattle.m2_base.specs.declared.rows.RowMeaning.{RowMeaning}
use Rattle.m2_base.specs.declared.rows.RowMeaning.TheVariants.{TypeName}
use Rattle.type_rules.proofs.Later.{IsThere_before}
use Rattle.expr_sem.proofs.elements.target_named.Goals as goal

no_name : (p : Place) (m : RowMeaning) → ((t : Place) → m ≡ TypeName t → ⊥) → p ≡ named_target p m
no_name p (TypeName t) h = absurd (h t refl)
no_name p m h = refl

pub row_at-requires-clause-suits : goal.row_at-requires-clause-suits
row_at-requires-clause-suits g c = c.requires.suits

pub row_at-requires-clause-there : goal.row_at-requires-clause-there
row_at-requires-clause-there g c = c.requires.to

pub returns-in-DontKnowYet-clause-reads : goal.returns-in-DontKnowYet-clause-reads
returns-in-DontKnowYet-clause-reads g c = c.in-DontKnowYet.ensures.reads

pub returns-in-DontKnowYet-clause-waits : goal.returns-in-DontKnowYet-clause-waits
returns-in-DontKnowYet-clause-waits g c = c.in-DontKnowYet.ensures.waits

pub returns-in-DontKnowYet-clause-told : goal.returns-in-DontKnowYet-clause-told
returns-in-DontKnowYet-clause-told g c made in_hand told = tt

pub returns-in-DontKnowYet-clause-there : goal.returns-in-DontKnowYet-clause-there
returns-in-DontKnowYet-clause-there g c = tt

pub read_row-requires : goal.read_row-requires
read_row-requires g c = c.in-Known.ensures.row.said.small

pub returns-in-TypeName-clause-reads : goal.returns-in-TypeName-clause-reads
returns-in-TypeName-clause-reads g c = c.in-Known.ensures.reads

pub returns-in-TypeName-clause-waits : goal.returns-in-TypeName-clause-waits
returns-in-TypeName-clause-waits g c = tt

pub returns-in-TypeName-clause-told : goal.returns-in-TypeName-clause-told
returns-in-TypeName-clause-told g c made in_hand told =
    ap (named_target c.args.to) (sym c.in-TypeName.is ∙ c.read_row.ensures ∙ ap row_meaning (c.in-Known.ensures.told made in_hand told))

pub returns-in-TypeName-clause-there : goal.returns-in-TypeName-clause-there
returns-in-TypeName-clause-there g c =
    let o : Fits w32 c.args.to.ordinal = search rules in
    let row = c.in-Known.ensures.row in
    IsThere_before _ c.args.to _ o.fits row.there
    (subst (λ (m : RowMeaning). rows.Fits (length (g.S.Scopes.state c.args.scopes.now).frame.setting.texts.names) c.args.to m) (sym c.read_row.ensures ∙ c.in-TypeName.is) row.said.fits)

pub returns-in_default : goal.returns-in_default
returns-in_default g c =
    record {
      reads = c.in-Known.ensures.reads;
      waits = tt;
      told = λ made in_hand told. no_name c.args.to c.read_row.result c.in_default.not-TypeName
          ∙ ap (named_target c.args.to) (c.read_row.ensures ∙ ap row_meaning (c.in-Known.ensures.told made in_hand told));
      there = c.requires.to;
    }

use Rattle.std.proofs.Common.{◌∙◌, ap, sym}
use Rattle.m2_base.specs.Statics.Types.{stands_for as spec_stands}
use Rattle.m2_base.specs.declared.rows.RowMeaning.TheVariants.{ProcType}
use Rattle.type_rules.specs.Scenes.{scene_of}
use Rattle.type_rules.specs.Forms.{form_by}
use Rattle.type_rules.proofs.Otherwise.{other_form}
use Rattle.type_rules.proofs.forms.form_of.Goals as goal

pub stand-requires : goal.stand-requires
stand-requires g c = record { suits = c.requires.suits; there = c.requires.there }

pub returns-in-DontKnowYet : goal.returns-in-DontKnowYet
returns-in-DontKnowYet g c =
    record {
      reads = c.in-DontKnowYet.ensures.reads;
      waits = c.in-DontKnowYet.ensures.waits;
      told = λ made in_hand told. tt;
      here = tt;
      stops = c.in-DontKnowYet.ensures.stops;
    }

pub returns-in-ProcType-clause-reads : goal.returns-in-ProcType-clause-reads
returns-in-ProcType-clause-reads g c = c.in-Known.ensures.reads

pub returns-in-ProcType-clause-waits : goal.returns-in-ProcType-clause-waits
returns-in-ProcType-clause-waits g c = tt

pub returns-in-ProcType-clause-stops : goal.returns-in-ProcType-clause-stops
returns-in-ProcType-clause-stops g c = tt

pub returns-in_default : goal.returns-in_default
returns-in_default g c =
    record {
      reads = c.in-Known.ensures.reads;
      waits = tt;
      told = λ made in_hand told. other_form (spec_stands (scene_of (g.S.Scopes.state c.args.scopes.now).frame made c.args.around.now) c.args.of) c.in-Known.value.1 c.in_default.not-ProcType ∙ ap (form_by (spec_stands (scene_of (g.S.Scopes.state c.args.scopes.now).frame made c.args.around.now) c.args.of)) (c.in-Known.ensures.kind made in_hand told);
      here = tt;
      stops = tt;
    }

pub returns-in-ProcType-clause-told : goal.returns-in-ProcType-clause-told
returns-in-ProcType-clause-told g c made in_hand told =
    ap (λ p. form_by p (ProcType c.in-ProcType.result c.in-ProcType.field-1 c.in-ProcType.first)) (c.in-Known.ensures.told made in_hand told)
    ∙ ap (form_by (spec_stands (scene_of (g.S.Scopes.state c.args.scopes.now).frame made c.args.around.now) c.args.of)) (sym c.in-ProcType.is ∙ c.in-Known.ensures.kind made in_hand told)

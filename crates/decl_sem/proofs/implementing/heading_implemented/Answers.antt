use Rattle.std.proofs.Common.{◌∙◌, Bool, ap, sym, if◌then◌else◌}
use Rattle.m2_base.specs.Statics.Closing.{differs_at, implements_heading, is_implemented, procedure_implements}
use Rattle.type_rules.specs.Scenes.{scene_of}
use Rattle.m2_base.specs.declared.rows.RowMeaning.{RowMeaning}
use Rattle.type_rules.proofs.Reading.{Reads-refl}
use Rattle.decl_sem.proofs.OtherMeanings.{no_procedure}
use Rattle.decl_sem.proofs.implementing.heading_implemented.Goals as goal

pub read_row-requires : goal.read_row-requires
read_row-requires g c = (rw c.in-Some.is at c.requires.row).said.small

pub returns-then-value-clause-told : goal.returns-then-value-clause-told
returns-then-value-clause-told g c made in_hand told =
    let scene = scene_of (g.S.Scopes.state c.args.scopes.now).frame made c.args.around.now in
    ap (λ (b : Bool). if b then is_implemented else differs_at c.in-Some.row.at) (sym c.if-value.true ∙ c.in-Known.ensures.told made in_hand told)
    ∙ ap (procedure_implements scene c.args.heading c.in-Some.row.at) c.in-Proc.ensures ∙ ap (implements_heading scene c.args.heading) (sym c.in-Some.is)

pub returns-else-value-clause-told : goal.returns-else-value-clause-told
returns-else-value-clause-told g c made in_hand told =
    let scene = scene_of (g.S.Scopes.state c.args.scopes.now).frame made c.args.around.now in
    ap (λ (b : Bool). if b then is_implemented else differs_at c.in-Some.row.at) (sym c.if-value.false ∙ c.in-Known.ensures.told made in_hand told)
    ∙ ap (procedure_implements scene c.args.heading c.in-Some.row.at) c.in-Proc.ensures ∙ ap (implements_heading scene c.args.heading) (sym c.in-Some.is)

pub returns-in_default : goal.returns-in_default
returns-in_default g c =
    record {
      reads = Reads-refl _;
      waits = tt;
      told = λ made in_hand told.
          let scene = scene_of (g.S.Scopes.state c.args.scopes.now).frame made c.args.around.now in
          ap (implements_heading scene c.args.heading) (sym c.in_default.is);
    }

pub returns-in_default-read_row : goal.returns-in_default-read_row
returns-in_default-read_row g c =
    record {
      reads = Reads-refl _;
      waits = tt;
      told = λ made in_hand told.
          let scene = scene_of (g.S.Scopes.state c.args.scopes.now).frame made c.args.around.now in
          no_procedure scene c.args.heading c.in-Some.row.at c.read_row.result c.in_default-read_row.not-Proc
          ∙ ap (procedure_implements scene c.args.heading c.in-Some.row.at) c.read_row.ensures
          ∙ ap (implements_heading scene c.args.heading) (sym c.in-Some.is);
    }

pub has_same_form-requires-clause-suits : goal.has_same_form-requires-clause-suits
has_same_form-requires-clause-suits g c = c.requires.suits

pub has_same_form-requires-clause-x : goal.has_same_form-requires-clause-x
has_same_form-requires-clause-x g c = c.requires.there

pub returns-in-DontKnowYet : goal.returns-in-DontKnowYet
returns-in-DontKnowYet g c = record { reads = c.in-DontKnowYet.ensures.reads; waits = c.in-DontKnowYet.ensures.waits; told = λ _ _ _. tt }

pub returns-then-value-clause-reads : goal.returns-then-value-clause-reads
returns-then-value-clause-reads g c = c.in-Known.ensures.reads

pub returns-then-value-clause-waits : goal.returns-then-value-clause-waits
returns-then-value-clause-waits g c = tt

pub returns-else-value-clause-reads : goal.returns-else-value-clause-reads
returns-else-value-clause-reads g c = c.in-Known.ensures.reads

pub returns-else-value-clause-waits : goal.returns-else-value-clause-waits
returns-else-value-clause-waits g c = tt

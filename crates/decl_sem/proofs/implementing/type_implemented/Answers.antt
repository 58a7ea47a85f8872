use Rattle.std.proofs.Common.{◌∙◌, Bool, ap, sym, if◌then◌else◌}
use Rattle.m2_base.specs.Statics.Closing.{implements_type, is_implemented, is_missing, type_implements, type_implemented}
use Rattle.type_rules.specs.Scenes.{scene_of}
use Rattle.m2_base.specs.declared.rows.RowMeaning.{RowMeaning}
use Rattle.type_rules.proofs.Reading.{Reads-refl}
use Rattle.decl_sem.proofs.OtherMeanings.{no_type_name}
use Rattle.decl_sem.proofs.implementing.type_implemented.Goals as goal

pub read_row-requires : goal.read_row-requires
read_row-requires g c = (rw c.in-Some.is at c.requires.row).said.small

pub returns-then-value-clause-told : goal.returns-then-value-clause-told
returns-then-value-clause-told g c made in_hand told =
    let scene = scene_of (g.S.Scopes.state c.args.scopes.now).frame made c.args.around.now in
    ap (λ (b : Bool). if b then is_implemented else is_missing)
    (sym c.if-value.true ∙ c.in-Known.ensures.told made in_hand told ∙ ap (type_implements scene) c.in-TypeName.ensures ∙ ap (implements_type scene) (sym c.in-Some.is))

pub returns-else-value-clause-told : goal.returns-else-value-clause-told
returns-else-value-clause-told g c made in_hand told =
    let scene = scene_of (g.S.Scopes.state c.args.scopes.now).frame made c.args.around.now in
    ap (λ (b : Bool). if b then is_implemented else is_missing)
    (sym c.if-value.false ∙ c.in-Known.ensures.told made in_hand told ∙ ap (type_implements scene) c.in-TypeName.ensures ∙ ap (implements_type scene) (sym c.in-Some.is))

pub returns-in_default : goal.returns-in_default
returns-in_default g c =
    record {
      reads = Reads-refl _;
      waits = tt;
      told = λ made in_hand told.
          let scene = scene_of (g.S.Scopes.state c.args.scopes.now).frame made c.args.around.now in
          ap (type_implemented scene) (sym c.in_default.is);
    }

pub returns-in_default-read_row : goal.returns-in_default-read_row
returns-in_default-read_row g c =
    record {
      reads = Reads-refl _;
      waits = tt;
      told = λ made in_hand told.
          let scene = scene_of (g.S.Scopes.state c.args.scopes.now).frame made c.args.around.now in
          no_type_name scene c.read_row.result c.in_default-read_row.not-TypeName
          ∙ ap (λ (m : RowMeaning). if type_implements scene m then is_implemented else is_missing) c.read_row.ensures
          ∙ ap (type_implemented scene) (sym c.in-Some.is);
    }

pub implements_opaque-requires-clause-suits : goal.implements_opaque-requires-clause-suits
implements_opaque-requires-clause-suits g c = c.requires.suits

pub returns-in-DontKnowYet : goal.returns-in-DontKnowYet
returns-in-DontKnowYet g c = record { reads = c.in-DontKnowYet.ensures.reads; waits = c.in-DontKnowYet.ensures.waits; told = λ _ _ _. tt }

pub returns-then-value-clause-reads : goal.returns-then-value-clause-reads
returns-then-value-clause-reads g c = c.in-Known.ensures.reads

pub returns-then-value-clause-waits : goal.returns-then-value-clause-waits
returns-then-value-clause-waits g c = tt

pub returns-else-value-clause-reads : goal.returns-else-value-clause-reads
returns-else-value-clause-reads g c = c.in-Known.ensures.reads

pub returns-else-value-clause-waits : goal.returns-else-value-clause-waits
returns-else-value-clause-waits g c = tt

use Rattle.std.proofs.Common.{◌≡◌, ◌∙◌, rules, sym, ap, refl, if◌then◌else◌, to_z, of_z, w64, arith, Fits, w32}
use Rattle.m2_base.specs.Rows.{row_meaning}
use Rattle.m2_base.specs.Statics.NamedOperands.{operand_by}
use Rattle.m2_base.specs.Statics.Types.{is_broken as spec_broken}
use Rattle.m2_base.specs.declared.operands.Operand.TheVariants as Operand
use Rattle.m2_base.specs.declared.rows.RowMeaning.TheVariants.{Const, TypeName, Var}
use Rattle.type_rules.specs.Scenes.{scene_of}
use Rattle.type_rules.proofs.Compatibles.{told_as}
use Rattle.type_rules.proofs.Later.{IsThere_before}
use Rattle.type_rules.proofs.Reading.{Reads-refl}
use Rattle.const_eval.proofs.Besides.{other_row}
use Rattle.const_eval.proofs.names.operand_of.Goals as goal

pub returns-in-Const-clause-told : goal.returns-in-Const-clause-told
returns-in-Const-clause-told g c =
    let f = (g.S.Scopes.state c.args.scopes.now).frame in
    let row = c.args.row in
    let of = c.in-Const.of in
    let says : Const of c.in-Const.value c.in-Const.length ≡ row_meaning row = sym c.in-Const.is ∙ c.read_row.ensures in
    let value : to_z w64 (of_z w64 c.in-Const.value) ≡ c.in-Const.value = search rules in
    told_as c.unless_broken.result f f (λ h made. if spec_broken (scene_of h made c.args.around.now) of then Operand.InError else c.constant_operand.result)
    (λ made. operand_by (scene_of f made c.args.around.now) row.name (row_meaning row)) refl c.unless_broken.ensures.told
    (λ made in_hand told. let scene = scene_of f made c.args.around.now in
    ap (λ o. if spec_broken scene of then Operand.InError else o) c.constant_operand.ensures ∙ ap (λ v. operand_by scene row.name (Const of v c.in-Const.length)) value ∙ ap (operand_by scene row.name) says)

pub returns-in-TypeName-clause-told : goal.returns-in-TypeName-clause-told
returns-in-TypeName-clause-told g c =
    let f = (g.S.Scopes.state c.args.scopes.now).frame in
    let row = c.args.row in
    let of = c.in-TypeName.of in
    let says : TypeName of ≡ row_meaning row = sym c.in-TypeName.is ∙ c.read_row.ensures in
    told_as c.unless_broken-in-TypeName.result f f (λ h made. if spec_broken (scene_of h made c.args.around.now) of then Operand.InError else Operand.NamedType of)
    (λ made. operand_by (scene_of f made c.args.around.now) row.name (row_meaning row)) refl c.unless_broken-in-TypeName.ensures.told
    (λ made in_hand told. ap (operand_by (scene_of f made c.args.around.now) row.name) says)

pub returns-then-value-clause-told : goal.returns-then-value-clause-told
returns-then-value-clause-told g c made in_hand told =
    let scene = scene_of (g.S.Scopes.state c.args.scopes.now).frame made c.args.around.now in
    let of = c.in-Var.of in
    let says : Var of c.in-Var.field-1 c.in-Var.field-2 ≡ row_meaning c.args.row = sym c.in-Var.is ∙ c.read_row.ensures in
    ap (λ b. if b then Operand.InError else Operand.Variable of) (sym c.if-value.true ∙ c.in-Known.ensures.told made in_hand told)
    ∙ ap (operand_by scene c.args.row.name) says

pub returns-else-value-clause-told : goal.returns-else-value-clause-told
returns-else-value-clause-told g c made in_hand told =
    let scene = scene_of (g.S.Scopes.state c.args.scopes.now).frame made c.args.around.now in
    let of = c.in-Var.of in
    let says : Var of c.in-Var.field-1 c.in-Var.field-2 ≡ row_meaning c.args.row = sym c.in-Var.is ∙ c.read_row.ensures in
    ap (λ b. if b then Operand.InError else Operand.Variable of) (sym c.if-value.false ∙ c.in-Known.ensures.told made in_hand told)
    ∙ ap (operand_by scene c.args.row.name) says

pub unless_broken-requires-clause-suits : goal.unless_broken-requires-clause-suits
unless_broken-requires-clause-suits g c = c.requires.suits

pub is_in_error-requires-clause-suits : goal.is_in_error-requires-clause-suits
is_in_error-requires-clause-suits g c = c.requires.suits

pub returns-in-DontKnowYet-clause-reads : goal.returns-in-DontKnowYet-clause-reads
returns-in-DontKnowYet-clause-reads g c = c.in-DontKnowYet.ensures.reads

pub returns-in-DontKnowYet-clause-waits : goal.returns-in-DontKnowYet-clause-waits
returns-in-DontKnowYet-clause-waits g c = c.in-DontKnowYet.ensures.waits

pub returns-in-DontKnowYet-clause-told : goal.returns-in-DontKnowYet-clause-told
returns-in-DontKnowYet-clause-told g c made in_hand told = tt

pub returns-in-DontKnowYet-clause-there : goal.returns-in-DontKnowYet-clause-there
returns-in-DontKnowYet-clause-there g c = tt

pub returns-then-value-clause-reads : goal.returns-then-value-clause-reads
returns-then-value-clause-reads g c = c.in-Known.ensures.reads

pub returns-then-value-clause-waits : goal.returns-then-value-clause-waits
returns-then-value-clause-waits g c = tt

pub returns-else-value-clause-reads : goal.returns-else-value-clause-reads
returns-else-value-clause-reads g c = c.in-Known.ensures.reads

pub returns-else-value-clause-waits : goal.returns-else-value-clause-waits
returns-else-value-clause-waits g c = tt

pub returns-then-value-clause-there : goal.returns-then-value-clause-there
returns-then-value-clause-there g c = tt

pub returns-in-Const-clause-reads : goal.returns-in-Const-clause-reads
returns-in-Const-clause-reads g c = c.unless_broken.ensures.reads

pub returns-in-Const-clause-waits : goal.returns-in-Const-clause-waits
returns-in-Const-clause-waits g c = c.unless_broken.ensures.waits

pub returns-in-Const-clause-there : goal.returns-in-Const-clause-there
returns-in-Const-clause-there g c = c.unless_broken.ensures.there

pub returns-in-TypeName-clause-reads : goal.returns-in-TypeName-clause-reads
returns-in-TypeName-clause-reads g c = c.unless_broken-in-TypeName.ensures.reads

pub returns-in-TypeName-clause-waits : goal.returns-in-TypeName-clause-waits
returns-in-TypeName-clause-waits g c = c.unless_broken-in-TypeName.ensures.waits

pub returns-in-TypeName-clause-there : goal.returns-in-TypeName-clause-there
returns-in-TypeName-clause-there g c = c.unless_broken-in-TypeName.ensures.there

pub returns-in-Proc-clause-reads : goal.returns-in-Proc-clause-reads
returns-in-Proc-clause-reads g c = Reads-refl _

pub returns-in-Proc-clause-waits : goal.returns-in-Proc-clause-waits
returns-in-Proc-clause-waits g c = tt

pub returns-in-Proc-clause-told : goal.returns-in-Proc-clause-told
returns-in-Proc-clause-told g c made in_hand told =
    ap (operand_by (scene_of (g.S.Scopes.state c.args.scopes.now).frame made c.args.around.now) c.args.row.name) (sym c.in-Proc.is ∙ c.read_row.ensures)

pub returns-in-Module-clause-reads : goal.returns-in-Module-clause-reads
returns-in-Module-clause-reads g c = Reads-refl _

pub returns-in-Module-clause-waits : goal.returns-in-Module-clause-waits
returns-in-Module-clause-waits g c = tt

pub returns-in-Module-clause-told : goal.returns-in-Module-clause-told
returns-in-Module-clause-told g c made in_hand told =
    ap (operand_by (scene_of (g.S.Scopes.state c.args.scopes.now).frame made c.args.around.now) c.args.row.name) (sym c.in-Module.is ∙ c.read_row.ensures)

pub returns-in-Standard-clause-reads : goal.returns-in-Standard-clause-reads
returns-in-Standard-clause-reads g c = Reads-refl _

pub returns-in-Standard-clause-waits : goal.returns-in-Standard-clause-waits
returns-in-Standard-clause-waits g c = tt

pub returns-in-Standard-clause-told : goal.returns-in-Standard-clause-told
returns-in-Standard-clause-told g c made in_hand told =
    ap (operand_by (scene_of (g.S.Scopes.state c.args.scopes.now).frame made c.args.around.now) c.args.row.name) (sym c.in-Standard.is ∙ c.read_row.ensures)

pub returns-in-Standard-clause-there : goal.returns-in-Standard-clause-there
returns-in-Standard-clause-there g c = tt

pub returns-in_default-clause-reads : goal.returns-in_default-clause-reads
returns-in_default-clause-reads g c = Reads-refl _

pub returns-in_default-clause-waits : goal.returns-in_default-clause-waits
returns-in_default-clause-waits g c = tt

pub returns-in_default-clause-there : goal.returns-in_default-clause-there
returns-in_default-clause-there g c = tt

pub read_row-requires : goal.read_row-requires
read_row-requires g c = c.requires.row.said.small

pub unless_broken-requires-clause-there : goal.unless_broken-requires-clause-there
unless_broken-requires-clause-there g c =
    let o : Fits w32 c.args.place.ordinal = search rules in
    IsThere_before _ c.args.place c.in-Const.of o.fits c.requires.row.there (rw (sym c.read_row.ensures ∙ c.in-Const.is) at c.requires.row.said.fits).0

pub unless_broken-requires-in-TypeName-clause-suits : goal.unless_broken-requires-in-TypeName-clause-suits
unless_broken-requires-in-TypeName-clause-suits g c = c.requires.suits

pub unless_broken-requires-in-TypeName-clause-there : goal.unless_broken-requires-in-TypeName-clause-there
unless_broken-requires-in-TypeName-clause-there g c =
    let o : Fits w32 c.args.place.ordinal = search rules in
    IsThere_before _ c.args.place c.in-TypeName.of o.fits c.requires.row.there (rw (sym c.read_row.ensures ∙ c.in-TypeName.is) at c.requires.row.said.fits)

pub unless_broken-requires-in-TypeName-clause-operand : goal.unless_broken-requires-in-TypeName-clause-operand
unless_broken-requires-in-TypeName-clause-operand g c =
    let o : Fits w32 c.args.place.ordinal = search rules in
    IsThere_before _ c.args.place c.in-TypeName.of o.fits c.requires.row.there (rw (sym c.read_row.ensures ∙ c.in-TypeName.is) at c.requires.row.said.fits)

pub is_in_error-requires-clause-there : goal.is_in_error-requires-clause-there
is_in_error-requires-clause-there g c =
    let o : Fits w32 c.args.place.ordinal = search rules in
    IsThere_before _ c.args.place c.in-Var.of o.fits c.requires.row.there (rw (sym c.read_row.ensures ∙ c.in-Var.is) at c.requires.row.said.fits).0

pub returns-else-value-clause-there : goal.returns-else-value-clause-there
returns-else-value-clause-there g c =
    let o : Fits w32 c.args.place.ordinal = search rules in
    IsThere_before _ c.args.place c.in-Var.of o.fits c.requires.row.there (rw (sym c.read_row.ensures ∙ c.in-Var.is) at c.requires.row.said.fits).0

pub returns-in-Proc-clause-there : goal.returns-in-Proc-clause-there
returns-in-Proc-clause-there g c =
    let o : Fits w32 c.args.place.ordinal = search rules in
    IsThere_before _ c.args.place c.in-Proc.of o.fits c.requires.row.there (rw (sym c.read_row.ensures ∙ c.in-Proc.is) at c.requires.row.said.fits).0

pub returns-in-Module-clause-there : goal.returns-in-Module-clause-there
returns-in-Module-clause-there g c =
    let within = c.requires.row.there.scope in
    let below = (rw (sym c.read_row.ensures ∙ c.in-Module.is) at c.requires.row.said.fits) in
    omega (arith, within, below)

pub returns-in_default-clause-told : goal.returns-in_default-clause-told
returns-in_default-clause-told g c made in_hand told =
    let scene = scene_of (g.S.Scopes.state c.args.scopes.now).frame made c.args.around.now in
    let other = c.in_default in
    other_row scene c.args.row.name c.read_row.result other.not-Const other.not-TypeName other.not-Var other.not-Proc other.not-Module other.not-Standard
    ∙ ap (operand_by scene c.args.row.name) c.read_row.ensures

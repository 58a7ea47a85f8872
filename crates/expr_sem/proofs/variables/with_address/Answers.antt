use Rattle.std.proofs.Common.{◌∙◌, ◌∷◌, [], ℕ, ap, refl, sym}
use Rattle.m2_base.specs.Gives.{gives}
use Rattle.m2_base.specs.declared.operands.Operand.{Operand}
use Rattle.m2_base.specs.declared.operands.Operand.TheVariants.{Variable}
use Rattle.m2_base.specs.declared.rows.Mode.{Mode}
use Rattle.m2_base.specs.declared.rows.RowMeaning.{RowMeaning}
use Rattle.m2_base.specs.declared.rows.RowMeaning.TheVariants.{Var}
use Rattle.code_form.specs.declared.instr.Instr.{Instr}
use Rattle.code_form.specs.declared.instr.Instr.TheVariants.{Load}
use Rattle.type_rules.proofs.Reading.{Reads-refl}
use Rattle.type_rules.specs.Scenes.{block_of}
use Rattle.block_code.specs.Coded.{Coded, coded}
use Rattle.expr_sem.specs.Codings.{IsCoded, coded_in}
use Rattle.expr_sem.specs.Fragments.{part}
use Rattle.block_code.specs.Parts.{Part, plain}
use Rattle.block_code.specs.Variables.{cell_instr, with_address}
use Rattle.expr_sem.proofs.Making.{question_failed}
use Rattle.expr_sem.proofs.Following.{then_full}
use Rattle.expr_sem.proofs.Operating.{described_there, value_alone, value_grown}
use Rattle.expr_sem.proofs.Sequencing.{Grows-trans, in_later, part_later}
use Rattle.m2_base.proofs.Kept.{Works-refl}
use Rattle.expr_sem.proofs.Selecting.{coding_full, with_no_var, with_other}
use Rattle.expr_sem.proofs.variables.with_address.Goals as goal

pub returns-in_default : goal.returns-in_default
returns-in_default c state notes there =
    value_alone state notes _ _ c.bare.result IsCoded coded_in (λ k. with_address k.scene.block c.args.scope c.args.meaning c.args.operand) (c.bare.ensures.there state.frame c.args.fragments.now.nodes.items there)
    (λ k. c.bare.ensures.told c.args.fragments.now.nodes.items ∙ with_other k.scene.block c.args.scope c.args.meaning c.args.operand c.in_default.not-Variable)

pub returns-in_default-meaning : goal.returns-in_default-meaning
returns-in_default-meaning c state notes there =
    value_alone state notes _ _ c.bare-in_default-meaning.result IsCoded coded_in (λ k. with_address k.scene.block c.args.scope c.args.meaning c.args.operand) (c.bare-in_default-meaning.ensures.there state.frame c.args.fragments.now.nodes.items (rw c.in-Variable.is at there))
    (λ k. c.bare-in_default-meaning.ensures.told c.args.fragments.now.nodes.items ∙ with_no_var k.scene.block c.args.scope c.args.meaning c.in-Variable.of c.in_default-meaning.not-Var
    ∙ ap (λ o. with_address k.scene.block c.args.scope c.args.meaning o) (sym c.in-Variable.is))

pub returns-in-Plain : goal.returns-in-Plain
returns-in-Plain c state notes there =
    let b = block_of c.args.site.now.around.now in
    let t = c.in-Var.field-0 in
    let u = c.in-Variable.of in
    described_there c.answered_as.result (c.answered_as.ensures state notes c.args.site.now _ _ _ (rw c.in-Variable.is at there) c.one.ensures.made)
    (λ made. ap (λ i. gives (coded (Variable u) (plain (i ∷ [])))) c.cell_instr-cell.ensures
    ∙ ap (λ m. gives (with_address b c.args.scope (Var t m c.in-Var.offset) (Variable u))) (sym c.in-Plain.is)
    ∙ ap (λ m. gives (with_address b c.args.scope m (Variable u))) (sym c.in-Var.is)
    ∙ ap (λ o. gives (with_address b c.args.scope c.args.meaning o)) (sym c.in-Variable.is))

pub returns-in-ByAddress : goal.returns-in-ByAddress
returns-in-ByAddress c state notes there =
    let b = block_of c.args.site.now.around.now in
    let t = c.in-Var.field-0 in
    let u = c.in-Variable.of in
    described_there c.answered_as-in-ByAddress.result (c.answered_as-in-ByAddress.ensures state notes c.args.site.now _ _ _ (rw c.in-Variable.is at there) c.pair.ensures)
    (λ made. ap (λ i. gives (coded (Variable u) (plain (i ∷ Load ∷ [])))) c.cell_instr-cell.ensures
    ∙ ap (λ m. gives (with_address b c.args.scope (Var t m c.in-Var.offset) (Variable u))) (sym c.in-ByAddress.is)
    ∙ ap (λ m. gives (with_address b c.args.scope m (Variable u))) (sym c.in-Var.is)
    ∙ ap (λ o. gives (with_address b c.args.scope c.args.meaning o)) (sym c.in-Variable.is))

pub returns-in_default-checked_add : goal.returns-in_default-checked_add
returns-in_default-checked_add c state notes there = question_failed notes _ (Reads-refl state) _

pub returns-in_err-high-in-Open : goal.returns-in_err-high-in-Open
returns-in_err-high-in-Open c state notes there = coding_full state notes c.args.site.now c.from_residual.result c.from_residual.ensures.0 c.in_err-high-in-Open.ensures

pub returns-in_err-code-in-Open : goal.returns-in_err-code-in-Open
returns-in_err-code-in-Open c state notes there =
    then_full c.from_residual-in_err-code-in-Open.result c.from_residual-in_err-code-in-Open.ensures.0 (record { works = Works-refl state notes; grows = c.in_ok-high-in-Open.ensures.grows }) c.in_err-code-in-Open.ensures

pub returns-in_ok-code-in-Open : goal.returns-in_ok-code-in-Open
returns-in_ok-code-in-Open c state notes there =
    let b = block_of c.args.site.now.around.now in
    let t = c.in-Var.field-0 in
    let u = c.in-Variable.of in
    let i = c.cell_instr-cell.result in
    let j = c.cell_instr-second.result in
    let h = c.in_ok-high-in-Open.ensures in
    let p = c.in_ok-code-in-Open.ensures in
    let last = c.pair-in-Open-2.new.fragments.nodes.items in
    let cells : Instr → Instr → Coded = (λ i j. record { operand = Variable u; code = plain (i ∷ Load ∷ []); high = plain (j ∷ Load ∷ []) }) in
    let address : Part → Part → Coded = (λ p q. record { operand = Variable u; code = p; high = q }) in
    described_there _
    (value_grown state notes c.args.site.now _ IsCoded coded_in (λ k. with_address b c.args.scope c.args.meaning c.args.operand) (Grows-trans h.grows p.grows)
    (record { operand = rw c.in-Variable.is at there; code = p.made.there; high = in_later p.grows c.in_ok-high-in-Open.high h.made.there })
    (λ k. ap (λ (q : Part). address q (part last c.in_ok-high-in-Open.high)) p.made.part_is
    ∙ ap (address (plain (i ∷ Load ∷ []))) (part_later p.grows c.in_ok-high-in-Open.high h.made.there ∙ h.made.part_is)
    ∙ ap (λ (i : Instr). cells i j) c.cell_instr-cell.ensures
    ∙ ap (cells (cell_instr b c.args.scope c.in-Var.offset)) (c.cell_instr-second.ensures ∙ ap (λ (o : ℕ). cell_instr b c.args.scope o) c.in-Some.ensures.1)
    ∙ ap (λ (m : Mode). with_address b c.args.scope (Var t m c.in-Var.offset) (Variable u)) (sym c.in-Open.is)
    ∙ ap (λ (m : RowMeaning). with_address b c.args.scope m (Variable u)) (sym c.in-Var.is)
    ∙ ap (λ (o : Operand). with_address b c.args.scope c.args.meaning o) (sym c.in-Variable.is)))
    (λ made. refl)

use Rattle.std.proofs.Common.{◌∙◌, Bool, Ok, ap, sym, refl, if◌then◌else◌}
use Rattle.m2_base.specs.Gives.{gives}
use Rattle.m2_base.specs.States.{Frame}
use Rattle.m2_base.specs.Statics.Contexts.{refuse}
use Rattle.m2_base.specs.Statics.Diagnostics.{not_a_control_variable}
use Rattle.m2_base.specs.declared.operands.Operand.{Operand}
use Rattle.m2_base.specs.declared.replies.Ask.TheVariants.{Known}
use Rattle.type_rules.specs.Sites.{context_of}
use Rattle.block_code.specs.Coded.{in_error}
use Rattle.expr_sem.specs.Codings.{IsCoded, coded_in}
use Rattle.expr_sem.proofs.Making.{after_question, question_waits}
use Rattle.expr_sem.proofs.Operating.{described, value_alone}
use Rattle.expr_sem.proofs.Selecting.{error_alone, stays_read}
use Rattle.block_code.specs.Counting.{controls_by}
use Rattle.stmt_sem.proofs.ActionCases.{controls_other}
use Rattle.stmt_sem.proofs.control_variables.check_control.Goals as goal

pub returns-in-InError : goal.returns-in-InError
returns-in-InError g c nodes h =
    error_alone _ _ nodes _ c.in_error.result _ c.in_error.ensures.told c.in_error.ensures.there
    (λ k. ap (λ (o : Operand). controls_by k c.args.x.at c.args.entry (coded_in nodes c.args.x.coded) o) (sym c.in-InError.is))

pub returns-in-DontKnowYet : goal.returns-in-DontKnowYet
returns-in-DontKnowYet g c nodes h = question_waits _ nodes c.can_control.ensures.reads c.in-DontKnowYet.ensures.waits

pub returns-then-holds : goal.returns-then-holds
returns-then-holds g c nodes h =
    let x = coded_in nodes c.args.x.coded in
    after_question (Ok (Known c.args.x.coded)) c.in-Known.ensures.reads
    (value_alone (g.S.Scopes.state c.can_control.new.scopes) c.args.notes.now nodes c.args.site.now c.args.x.coded IsCoded coded_in (λ k. x) (stays_read (λ (f : Frame). IsCoded f nodes c.args.x.coded) c.in-Known.ensures.reads h) (λ k. refl))
    (λ made in_hand told. let k = context_of (g.S.Scopes.state c.args.scopes.now).frame made c.args.site.now in
    ap (λ (b : Bool). if b then gives x else refuse k c.args.x.at not_a_control_variable in_error) (sym c.if-holds.true ∙ c.in-Known.ensures.told made in_hand told)
    ∙ ap (λ (o : Operand). controls_by k c.args.x.at c.args.entry x o) (sym c.in-Variable.is))

pub returns-else-holds : goal.returns-else-holds
returns-else-holds g c nodes h =
    let x = coded_in nodes c.args.x.coded in
    after_question c.refused.result c.in-Known.ensures.reads (c.refused.ensures (g.S.Scopes.state c.can_control.new.scopes) nodes)
    (λ made in_hand told. let k = context_of (g.S.Scopes.state c.args.scopes.now).frame made c.args.site.now in
    ap (λ (b : Bool). if b then gives x else refuse k c.args.x.at not_a_control_variable in_error) (sym c.if-holds.false ∙ c.in-Known.ensures.told made in_hand told)
    ∙ ap (λ (o : Operand). controls_by k c.args.x.at c.args.entry x o) (sym c.in-Variable.is))

pub returns-in_default : goal.returns-in_default
returns-in_default g c nodes h =
    described c.refused-in_default.result (c.refused-in_default.ensures (g.S.Scopes.state c.args.scopes.now) nodes)
    (λ k. controls_other k c.args.x.at c.args.entry (coded_in nodes c.args.x.coded) c.args.x.coded.operand c.in_default.not-InError c.in_default.not-Variable)

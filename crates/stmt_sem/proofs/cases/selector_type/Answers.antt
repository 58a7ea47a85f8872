use Rattle.std.proofs.Common.{◌∙◌, Bool, ap, sym, subst, refl, if◌then◌else◌}
use Rattle.m2_base.specs.Gives.{gives}
use Rattle.m2_base.specs.Standard.{broken}
use Rattle.m2_base.specs.States.{Frame}
use Rattle.m2_base.specs.Statics.Contexts.{refuse}
use Rattle.m2_base.specs.Statics.Diagnostics.{wrong_operands}
use Rattle.m2_base.specs.Statics.Operands.{operand_type}
use Rattle.m2_base.specs.Statics.Operations.{is_ordinal}
use Rattle.m2_base.specs.declared.rows.Place.{Place}
use Rattle.const_eval.proofs.TypesThere.{standard_there, type_there}
use Rattle.type_rules.specs.Scenes.{IsThere}
use Rattle.type_rules.specs.Sites.{context_of}
use Rattle.expr_sem.proofs.Making.{after_question, question_waits}
use Rattle.expr_sem.proofs.Operating.{described, value_alone}
use Rattle.expr_sem.proofs.Refusing.{not_noted, refused_here}
use Rattle.expr_sem.proofs.Selecting.{stays_read}
use Rattle.expr_sem.specs.Codings.{coded_in}
use Rattle.block_code.specs.Cases.{selector_type}
use Rattle.stmt_sem.specs.Plain.{IsType, itself}
use Rattle.stmt_sem.proofs.cases.selector_type.Goals as goal

pub returns-then-is_bad : goal.returns-then-is_bad
returns-then-is_bad g c nodes =
    described _ (value_alone (g.S.Scopes.state c.args.scopes.now) c.args.notes.now nodes c.args.site.now broken IsType itself (λ k. broken) (standard_there c.requires.suits.around 10) (λ k. refl))
    (λ k. ap (λ (b : Bool). if b then gives broken else if is_ordinal k c.args.x.operand then gives (operand_type c.args.x.operand) else refuse k c.args.at wrong_operands broken) (sym c.if-is_bad.true ∙ c.is_bad.ensures))

pub returns-in-DontKnowYet : goal.returns-in-DontKnowYet
returns-in-DontKnowYet g c nodes = question_waits _ nodes c.is_ordinal.ensures.reads c.in-DontKnowYet.ensures.waits

pub returns-then-holds : goal.returns-then-holds
returns-then-holds g c nodes =
    let reads = c.in-Known.ensures.reads in
    after_question _ reads
    (value_alone (g.S.Scopes.state c.is_ordinal.new.scopes) c.args.notes.now nodes c.args.site.now c.operand_type.result IsType itself (λ k. c.operand_type.result)
    (stays_read (λ (f : Frame). IsThere f c.operand_type.result) reads (subst (λ (t : Place). IsThere (g.S.Scopes.state c.args.scopes.now).frame t) (sym c.operand_type.ensures) (type_there c.requires.suits.around c.args.x.operand c.requires.x)))
    (λ k. refl))
    (λ made in_hand told. let k = context_of (g.S.Scopes.state c.args.scopes.now).frame made c.args.site.now in
    ap (λ (b : Bool). if b then gives c.operand_type.result else refuse k c.args.at wrong_operands broken) (sym c.if-holds.true ∙ c.in-Known.ensures.told made in_hand told)
    ∙ ap (λ (t : Place). if is_ordinal k c.args.x.operand then gives t else refuse k c.args.at wrong_operands broken) c.operand_type.ensures
    ∙ ap (λ (b : Bool). if b then gives broken else if is_ordinal k c.args.x.operand then gives (operand_type c.args.x.operand) else refuse k c.args.at wrong_operands broken) (sym c.if-is_bad.false ∙ c.is_bad.ensures))

pub returns-in_err-noted : goal.returns-in_err-noted
returns-in_err-noted g c nodes =
    after_question {h = λ k. selector_type k c.args.at (coded_in nodes c.args.x)} c.from_residual.result c.in-Known.ensures.reads
    (not_noted (g.S.Scopes.state c.is_ordinal.new.scopes) c.args.notes.now c.noted.new.notes nodes c.args.site.now IsType itself (λ k. selector_type k c.args.at (coded_in nodes c.args.x)) c.from_residual.result c.from_residual.ensures.0 c.in_err-noted.ensures.answers c.in_err-noted.ensures.kept)
    (λ made in_hand told. refl)

pub returns : goal.returns
returns g c nodes =
    let reads = c.in-Known.ensures.reads in
    after_question _ reads
    (refused_here (g.S.Scopes.state c.is_ordinal.new.scopes) c.args.notes.now c.noted.new.notes nodes c.args.site.now broken IsType itself c.args.at wrong_operands broken c.in_ok-noted.ensures.answers c.in_ok-noted.ensures.noted
    (stays_read (λ (f : Frame). IsThere f broken) reads (standard_there c.requires.suits.around 10)) refl)
    (λ made in_hand told. let k = context_of (g.S.Scopes.state c.args.scopes.now).frame made c.args.site.now in
    ap (λ (b : Bool). if b then gives (operand_type c.args.x.operand) else refuse k c.args.at wrong_operands broken) (sym c.if-holds.false ∙ c.in-Known.ensures.told made in_hand told)
    ∙ ap (λ (b : Bool). if b then gives broken else if is_ordinal k c.args.x.operand then gives (operand_type c.args.x.operand) else refuse k c.args.at wrong_operands broken) (sym c.if-is_bad.false ∙ c.is_bad.ensures))

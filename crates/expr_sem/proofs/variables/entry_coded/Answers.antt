use Rattle.std.proofs.Common.{◌∙◌, ap, sym}
use Rattle.m2_base.specs.Gives.{gives}
use Rattle.m2_base.specs.Rows.{row_meaning}
use Rattle.type_rules.specs.Scenes.{block_of}
use Rattle.type_rules.specs.Sites.{context_of}
use Rattle.const_eval.specs.Sites.{IsOperand}
use Rattle.block_code.specs.Variables.{entry_coded, with_address}
use Rattle.expr_sem.proofs.Making.{after_question, question_waits}
use Rattle.expr_sem.proofs.Selecting.{error_alone, stays_read}
use Rattle.expr_sem.proofs.variables.entry_coded.Goals as goal

pub returns-in-None : goal.returns-in-None
returns-in-None g c notes =
    error_alone _ notes _ _ c.in_error.result _ c.in_error.ensures.told c.in_error.ensures.there (λ k. ap (λ e. gives (entry_coded k e)) (sym c.in-None.is))

pub returns-in-DontKnowYet : goal.returns-in-DontKnowYet
returns-in-DontKnowYet g c notes = question_waits notes _ c.operand_of.ensures.reads c.in-DontKnowYet.ensures.waits

pub returns-in-Known : goal.returns-in-Known
returns-in-Known g c notes =
    let e = c.in-Some.entry in
    let b = block_of c.args.site.now.around.now in
    after_question c.with_address.result c.operand_of.ensures.reads
    (c.with_address.ensures (g.S.Scopes.state c.operand_of.new.scopes) notes (stays_read (λ f. IsOperand f c.in-Known.value) c.operand_of.ensures.reads c.in-Known.ensures.there))
    (λ made in_hand told. ap (λ m. gives (with_address b e.0.scope m c.in-Known.value)) c.read_row.ensures
    ∙ ap (λ o. gives (with_address b e.0.scope (row_meaning e.1) o)) (c.in-Known.ensures.told made in_hand told)
    ∙ ap (λ x. gives (entry_coded (context_of (g.S.Scopes.state c.args.scopes.now).frame made c.args.site.now) x)) (sym c.in-Some.is))

use Rattle.std.proofs.Common.{◌∙◌, Ok, ap, subst, sym}
use Rattle.m2_base.specs.States.{Frame}
use Rattle.m2_base.specs.declared.replies.Ask.TheVariants.{Known}
use Rattle.const_eval.specs.Sites.{IsOperand}
use Rattle.block_code.specs.Coded as code
use Rattle.block_code.specs.Coded.{in_error}
use Rattle.expr_sem.specs.Codings.{IsCoded, coded_in}
use Rattle.m2_base.specs.Diagnostics.{code_of}
use Rattle.expr_sem.specs.Takings.{IsTaking}
use Rattle.block_code.specs.Values.{in_range}
use Rattle.expr_sem.specs.declared.takings.Taking.{Taking}
use Rattle.expr_sem.specs.declared.takings.Taking.TheVariants.{PassedOver, Refused, Taken}
use Rattle.type_rules.specs.Sites.{context_of}
use Rattle.expr_sem.proofs.Making.{after_question, question_waits}
use Rattle.expr_sem.proofs.Operating.{value_alone}
use Rattle.expr_sem.proofs.ValueCases.{taken_is}
use Rattle.expr_sem.proofs.coder.Coder.assigned_to.Goals as goal
use Rattle.const_eval.proofs.Later.{SuitsSite_read}
use Rattle.type_rules.proofs.Later.{IsThere_read}

pub returns-in-Known-PassedOver-clause-codes : goal.returns-in-Known-PassedOver-clause-codes
returns-in-Known-PassedOver-clause-codes g c =
    let nodes = c.args.self.now.fragments.now.nodes.items in
    let f = (g.S.Scopes.state c.args.self.now.scopes.now).frame in
    let mid = g.S.Scopes.state c.taking_of.new.scopes in
    let asked = c.in-Known-PassedOver in
    after_question (Ok (Known c.in_error.result)) asked.ensures.reads
    (value_alone mid c.args.self.now.notes.now nodes c.args.self.now.site.now c.in_error.result IsCoded coded_in (λ k. in_error) (c.in_error.ensures.there mid.frame nodes) (λ k. c.in_error.ensures.told nodes))
    (λ made in_hand told. taken_is (context_of f made c.args.self.now.site.now) c.args.to c.args.x.at (code_of c.args.refusal) (coded_in nodes c.args.x.coded) PassedOver (sym asked.field-0-is ∙ asked.ensures.told made in_hand told))

pub returns-in-Known-Refused-clause-codes : goal.returns-in-Known-Refused-clause-codes
returns-in-Known-Refused-clause-codes g c =
    let nodes = c.args.self.now.fragments.now.nodes.items in
    let f = (g.S.Scopes.state c.args.self.now.scopes.now).frame in
    let asked = c.in-Known-Refused in
    after_question c.refused.result asked.ensures.reads (c.refused.ensures (g.S.Scopes.state c.taking_of.new.scopes) nodes)
    (λ made in_hand told. taken_is (context_of f made c.args.self.now.site.now) c.args.to c.args.x.at (code_of c.args.refusal) (coded_in nodes c.args.x.coded) Refused (sym asked.field-0-is ∙ asked.ensures.told made in_hand told))

pub returns-in-Known-Taken-clause-codes : goal.returns-in-Known-Taken-clause-codes
returns-in-Known-Taken-clause-codes g c =
    let nodes = c.args.self.now.fragments.now.nodes.items in
    let f = (g.S.Scopes.state c.args.self.now.scopes.now).frame in
    let asked = c.in-Known-Taken in
    let operand : IsOperand f asked.operand = subst (λ (t : Taking). IsTaking f t) asked.field-0-is asked.ensures.there in
    after_question c.in_range.result asked.ensures.reads
    (c.in_range.ensures nodes (subst (λ (e : Frame). IsCoded e nodes c.taken-coded.result) (sym asked.ensures.reads.keeps.frame) (c.taken-coded.ensures.there f nodes operand c.requires.x)))
    (λ made in_hand told. let k = context_of f made c.args.self.now.site.now in
    ap (λ (y : code.Coded). in_range k c.args.x.at c.args.to y) (c.taken-coded.ensures.told nodes)
    ∙ taken_is k c.args.to c.args.x.at (code_of c.args.refusal) (coded_in nodes c.args.x.coded) (Taken asked.operand) (sym asked.field-0-is ∙ asked.ensures.told made in_hand told))

pub taking_of-requires-clause-suits : goal.taking_of-requires-clause-suits
taking_of-requires-clause-suits g c = c.requires.suits

pub taking_of-requires-clause-to : goal.taking_of-requires-clause-to
taking_of-requires-clause-to g c = c.requires.to

pub returns-in-DontKnowYet-clause-codes : goal.returns-in-DontKnowYet-clause-codes
returns-in-DontKnowYet-clause-codes g c = question_waits _ _ c.in-DontKnowYet.ensures.reads c.in-DontKnowYet.ensures.waits

pub in_range-requires-clause-suits : goal.in_range-requires-clause-suits
in_range-requires-clause-suits g c = SuitsSite_read c.in-Known-Taken.ensures.reads c.requires.suits

pub in_range-requires-clause-to : goal.in_range-requires-clause-to
in_range-requires-clause-to g c = IsThere_read c.in-Known-Taken.ensures.reads c.requires.to

pub taking_of-requires-clause-operand : goal.taking_of-requires-clause-operand
taking_of-requires-clause-operand g c = c.requires.x.operand

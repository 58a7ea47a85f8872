use Rattle.std.proofs.Common.{◌∙◌, Bool, None, Ok, Some, ap, if◌then◌else◌, refl, sym}
use Rattle.m2_base.specs.Gives.{gives}
use Rattle.m2_base.specs.Statics.Contexts.{refuse}
use Rattle.m2_base.specs.Statics.Diagnostics.{wrong_argument}
use Rattle.m2_base.specs.declared.replies.Ask.TheVariants.{Known}
use Rattle.expr_sem.specs.ArgumentCodes.{IsArgument, argument_in}
use Rattle.block_code.specs.Arguments.{address_by}
use Rattle.expr_sem.specs.Fragments.{part}
use Rattle.type_rules.specs.Sites.{context_of}
use Rattle.expr_sem.proofs.ArgumentCases.{address_refused, none_passed, other_address}
use Rattle.expr_sem.proofs.Making.{after_question, question_waits}
use Rattle.expr_sem.proofs.Operating.{described, value_alone}
use Rattle.expr_sem.proofs.arguments.by_address.Goals as goal

pub returns-in_default : goal.returns-in_default
returns-in_default g c nodes h =
    described (Ok (Known None)) (none_passed (g.S.Scopes.state c.args.scopes.now) c.args.notes.now nodes c.args.site.now)
    (λ k. other_address k c.args.of c.args.x.at (part nodes c.args.x.coded.code) c.args.x.coded.operand c.in_default.not-Variable)

pub returns-in-Known-false : goal.returns-in-Known-false
returns-in-Known-false g c nodes h =
    let f = (g.S.Scopes.state c.args.scopes.now).frame in
    let asked = c.in-Known-false in
    after_question c.refuse_argument.result asked.ensures.reads (c.refuse_argument.ensures (g.S.Scopes.state c.same.new.scopes) nodes)
    (λ made in_hand told. let k = context_of f made c.args.site.now in
    address_refused k c.args.of c.args.x.at (part nodes c.args.x.coded.code) c.in-Variable.variable (sym (asked.ensures.told made in_hand told) ∙ asked.field-0-test)
    ∙ ap (address_by k c.args.of c.args.x.at (part nodes c.args.x.coded.code)) (sym c.in-Variable.is))

pub returns-in-Known-true : goal.returns-in-Known-true
returns-in-Known-true g c nodes h =
    let code = c.args.x.coded.code in
    let asked = c.in-Known-true in
    after_question (Ok (Known (Some code))) asked.ensures.reads
    (value_alone (g.S.Scopes.state c.same.new.scopes) c.args.notes.now nodes c.args.site.now (Some code) IsArgument argument_in (λ k. Some (part nodes code)) h.code (λ k. refl))
    (λ made in_hand told. let k = context_of (g.S.Scopes.state c.args.scopes.now).frame made c.args.site.now in
    ap (λ (b : Bool). if b then gives (Some (part nodes code)) else refuse k c.args.x.at wrong_argument None) (sym asked.field-0-test ∙ asked.ensures.told made in_hand told)
    ∙ ap (address_by k c.args.of c.args.x.at (part nodes code)) (sym c.in-Variable.is))

pub returns-in-DontKnowYet : goal.returns-in-DontKnowYet
returns-in-DontKnowYet g c nodes h = question_waits _ nodes c.in-DontKnowYet.ensures.reads c.in-DontKnowYet.ensures.waits

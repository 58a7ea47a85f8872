use Rattle.std.proofs.Common.{◌∙◌, Bool, Ok, Option, Some, ap, if◌then◌else◌, map, subst, sym}
use Rattle.m2_base.specs.Gives.{gives}
use Rattle.m2_base.specs.declared.operands.Operand.TheVariants.{Computed}
use Rattle.m2_base.specs.declared.replies.Ask.TheVariants.{Known}
use Rattle.m2_base.specs.declared.rows.Place.{Place}
use Rattle.const_eval.proofs.TypesThere.{standard_there}
use Rattle.type_rules.specs.Sites.{context_of}
use Rattle.expr_sem.specs.ArgumentCodes.{argument_in, parameter_view}
use Rattle.block_code.specs.Calls.{call_code as spec_call_code, call_coded as spec_call_coded}
use Rattle.block_code.specs.Coded.{coded, in_error}
use Rattle.expr_sem.specs.Codings.{IsCoded, coded_in}
use Rattle.expr_sem.specs.Fragments.{IsIn, part}
use Rattle.block_code.specs.StandardProcedures.{no_value}
use Rattle.expr_sem.specs.declared.fragments.Fragment.{Fragment}
use Rattle.expr_sem.proofs.Making.{after_question, question_waits}
use Rattle.expr_sem.proofs.Operating.{described, value_alone}
use Rattle.expr_sem.proofs.Selecting.{error_alone}
use Rattle.expr_sem.proofs.coder.Coder.call_coded.Goals as goal
use Rattle.const_eval.proofs.Later.{SuitsSite_read}
use Rattle.expr_sem.specs.ArgumentCodes.{IsArgument}
use Rattle.std.specs.Option.{IfSome}
use Rattle.m2_base.specs.States.{Frame}
use Rattle.type_rules.specs.Scenes.{IsThere}
use Rattle.type_rules.proofs.Later.{IsThere_read}
use Rattle.expr_sem.specs.Callees.{IsCallee}
use Rattle.expr_sem.proofs.Selecting.{stays_read}

pub returns-in-None-clause-codes : goal.returns-in-None-clause-codes
returns-in-None-clause-codes g c =
    let n = c.args.self.now.notes.now in
    let ns = c.args.self.now.fragments.now.nodes.items in
    let callee = c.args.callee.now in
    let ps = map parameter_view callee.params.items in
    let before = part ns callee.before in
    error_alone (g.S.Scopes.state c.args.self.now.scopes.now) n ns c.args.self.now.site.now c.in_error.result (λ k. gives (spec_call_coded k.scene ps before callee.instr callee.result callee.more (argument_in ns c.args.args))) c.in_error.ensures.told c.in_error.ensures.there
    (λ k. ap (λ (a : Option Fragment). gives (spec_call_coded k.scene ps before callee.instr callee.result callee.more (argument_in ns a))) (sym c.in-None.is))

pub call_as-requires-clause-operand : goal.call_as-requires-clause-operand
call_as-requires-clause-operand g c = standard_there c.requires.suits.around 10

pub returns-in-None-result-clause-codes : goal.returns-in-None-result-clause-codes
returns-in-None-result-clause-codes g c =
    let ns = c.args.self.now.fragments.now.nodes.items in
    let callee = c.args.callee.now in
    let ps = map parameter_view callee.params.items in
    let before = part ns callee.before in
    let args = part ns c.in-Some.args in
    described c.call_as.result (c.call_as.ensures.codes)
    (λ k. ap (λ (r : Option Place). gives (coded no_value (spec_call_code k.scene ps before callee.instr r callee.more args))) c.in-None-result.is
    ∙ ap (λ (r : Option Place). gives (spec_call_coded k.scene ps before callee.instr r callee.more (Some args))) (sym c.in-None-result.is)
    ∙ ap (λ (a : Option Fragment). gives (spec_call_coded k.scene ps before callee.instr callee.result callee.more (argument_in ns a))) (sym c.in-Some.is))

pub returns-in-Known-true-clause-codes : goal.returns-in-Known-true-clause-codes
returns-in-Known-true-clause-codes g c =
    let n = c.args.self.now.notes.now in
    let ns = c.args.self.now.fragments.now.nodes.items in
    let callee = c.args.callee.now in
    let ps = map parameter_view callee.params.items in
    let before = part ns callee.before in
    let args = part ns c.in-Some.args in
    let of = c.in-Some-result.of in
    let asked = c.in-Known-true in
    let mid = g.S.Scopes.state c.is_broken.new.scopes in
    after_question (Ok (Known c.in_error-in-Known-true.result)) asked.ensures.reads
    (value_alone mid n ns c.args.self.now.site.now c.in_error-in-Known-true.result IsCoded coded_in (λ k. in_error) (c.in_error-in-Known-true.ensures.there mid.frame ns) (λ k. c.in_error-in-Known-true.ensures.told ns))
    (λ made in_hand told. let k = context_of (g.S.Scopes.state c.args.self.now.scopes.now).frame made c.args.self.now.site.now in
    ap (λ (b : Bool). gives (if b then in_error else coded (Computed of) (spec_call_code k.scene ps before callee.instr (Some of) callee.more args))) (sym asked.field-0-test ∙ asked.ensures.told made in_hand told)
    ∙ ap (λ (r : Option Place). gives (spec_call_coded k.scene ps before callee.instr r callee.more (Some args))) (sym c.in-Some-result.is)
    ∙ ap (λ (a : Option Fragment). gives (spec_call_coded k.scene ps before callee.instr callee.result callee.more (argument_in ns a))) (sym c.in-Some.is))

pub returns-in-Known-false-clause-codes : goal.returns-in-Known-false-clause-codes
returns-in-Known-false-clause-codes g c =
    let ns = c.args.self.now.fragments.now.nodes.items in
    let callee = c.args.callee.now in
    let ps = map parameter_view callee.params.items in
    let before = part ns callee.before in
    let args = part ns c.in-Some.args in
    let of = c.in-Some-result.of in
    let asked = c.in-Known-false in
    after_question c.call_as-in-Known-false.result asked.ensures.reads c.call_as-in-Known-false.ensures.codes
    (λ made in_hand told. let k = context_of (g.S.Scopes.state c.args.self.now.scopes.now).frame made c.args.self.now.site.now in
    ap (λ (r : Option Place). gives (coded (Computed of) (spec_call_code k.scene ps before callee.instr r callee.more args))) c.in-Some-result.is
    ∙ ap (λ (b : Bool). gives (if b then in_error else coded (Computed of) (spec_call_code k.scene ps before callee.instr (Some of) callee.more args))) (sym asked.field-0-test ∙ asked.ensures.told made in_hand told)
    ∙ ap (λ (r : Option Place). gives (spec_call_coded k.scene ps before callee.instr r callee.more (Some args))) (sym c.in-Some-result.is)
    ∙ ap (λ (a : Option Fragment). gives (spec_call_coded k.scene ps before callee.instr callee.result callee.more (argument_in ns a))) (sym c.in-Some.is))

pub is_broken-requires-clause-suits : goal.is_broken-requires-clause-suits
is_broken-requires-clause-suits g c = c.requires.suits.around

pub call_as-requires-clause-suits : goal.call_as-requires-clause-suits
call_as-requires-clause-suits g c = c.requires.suits

pub call_as-requires-clause-callee : goal.call_as-requires-clause-callee
call_as-requires-clause-callee g c = c.requires.callee

pub call_as-requires-clause-args : goal.call_as-requires-clause-args
call_as-requires-clause-args g c = subst (λ (a : Option Fragment). IsArgument (g.S.Scopes.state c.args.self.now.scopes.now).frame c.args.self.now.fragments.now.nodes.items a) c.in-Some.is c.requires.args

pub returns-in-DontKnowYet-clause-codes : goal.returns-in-DontKnowYet-clause-codes
returns-in-DontKnowYet-clause-codes g c = question_waits _ _ c.in-DontKnowYet.ensures.reads c.in-DontKnowYet.ensures.waits

pub call_as-requires-in-Known-false-clause-suits : goal.call_as-requires-in-Known-false-clause-suits
call_as-requires-in-Known-false-clause-suits g c = SuitsSite_read c.in-Known-false.ensures.reads c.requires.suits

pub is_broken-requires-clause-there : goal.is_broken-requires-clause-there
is_broken-requires-clause-there g c = subst (λ (r : Option Place). IfSome r (IsThere (g.S.Scopes.state c.args.self.now.scopes.now).frame)) c.in-Some-result.is c.requires.callee.result

pub call_as-requires-in-Known-false-clause-callee : goal.call_as-requires-in-Known-false-clause-callee
call_as-requires-in-Known-false-clause-callee g c = stays_read (λ (e : Frame). IsCallee e c.args.self.now.fragments.now.nodes.items c.args.callee.now) c.in-Known-false.ensures.reads c.requires.callee

pub call_as-requires-in-Known-false-clause-args : goal.call_as-requires-in-Known-false-clause-args
call_as-requires-in-Known-false-clause-args g c =
    stays_read (λ (e : Frame). IsIn c.args.self.now.fragments.now.nodes.items c.in-Some.args) c.in-Known-false.ensures.reads (subst (λ (a : Option Fragment). IsArgument (g.S.Scopes.state c.args.self.now.scopes.now).frame c.args.self.now.fragments.now.nodes.items a) c.in-Some.is c.requires.args)

pub call_as-requires-in-Known-false-clause-operand : goal.call_as-requires-in-Known-false-clause-operand
call_as-requires-in-Known-false-clause-operand g c = IsThere_read c.in-Known-false.ensures.reads (subst (λ (r : Option Place). IfSome r (IsThere (g.S.Scopes.state c.args.self.now.scopes.now).frame)) c.in-Some-result.is c.requires.callee.result)

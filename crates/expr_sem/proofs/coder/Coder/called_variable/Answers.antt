use Rattle.std.proofs.Common.{◌∙◌, List, Option, ap, map, refl, sym}
use Rattle.m2_base.specs.Gives.{gives}
use Rattle.m2_base.specs.States.{Frame}
use Rattle.m2_base.specs.Statics.TypeParts as parts
use Rattle.m2_base.specs.declared.rows.Place.{Place}
use Rattle.type_rules.specs.Forms.{parameters_from}
use Rattle.type_rules.specs.Sites.{SuitsSite, context_of}
use Rattle.type_rules.proofs.Reading.{Reads-trans, Waits_read}
use Rattle.expr_sem.specs.ArgumentCodes.{parameter_view}
use Rattle.expr_sem.specs.Callees.{IsCallable, allowed_by, called_in, variable_allowed, variable_called}
use Rattle.expr_sem.specs.Fragments.{part}
use Rattle.expr_sem.specs.Signatures.{IsSignature}
use Rattle.expr_sem.proofs.CallCases.{form_allowed, no_procedure, parts_allowed}
use Rattle.expr_sem.proofs.Following.{by_question, then_unknown, then_wanted}
use Rattle.expr_sem.proofs.Making.{after_question, question_failed, question_waits}
use Rattle.expr_sem.proofs.Onwards.{holds_after}
use Rattle.expr_sem.proofs.Operating.{coding_after, described}
use Rattle.expr_sem.proofs.Selecting.{stays_read}
use Rattle.expr_sem.proofs.coder.Coder.called_variable.Goals as goal
use Rattle.type_rules.specs.Forms.{IsFormHere}
use Rattle.const_eval.proofs.Later.{SuitsSite_read}

pub returns-in-DontKnowYet-asked-clause-codes : goal.returns-in-DontKnowYet-asked-clause-codes
returns-in-DontKnowYet-asked-clause-codes g c =
    let nodes = c.args.self.now.fragments.now.nodes.items in
    let first = c.in-Known-Some.ensures.reads in
    let second = c.in-Ok.ensures in
    question_waits _ nodes (Reads-trans first second.reads) (Waits_read first (rw c.in-DontKnowYet-asked.is at second.waits))

pub returns-in-Err-clause-codes : goal.returns-in-Err-clause-codes
returns-in-Err-clause-codes g c = let nodes = c.args.self.now.fragments.now.nodes.items in question_failed _ nodes (Reads-trans c.in-Known-Some.ensures.reads c.in-Err.ensures.reads) _

pub variable_callable-requires-clause-suits : goal.variable_callable-requires-clause-suits
variable_callable-requires-clause-suits g c =
    stays_read (λ (e : Frame). SuitsSite e c.args.self.now.site.now) (Reads-trans c.in-Known-Some.ensures.reads c.in-Ok.ensures.reads) c.requires.suits

pub variable_callable-requires-clause-signature : goal.variable_callable-requires-clause-signature
variable_callable-requires-clause-signature g c =
    stays_read (λ (e : Frame). IsSignature e c.in-Known.value) c.in-Ok.ensures.reads (rw c.in-Known.is at c.in-Ok.ensures.there)

pub returns-in-DontKnowYet-asked-2-clause-codes : goal.returns-in-DontKnowYet-asked-2-clause-codes
returns-in-DontKnowYet-asked-2-clause-codes g c =
    let n = c.args.self.now.notes.now in
    then_unknown (by_question n c.args.self.now.fragments.now.nodes.items (Reads-trans c.in-Known-Some.ensures.reads c.in-Ok.ensures.reads)) (rw c.in-DontKnowYet-asked-2.is at c.in-Ok-variable_callable.ensures n)

pub returns-in-Err-variable_callable-clause-codes : goal.returns-in-Err-variable_callable-clause-codes
returns-in-Err-variable_callable-clause-codes g c =
    let n = c.args.self.now.notes.now in
    then_wanted (by_question n c.args.self.now.fragments.now.nodes.items (Reads-trans c.in-Known-Some.ensures.reads c.in-Ok.ensures.reads)) (c.in-Err-variable_callable.ensures n) c.in-Err-variable_callable.memory

pub returns-in-Known-asked-clause-codes : goal.returns-in-Known-asked-clause-codes
returns-in-Known-asked-clause-codes g c =
    let n = c.args.self.now.notes.now in
    let ms = c.variable_callable.new.fragments.nodes.items in
    let asked = c.in-Known-Some in
    let code = part c.args.self.now.fragments.now.nodes.items c.args.code in
    let call = c.args.call in
    let form = asked.form in
    let ps = map parameter_view c.in-Known.value.params.items in
    let r = c.in-Known.value.result in
    let mid = (g.S.Scopes.state c.form_of.new.scopes).frame in
    let third = rw c.in-Known-asked.is at c.in-Ok-variable_callable.ensures n in
    after_question c.allowed.result asked.ensures.reads
    (after_question {h = λ k. variable_allowed k call.at call.is_wanted call.count code (parameters_from k.scene form.of form.first) form.result} c.allowed.result c.in-Ok.ensures.reads
    (coding_after (λ k. gives (variable_called k.scene ps r code)) (λ v k. allowed_by k call.at call.is_wanted call.count ps r v) c.allowed.result third
    (described c.allowed.result (c.allowed.ensures (g.S.Scopes.state c.variable_callable.new.scopes) ms (holds_after third (λ (e : Frame). IsCallable e ms c.in-Known-asked.value) third.there))
    (λ k. parts_allowed k call.at call.is_wanted call.count ps r c.suiting-suiting.result.gives_value c.suiting-suiting.result.is_count (called_in ms c.in-Known-asked.value) (called_in ms c.in-Known-asked.value) c.suiting-suiting.ensures.gives_value c.suiting-suiting.ensures.is_count refl)))
    (λ made in_hand told. let k = context_of mid made c.args.self.now.site.now in
    let signed = rw c.in-Known.is at c.in-Ok.ensures.told made in_hand told in
    ap (λ (l : List parts.Parameter). variable_allowed k call.at call.is_wanted call.count code l r) signed.params
    ∙ ap (λ (o : Option Place). variable_allowed k call.at call.is_wanted call.count code (parameters_from k.scene form.of form.first) o) signed.result))
    (λ made in_hand told. let k = context_of (g.S.Scopes.state c.args.self.now.scopes.now).frame made c.args.self.now.site.now in
    form_allowed k call.is_wanted call.at call.count code c.args.of form (sym asked.field-0-is ∙ asked.ensures.told made in_hand told))

pub returns-in-Known-None-clause-codes : goal.returns-in-Known-None-clause-codes
returns-in-Known-None-clause-codes g c =
    let ns = c.args.self.now.fragments.now.nodes.items in
    let asked = c.in-Known-None in
    after_question c.refused_call.result asked.ensures.reads (c.refused_call.ensures (g.S.Scopes.state c.form_of.new.scopes) ns)
    (λ made in_hand told. let k = context_of (g.S.Scopes.state c.args.self.now.scopes.now).frame made c.args.self.now.site.now in
    no_procedure k c.args.call.is_wanted c.args.call.at c.args.call.count (part ns c.args.code) c.args.of (sym asked.field-0-is ∙ asked.ensures.told made in_hand told))

pub form_of-requires-clause-suits : goal.form_of-requires-clause-suits
form_of-requires-clause-suits g c = c.requires.suits.around

pub form_of-requires-clause-there : goal.form_of-requires-clause-there
form_of-requires-clause-there g c = c.requires.of

pub signature_by-requires-clause-suits : goal.signature_by-requires-clause-suits
signature_by-requires-clause-suits g c = SuitsSite_read c.in-Known-Some.ensures.reads c.requires.suits

pub signature_by-requires-clause-form : goal.signature_by-requires-clause-form
signature_by-requires-clause-form g c =
    let asked = c.in-Known-Some in
    stays_read (λ (e : Frame). IsFormHere e asked.form) asked.ensures.reads (rw asked.field-0-is at asked.ensures.here)

pub returns-in-DontKnowYet-clause-codes : goal.returns-in-DontKnowYet-clause-codes
returns-in-DontKnowYet-clause-codes g c = question_waits _ _ c.in-DontKnowYet.ensures.reads c.in-DontKnowYet.ensures.waits

use Rattle.std.proofs.Common.{◌∙◌, ap, map}
use Rattle.m2_base.specs.States.{Frame}
use Rattle.type_rules.specs.Scenes.{rows_of}
use Rattle.type_rules.specs.Sites.{context_of}
use Rattle.type_rules.proofs.Reading.{Reads-trans, Waits_read}
use Rattle.expr_sem.specs.ArgumentCodes.{parameter_view}
use Rattle.expr_sem.specs.Callees.{allowed_by, called_in, target_called}
use Rattle.block_code.specs.ProcedureNames.{target_of_procedure as spec_target}
use Rattle.expr_sem.specs.Signatures.{IsSignature}
use Rattle.expr_sem.proofs.CallCases.{parts_allowed, type_allowed}
use Rattle.expr_sem.proofs.Making.{after_question, question_failed, question_waits}
use Rattle.expr_sem.proofs.Selecting.{stays_read}
use Rattle.expr_sem.proofs.coder.Coder.called_procedure.Goals as goal
use Rattle.const_eval.proofs.Later.{SuitsSite_read}
use Rattle.type_rules.proofs.Later.{IsThere_read}

pub returns-in-DontKnowYet-asked-clause-codes : goal.returns-in-DontKnowYet-asked-clause-codes
returns-in-DontKnowYet-asked-clause-codes g c =
    let nodes = c.args.self.now.fragments.now.nodes.items in
    let first = c.in-Ok.ensures in
    let second = c.in-Ok-target_of_procedure.ensures in
    question_waits _ nodes (Reads-trans first.reads second.reads) (Waits_read first.reads (rw c.in-DontKnowYet-asked.is at second.waits))

pub returns-in-Err-target_of_procedure-clause-codes : goal.returns-in-Err-target_of_procedure-clause-codes
returns-in-Err-target_of_procedure-clause-codes g c = let nodes = c.args.self.now.fragments.now.nodes.items in question_failed _ nodes (Reads-trans c.in-Ok.ensures.reads c.in-Err-target_of_procedure.ensures.reads) _

pub returns-clause-codes : goal.returns-clause-codes
returns-clause-codes g c =
    let nodes = c.args.self.now.fragments.now.nodes.items in
    let f = (g.S.Scopes.state c.args.self.now.scopes.now).frame in
    let mid = (g.S.Scopes.state c.signature_of.new.scopes).frame in
    let s = c.args.self.now.site.now in
    let a = s.around.now in
    let call = c.args.call in
    let ps = map parameter_view c.in-Known.value.params.items in
    let r = c.in-Known.value.result in
    let first = c.in-Ok.ensures in
    let second = c.in-Ok-target_of_procedure.ensures in
    let there = stays_read (λ (e : Frame). IsSignature e c.in-Known.value) (Reads-trans first.reads second.reads) (rw c.in-Known.is at first.there) in
    after_question c.allowed.result first.reads
    (after_question {h = λ k. allowed_by k call.at call.is_wanted call.count ps r (target_called k.scene ps r (spec_target k.scene c.args.name c.args.named.of c.args.named.number))} c.allowed.result second.reads
    (c.allowed.ensures (g.S.Scopes.state c.target_of_procedure.new.scopes) nodes (c.procedure_callable-what.ensures.there (g.S.Scopes.state c.target_of_procedure.new.scopes).frame nodes there))
    (λ made in_hand told. let k = context_of mid made s in
    parts_allowed k call.at call.is_wanted call.count ps r c.suiting-suiting.result.gives_value c.suiting-suiting.result.is_count (called_in nodes c.procedure_callable-what.result) (target_called k.scene ps r (spec_target k.scene c.args.name c.args.named.of c.args.named.number)) c.suiting-suiting.ensures.gives_value c.suiting-suiting.ensures.is_count
    (c.procedure_callable-what.ensures.told (rows_of mid made) nodes ∙ ap (target_called k.scene ps r) (rw c.in-Known-asked.is at second.told made in_hand told))))
    (λ made in_hand told. let k = context_of f made s in
    let signed = rw c.in-Known.is at first.told made in_hand told in
    type_allowed k call.at call.is_wanted call.count ps r c.args.named.of (spec_target k.scene c.args.name c.args.named.of c.args.named.number) signed.params signed.result)

pub signature_of-requires-clause-suits : goal.signature_of-requires-clause-suits
signature_of-requires-clause-suits g c = c.requires.suits

pub returns-in-DontKnowYet-clause-codes : goal.returns-in-DontKnowYet-clause-codes
returns-in-DontKnowYet-clause-codes g c = question_waits _ _ c.in-Ok.ensures.reads (rw c.in-DontKnowYet.is at c.in-Ok.ensures.waits)

pub returns-in-Err-clause-codes : goal.returns-in-Err-clause-codes
returns-in-Err-clause-codes g c = question_failed _ _ c.in-Err.ensures.reads _

pub target_of_procedure-requires-clause-suits : goal.target_of_procedure-requires-clause-suits
target_of_procedure-requires-clause-suits g c = SuitsSite_read c.in-Ok.ensures.reads c.requires.suits

pub target_of_procedure-requires-clause-named : goal.target_of_procedure-requires-clause-named
target_of_procedure-requires-clause-named g c = IsThere_read c.in-Ok.ensures.reads c.requires.named

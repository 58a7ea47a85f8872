use Rattle.std.proofs.Common.{◌≡◌, ◌∙◌, ◌∷◌, [], ℕ, ap, arith, map}
use Rattle.m2_base.specs.Gives.{gives}
use Rattle.m2_base.specs.States.{Frame}
use Rattle.code_form.specs.declared.instr.Instr.TheVariants.{CallVar, Load}
use Rattle.expr_sem.specs.ArgumentCodes.{parameter_view}
use Rattle.expr_sem.specs.Callees.{IsCallable, called_in, value_called, variable_called}
use Rattle.block_code.specs.Calls.{procedure_call}
use Rattle.expr_sem.specs.Fragments.{part}
use Rattle.block_code.specs.Parts.{plain, ◌⨟◌}
use Rattle.expr_sem.specs.Signatures.{IsSignature}
use Rattle.expr_sem.proofs.Following.{by_question, then_full}
use Rattle.expr_sem.proofs.Making.{after_question, question_failed, question_waits}
use Rattle.expr_sem.proofs.Operating.{value_grown}
use Rattle.expr_sem.proofs.Selecting.{stays_read}
use Rattle.expr_sem.proofs.calls.variable_callable.Goals as goal

pub returns-in_default : goal.returns-in_default
returns-in_default g c n = question_failed n _ c.in-Ok.ensures.reads _

pub returns-in_err-before : goal.returns-in_err-before
returns-in_err-before g c n = then_full c.from_residual.result c.from_residual.ensures.0 (by_question n _ c.in-Ok.ensures.reads) c.in_err-before.ensures

pub returns : goal.returns
returns g c n =
    let ps = map parameter_view c.args.signature.params.items in
    let r = c.args.signature.result in
    let ms = c.instr_behind.new.fragments.nodes.items in
    let code = part c.args.fragments.now.nodes.items c.args.code in
    let loaded = code ⨟ plain (Load ∷ []) in
    let before = c.in_ok-before.ensures in
    let number = c.in-Ok-try_from.cells in
    let told = c.in-Ok-try_from.ensures in
    let same : number ≡ c.in-Known.value = omega (arith, told) in
    let signature = stays_read (λ (e : Frame). IsSignature e c.args.signature) c.in-Ok.ensures.reads c.requires.signature in
    after_question {g = λ k. gives (value_called ps r c.in-Known.value loaded)} {h = λ k. gives (variable_called k.scene ps r code)} _ c.in-Ok.ensures.reads
    (value_grown (g.S.Scopes.state c.cells_of_all.new.scopes) n c.args.site.now _ IsCallable called_in (λ k. value_called ps r c.in-Known.value loaded) before.grows
    (record { params = signature.params; before = before.made.there; result = signature.result })
    (λ k. ap (λ (m : ℕ). procedure_call ps (part ms c.in_ok-before.before) (CallVar number m) r 1) c.result_cells.ensures
    ∙ ap (value_called ps r number) before.made.part_is ∙ ap (λ (m : ℕ). value_called ps r m loaded) same))
    (λ made in_hand told. ap (λ (cells : ℕ). gives (value_called ps r cells loaded)) (rw c.deref.ensures.value at (rw c.in-Known.is at c.in-Ok.ensures.told made in_hand told)))

pub returns-in-DontKnowYet : goal.returns-in-DontKnowYet
returns-in-DontKnowYet g c n = question_waits n _ c.in-Ok.ensures.reads (rw c.in-DontKnowYet.is at c.in-Ok.ensures.waits)

pub returns-in-Err : goal.returns-in-Err
returns-in-Err g c n = question_failed n _ c.in-Err.ensures.reads _

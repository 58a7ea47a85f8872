use Rattle.std.proofs.Common.{◌≡◌, ◌∙◌, Bool, Ok, ap, refl, sym}
use Rattle.m2_base.specs.declared.replies.Ask.TheVariants.{Known}
use Rattle.expr_sem.specs.Callees.{IsCallable, called_in}
use Rattle.block_code.specs.Calls.{is_same_truth}
use Rattle.expr_sem.proofs.CallCases.{all_allowed, count_refused, kind_refused}
use Rattle.expr_sem.proofs.Operating.{described, value_alone}
use Rattle.expr_sem.proofs.calls.allowed.Goals as goal
use Rattle.expr_sem.proofs.calls.allowed.Goals.{then-call, else-call}

pub returns-then-suiting : goal.returns-then-suiting
returns-then-suiting c state nodes h =
    let same : c.if-call.suits ≡ is_same_truth c.args.call.is_wanted c.args.suiting.gives_value = elim c.if-call.branch [
      | then-call w ↦ w.suits-is ∙ ap (λ (b : Bool). is_same_truth b c.args.suiting.gives_value) (sym w.if-call.true)
      | else-call w ↦ w.suits-is ∙ ap (λ (b : Bool). is_same_truth b c.args.suiting.gives_value) (sym w.if-call.false)
    ] in
    described (Ok (Known c.args.what)) (value_alone state c.args.notes.now nodes c.args.site.now c.args.what IsCallable called_in (λ k. called_in nodes c.args.what) h (λ k. refl))
    (λ k. all_allowed k c.args.call.at c.args.call.is_wanted c.args.suiting.gives_value c.args.suiting.is_count (called_in nodes c.args.what) (sym same ∙ c.if-suits.true) c.if-suiting.true)

pub returns-else-suiting : goal.returns-else-suiting
returns-else-suiting c state nodes h =
    let same : c.if-call.suits ≡ is_same_truth c.args.call.is_wanted c.args.suiting.gives_value = elim c.if-call.branch [
      | then-call w ↦ w.suits-is ∙ ap (λ (b : Bool). is_same_truth b c.args.suiting.gives_value) (sym w.if-call.true)
      | else-call w ↦ w.suits-is ∙ ap (λ (b : Bool). is_same_truth b c.args.suiting.gives_value) (sym w.if-call.false)
    ] in
    described c.refused_call.result (c.refused_call.ensures state nodes)
    (λ k. count_refused k c.args.call.at c.args.call.is_wanted c.args.suiting.gives_value c.args.suiting.is_count (called_in nodes c.args.what) (sym same ∙ c.if-suits.true) c.if-suiting.false)

pub returns-else-suits : goal.returns-else-suits
returns-else-suits c state nodes h =
    let same : c.if-call.suits ≡ is_same_truth c.args.call.is_wanted c.args.suiting.gives_value = elim c.if-call.branch [
      | then-call w ↦ w.suits-is ∙ ap (λ (b : Bool). is_same_truth b c.args.suiting.gives_value) (sym w.if-call.true)
      | else-call w ↦ w.suits-is ∙ ap (λ (b : Bool). is_same_truth b c.args.suiting.gives_value) (sym w.if-call.false)
    ] in
    described c.refused_call-else-suits.result (c.refused_call-else-suits.ensures state nodes)
    (λ k. kind_refused k c.args.call.at c.args.call.is_wanted c.args.suiting.gives_value c.args.suiting.is_count (called_in nodes c.args.what) (sym same ∙ c.if-suits.false))

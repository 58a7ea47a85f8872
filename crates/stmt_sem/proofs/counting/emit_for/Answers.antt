use Rattle.std.proofs.Common.{◌≡◌, ◌∙◌, ℕ, ℤ, ap, rules, of_z, to_z, w64}
use Rattle.std.proofs.Math.Path.{fun_ext}
use Rattle.m2_base.specs.Gives.{and_then, gives}
use Rattle.m2_base.proofs.Kept.{Works-trans}
use Rattle.type_rules.specs.Sites.{context_of}
use Rattle.block_code.specs.Coded as code
use Rattle.expr_sem.specs.Codings.{coded_in}
use Rattle.expr_sem.specs.Fragments.{part}
use Rattle.block_code.specs.Parts.{Part}
use Rattle.expr_sem.proofs.Onwards.{coded_after, suits_after}
use Rattle.expr_sem.proofs.Operating.{coded_later}
use Rattle.expr_sem.proofs.Quiet.{no_notes}
use Rattle.expr_sem.proofs.Sequencing.{Grows-trans, in_later, part_later}
use Rattle.block_code.specs.Counting.{for_first, for_last, for_step}
use Rattle.stmt_sem.specs.FlowTrees.{CellFlow, MadeBy, code_by, flow_in}
use Rattle.block_code.specs.Flows.{straight, with_cell, ◌⨾◌}
use Rattle.stmt_sem.specs.Stated.{answer_of}
use Rattle.stmt_sem.proofs.Flowed.{by_answer, described, flowing_after, made_after_both, of_coding, unknown, unmade}
use Rattle.stmt_sem.proofs.FlowsBehind.{code_unknown, code_unmade, described_told, full_behind}
use Rattle.stmt_sem.proofs.FlowsLater.{code_later, code_there, flow_later, over_later}
use Rattle.stmt_sem.proofs.FlowsMade.{made_as, then_both}
use Rattle.stmt_sem.proofs.LoopCases.{turns}
use Rattle.stmt_sem.proofs.counting.emit_for.Goals as goal

pub returns-in-DontKnowYet : goal.returns-in-DontKnowYet
returns-in-DontKnowYet g c notes within stands = unknown (of_coding _ (rw c.in-DontKnowYet.is at c.in-Ok.ensures notes))

pub returns-in-Err : goal.returns-in-Err
returns-in-Err g c notes within stands = unmade (of_coding _ (c.in-Err.ensures notes)) _

pub emit_last-requires-clause-suits : goal.emit_last-requires-clause-suits
emit_last-requires-clause-suits g c = suits_after (rw c.in-Known.is at c.in-Ok.ensures (no_notes c.args.fragments.now)) c.requires.suits

pub emit_last-requires-clause-x : goal.emit_last-requires-clause-x
emit_last-requires-clause-x g c = coded_after (rw c.in-Known.is at c.in-Ok.ensures (no_notes c.args.fragments.now)) c.args.count.now.variable c.requires.variable

pub emit_last-requires-clause-last : goal.emit_last-requires-clause-last
emit_last-requires-clause-last g c = coded_after (rw c.in-Known.is at c.in-Ok.ensures (no_notes c.args.fragments.now)) c.args.count.now.last c.requires.last

pub returns-in-DontKnowYet-asked : goal.returns-in-DontKnowYet-asked
returns-in-DontKnowYet-asked g c notes within stands =
    let first = rw c.in-Known.is at c.in-Ok.ensures notes in
    code_unknown first.works first.grows (rw c.in-DontKnowYet-asked.is at c.in-Ok-emit_last.ensures notes)

pub returns-in-Err-emit_last : goal.returns-in-Err-emit_last
returns-in-Err-emit_last g c notes within stands =
    let first = rw c.in-Known.is at c.in-Ok.ensures notes in
    code_unmade first.works first.grows (c.in-Err-emit_last.ensures notes) _

pub emit_step-requires-clause-suits : goal.emit_step-requires-clause-suits
emit_step-requires-clause-suits g c =
    let none = no_notes c.args.fragments.now in
    let first = rw c.in-Known.is at c.in-Ok.ensures none in
    let second = rw c.in-Known-asked.is at c.in-Ok-emit_last.ensures none in
    suits_after second (suits_after first c.requires.suits)

pub emit_step-requires-clause-x : goal.emit_step-requires-clause-x
emit_step-requires-clause-x g c =
    let none = no_notes c.args.fragments.now in
    let first = rw c.in-Known.is at c.in-Ok.ensures none in
    let second = rw c.in-Known-asked.is at c.in-Ok-emit_last.ensures none in
    coded_after second c.args.count.now.variable (coded_after first c.args.count.now.variable c.requires.variable)

pub returns-in-DontKnowYet-asked-2 : goal.returns-in-DontKnowYet-asked-2
returns-in-DontKnowYet-asked-2 g c notes within stands =
    let first = rw c.in-Known.is at c.in-Ok.ensures notes in
    let second = rw c.in-Known-asked.is at c.in-Ok-emit_last.ensures notes in
    code_unknown (Works-trans first.works second.works) (Grows-trans first.grows second.grows) (rw c.in-DontKnowYet-asked-2.is at c.in-Ok-emit_step.ensures notes)

pub returns-in-Err-emit_step : goal.returns-in-Err-emit_step
returns-in-Err-emit_step g c notes within stands =
    let first = rw c.in-Known.is at c.in-Ok.ensures notes in
    let second = rw c.in-Known-asked.is at c.in-Ok-emit_last.ensures notes in
    code_unmade (Works-trans first.works second.works) (Grows-trans first.grows second.grows) (c.in-Err-emit_step.ensures notes) _

pub emit_turns-requires-clause-sound : goal.emit_turns-requires-clause-sound
emit_turns-requires-clause-sound g c =
    let none = no_notes c.args.fragments.now in
    let first = rw c.in-Known.is at c.in-Ok.ensures none in
    let second = rw c.in-Known-asked.is at c.in-Ok-emit_last.ensures none in
    let third = rw c.in-Known-asked-2.is at c.in-Ok-emit_step.ensures none in
    third.grows.sound (second.grows.sound (first.grows.sound c.requires.sound))

pub emit_turns-requires-clause-x : goal.emit_turns-requires-clause-x
emit_turns-requires-clause-x g c =
    let none = no_notes c.args.fragments.now in
    let first = rw c.in-Known.is at c.in-Ok.ensures none in
    let second = rw c.in-Known-asked.is at c.in-Ok-emit_last.ensures none in
    let third = rw c.in-Known-asked-2.is at c.in-Ok-emit_step.ensures none in
    (coded_after third c.args.count.now.variable (coded_after second c.args.count.now.variable (coded_after first c.args.count.now.variable c.requires.variable))).code

pub emit_turns-requires-clause-step : goal.emit_turns-requires-clause-step
emit_turns-requires-clause-step g c = (rw c.in-Known-asked-2.is at c.in-Ok-emit_step.ensures (no_notes c.args.fragments.now)).there

pub emit_turns-requires-clause-body : goal.emit_turns-requires-clause-body
emit_turns-requires-clause-body g c =
    let none = no_notes c.args.fragments.now in
    let first = rw c.in-Known.is at c.in-Ok.ensures none in
    let second = rw c.in-Known-asked.is at c.in-Ok-emit_last.ensures none in
    let third = rw c.in-Known-asked-2.is at c.in-Ok-emit_step.ensures none in
    over_later (Grows-trans first.grows (Grows-trans second.grows third.grows)) c.args.body c.requires.body

pub returns-in_err-turns : goal.returns-in_err-turns
returns-in_err-turns g c notes within stands =
    let first = rw c.in-Known.is at c.in-Ok.ensures notes in
    let second = rw c.in-Known-asked.is at c.in-Ok-emit_last.ensures notes in
    let third = rw c.in-Known-asked-2.is at c.in-Ok-emit_step.ensures notes in
    full_behind c.from_residual.result c.from_residual.ensures.0 (Works-trans first.works (Works-trans second.works third.works)) (Grows-trans first.grows (Grows-trans second.grows third.grows))

pub for_made-requires-clause-sound : goal.for_made-requires-clause-sound
for_made-requires-clause-sound g c =
    let none = no_notes c.args.fragments.now in
    let first = rw c.in-Known.is at c.in-Ok.ensures none in
    let second = rw c.in-Known-asked.is at c.in-Ok-emit_last.ensures none in
    let third = rw c.in-Known-asked-2.is at c.in-Ok-emit_step.ensures none in
    third.grows.sound (second.grows.sound (first.grows.sound c.requires.sound))

pub for_made-requires-clause-first : goal.for_made-requires-clause-first
for_made-requires-clause-first g c =
    let none = no_notes c.args.fragments.now in
    let second = rw c.in-Known-asked.is at c.in-Ok-emit_last.ensures none in
    let third = rw c.in-Known-asked-2.is at c.in-Ok-emit_step.ensures none in
    in_later (Grows-trans second.grows third.grows) c.in-Known.value (rw c.in-Known.is at c.in-Ok.ensures none).there

pub for_made-requires-clause-last : goal.for_made-requires-clause-last
for_made-requires-clause-last g c =
    let none = no_notes c.args.fragments.now in
    code_there (rw c.in-Known-asked-2.is at c.in-Ok-emit_step.ensures none).grows c.in-Known-asked.value (rw c.in-Known-asked.is at c.in-Ok-emit_last.ensures none).there

pub for_made-requires-clause-turns : goal.for_made-requires-clause-turns
for_made-requires-clause-turns g c = c.in_ok-turns.ensures.there

pub returns : goal.returns
returns g c notes within stands =
    let ns = c.args.fragments.now.nodes.items in
    let n = c.args.count.now in
    let n1 = c.emit_first.new.fragments.nodes.items in
    let n2 = c.emit_last.new.fragments.nodes.items in
    let n3 = c.emit_step.new.fragments.nodes.items in
    let value : to_z w64 (of_z w64 n.by) ≡ n.by = search rules in
    let x = coded_in ns n.variable in
    let last = coded_in ns n.last in
    let first = rw c.in-Known.is at c.in-Ok.ensures notes in
    let second = rw c.in-Known-asked.is at c.in-Ok-emit_last.ensures notes in
    let third = rw c.in-Known-asked-2.is at c.in-Ok-emit_step.ensures notes in
    let one = of_coding _ first in
    let two = described _ (of_coding _ second)
    (λ k. ap (λ (u : code.Coded). gives (λ t. for_last k t u (coded_in n1 n.last))) (coded_later first.grows n.variable c.requires.variable)
    ∙ ap (λ (u : code.Coded). gives (λ t. for_last k t x u)) (coded_later first.grows n.last c.requires.last)) in
    let three = described _ (of_coding _ third) (λ k. ap (λ (v : ℤ). gives (for_step k.scene (coded_in n2 n.variable) v)) value
    ∙ ap (λ (u : code.Coded). gives (for_step k.scene u n.by)) (coded_later (Grows-trans first.grows second.grows) n.variable c.requires.variable)) in
    let grows = Grows-trans first.grows (Grows-trans second.grows third.grows) in
    let start = part n1 c.in-Known.value in
    let turned = c.in_ok-turns.ensures in
    let whole : MadeBy n3 c.for_made.result (λ t. straight (part n3 c.in-Known.value) ⨾ with_cell (λ u. straight (code_by n3 c.in-Known-asked.value u) ⨾ turns u (coded_in n3 n.variable) n.by (part n3 c.in-Known-asked-2.value) (flow_in n3 c.args.body u))) =
    made_as n3 c.for_made.result c.for_made.ensures
    (λ t. ap (λ (f : CellFlow). straight (part n3 c.in-Known.value) ⨾ with_cell f) (fun_ext (λ u. ap (λ f. straight (code_by n3 c.in-Known-asked.value u) ⨾ f)
    (turned.flow_is u ∙ ap (λ (v : ℤ). turns u (coded_in n3 n.variable) v (part n3 c.in-Known-asked-2.value) (flow_in n3 c.args.body u)) value)))) in
    described_told c.answered.result (by_answer c.for_made.result c.answered.result c.answered.ensures
    (flowing_after (λ k. gives (for_first k x (coded_in ns n.first)))
    (λ (p : Part) k. and_then (gives (λ t. for_last k t x last)) (λ (l : ℕ → Part). and_then (gives (for_step k.scene x n.by)) (λ (q : Part). gives (straight p ⨾ with_cell (λ t. straight (l t) ⨾ turns t x n.by q (flow_in ns c.args.body t))))))
    (answer_of c.for_made.result) one
    (made_after_both (λ k. gives (λ t. for_last k t x last)) (λ l k. gives (for_step k.scene x n.by)) (λ (l : ℕ → Part) (q : Part). straight start ⨾ with_cell (λ t. straight (l t) ⨾ turns t x n.by q (flow_in ns c.args.body t))) c.for_made.result two three whole
    (λ u m eu em cell. then_both (ap straight (part_later (Grows-trans second.grows third.grows) c.in-Known.value first.there))
    (ap (λ (f : CellFlow). with_cell f) (fun_ext (λ t. then_both (ap straight (code_later third.grows c.in-Known-asked.value second.there t ∙ ap (λ (l : ℕ → Part). l t) (eu cell)))
    (ap (λ (v : code.Coded). turns t v n.by (part n3 c.in-Known-asked-2.value) (flow_in n3 c.args.body t)) (coded_later grows n.variable c.requires.variable)
    ∙ ap (λ (q : Part). turns t x n.by q (flow_in n3 c.args.body t)) (em cell)
    ∙ ap (turns t x n.by m) (flow_later grows c.args.body c.requires.body t)))))))))
    (λ made in_hand told of_site. let k = context_of (g.S.Scopes.state c.args.scopes.now).frame made c.args.site.now in
    ap (λ (f : CellFlow). gives (straight (for_first k x (coded_in ns n.first)) ⨾ with_cell (λ t. straight (for_last k t x last) ⨾ turns t x n.by (for_step k.scene x n.by) (f t)))) (fun_ext (stands made in_hand told of_site)))

use Rattle.std.proofs.Common.{◌∙◌, ◌+◌, Ok, ℕ, ap}
use Rattle.block_code.specs.Calls.{result_cells as spec_result}
use Rattle.block_code.specs.Coded.{coded}
use Rattle.expr_sem.specs.Fragments.{part}
use Rattle.block_code.specs.Parts.{call as spec_call, ◌⨟◌}
use Rattle.expr_sem.proofs.Making.{after_question, question_failed, question_full, question_waits}
use Rattle.expr_sem.proofs.Sequencing.{Grows-refl, behind_both, in_later, made_after}
use Rattle.m2_base.specs.Gives.{gives}
use Rattle.m2_base.specs.States.{Frame}
use Rattle.const_eval.specs.Sites.{IsOperand}
use Rattle.expr_sem.proofs.Selecting.{stays_read}
use Rattle.expr_sem.proofs.coder.Coder.call_as.Goals as goal

pub returns-in_default-clause-codes : goal.returns-in_default-clause-codes
returns-in_default-clause-codes g c = question_failed c.args.self.now.notes.now c.args.self.now.fragments.now.nodes.items c.in-Ok.ensures.reads _

pub returns-in_err-call-clause-codes : goal.returns-in_err-call-clause-codes
returns-in_err-call-clause-codes g c = question_full c.args.self.now.notes.now c.from_residual.result c.from_residual.ensures.0 c.in-Ok.ensures.reads c.in_err-call.ensures.made

pub after_both-requires-clause-x : goal.after_both-requires-clause-x
after_both-requires-clause-x g c = in_later c.in_ok-call.ensures.made.grows c.args.callee.now.before c.requires.callee.before

pub after_both-requires-clause-y : goal.after_both-requires-clause-y
after_both-requires-clause-y g c = in_later c.in_ok-call.ensures.made.grows c.args.args c.requires.args

pub after_both-requires-clause-last : goal.after_both-requires-clause-last
after_both-requires-clause-last g c = c.in_ok-call.ensures.made.made.there

pub returns-clause-codes : goal.returns-clause-codes
returns-clause-codes g c =
    let n = c.args.self.now.notes.now in
    let ns = c.args.self.now.fragments.now.nodes.items in
    let callee = c.args.callee.now in
    let before = part ns callee.before in
    let args = part ns c.args.args in
    let called = made_after (Ok c.in_ok-call.call) (Grows-refl ns) c.in_ok-call.ensures.made
    (ap (λ (m : ℕ). spec_call callee.instr m c.result_cells.result) c.in-Some.ensures.1 ∙ ap (λ (m : ℕ). spec_call callee.instr (c.in-Known.value + callee.more) m) c.result_cells.ensures) in
    let made = behind_both c.after_both.result callee.before c.args.args c.requires.callee.before c.requires.args called c.after_both.ensures in
    after_question c.answered_as.result c.in-Ok.ensures.reads
    (c.answered_as.ensures (g.S.Scopes.state c.cells_of_all.new.scopes) n c.args.self.now.site.now _ _ _ (stays_read (λ (f : Frame). IsOperand f c.args.operand) c.in-Ok.ensures.reads c.requires.operand) made)
    (λ made in_hand told. ap (λ (cells : ℕ). gives (coded c.args.operand (before ⨟ args ⨟ spec_call callee.instr (cells + callee.more) (spec_result callee.result)))) (rw c.deref.ensures.value at (rw c.in-Known.is at c.in-Ok.ensures.told made in_hand told)))

pub cells_of_all-requires-clause-suits : goal.cells_of_all-requires-clause-suits
cells_of_all-requires-clause-suits g c = c.requires.suits.around

pub returns-in-DontKnowYet-clause-codes : goal.returns-in-DontKnowYet-clause-codes
returns-in-DontKnowYet-clause-codes g c = question_waits _ _ c.in-Ok.ensures.reads (rw c.in-DontKnowYet.is at c.in-Ok.ensures.waits)

pub returns-in-Err-clause-codes : goal.returns-in-Err-clause-codes
returns-in-Err-clause-codes g c = question_failed _ _ c.in-Err.ensures.reads _

pub cells_of_all-requires-clause-params : goal.cells_of_all-requires-clause-params
cells_of_all-requires-clause-params g c = rw c.deref.ensures.value c.requires.callee.params

use Rattle.std.proofs.Common.{◌≡◌, ◌∙◌, ◌+◌, ℕ, FitsSigned, ap, negsuc, pos, rules, sym, w32}
use Rattle.std.proofs.lemmas.Int.{to_z-of_z}
use Rattle.expr_sem.specs.Fragments.{part}
use Rattle.expr_sem.proofs.PieceParts.{Begins-refl, Begins-trans}
use Rattle.stmt_sem.specs.FlowTrees.{code_by}
use Rattle.stmt_sem.specs.FlowSizes.{code_bytes, fragment_bytes, somewhere}
use Rattle.stmt_sem.proofs.FlowsAppended.{again_on}
use Rattle.stmt_sem.proofs.flow_appending.Appender.append_again.Goals as goal

pub returns-clause-ok : goal.returns-clause-ok
returns-clause-ok c =
    let ns = c.args.self.now.fragments.now.nodes.items in
    let ws = c.args.self.now.withs.now in
    let sound = c.requires.sound in
    let n = c.args.size in
    let k = code_bytes ns c.args.again.now in
    let s = fragment_bytes ns c.args.step in
    let again : k ≡ c.in_ok-size.field-0 = c.in_ok-size.ensures 0 somewhere in
    let step : s ≡ c.size.result = c.size.ensures sound somewhere in
    let over : FitsSigned w32 c.in_ok-forward.field-0 = search rules in
    let back : FitsSigned w32 c.in_ok-backward.field-0 = search rules in
    let skip : c.in_ok-step_size.step_size ≡ s + 5 = c.in_ok-step_size.ensures ∙ ap (λ (i : ℕ). c.size.result + i) c.jump_size.ensures ∙ ap (λ (i : ℕ). i + 5) (sym step) in
    let all : c.in_ok-all.all ≡ n + k + (s + 5) = c.in_ok-all.ensures ∙ ap (λ (i : ℕ). i + c.in_ok-step_size.step_size) (c.in_ok-sum.ensures ∙ ap (λ (i : ℕ). n + i) (sym again)) ∙ ap (λ (i : ℕ). n + k + i) skip in
    again_on c.push_instr-2.result c.push_instr-2.new.piece n k s _ _ (code_by ns c.args.again.now c.args.self.now.cell) (part ns c.args.step)
    (to_z-of_z w32 c.in_ok-forward.field-0 over ∙ c.in_ok-forward.ensures ∙ ap pos skip)
    (to_z-of_z w32 c.in_ok-backward.field-0 back ∙ c.in_ok-backward.ensures ∙ ap (λ (i : ℕ). negsuc (i + 4)) all)
    c.in_ok-append_code.ensures.ok (c.in_ok-push_instr.ensures.ok ws) c.in_ok-append_all.ensures.ok (c.push_instr-2.ensures.ok ws)

pub returns-in_err-step_size-clause-begins : goal.returns-in_err-step_size-clause-begins
returns-in_err-step_size-clause-begins c = Begins-refl c.args.piece.now

pub returns-in_err-size-clause-begins : goal.returns-in_err-size-clause-begins
returns-in_err-size-clause-begins c = Begins-refl c.args.piece.now

pub returns-in_err-sum-clause-begins : goal.returns-in_err-sum-clause-begins
returns-in_err-sum-clause-begins c = Begins-refl c.args.piece.now

pub returns-in_err-all-clause-begins : goal.returns-in_err-all-clause-begins
returns-in_err-all-clause-begins c = Begins-refl c.args.piece.now

pub returns-in_err-append_code-clause-begins : goal.returns-in_err-append_code-clause-begins
returns-in_err-append_code-clause-begins c = c.append_code.ensures.begins

pub returns-in_err-forward-clause-begins : goal.returns-in_err-forward-clause-begins
returns-in_err-forward-clause-begins c = c.append_code.ensures.begins

pub returns-in_err-push_instr-clause-begins : goal.returns-in_err-push_instr-clause-begins
returns-in_err-push_instr-clause-begins c = Begins-trans c.append_code.ensures.begins c.push_instr.ensures.begins

pub returns-in_err-append_all-clause-begins : goal.returns-in_err-append_all-clause-begins
returns-in_err-append_all-clause-begins c = Begins-trans (Begins-trans c.append_code.ensures.begins c.push_instr.ensures.begins) c.append_all.ensures.begins

pub returns-in_err-backward-clause-begins : goal.returns-in_err-backward-clause-begins
returns-in_err-backward-clause-begins c = Begins-trans (Begins-trans c.append_code.ensures.begins c.push_instr.ensures.begins) c.append_all.ensures.begins

pub returns-clause-begins : goal.returns-clause-begins
returns-clause-begins c = Begins-trans (Begins-trans (Begins-trans c.append_code.ensures.begins c.push_instr.ensures.begins) c.append_all.ensures.begins) c.push_instr-2.ensures.begins

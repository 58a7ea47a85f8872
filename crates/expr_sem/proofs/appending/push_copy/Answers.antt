use Rattle.std.proofs.Common.{◌≡◌, ◌∙◌, ◌∷◌, [], ◌+◌, ℕ, length, ap, refl, arith}
use Rattle.std.specs.Prelude.{min}
use Rattle.code_form.specs.declared.instr.Instr.TheVariants.{Local, Move}
use Rattle.block_code.specs.Parts.{plain, text, ◌⨟◌}
use Rattle.expr_sem.proofs.PieceParts.{Begins-trans, copy_on, then_on}
use Rattle.expr_sem.proofs.appending.push_copy.Goals as goal

pub returns-clause-ok : goal.returns-clause-ok
returns-clause-ok c = λ ws.
    let a = c.args.piece.now in
    let chars = c.args.characters.now.items in
    let m = c.moved-moved.result in
    let r = c.push_instr-3.result in
    let e = c.push_instr-3.new.piece in
    let l = c.len.ensures in
    let same : c.len.result + 1 ≡ length chars + 1 = omega (arith, l) in
    let q = plain (Move m ∷ Local 0 a.cell ∷ []) in
    copy_on r a e ws c.args.size chars c.capped_sum-piece.result m c.capped_sum-piece.ensures (c.moved-moved.ensures ∙ ap (λ (n : ℕ). min n c.args.size) same)
    (then_on r e (text chars ⨟ q) (plain (Local 0 a.cell ∷ []) ⨟ (text chars ⨟ q)) (c.in_ok-push_instr.ensures.ok ws) refl
    (then_on r e q (text chars ⨟ q) (c.in_ok-push_text.ensures.ok ws) refl
    (then_on r e (plain (Local 0 a.cell ∷ [])) q (c.in_ok-push_instr-2.ensures.ok ws) refl (c.push_instr-3.ensures.ok ws))))

pub returns-in_err-push_instr-clause-begins : goal.returns-in_err-push_instr-clause-begins
returns-in_err-push_instr-clause-begins c = let h = c.push_instr.ensures.begins in record { steps = h.steps; bytes = h.bytes }

pub returns-in_err-push_text-clause-begins : goal.returns-in_err-push_text-clause-begins
returns-in_err-push_text-clause-begins c = let h = Begins-trans c.push_instr.ensures.begins c.push_text.ensures.begins in record { steps = h.steps; bytes = h.bytes }

pub returns-in_err-push_instr-2-clause-begins : goal.returns-in_err-push_instr-2-clause-begins
returns-in_err-push_instr-2-clause-begins c =
    let h = Begins-trans c.push_instr.ensures.begins (Begins-trans c.push_text.ensures.begins c.push_instr-2.ensures.begins) in record { steps = h.steps; bytes = h.bytes }

pub returns-clause-begins : goal.returns-clause-begins
returns-clause-begins c =
    let h = Begins-trans c.push_instr.ensures.begins (Begins-trans c.push_text.ensures.begins (Begins-trans c.push_instr-2.ensures.begins c.push_instr-3.ensures.begins)) in record { steps = h.steps; bytes = h.bytes }

use Rattle.std.proofs.Common.{◌≡◌, ◌∙◌, ◌+◌, ℕ, length, ap, refl, arith}
use Rattle.m2_base.specs.Statics.Cells.{capped}
use Rattle.m2_base.proofs.Kept.{IsPrefixOf-refl, IsPrefixOf-trans}
use Rattle.expr_sem.specs.declared.pieces.Piece.{Piece}
use Rattle.expr_sem.proofs.PieceParts.{text_on}
use Rattle.expr_sem.proofs.appending.push_text.Goals as goal

pub returns-clause-ok : goal.returns-clause-ok
returns-clause-ok c = λ ws.
    let a = c.args.piece.now in
    let chars = c.args.characters.now.items in
    let b : Piece = record { steps = a.steps; bytes = c.push_bytes.new.bytes; cell = a.cell; byte = c.capped_sum-last.result } in
    let l = c.len.ensures in
    let same : a.byte + (c.len.result + 1) ≡ a.byte + length chars + 1 = omega (arith, l) in
    text_on c.push_instr.result a b c.push_instr.new.piece ws chars c.capped_sum-last.result (c.capped_sum-last.ensures ∙ ap (λ (n : ℕ). capped n) same)
    refl c.in_ok-push_bytes.ensures.ok refl refl (c.push_instr.ensures.ok ws)

pub returns-in_err-push_bytes-clause-begins : goal.returns-in_err-push_bytes-clause-begins
returns-in_err-push_bytes-clause-begins c = record { steps = IsPrefixOf-refl _; bytes = c.push_bytes.ensures.begins }

pub returns-clause-begins : goal.returns-clause-begins
returns-clause-begins c = let h = c.push_instr.ensures.begins in record { steps = h.steps; bytes = IsPrefixOf-trans c.push_bytes.ensures.begins h.bytes }

use Rattle.std.proofs.Common.{◌∙◌, ◌∷◌, [], refl, subst, sym}
use Rattle.std.proofs.lemmas.List.{append-nil}
use Rattle.m2_base.proofs.Kept.{IsPrefixOf-refl}
use Rattle.code_form.specs.Heights.{Step}
use Rattle.block_code.specs.Parts.{steps}
use Rattle.expr_sem.specs.Pieces.{Appended}
use Rattle.expr_sem.specs.declared.pieces.Piece.{Piece}
use Rattle.expr_sem.proofs.PieceParts.{append_step}
use Rattle.expr_sem.proofs.appending.push_instr.Goals as goal

pub returns-clause-begins : goal.returns-clause-begins
returns-clause-begins c = record { steps = record { rest = c.plain.result ∷ []; joined = sym c.in_ok-push.ensures.items }; bytes = IsPrefixOf-refl _ }

pub returns-clause-ok : goal.returns-clause-ok
returns-clause-ok c = λ ws.
    let a = c.args.piece.now in
    let b : Piece = record { steps = c.push.new.self; bytes = a.bytes; cell = a.cell; byte = a.byte } in
    subst (λ (s : Step). Appended a b ws (steps (s ∷ []))) c.plain.ensures (append_step a b ws c.plain.result c.in_ok-push.ensures.items refl refl refl)

pub returns-in_err-push-clause-begins : goal.returns-in_err-push-clause-begins
returns-in_err-push-clause-begins c = record { steps = record { rest = []; joined = append-nil _ ∙ sym c.in_err-push.ensures.items }; bytes = IsPrefixOf-refl _ }

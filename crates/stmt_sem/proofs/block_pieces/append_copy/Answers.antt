use Rattle.std.proofs.Common.{◌∷◌, [], refl, subst, sym}
use Rattle.std.specs.Prelude.{OnOk}
use Rattle.code_form.specs.declared.instr.Instr.TheVariants.{Load, Local, Move}
use Rattle.m2_base.specs.Copies.{copy_view}
use Rattle.m2_base.specs.declared.copies.ParamCopy.{ParamCopy}
use Rattle.block_code.specs.Parts.{plain}
use Rattle.expr_sem.specs.Pieces.{Appended}
use Rattle.expr_sem.proofs.PieceParts.{then_on}
use Rattle.block_code.specs.BlockCode.{copy_code}
use Rattle.stmt_sem.proofs.block_pieces.append_copy.Goals as goal

pub returns-in_ok-push_instr-in-Own-3 : goal.returns-in_ok-push_instr-in-Own-3
returns-in_ok-push_instr-in-Own-3 c =
    let r = c.push_instr-in-Own-3.result in
    let e = c.push_instr-in-Own-3.new.piece in
    let own = c.in-Own.own in
    let cell = c.in-Own.cell in
    let size = c.in-Own.size in
    subst (λ (p : ParamCopy). OnOk r (Appended c.args.piece.now e [] (copy_code (copy_view p)))) (sym c.in-Own.is)
    (then_on r e (plain (Local 0 cell ∷ Load ∷ Move size ∷ [])) (plain (Local 0 own ∷ Local 0 cell ∷ Load ∷ Move size ∷ [])) (c.in_ok-push_instr-in-Own.ensures.ok []) refl
    (then_on r e (plain (Load ∷ Move size ∷ [])) (plain (Local 0 cell ∷ Load ∷ Move size ∷ [])) (c.in_ok-push_instr-in-Own-2.ensures.ok []) refl
    (then_on r e (plain (Move size ∷ [])) (plain (Load ∷ Move size ∷ [])) (c.in_ok-push_instr-in-Own-3.ensures.ok []) refl (c.push_instr-in-Own-3.ensures.ok []))))

use Rattle.std.proofs.Common.{◌≡◌, ◌∙◌, ◌∷◌, [], ℤ, FitsSigned, Option, Some, ap, pos, rules, subst, sym, w32, w64}
use Rattle.std.specs.Prelude.{OnOk}
use Rattle.std.proofs.lemmas.Int.{to_z-of_z}
use Rattle.code_form.specs.declared.instr.Instr.TheVariants.{AndJump, Eq, Ge, Le, Load, Local, Push}
use Rattle.block_code.specs.Parts.{plain, ◌⨟◌}
use Rattle.expr_sem.specs.Pieces.{Appended, spot_of}
use Rattle.expr_sem.proofs.PieceParts.{Begins-trans, then_on}
use Rattle.block_code.specs.Cases.{label_by}
use Rattle.stmt_sem.proofs.code_appending.push_label.Goals as goal

pub returns-in-None-clause-ok : goal.returns-in-None-clause-ok
returns-in-None-clause-ok c ws =
    let low = c.args.label.now.low in
    let t = c.args.cell in
    let f : FitsSigned w64 low = search rules in
    subst (λ (h : Option ℤ). OnOk c.push_bound.result (Appended c.args.piece.now c.push_bound.new.piece ws (label_by t low h))) (sym c.in-None.is)
    (subst (λ (v : ℤ). OnOk c.push_bound.result (Appended c.args.piece.now c.push_bound.new.piece ws (plain (Local 0 t ∷ Load ∷ Push v ∷ Eq ∷ [])))) (to_z-of_z w64 low f) (c.push_bound.ensures.ok ws))

pub returns-in_ok-push_instr-in-Some-clause-begins : goal.returns-in_ok-push_instr-in-Some-clause-begins
returns-in_ok-push_instr-in-Some-clause-begins c =
    Begins-trans (Begins-trans c.in_ok-push_bound-in-Some.ensures.begins c.in_ok-push_instr-in-Some.ensures.begins) c.push_bound-in-Some-2.ensures.begins

pub returns-in_ok-push_instr-in-Some-clause-ok : goal.returns-in_ok-push_instr-in-Some-clause-ok
returns-in_ok-push_instr-in-Some-clause-ok c ws =
    let r = c.push_bound-in-Some-2.result in
    let e = c.push_bound-in-Some-2.new.piece in
    let t = c.args.cell in
    let low = c.args.label.now.low in
    let f : FitsSigned w64 low = search rules in
    let g : FitsSigned w64 c.in-Some.high = search rules in
    let over : FitsSigned w32 c.in_ok-forward-in-Some.field-0 = search rules in
    let distance : _ ≡ pos 20 = to_z-of_z w32 c.in_ok-forward-in-Some.field-0 over ∙ c.in_ok-forward-in-Some.ensures ∙ ap pos c.bound_size.ensures in
    let high = plain (Local 0 t ∷ Load ∷ Push c.in-Some.high ∷ Le ∷ []) in
    subst (λ (h : Option ℤ). OnOk r (Appended c.args.piece.now e ws (label_by t low h))) (sym c.in-Some.is)
    (then_on r e (plain (AndJump (pos 20) ∷ []) ⨟ high) (label_by t low (Some c.in-Some.high)) (c.in_ok-push_bound-in-Some.ensures.ok ws)
    (ap (λ (v : ℤ). (plain (Local 0 t ∷ Load ∷ Push v ∷ Ge ∷ []) ⨟ (plain (AndJump (pos 20) ∷ []) ⨟ high)) (spot_of c.args.piece.now ws)) (to_z-of_z w64 low f))
    (then_on r e high (plain (AndJump (pos 20) ∷ []) ⨟ high) (c.in_ok-push_instr-in-Some.ensures.ok ws) (ap (λ (i : ℤ). (plain (AndJump i ∷ []) ⨟ high) (spot_of c.push_bound-in-Some.new.piece ws)) distance)
    (subst (λ (v : ℤ). OnOk r (Appended c.push_instr.new.piece e ws (plain (Local 0 t ∷ Load ∷ Push v ∷ Le ∷ [])))) (to_z-of_z w64 c.in-Some.high g) (c.push_bound-in-Some-2.ensures.ok ws))))

pub returns-in_err-push_instr-in-Some-clause-begins : goal.returns-in_err-push_instr-in-Some-clause-begins
returns-in_err-push_instr-in-Some-clause-begins c = Begins-trans c.in_ok-push_bound-in-Some.ensures.begins c.in_err-push_instr-in-Some.ensures.begins

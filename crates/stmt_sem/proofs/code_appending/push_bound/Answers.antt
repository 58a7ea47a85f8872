use Rattle.std.proofs.Common.{◌∷◌, [], ℤ, FitsSigned, ap, refl, rules, w64}
use Rattle.std.proofs.lemmas.Int.{to_z-of_z}
use Rattle.code_form.specs.declared.instr.Instr.TheVariants.{Load, Local, Push}
use Rattle.block_code.specs.Parts.{plain, ◌⨟◌}
use Rattle.expr_sem.specs.Pieces.{spot_of}
use Rattle.expr_sem.proofs.PieceParts.{Begins-trans, then_on}
use Rattle.stmt_sem.proofs.code_appending.push_bound.Goals as goal

pub returns-clause-ok : goal.returns-clause-ok
returns-clause-ok c = λ ws.
    let r = c.push_instr-4.result in
    let e = c.push_instr-4.new.piece in
    let b = c.args.bound in
    let t = c.args.test in
    let f : FitsSigned w64 b = search rules in
    then_on r e (plain (Load ∷ Push b ∷ t ∷ [])) (plain (Local 0 c.args.cell ∷ Load ∷ Push b ∷ t ∷ [])) (c.in_ok-push_instr.ensures.ok ws) refl
    (then_on r e (plain (Push b ∷ t ∷ [])) (plain (Load ∷ Push b ∷ t ∷ [])) (c.in_ok-push_instr-2.ensures.ok ws) refl
    (then_on r e (plain (t ∷ [])) (plain (Push b ∷ t ∷ [])) (c.in_ok-push_instr-3.ensures.ok ws)
    (ap (λ (v : ℤ). (plain (Push v ∷ []) ⨟ plain (t ∷ [])) (spot_of c.push_instr-2.new.piece ws)) (to_z-of_z w64 b f)) (c.push_instr-4.ensures.ok ws)))

pub returns-in_err-push_instr-2-clause-begins : goal.returns-in_err-push_instr-2-clause-begins
returns-in_err-push_instr-2-clause-begins c = Begins-trans c.in_ok-push_instr.ensures.begins c.in_err-push_instr-2.ensures.begins

pub returns-in_err-push_instr-3-clause-begins : goal.returns-in_err-push_instr-3-clause-begins
returns-in_err-push_instr-3-clause-begins c = Begins-trans (Begins-trans c.in_ok-push_instr.ensures.begins c.in_ok-push_instr-2.ensures.begins) c.in_err-push_instr-3.ensures.begins

pub returns-clause-begins : goal.returns-clause-begins
returns-clause-begins c = Begins-trans (Begins-trans (Begins-trans c.in_ok-push_instr.ensures.begins c.in_ok-push_instr-2.ensures.begins) c.in_ok-push_instr-3.ensures.begins) c.push_instr-4.ensures.begins

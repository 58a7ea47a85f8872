use Rattle.std.proofs.Common.{◌∷◌, [], refl, subst, sym}
use Rattle.std.specs.Prelude.{OnOk}
use Rattle.code_form.specs.declared.instr.Instr.TheVariants.{Load, Local, Store}
use Rattle.expr_sem.specs.Fragments.{part}
use Rattle.block_code.specs.Parts.{plain, ◌⨟◌}
use Rattle.expr_sem.specs.Pieces.{Appended}
use Rattle.expr_sem.proofs.PieceParts.{Begins-trans, then_on}
use Rattle.stmt_sem.specs.FlowTrees.{code_by}
use Rattle.stmt_sem.specs.declared.flows.Code.{Code}
use Rattle.stmt_sem.proofs.code_appending.append_code.Goals as goal

pub returns-in_ok-append_all-in-Stored-clause-ok : goal.returns-in_ok-append_all-in-Stored-clause-ok
returns-in_ok-append_all-in-Stored-clause-ok c =
    let ns = c.args.fragments.now.nodes.items in
    let ws = c.args.withs.now in
    let r = c.push_instr-in-Stored.result in
    let e = c.push_instr-in-Stored.new.piece in
    let p = part ns c.in-Stored.fragment in
    let t = c.args.cell in
    subst (λ (d : Code). OnOk r (Appended c.args.piece.now e ws (code_by ns d t))) (sym c.in-Stored.is)
    (then_on r e (p ⨟ plain (Store ∷ [])) (plain (Local 0 t ∷ []) ⨟ p ⨟ plain (Store ∷ [])) (c.in_ok-push_instr-in-Stored.ensures.ok ws) refl
    (then_on r e (plain (Store ∷ [])) (p ⨟ plain (Store ∷ [])) c.in_ok-append_all-in-Stored.ensures.ok refl (c.push_instr-in-Stored.ensures.ok ws)))

pub returns-in_ok-push_instr-in-Compared-3-clause-ok : goal.returns-in_ok-push_instr-in-Compared-3-clause-ok
returns-in_ok-push_instr-in-Compared-3-clause-ok c =
    let ns = c.args.fragments.now.nodes.items in
    let ws = c.args.withs.now in
    let r = c.push_instr-in-Compared-4.result in
    let e = c.push_instr-in-Compared-4.new.piece in
    let p = part ns c.in-Compared.fragment in
    let t = c.args.cell in
    let i = c.in-Compared.instr in
    subst (λ (d : Code). OnOk r (Appended c.args.piece.now e ws (code_by ns d t))) (sym c.in-Compared.is)
    (then_on r e (plain (Load ∷ Local 0 t ∷ Load ∷ i ∷ [])) (p ⨟ plain (Load ∷ Local 0 t ∷ Load ∷ i ∷ [])) c.in_ok-append_all-in-Compared.ensures.ok refl
    (then_on r e (plain (Local 0 t ∷ Load ∷ i ∷ [])) (plain (Load ∷ Local 0 t ∷ Load ∷ i ∷ [])) (c.in_ok-push_instr-in-Compared.ensures.ok ws) refl
    (then_on r e (plain (Load ∷ i ∷ [])) (plain (Local 0 t ∷ Load ∷ i ∷ [])) (c.in_ok-push_instr-in-Compared-2.ensures.ok ws) refl
    (then_on r e (plain (i ∷ [])) (plain (Load ∷ i ∷ [])) (c.in_ok-push_instr-in-Compared-3.ensures.ok ws) refl (c.push_instr-in-Compared-4.ensures.ok ws)))))

pub returns-in_err-append_all-in-Stored-clause-begins : goal.returns-in_err-append_all-in-Stored-clause-begins
returns-in_err-append_all-in-Stored-clause-begins c = Begins-trans c.in_ok-push_instr-in-Stored.ensures.begins c.in_err-append_all-in-Stored.ensures.begins

pub returns-in_ok-append_all-in-Stored-clause-begins : goal.returns-in_ok-append_all-in-Stored-clause-begins
returns-in_ok-append_all-in-Stored-clause-begins c = Begins-trans (Begins-trans c.in_ok-push_instr-in-Stored.ensures.begins c.in_ok-append_all-in-Stored.ensures.begins) c.push_instr-in-Stored.ensures.begins

pub returns-in_err-push_instr-in-Compared-clause-begins : goal.returns-in_err-push_instr-in-Compared-clause-begins
returns-in_err-push_instr-in-Compared-clause-begins c = Begins-trans c.in_ok-append_all-in-Compared.ensures.begins c.in_err-push_instr-in-Compared.ensures.begins

pub returns-in_err-push_instr-in-Compared-2-clause-begins : goal.returns-in_err-push_instr-in-Compared-2-clause-begins
returns-in_err-push_instr-in-Compared-2-clause-begins c = Begins-trans (Begins-trans c.in_ok-append_all-in-Compared.ensures.begins c.in_ok-push_instr-in-Compared.ensures.begins) c.in_err-push_instr-in-Compared-2.ensures.begins

pub returns-in_err-push_instr-in-Compared-3-clause-begins : goal.returns-in_err-push_instr-in-Compared-3-clause-begins
returns-in_err-push_instr-in-Compared-3-clause-begins c = Begins-trans (Begins-trans (Begins-trans c.in_ok-append_all-in-Compared.ensures.begins c.in_ok-push_instr-in-Compared.ensures.begins) c.in_ok-push_instr-in-Compared-2.ensures.begins) c.in_err-push_instr-in-Compared-3.ensures.begins

pub returns-in_ok-push_instr-in-Compared-3-clause-begins : goal.returns-in_ok-push_instr-in-Compared-3-clause-begins
returns-in_ok-push_instr-in-Compared-3-clause-begins c = Begins-trans (Begins-trans (Begins-trans (Begins-trans c.in_ok-append_all-in-Compared.ensures.begins c.in_ok-push_instr-in-Compared.ensures.begins) c.in_ok-push_instr-in-Compared-2.ensures.begins) c.in_ok-push_instr-in-Compared-3.ensures.begins) c.push_instr-in-Compared-4.ensures.begins

use Rattle.std.proofs.Common.{◌≡◌, ◌∙◌, ◌∷◌, ◌++◌, [], Err, List, Ok, Result, ℕ, ap, append_assoc, false, refl, subst, sym, true, w32}
use Rattle.code_form.specs.declared.instr.Instr.TheVariants.{Load, Local}
use Rattle.block_code.specs.Arguments.{string_copy}
use Rattle.expr_sem.specs.Fragments.{jump_of, part_by, parts_after, step_view}
use Rattle.block_code.specs.Parts.{plain, steps, text, with_record, ◌⨟◌}
use Rattle.expr_sem.specs.Pieces.{Appended, spot_of}
use Rattle.expr_sem.specs.Stacks.{behind}
use Rattle.expr_sem.specs.declared.fragments.Form.{Form}
use Rattle.expr_sem.specs.declared.pieces.Piece.{Piece}
use Rattle.expr_sem.proofs.PieceParts.{append_step, leaf_on, then_on}
use Rattle.std.proofs.lemmas.List.{append-nil}
use Rattle.m2_base.proofs.Kept.{IsPrefixOf-refl}
use Rattle.expr_sem.proofs.appending.visit.Goals as goal
use Rattle.std.proofs.lemmas.Int.{to_z-of_z}
use Rattle.std.specs.Prelude.{IsErr}
use Rattle.std.specs.Prelude.{OnOk}
use Rattle.m2_base.specs.declared.memory.Memory.{Memory}
use Rattle.expr_sem.proofs.PieceParts.{Begins-refl, Begins-trans}
use Rattle.code_form.specs.declared.instr.Instr.{Instr}
use Rattle.expr_sem.specs.Stacks.{ends_as, remaining}
use Rattle.expr_sem.specs.declared.fragments.Fragment.{Fragment}
use Rattle.expr_sem.proofs.PieceParts.{skipped}

pub returns-in_ok-push-in-One-clause-ok : goal.returns-in_ok-push-in-One-clause-ok
returns-in_ok-push-in-One-clause-ok c =
    let ns = c.args.fragments.now.nodes.items in
    let a = c.args.piece.now in
    let b : Piece = record { steps = c.push.new.self; bytes = a.bytes; cell = a.cell; byte = a.byte } in
    leaf_on {T = ℕ} (Ok 0) a b c.args.withs.now ns c.args.form.now c.args.rest.now.items (steps (step_view c.in-One.step ∷ []))
    (ap (λ (f : Form). behind f) c.in-One.is) (ap (λ (f : Form). part_by (parts_after [] ns) f) c.in-One.is) (append_step a b c.args.withs.now c.in-One.step c.in_ok-push-in-One.ensures.items refl refl refl)

pub returns-in-Text-clause-ok : goal.returns-in-Text-clause-ok
returns-in-Text-clause-ok c =
    let ns = c.args.fragments.now.nodes.items in
    leaf_on c.push_text.result c.args.piece.now c.push_text.new.piece c.args.withs.now ns c.args.form.now c.args.rest.now.items (text c.in-Text.characters.items)
    (ap (λ (f : Form). behind f) c.in-Text.is) (ap (λ (f : Form). part_by (parts_after [] ns) f) c.in-Text.is) (c.push_text.ensures.ok c.args.withs.now)

pub returns-in-StringCopy-clause-ok : goal.returns-in-StringCopy-clause-ok
returns-in-StringCopy-clause-ok c =
    let ns = c.args.fragments.now.nodes.items in
    leaf_on c.push_copy.result c.args.piece.now c.push_copy.new.piece c.args.withs.now ns c.args.form.now c.args.rest.now.items (string_copy c.in-StringCopy.size c.in-StringCopy.characters.items)
    (ap (λ (f : Form). behind f) c.in-StringCopy.is) (ap (λ (f : Form). part_by (parts_after [] ns) f) c.in-StringCopy.is) (c.push_copy.ensures.ok c.args.withs.now)

pub returns-in_ok-push_instr-in-WithRecord-clause-ok : goal.returns-in_ok-push_instr-in-WithRecord-clause-ok
returns-in_ok-push_instr-in-WithRecord-clause-ok c =
    let ns = c.args.fragments.now.nodes.items in
    let ws = c.args.withs.now in
    let r = c.push_instr-in-WithRecord.result in
    let b = c.push_instr-in-WithRecord.new.piece in
    let number = c.in-WithRecord.number in
    leaf_on r c.args.piece.now b ws ns c.args.form.now c.args.rest.now.items (with_record number)
    (ap (λ (f : Form). behind f) c.in-WithRecord.is) (ap (λ (f : Form). part_by (parts_after [] ns) f) c.in-WithRecord.is)
    (then_on r b (plain (Load ∷ [])) (with_record number) (c.in_ok-push_instr-in-WithRecord.ensures.ok ws)
    (ap (λ (n : ℕ). (plain (Local 0 n ∷ []) ⨟ plain (Load ∷ [])) (spot_of c.args.piece.now ws)) c.cell_of.ensures) (c.push_instr-in-WithRecord.ensures.ok ws))

-- memory is wanted, so that nothing is told
err_on : {T : Type 0} (Q : Type 0) (r : Result T Memory) → IsErr r → OnOk r Q
err_on Q (Ok v) is = absurd (let h : false ≡ true = is in cc)
err_on Q (Err m) is = tt

pub returns-in-Text-clause-begins : goal.returns-in-Text-clause-begins
returns-in-Text-clause-begins c = c.push_text.ensures.begins

pub returns-in-StringCopy-clause-begins : goal.returns-in-StringCopy-clause-begins
returns-in-StringCopy-clause-begins c = c.push_copy.ensures.begins

pub returns-in_ok-push_instr-in-WithRecord-clause-begins : goal.returns-in_ok-push_instr-in-WithRecord-clause-begins
returns-in_ok-push_instr-in-WithRecord-clause-begins c = Begins-trans c.in_ok-push_instr-in-WithRecord.ensures.begins c.push_instr-in-WithRecord.ensures.begins

pub returns-in_ok-push-in-Then-2-clause-begins : goal.returns-in_ok-push-in-Then-2-clause-begins
returns-in_ok-push-in-Then-2-clause-begins c = Begins-refl _

pub returns-in_err-push-in-Then-clause-begins : goal.returns-in_err-push-in-Then-clause-begins
returns-in_err-push-in-Then-clause-begins c = Begins-refl _

pub returns-in_err-push-in-Then-2-clause-begins : goal.returns-in_err-push-in-Then-2-clause-begins
returns-in_err-push-in-Then-2-clause-begins c = Begins-refl _

pub returns-in_ok-push-in-Skip-clause-begins : goal.returns-in_ok-push-in-Skip-clause-begins
returns-in_ok-push-in-Skip-clause-begins c = c.push_instr-in-Skip.ensures.begins

pub returns-in_err-push-in-Skip-clause-begins : goal.returns-in_err-push-in-Skip-clause-begins
returns-in_err-push-in-Skip-clause-begins c = c.push_instr-in-Skip.ensures.begins

pub returns-in_err-push_instr-in-Skip-clause-begins : goal.returns-in_err-push_instr-in-Skip-clause-begins
returns-in_err-push_instr-in-Skip-clause-begins c = c.push_instr-in-Skip.ensures.begins

pub returns-in_default-clause-begins : goal.returns-in_default-clause-begins
returns-in_default-clause-begins c = Begins-refl _

pub returns-in_default-clause-ok : goal.returns-in_default-clause-ok
returns-in_default-clause-ok c = tt

pub returns-in_err-push-in-One-clause-ok : goal.returns-in_err-push-in-One-clause-ok
returns-in_err-push-in-One-clause-ok c = err_on _ c.from_residual.result c.from_residual.ensures.0

pub returns-in_err-push_instr-in-WithRecord-clause-ok : goal.returns-in_err-push_instr-in-WithRecord-clause-ok
returns-in_err-push_instr-in-WithRecord-clause-ok c = err_on _ c.from_residual-in_err-push_instr-in-WithRecord.result c.from_residual-in_err-push_instr-in-WithRecord.ensures.0

pub returns-in_err-push-in-Then-clause-ok : goal.returns-in_err-push-in-Then-clause-ok
returns-in_err-push-in-Then-clause-ok c = err_on _ c.from_residual-in_err-push-in-Then.result c.from_residual-in_err-push-in-Then.ensures.0

pub returns-in_err-push-in-Then-2-clause-ok : goal.returns-in_err-push-in-Then-2-clause-ok
returns-in_err-push-in-Then-2-clause-ok c = err_on _ c.from_residual-in_err-push-in-Then-2.result c.from_residual-in_err-push-in-Then-2.ensures.0

pub returns-in_err-push_instr-in-Skip-clause-ok : goal.returns-in_err-push_instr-in-Skip-clause-ok
returns-in_err-push_instr-in-Skip-clause-ok c = err_on _ c.from_residual-in_err-push_instr-in-Skip.result c.from_residual-in_err-push_instr-in-Skip.ensures.0

pub returns-in_err-push-in-Skip-clause-ok : goal.returns-in_err-push-in-Skip-clause-ok
returns-in_err-push-in-Skip-clause-ok c = err_on _ c.from_residual-in_err-push-in-Skip.result c.from_residual-in_err-push-in-Skip.ensures.0

pub returns-in_ok-push-in-Then-2-clause-ok : goal.returns-in_ok-push-in-Then-2-clause-ok
returns-in_ok-push-in-Then-2-clause-ok c =
    let ns = c.args.fragments.now.nodes.items in
    let ws = c.args.withs.now in
    let a = c.args.piece.now in
    let rest = c.args.rest.now.items in
    record {
      pushed = c.in_ok-push-in-Then-2.ensures.items
          ∙ ap (λ (l : List Fragment). l ++ c.in-Then.first ∷ []) c.in_ok-push-in-Then.ensures.items
          ∙ append_assoc rest (c.in-Then.second ∷ []) (c.in-Then.first ∷ [])
          ∙ ap (λ (f : Form). rest ++ behind f) (sym c.in-Then.is);
      same = ap (λ (f : Form). ends_as a ws (remaining ns (behind f))) c.in-Then.is ∙ sym (ap (λ (f : Form). ends_as a ws (part_by (parts_after [] ns) f)) c.in-Then.is);
    }

pub returns-in_ok-push-in-Skip-clause-ok : goal.returns-in_ok-push-in-Skip-clause-ok
returns-in_ok-push-in-Skip-clause-ok c =
    let ns = c.args.fragments.now.nodes.items in
    let ws = c.args.withs.now in
    let a = c.args.piece.now in
    let b = c.push_instr-in-Skip.new.piece in
    let rest = c.args.rest.now.items in
    let connective = c.in-Skip.connective in
    let back = to_z-of_z w32 c.in-Ok.distance (rw c.in-Ok.ensures.1 c.in-Ok.ensures.0) in
    record {
      pushed = c.in_ok-push-in-Skip.ensures.items ∙ ap (λ (f : Form). rest ++ behind f) (sym c.in-Skip.is);
      same = ap (λ (f : Form). ends_as b ws (remaining ns (behind f))) c.in-Skip.is
          ∙ skipped a b ws ns connective c.in-Skip.skipped c.size.result (c.size.ensures c.requires.sound)
          (subst (λ (i : Instr). Appended a b ws (plain (i ∷ []))) (c.jump.ensures ∙ ap (jump_of connective) (back ∙ c.in-Ok.ensures.1)) (c.in_ok-push_instr-in-Skip.ensures.ok ws))
          ∙ sym (ap (λ (f : Form). ends_as a ws (part_by (parts_after [] ns) f)) c.in-Skip.is);
    }

pub returns-in_ok-push-in-One-clause-begins : goal.returns-in_ok-push-in-One-clause-begins
returns-in_ok-push-in-One-clause-begins c = record { steps = record { rest = c.in-One.step ∷ []; joined = sym c.in_ok-push-in-One.ensures.items }; bytes = IsPrefixOf-refl _ }

pub returns-in_err-push-in-One-clause-begins : goal.returns-in_err-push-in-One-clause-begins
returns-in_err-push-in-One-clause-begins c = record { steps = record { rest = []; joined = append-nil _ ∙ sym c.in_err-push-in-One.ensures.items }; bytes = IsPrefixOf-refl _ }

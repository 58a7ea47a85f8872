use Rattle.std.proofs.Common.{◌≡◌, ℕ, ◌+◌, ◌<◌, List, [], ◌∷◌, ◌++◌, length, get_or, take, refl, sym, ap, ◌∙◌, append_assoc, Result, Ok, Err}
use Rattle.std.specs.Result.{IsErr, OnOk, OnErr}
use Rattle.std.proofs.lemmas.List.{append-nil, flat_map_more, take_all, take_at, take_more}
use Rattle.code_form.specs.Instructions.{Operand}
use Rattle.code_form.specs.Bytes.{all_bytes, operand_bytes}
use Rattle.code_form.proofs.write.put_line.Goals as goal

-- behind the bytes of the first operands come those of the next one
one_more : (before : List ℕ) (op : ℕ) (os : List Operand) (i : ℕ) (d : Operand) {now out : List ℕ} → i < length os → now ≡ before ++ op ∷ all_bytes (take i os) → out ≡ now ++ operand_bytes (get_or os i d) → out ≡ before ++ op ∷ all_bytes (take (i + 1) os)
one_more before op os i d lt so_far put =
    let x = get_or os i d in
    put ∙ ap (λ (t : List ℕ). t ++ operand_bytes x) so_far ∙ append_assoc before (op ∷ all_bytes (take i os)) (operand_bytes x)
    ∙ ap (λ (t : List ℕ). before ++ t) (flat_map_more operand_bytes (op ∷ []) (take i os) x)
    ∙ ap (λ (t : List Operand). before ++ op ∷ all_bytes t) (sym (take_more os i d lt))

-- what there was is the front of what there is
front_is : (before more : List ℕ) {now : List ℕ} → now ≡ before ++ more → take (length before) now ≡ before
front_is before more is = ap (λ (t : List ℕ). take (length before) t) is ∙ take_at before more _ refl

on_err : {T E : Type 0} (r : Result T E) (P : Type 0) → P → OnErr r P
on_err (Ok x) P p = tt
on_err (Err e) P p = p

not_ok : {T E : Type 0} (r : Result T E) (P : Type 0) → IsErr r → OnOk r P
not_ok (Ok x) P is = absurd (cc)
not_ok (Err e) P is = tt

pub loop-operand-preserved : goal.loop-operand-preserved
loop-operand-preserved c = one_more _ _ _ _ _ c.loop-operand-test.true c.loop-operand.invariant c.in_ok-put.ensures.ok

pub returns-clause-ok : goal.returns-clause-ok
returns-clause-ok c = c.loop-operand.invariant ∙ ap (λ (t : List Operand). c.args.out.now.items ++ c.args.opcode ∷ all_bytes t) (take_all _ _ c.loop-operand-test.false)

pub returns-in_err-extend_from_slice-clause-err : goal.returns-in_err-extend_from_slice-clause-err
returns-in_err-extend_from_slice-clause-err c = on_err c.from_residual.result _ (front_is _ [] (c.in_err-extend_from_slice.ensures.items ∙ sym (append-nil _)))

pub returns-in_err-put-clause-err : goal.returns-in_err-put-clause-err
returns-in_err-put-clause-err c = on_err c.from_residual-in_err-put.result _ (front_is _ _ (c.in_err-put.ensures.err ∙ c.loop-operand.invariant))

pub returns-in_err-put-clause-ok : goal.returns-in_err-put-clause-ok
returns-in_err-put-clause-ok c = not_ok c.from_residual-in_err-put.result _ c.from_residual-in_err-put.ensures.0

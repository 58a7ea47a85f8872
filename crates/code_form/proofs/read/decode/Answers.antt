use Rattle.std.proofs.Common.{◌≡◌, refl, ◌+◌, ◌-◌, Some, arith, drop, length, ap, ◌∙◌, sym}
use Rattle.code_form.specs.Bytes.{spelling}
use Rattle.code_form.specs.Reading.{decoded}
use Rattle.code_form.proofs.Spellings.{found, no_other, spelling-positive, one_instr}
use Rattle.code_form.proofs.read.decode.Goals as goal

pub returns-clause-found : goal.returns-clause-found
returns-clause-found c =
    let read : decoded (drop c.args.at c.args.bytes.now) ≡ Some (c.in-Some.i, c.in-Some.after.now) = ap decoded (sym c.split_at.ensures.back) ∙ c.in-Some.ensures in
    let f = found _ _ _ _ (λ i. omega (arith, c.type_inv.bytes i)) c.requires read in
    rw f.after_is f.begins

pub returns-clause-after : goal.returns-clause-after
returns-clause-after c =
    let read : decoded (drop c.args.at c.args.bytes.now) ≡ Some (c.in-Some.i, c.in-Some.after.now) = ap decoded (sym c.split_at.ensures.back) ∙ c.in-Some.ensures in
    let f = found _ _ _ _ (λ i. omega (arith, c.type_inv.bytes i)) c.requires read in
    (omega (arith, f.size, spelling-positive c.in-Some.i), omega arith)

pub returns-clause-again : goal.returns-clause-again
returns-clause-again c = λ i rest h.
    let read : decoded (drop c.args.at c.args.bytes.now) ≡ Some (c.in-Some.i, c.in-Some.after.now) = ap decoded (sym c.split_at.ensures.back) ∙ c.in-Some.ensures in
    let f = found _ _ _ _ (λ i. omega (arith, c.type_inv.bytes i)) c.requires read in
    let same = one_instr _ _ _ _ _ h f.begins in
    let place : length c.args.bytes.now - length c.in-Some.after.now ≡ c.args.at + length (spelling c.in-Some.i) = omega (arith, f.size) in
    rw (place, same) refl

pub overflow_sub-result : goal.overflow_sub-result
overflow_sub-result c =
    let read : decoded (drop c.args.at c.args.bytes.now) ≡ Some (c.in-Some.i, c.in-Some.after.now) = ap decoded (sym c.split_at.ensures.back) ∙ c.in-Some.ensures in
    let f = found _ _ _ _ (λ i. omega (arith, c.type_inv.bytes i)) c.requires read in
    omega (arith, f.size)

pub returns-in_default-clause-none : goal.returns-in_default-clause-none
returns-in_default-clause-none c = λ i rest h. no_other _ i rest (ap decoded (sym c.split_at.ensures.back) ∙ c.in_default.ensures) h

pub returns-in_default-clause-again : goal.returns-in_default-clause-again
returns-in_default-clause-again c = λ i rest h. absurd (no_other _ i rest (ap decoded (sym c.split_at.ensures.back) ∙ c.in_default.ensures) h)

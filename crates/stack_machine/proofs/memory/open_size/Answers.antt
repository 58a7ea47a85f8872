use Rattle.std.proofs.Common.{◌∙◌, ◌*◌, ◌<◌, ℕ, ap, subst, arith, w64}
use Rattle.std.proofs.lemmas.Int.{to_z-of_z}
use Rattle.stack_machine.specs.Numbers.{count_of}
use Rattle.stack_machine.proofs.Cells.{product_small}
use Rattle.stack_machine.proofs.memory.open_size.Goals as goal

pub overflow_mul-n : goal.overflow_mul-n
overflow_mul-n c = record { fits = product_small c.count.result c.args.size c.count.type_inv c.ranges.size.fits }

pub overflow_cast-result : goal.overflow_cast-result
overflow_cast-result c =
    let le = c.if-n-bound.true in let small = c.requires in
    record { fits = omega (arith, le, small) }

pub returns-then-n-bound-clause-some : goal.returns-then-n-bound-clause-some
returns-then-n-bound-clause-some c = (ap (λ (k : ℕ). k * c.args.size) (c.count.ensures ∙ ap count_of (to_z-of_z w64 c.args.high c.ranges.high)), c.if-n-bound.true)

pub returns-then-n-bound-clause-none : goal.returns-then-n-bound-clause-none
returns-then-n-bound-clause-none c = tt

pub returns-else-n-bound-clause-some : goal.returns-else-n-bound-clause-some
returns-else-n-bound-clause-some c = tt

pub returns-else-n-bound-clause-none : goal.returns-else-n-bound-clause-none
returns-else-n-bound-clause-none c = subst (λ (k : ℕ). c.args.bound < k * c.args.size) (c.count.ensures ∙ ap count_of (to_z-of_z w64 c.args.high c.ranges.high)) c.if-n-bound.false

use Rattle.std.proofs.Common.{◌≤◌, ◌+◌, arith, sym, ap, ◌∙◌, subst, ℕ}
use Rattle.std.proofs.lemmas.Fmt.{length-decimal-le}
use Rattle.stack_machine.proofs.Written.{more_digits}
use Rattle.stack_machine.proofs.printing.+digit_count.Goals as goal

pub returns-else-n-lt10-clause-small : goal.returns-else-n-lt10-clause-small
returns-else-n-lt10-clause-small m c =
    let fits = c.ranges.n in
    let low = c.if-n-lt10.false in
    subst (λ (k : ℕ). k ≤ 20) (sym (ap (λ (k : ℕ). k + 1) c.digit_count.ensures.value ∙ more_digits c.args.n (omega (arith, low)) (omega (arith, fits)))) (length-decimal-le 20 c.args.n (omega arith) (omega (arith, fits)) (omega (arith, fits)))

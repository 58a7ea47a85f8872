use Rattle.stack_machine.proofs.printing.+digit_count.Given as goal

abbrev pub decreases-digit_count : goal.decreases-digit_count
decreases-digit_count a = a.n

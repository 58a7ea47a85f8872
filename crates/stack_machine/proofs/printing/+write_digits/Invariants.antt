use Rattle.stack_machine.proofs.printing.+write_digits.Given as goal

abbrev pub decreases-write_digits : goal.decreases-write_digits
decreases-write_digits g a = a.n

use Rattle.std.proofs.Common.{◌-◌, List, length}
use Rattle.code_form.specs.declared.instr.Instr.{Instr}
use Rattle.code_form.specs.Valid.{AreInstrs}
use Rattle.stack_machine.proofs.Placing.{Ahead}
use Rattle.stack_machine.proofs.decoding.instrs.Given as goal

abbrev pub invariant-loop-at : goal.invariant-loop-at
invariant-loop-at l = (is : List Instr) × AreInstrs l.code is × Ahead l.code is l.at l.all.items

abbrev pub decreases-loop-at : goal.decreases-loop-at
decreases-loop-at l = length l.code - l.at

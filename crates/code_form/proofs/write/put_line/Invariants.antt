use Rattle.std.proofs.Common.{◌≡◌, ◌++◌, ◌∷◌, take}
use Rattle.code_form.specs.Bytes.{all_bytes}
use Rattle.code_form.proofs.write.put_line.Given as goal

abbrev pub invariant-loop-operand : goal.invariant-loop-operand
invariant-loop-operand l = l.out.items ≡ l.fn.out.items ++ l.fn.opcode ∷ all_bytes (take l.operand-index l.operands)

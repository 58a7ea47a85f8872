use Rattle.std.proofs.Common.{arith}
use Rattle.code_form.proofs.Spellings.{past}
use Rattle.code_form.proofs.read.operands.Goals as goal

pub returns-in-52-to-255 : goal.returns-in-52-to-255
returns-in-52-to-255 c = past _ _ (omega arith)

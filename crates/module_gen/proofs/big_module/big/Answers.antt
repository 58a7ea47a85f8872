use Rattle.std.proofs.Common.{rules}
use Rattle.module_gen.proofs.Parts.{by_parts}
use Rattle.module_gen.proofs.big_module.big.Goals as goal

pub returns : goal.returns
returns c = let e = by_parts c.args.procedures in search rules

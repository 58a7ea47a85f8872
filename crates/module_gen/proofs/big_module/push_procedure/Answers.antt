use Rattle.std.specs.Prelude.{codes, decimal}
use Rattle.module_gen.proofs.Growing.{two_lines}
use Rattle.module_gen.proofs.big_module.push_procedure.Goals as goal

pub returns : goal.returns
returns c = two_lines (codes "PROCEDURE p") (codes "BEGIN v := v + w END p") (decimal c.args.number) _ _ _ c.in_ok-writeln.ensures.bytes c.in_ok-writeln-2.ensures.bytes

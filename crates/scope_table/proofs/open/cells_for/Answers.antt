use Rattle.std.proofs.Common.{arith}
use Rattle.scope_table.specs.Cells.{IsWidth}
use Rattle.scope_table.proofs.Opening.{width_is}
use Rattle.scope_table.proofs.open.cells_for.Goals as goal

pub returns-clause-width : goal.returns-clause-width
returns-clause-width c = let power = c.next_power_of_two.ensures.power in width_is c.args.size c.max.result c.next_power_of_two.result power.0 (omega arith) power.1 c.next_power_of_two.ensures.lower_bound c.next_power_of_two.ensures.upper_bound

pub returns-clause-narrow : goal.returns-clause-narrow
returns-clause-narrow c =
    let power = c.next_power_of_two.ensures.power in let w : IsWidth c.args.size c.next_power_of_two.result = width_is c.args.size c.max.result c.next_power_of_two.result power.0 (omega arith) power.1 c.next_power_of_two.ensures.lower_bound c.next_power_of_two.ensures.upper_bound in
    let more = w.more in let l = w.least 32 (omega arith) (omega arith) in (omega arith, l)

use Rattle.std.proofs.Common.{arith, get_or}
use Rattle.object_file.specs.Views.{world_in}
use Rattle.object_file.proofs.Chains.{starts, goes_on}
use Rattle.object_file.proofs.links.Links.at_level.Goals as goal

pub loop-from-init : goal.loop-from-init
loop-from-init c = record { within = c.requires.within; below = omega arith; leads = starts (world_in c.args.parts.now) (get_or c.args.self.now.levels.items c.args.k 0) c.args.k }

pub loop-from-preserved : goal.loop-from-preserved
loop-from-preserved c =
    let i = c.loop-from.invariant in
    let n = c.nearer-from.ensures in
    let further = n.further in
    let below = i.below in
    record {
      within = n.within;
      below = omega (arith, further, below);
      leads = goes_on (world_in c.args.parts.now) c.args.self.now.levels.items c.args.k c.loop-from.from c.args.level c.nearer-from.result i.below i.leads n;
    }

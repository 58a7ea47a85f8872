use Rattle.object_file.specs.Views.{world_in}
use Rattle.object_file.proofs.Chains.{near_outer}
use Rattle.object_file.proofs.links.Links.nearer.Goals as goal

pub returns-else-level : goal.returns-else-level
returns-else-level c = near_outer (world_in c.args.parts.now) c.args.self.now c.args.from c.args.level c.outer_of.result c.requires.links c.requires.further c.outer_of.ensures

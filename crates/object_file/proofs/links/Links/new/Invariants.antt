use Rattle.std.proofs.Common.{◌≡◌, length}
use Rattle.object_file.specs.Links.{AreLinks}
use Rattle.object_file.specs.Views.{world_in}
use Rattle.object_file.proofs.links.Links.new.Given as goal

abbrev pub invariant-loop-k : goal.invariant-loop-k
invariant-loop-k l =
    record {
      many : length l.links.levels.items ≡ l.k;
      links : AreLinks (world_in l.parts) l.links.levels.items l.links.jumps.items;
    }

use Rattle.std.proofs.Common.{◌≡◌, ◌≤◌, length, drop, map, Result}
use Rattle.object_file.specs.declared.fault.Stop.{Stop}
use Rattle.object_file.specs.Telling.{TellsAll}
use Rattle.object_file.specs.Views.{procedure_of, world_in}
use Rattle.object_file.proofs.Lengths.{all_bytes}
use Rattle.object_file.proofs.sizes.check_all.Given as goal

abbrev pub invariant-loop-k : goal.invariant-loop-k
invariant-loop-k l =
    record {
      size : l.behind ≡ length (all_bytes (drop l.k l.procedures));
      small : l.behind ≤ l.size_of_all;
      rest : (r : Result (Unit {0}) Stop) → TellsAll (world_in l.parts) l.k (map procedure_of (drop l.k l.procedures)) r → TellsAll (world_in l.parts) 0 (map procedure_of l.procedures) r;
    }

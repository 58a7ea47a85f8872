use Rattle.std.proofs.Common.{◌-◌, ◌≤◌, length}
use Rattle.object_file.specs.Firsts.{is_landing, is_landing_level}
use Rattle.object_file.specs.Views.{procedure_of, world_in}
use Rattle.object_file.proofs.Finding.{IsFirst}
use Rattle.object_file.proofs.jumps.jump_faults.Given as goal

abbrev pub invariant-loop-point : goal.invariant-loop-point
invariant-loop-point l = record {
  within : l.place.at ≤ length l.own.code.items;
  nowhere : IsFirst (world_in l.parts) (procedure_of l.own) is_landing l.faults.nowhere l.place.at l.place.height;
  uneven : IsFirst (world_in l.parts) (procedure_of l.own) is_landing_level l.faults.uneven l.place.at l.place.height;
}

abbrev pub decreases-loop-point : goal.decreases-loop-point
decreases-loop-point l = length l.own.code.items - l.place.at

use Rattle.std.proofs.Common.{◌-◌, ◌≤◌, length}
use Rattle.object_file.specs.Views.{procedure_of, world_in}
use Rattle.object_file.proofs.Walking.{IsSought}
use Rattle.object_file.proofs.targets.place_at.Given as goal

abbrev pub invariant-loop-place : goal.invariant-loop-place
invariant-loop-place l =
    (l.place.at ≤ length l.own.code.items) × IsSought (world_in l.parts) (procedure_of l.own) l.to l.place.at l.place.height

abbrev pub decreases-loop-place : goal.decreases-loop-place
decreases-loop-place l = length l.own.code.items - l.place.at

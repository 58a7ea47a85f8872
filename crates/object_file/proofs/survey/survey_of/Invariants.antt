use Rattle.std.proofs.Common.{◌-◌, length}
use Rattle.object_file.specs.Views.{procedure_of, world_in}
use Rattle.object_file.proofs.Finding.{AreFound}
use Rattle.object_file.proofs.Walking.{IsWalk}
use Rattle.object_file.proofs.survey.survey_of.Given as goal

abbrev pub invariant-loop-point : goal.invariant-loop-point
invariant-loop-point l = record {
  walk : IsWalk (world_in l.parts) (procedure_of l.own) l.marks.items l.highest l.place.at l.place.height;
  found : AreFound (world_in l.parts) l.k (procedure_of l.own) l.found l.place.at l.place.height;
}

abbrev pub decreases-loop-point : goal.decreases-loop-point
decreases-loop-point l = length l.own.code.items - l.place.at

use Rattle.std.proofs.Common.{◌≡◌, None, fold, replicate, take}
use Rattle.unit_merge.specs.Earliest.{with_told}
use Rattle.unit_merge.specs.Outputs.{told_by}
use Rattle.unit_merge.proofs.faults.text_faults.Given as goal

abbrev pub invariant-loop-output : goal.invariant-loop-output
invariant-loop-output l = l.faults.items ≡ fold with_told (replicate l.count None) (told_by (take l.output-index l.outputs))

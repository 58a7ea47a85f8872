use Rattle.std.proofs.Common.{◌≡◌, take}
use Rattle.std.specs.List.{flat_map}
use Rattle.unit_merge.proofs.notes.all_noted.Given as goal

abbrev pub invariant-loop-output : goal.invariant-loop-output
invariant-loop-output l = l.diags.items ≡ flat_map (λ o. o.diags.items) (take l.output-index l.outputs)

use Rattle.std.proofs.Common.{◌≡◌, ◌+◌, drop}
use Rattle.stack_machine.specs.Loading.{object_at}
use Rattle.stack_machine.proofs.owners.object_at.Given as goal

abbrev pub invariant-loop-k : goal.invariant-loop-k
invariant-loop-k l = object_at (drop l.k l.objects) l.name + l.k ≡ object_at l.objects l.name

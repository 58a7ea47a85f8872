use Rattle.std.proofs.Common.{◌≡◌, ◌≤◌, ◌+◌, ◌++◌, ◌^◌, drop}
use Rattle.stack_machine.specs.Loading.{count_of, bodies_from}
use Rattle.stack_machine.proofs.loading.number_bodies.Given as goal

abbrev pub invariant-loop-object : goal.invariant-loop-object
invariant-loop-object l = record {
  so_far : l.count + count_of (drop l.object-index l.objects) ≡ count_of l.objects;
  all_are : l.bodies.items ++ bodies_from l.count (drop l.object-index l.objects) ≡ bodies_from 0 l.objects;
  few : l.count ≤ 2 ^ 59;
}

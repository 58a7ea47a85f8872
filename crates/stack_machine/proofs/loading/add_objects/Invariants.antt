use Rattle.std.proofs.Common.{◌≡◌, ◌+◌, take}
use Rattle.stack_machine.specs.Loading.{data_of}
use Rattle.stack_machine.specs.Sites.{GrowsAll}
use Rattle.stack_machine.proofs.loading.add_objects.Given as goal

abbrev pub invariant-loop-m : goal.invariant-loop-m
invariant-loop-m l = record {
  grows : GrowsAll l.scene.objects.now l.text (take l.m l.scene.objects.now) l.fn.listing l.listing;
  at_is : l.at ≡ l.text + data_of (take l.m l.scene.objects.now);
}

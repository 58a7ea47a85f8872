use Rattle.std.proofs.Common.{◌≡◌, ◌+◌, take, map}
use Rattle.object_file.specs.Views.{procedure_of}
use Rattle.stack_machine.specs.Loading.{data_in}
use Rattle.stack_machine.specs.Sites.{GrowsObject}
use Rattle.stack_machine.proofs.loading.add_procedures.Given as goal

abbrev pub invariant-loop-k : goal.invariant-loop-k
invariant-loop-k l = record {
  grows : GrowsObject l.scene.objects.now l.home.«module» l.home.object.now l.text (map procedure_of (take l.k l.procedures)) l.fn.listing l.listing;
  at_is : l.at ≡ l.text + data_in (map procedure_of (take l.k l.procedures));
}

use Rattle.std.proofs.Common.{◌≡◌, take, map}
use Rattle.object_file.specs.Views.{import_of}
use Rattle.stack_machine.specs.Loading.{owner_of}
use Rattle.stack_machine.proofs.owners.owners.Given as goal

abbrev pub invariant-loop-import : goal.invariant-loop-import
invariant-loop-import l = l.all.items ≡ map (λ i. owner_of l.objects i) (map import_of (take l.import-index l.imports))

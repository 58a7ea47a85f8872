use Rattle.std.proofs.Common.{◌≡◌, drop}
use Rattle.stack_machine.specs.Loading.{imports_in_out}
use Rattle.stack_machine.proofs.layout.any_has_in_out.Given as goal

abbrev pub invariant-loop-object : goal.invariant-loop-object
invariant-loop-object l = imports_in_out (drop l.object-index l.objects) ≡ imports_in_out l.objects

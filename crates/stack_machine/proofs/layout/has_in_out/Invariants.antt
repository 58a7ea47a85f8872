use Rattle.std.proofs.Common.{◌≡◌, drop, map}
use Rattle.object_file.specs.Views.{import_of}
use Rattle.stack_machine.specs.Loading.{import_in_out}
use Rattle.stack_machine.proofs.layout.has_in_out.Given as goal

abbrev pub invariant-loop-import : goal.invariant-loop-import
invariant-loop-import l = import_in_out (map import_of (drop l.import-index l.imports)) ≡ import_in_out (map import_of l.imports)

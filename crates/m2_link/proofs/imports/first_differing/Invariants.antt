use Rattle.std.proofs.Common.{◌≡◌, drop}
use Rattle.m2_link.specs.Refusals.{differs, first_import}
use Rattle.m2_link.proofs.imports.first_differing.Given as goal

abbrev pub invariant-loop-object : goal.invariant-loop-object
invariant-loop-object l = first_import (differs l.objects) l.objects ≡ first_import (differs l.objects) (drop l.object-index l.objects)

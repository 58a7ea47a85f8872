use Rattle.std.proofs.Common.{◌≡◌, drop}
use Rattle.m2_link.specs.Refusals.{is_missing, first_import}
use Rattle.m2_link.proofs.imports.first_missing.Given as goal

abbrev pub invariant-loop-object : goal.invariant-loop-object
invariant-loop-object l = first_import (λ o i. is_missing l.objects i.definition) l.objects ≡ first_import (λ o i. is_missing l.objects i.definition) (drop l.object-index l.objects)

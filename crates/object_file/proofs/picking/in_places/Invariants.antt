use Rattle.std.proofs.Common.{◌≡◌, map, Some}
use Rattle.object_file.proofs.picking.in_places.Given as goal

abbrev pub invariant-loop-object : goal.invariant-loop-object
invariant-loop-object l = l.places.items ≡ map Some l.yielded

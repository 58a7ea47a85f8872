use Rattle.object_file.proofs.Picked.{Picks}
use Rattle.object_file.proofs.picking.pick.Given as goal

abbrev pub invariant-loop-number : goal.invariant-loop-number
invariant-loop-number l = Picks l.fn.objects.items l.order l.number-index l.places.items l.chosen.items

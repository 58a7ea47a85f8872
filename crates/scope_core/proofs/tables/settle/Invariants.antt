use Rattle.std.specs.Vec.Iter.{into_iter_items}
use Rattle.scope_core.proofs.Runs.{Part}
use Rattle.scope_core.proofs.tables.settle.Given as goal

-- the events so far happened, and the rest may happen
abbrev pub invariant-loop-event : goal.invariant-loop-event
invariant-loop-event l = Part l.fn.tables l.tables l.fn.run.items (into_iter_items l.event-iterator)

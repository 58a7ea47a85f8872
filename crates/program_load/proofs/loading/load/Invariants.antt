use Rattle.std.proofs.Common.{◌≡◌, ◌≤◌, ◌-◌, ◌^◌}
use Rattle.program_load.specs.Loads.{Reaches}
use Rattle.program_load.proofs.loading.load.Given as goal

abbrev pub invariant-loop-name : goal.invariant-loop-name
invariant-loop-name g l = record {
  reached : Reaches (g.H.Shelf.holds l.fn.shelf) l.fn.name l.progress;
  holds : g.H.Shelf.holds l.shelf ≡ g.H.Shelf.holds l.fn.shelf;
  put_faults : g.H.Shelf.put_faults l.shelf ≡ g.H.Shelf.put_faults l.fn.shelf;
  later : g.H.Shelf.faults l.fn.shelf ≤ g.H.Shelf.faults l.shelf;
}

abbrev pub decreases-loop-name : goal.decreases-loop-name
decreases-loop-name g l = 2 ^ 64 - l.progress.asked

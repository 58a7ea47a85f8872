-- Of the names gone over so far each has its first entry in the index.
use Rattle.m2_base.proofs.brought.index_all.Given as goal
use Rattle.std.specs.Prelude.{nat_eq}
use Rattle.std.specs.HashMap.{get, spare}
use Rattle.m2_base.proofs.BroughtLaws.{IsIndexedTo}

abbrev pub invariant-loop-named : goal.invariant-loop-named
invariant-loop-named l = IsIndexedTo (get nat_eq l.initial.index) (get nat_eq l.index) l.brought l.named-index (spare l.index)

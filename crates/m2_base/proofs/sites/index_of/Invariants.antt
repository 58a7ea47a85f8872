-- What stands behind the names that are left is in the index.
use Rattle.m2_base.proofs.sites.index_of.Given as goal
use Rattle.std.specs.Prelude.{nat_eq}
use Rattle.std.specs.HashMap.{get}
use Rattle.m2_base.proofs.LayoutIndex.{IsFoundBehind}

abbrev pub invariant-loop-named : goal.invariant-loop-named
invariant-loop-named l = IsFoundBehind l.names l.named-iterator.iter.rest.now (get nat_eq l.index)

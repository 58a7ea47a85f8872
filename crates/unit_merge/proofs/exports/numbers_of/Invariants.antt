-- The numbers behind the headings that are left are in the map.
use Rattle.std.specs.Prelude.{nat_eq}
use Rattle.indexmap.specs.IndexMap.{get}
use Rattle.unit_merge.proofs.Numbers.{IsFoundBehind}
use Rattle.unit_merge.proofs.exports.numbers_of.Given as goal

abbrev pub invariant-loop-heading : goal.invariant-loop-heading
invariant-loop-heading l = IsFoundBehind l.headings l.heading-iterator.iter.rest.now (get nat_eq l.numbers)

use Rattle.std.proofs.Common.{◌≡◌, ◌<◌, ◌≤◌, ◌-◌, ℕ, length, map, Some}
use Rattle.std.specs.Prelude.{slice_get}
use Rattle.stack_machine.specs.Loading.{Spot}
use Rattle.stack_machine.specs.Sites.{spot_of}
use Rattle.stack_machine.proofs.decoding.find.Given as goal

abbrev pub invariant-loop-low : goal.invariant-loop-low
invariant-loop-low l =
    record {
      ordered : l.low ≤ l.high;
      within : l.high ≤ length l.all;
      below : (k : ℕ) (s : Spot) → k < l.low → slice_get (map spot_of l.all) k ≡ Some s → s.at < l.to;
      above : (k : ℕ) (s : Spot) → l.high ≤ k → slice_get (map spot_of l.all) k ≡ Some s → l.to ≤ s.at;
    }

abbrev pub decreases-loop-low : goal.decreases-loop-low
decreases-loop-low l = l.high - l.low

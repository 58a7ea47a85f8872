use Rattle.std.proofs.Common.{◌≡◌, ℕ, suc, ◌+◌, ◌<◌, length, get_or}
use Rattle.scope_table.specs.Opening.{IsPart}
use Rattle.scope_table.proofs.open.lay.Given as goal

abbrev pub invariant-loop-size : goal.invariant-loop-size
invariant-loop-size l = record {
  all : length l.mids.items ≡ l.size-index;
  many : length l.bases.items ≡ l.size-index + 1;
  first : get_or l.bases.items 0 0 ≡ length l.sizes;
  parts : (k : ℕ) → k < l.size-index → IsPart (get_or l.sizes k 0) (get_or l.bases.items k 0) (get_or l.mids.items k 0) (get_or l.bases.items (suc k) 0);
  end_is : get_or l.bases.items l.size-index 0 ≡ l.end;
  bounded : (k : ℕ) → k < l.size-index → get_or l.bases.items k 0 < 1152921504606846976;
  small : l.end < 4611686018427387904;
}

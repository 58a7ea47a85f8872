use Rattle.std.proofs.Common.{◌≡◌, ◌+◌, length, drop}
use Rattle.object_file.proofs.Lengths.{all_bytes}
use Rattle.object_file.proofs.sizes.sizes.Given as goal

abbrev pub invariant-loop-own : goal.invariant-loop-own
invariant-loop-own l = l.total + length (all_bytes (drop l.own-index l.procedures)) ≡ length (all_bytes l.procedures)

use Rattle.std.proofs.Common.{◌≡◌, drop}
use Rattle.object_file.specs.Fields.{match_at}
use Rattle.object_file.proofs.fields.exact.Given as goal

abbrev pub invariant-loop-i : goal.invariant-loop-i
invariant-loop-i l = match_at (drop l.i l.expected) (drop l.i l.bytes.now) ≡ match_at l.expected l.bytes.now

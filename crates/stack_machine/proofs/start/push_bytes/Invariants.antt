use Rattle.std.proofs.Common.{◌≡◌, ◌++◌, drop, map, pos}
use Rattle.stack_machine.proofs.start.push_bytes.Given as goal

abbrev pub invariant-loop-byte : goal.invariant-loop-byte
invariant-loop-byte l = l.cells.items ++ map pos (drop l.byte-index l.bytes) ≡ l.fn.cells.items ++ map pos l.bytes

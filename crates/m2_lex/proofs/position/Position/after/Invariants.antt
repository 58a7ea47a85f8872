use Rattle.std.proofs.Common.{◌+◌, ◌≤◌, ◌≡◌, take}
use Rattle.m2_base.specs.Positions.{after_bytes}
use Rattle.m2_lex.specs.Places.{place_of}
use Rattle.m2_lex.proofs.position.Position.after.Given as goal

abbrev pub invariant-loop-byte : goal.invariant-loop-byte
invariant-loop-byte l =
    (place_of l.position ≡ after_bytes (place_of l.fn.self) (take l.byte-index l.bytes))
    × (l.position.line ≤ l.fn.self.line + l.byte-index)
    × (l.position.column ≤ l.fn.self.column + l.byte-index)

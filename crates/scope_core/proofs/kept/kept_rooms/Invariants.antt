use Rattle.std.proofs.Common.{take}
use Rattle.scope_core.proofs.KeptTables.{HaveRooms}
use Rattle.scope_core.proofs.kept.kept_rooms.Given as goal

-- so far, each scope is empty and has its room
abbrev pub invariant-loop-size : goal.invariant-loop-size
invariant-loop-size l = HaveRooms (take l.size-index l.sizes) l.kept.items

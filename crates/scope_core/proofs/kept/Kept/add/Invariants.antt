use Rattle.std.proofs.Common.{◌≡◌, ◌+◌, ◌≤◌, length, take}
use Rattle.scope_core.specs.Kept.{longer}
use Rattle.scope_core.proofs.kept.Kept.add.Given as goal

-- the rows so far were added, and there is room for the others
abbrev pub invariant-loop-row : goal.invariant-loop-row
invariant-loop-row l =
    (l.self.table ≡ longer l.fn.self.table (take l.row-index l.rows)) × (length l.fn.self.table.rows + length l.rows ≤ l.self.room)
    × (l.fn.self.room ≤ l.self.room)

use Rattle.std.proofs.Common.{◌≡◌, ◌-◌}
use Rattle.search_tests.specs.Named.{rows_named}
use Rattle.search_tests.proofs.filling.rows_from.Given as goal

-- so many rows are there
abbrev pub invariant-loop-name : goal.invariant-loop-name
invariant-loop-name l = l.rows.items ≡ rows_named l.first (l.name - l.first)

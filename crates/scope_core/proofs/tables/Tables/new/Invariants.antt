use Rattle.std.proofs.Common.{◌≡◌, replicate}
use Rattle.m2_base.specs.Tables.{no_rows}
use Rattle.scope_core.specs.Kept.{tables_in}
use Rattle.scope_core.proofs.tables.Tables.new.Given as goal

abbrev pub invariant-loop : goal.invariant-loop
invariant-loop l = tables_in l.list.items ≡ replicate l.counter no_rows

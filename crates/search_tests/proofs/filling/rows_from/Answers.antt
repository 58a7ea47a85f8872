use Rattle.search_tests.proofs.Named.{rows_step}
use Rattle.search_tests.proofs.filling.rows_from.Goals as goal

pub loop-name-preserved : goal.loop-name-preserved
loop-name-preserved c =
    rows_step c.args.first c.loop-name.name c.loop-name.rows.items c.push.new.self.items c.row_of-row.result c.loop-name.auto.name c.loop-name.invariant c.row_of-row.ensures c.in_ok-push.ensures.items

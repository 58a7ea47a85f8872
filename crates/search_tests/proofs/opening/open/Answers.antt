use Rattle.std.proofs.Common.{refl}
use Rattle.search_tests.proofs.Tables.{narrow, table_opened}
use Rattle.search_tests.proofs.opening.open.Goals as goal

pub open-requires-clause-narrow : goal.open-requires-clause-narrow
open-requires-clause-narrow c = narrow c.args.room c.requires

pub returns : goal.returns
returns c =
    let s = c.in-Some.ensures in
    record { table = table_opened _ _ c.args.texts.now _ c.args.room c.in_ok-table.ensures.opened refl; one = s.0; two = s.1 }

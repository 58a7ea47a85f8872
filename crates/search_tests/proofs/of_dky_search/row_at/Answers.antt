use Rattle.std.proofs.Common.{arith}
use Rattle.search_tests.proofs.of_dky_search.row_at.Goals as goal

pub fetch-requires : goal.fetch-requires
fetch-requires c =
    let own = c.filled-own.ensures in
    let f = own.filled in let i = own.inner in let n = own.inside in let s = c.place.ensures in omega (arith, f, i, n, s)

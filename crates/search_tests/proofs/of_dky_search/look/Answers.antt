use Rattle.std.proofs.Common.{arith}
use Rattle.search_tests.proofs.of_dky_search.look.Goals as goal

pub search-requires : goal.search-requires
search-requires c =
    let own = c.filled-own.ensures in
    record { short = omega arith; exist = ((let f = own.filled in let i = own.inner in let n = own.inside in omega (arith, f, i, n)), tt); named = c.requires }

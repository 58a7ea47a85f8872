use Rattle.dky_search.specs.SeatScopes.{state_of}
use Rattle.search_tests.proofs.Named.{can_complete}
use Rattle.search_tests.proofs.filling.Filler.complete.Goals as goal

pub complete-requires : goal.complete-requires
complete-requires c = let f = c.args.self in can_complete (state_of f.scopes) f.names f.room f.many f.filled

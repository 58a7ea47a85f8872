use Rattle.std.proofs.Common.{map}
use Rattle.ll_grammar.specs.Readers.{itself}
use Rattle.ll_grammar.proofs.Loops.{RepeatSoFar}
use Rattle.m2_base.specs.Views.{import_view}
use Rattle.m2_parse.specs.ReadStreams.{begins_import, import_at, imports_at}
use Rattle.m2_parse.proofs.streams.imports.Given as goal

abbrev pub invariant-loop : goal.invariant-loop
invariant-loop l = RepeatSoFar begins_import import_at itself (map import_view l.items.items) l.end l.counter l.tokens.list.now (imports_at l.fn.tokens.list.now)

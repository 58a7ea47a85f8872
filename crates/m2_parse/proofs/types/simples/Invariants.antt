use Rattle.std.proofs.Common.{map}
use Rattle.ll_grammar.specs.Readers.{itself}
use Rattle.ll_grammar.proofs.Loops.{SeparatedSoFar}
use Rattle.m2_base.specs.Grammar.{number_of_token}
use Rattle.m2_base.specs.Views.{type_view}
use Rattle.m2_parse.specs.ReadExpressions.{factor_at}
use Rattle.m2_parse.specs.ReadTypes.{simple_with, simples_with}
use Rattle.m2_parse.proofs.types.simples.Given as goal

abbrev pub invariant-loop : goal.invariant-loop
invariant-loop l =
    SeparatedSoFar number_of_token 56 (simple_with (factor_at l.depth)) itself (map type_view l.items.items) l.end l.counter l.tokens.list.now (simples_with (factor_at l.depth) l.fn.tokens.list.now)

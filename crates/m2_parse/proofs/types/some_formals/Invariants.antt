use Rattle.ll_grammar.specs.Readers.{itself}
use Rattle.ll_grammar.proofs.Loops.{SeparatedSoFar}
use Rattle.m2_base.specs.Grammar.{number_of_token}
use Rattle.m2_parse.specs.ReadTypes.{formal_at, some_formals_at}
use Rattle.m2_parse.proofs.types.some_formals.Given as goal

abbrev pub invariant-loop : goal.invariant-loop
invariant-loop l = SeparatedSoFar number_of_token 56 formal_at itself l.items.items l.end l.counter l.tokens.list.now (some_formals_at l.fn.tokens.list.now)

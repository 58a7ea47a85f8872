use Rattle.ll_grammar.specs.Readers.{itself}
use Rattle.ll_grammar.proofs.Loops.{SeparatedSoFar}
use Rattle.m2_base.specs.Grammar.{number_of_token}
use Rattle.m2_parse.specs.ReadNames.{ident_at, idents_at}
use Rattle.m2_parse.proofs.names.idents.Given as goal

abbrev pub invariant-loop : goal.invariant-loop
invariant-loop l = SeparatedSoFar number_of_token 56 ident_at itself l.items.items l.end l.counter l.tokens.list.now (idents_at l.fn.tokens.list.now)

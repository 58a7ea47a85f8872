use Rattle.std.proofs.Common.{map}
use Rattle.ll_grammar.specs.Readers.{itself}
use Rattle.ll_grammar.proofs.Loops.{SeparatedSoFar}
use Rattle.m2_base.specs.Grammar.{number_of_token}
use Rattle.m2_base.specs.Views.{section_view}
use Rattle.m2_parse.specs.ReadStreams.{section_at, some_sections_at}
use Rattle.m2_parse.proofs.declarations.some_sections.Given as goal

abbrev pub invariant-loop : goal.invariant-loop
invariant-loop l = SeparatedSoFar number_of_token 57 section_at itself (map section_view l.items.items) l.end l.counter l.tokens.list.now (some_sections_at l.fn.tokens.list.now)

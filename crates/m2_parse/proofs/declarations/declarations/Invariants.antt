use Rattle.std.proofs.Common.{map}
use Rattle.ll_grammar.specs.Readers.{all}
use Rattle.ll_grammar.proofs.Loops.{RepeatSoFar}
use Rattle.m2_base.specs.Views.{decl_view}
use Rattle.m2_parse.specs.ReadStreams.{begins_declaration, declaration_at, declarations_at}
use Rattle.m2_parse.proofs.declarations.declarations.Given as goal

abbrev pub invariant-loop : goal.invariant-loop
invariant-loop l =
    RepeatSoFar begins_declaration (declaration_at l.depth) all (map decl_view l.items.items) l.end l.counter l.tokens.list.now (declarations_at l.depth l.fn.tokens.list.now)

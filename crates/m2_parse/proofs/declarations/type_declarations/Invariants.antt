use Rattle.std.proofs.Common.{map}
use Rattle.ll_grammar.specs.Readers.{itself}
use Rattle.ll_grammar.proofs.Loops.{RepeatSoFar}
use Rattle.m2_base.specs.Views.{decl_view}
use Rattle.m2_base.specs.declared.kind.TokenKind.TheVariants.{Identifier}
use Rattle.m2_parse.specs.Reading.{next_is}
use Rattle.m2_parse.specs.ReadStreams.{type_declaration_at, type_declarations_at}
use Rattle.m2_parse.proofs.declarations.type_declarations.Given as goal

abbrev pub invariant-loop : goal.invariant-loop
invariant-loop l =
    RepeatSoFar (next_is Identifier) (type_declaration_at l.depth) itself (map decl_view l.items.items) l.end l.counter l.tokens.list.now (type_declarations_at l.depth l.fn.tokens.list.now)

use Rattle.std.proofs.Common.{length}
use Rattle.m2_lex.specs.Ahead.{IsPlain}
use Rattle.m2_lex.specs.Places.{place_of}
use Rattle.m2_lex.proofs.Lexing.{IsLexing}
use Rattle.m2_lex.proofs.lexer.lex.Given as goal

abbrev pub invariant-loop-rest : goal.invariant-loop-rest
invariant-loop-rest l = IsLexing l.fn.names l.text l.names l.tokens.items (place_of l.position) l.rest × IsPlain l.plain l.rest

abbrev pub decreases-loop-rest : goal.decreases-loop-rest
decreases-loop-rest l = length l.rest

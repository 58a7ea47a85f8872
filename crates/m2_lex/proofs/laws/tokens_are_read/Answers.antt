use Rattle.m2_lex.proofs.ReadTokens.{tokens_read}
use Rattle.m2_lex.proofs.laws.tokens_are_read.Goals as goal

pub returns : goal.returns
returns c = tokens_read

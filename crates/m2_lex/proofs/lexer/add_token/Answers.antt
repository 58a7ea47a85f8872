use Rattle.m2_base.specs.Meanings.{meaning_of}
use Rattle.m2_lex.proofs.Lexing.{extends_by}
use Rattle.m2_lex.proofs.lexer.add_token.Goals as goal

pub returns-in_err-push-clause-extends : goal.returns-in_err-push-clause-extends
returns-in_err-push-clause-extends c = extends_by c.args.names.now c.token_of.new.names (meaning_of c.args.lexeme.now) c.in_ok-token.ensures.names

pub returns-in_ok-push-clause-extends : goal.returns-in_ok-push-clause-extends
returns-in_ok-push-clause-extends c = extends_by c.args.names.now c.token_of.new.names (meaning_of c.args.lexeme.now) c.in_ok-token.ensures.names

pub returns-in_default-clause-extends : goal.returns-in_default-clause-extends
returns-in_default-clause-extends c = extends_by c.args.names.now c.token_of.new.names (meaning_of c.args.lexeme.now) c.in_ok-token.ensures.names

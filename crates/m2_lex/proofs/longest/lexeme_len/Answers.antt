use Rattle.std.proofs.Common.{◌∙◌, sym}
use Rattle.m2_lex.proofs.LongestRuns.{longest_blanks, longest_word}
use Rattle.m2_lex.proofs.LongestStrings.{longest_comment_by}
use Rattle.m2_lex.proofs.LongestSymbols.{longest_symbol}
use Rattle.m2_lex.proofs.longest.lexeme_len.Goals as goal

pub returns-then-is_blank-clause-longest : goal.returns-then-is_blank-clause-longest
returns-then-is_blank-clause-longest c =
    longest_blanks c.args.text.now c.blanks.result (sym c.is_blank.ensures ∙ c.if-is_blank.true) c.blanks.ensures.count

pub returns-then-is_letter-clause-longest : goal.returns-then-is_letter-clause-longest
returns-then-is_letter-clause-longest c =
    longest_word c.args.text.now c.letters.result (sym c.is_blank.ensures ∙ c.if-is_blank.false) (sym c.is_letter.ensures ∙ c.if-is_letter.true) c.letters.ensures.count

pub returns-then-opens_comment-clause-longest : goal.returns-then-opens_comment-clause-longest
returns-then-opens_comment-clause-longest c =
    longest_comment_by c.args.text.now c.comment_len.result c.unwrap_or.result (sym c.opens_comment.ensures ∙ c.if-opens_comment.true) c.comment_len.ensures c.unwrap_or.ensures

pub returns-else-opens_comment-clause-longest : goal.returns-else-opens_comment-clause-longest
returns-else-opens_comment-clause-longest c =
    longest_symbol c.args.text.now c.symbol_len.result c.requires.some (sym c.is_blank.ensures ∙ c.if-is_blank.false) (sym c.is_letter.ensures ∙ c.if-is_letter.false)
    (sym c.is_digit.ensures ∙ c.if-is_digit.false) (sym c.is_quote.ensures ∙ c.if-is_quote.false) (sym c.opens_comment.ensures ∙ c.if-opens_comment.false) c.symbol_len.ensures.symbol

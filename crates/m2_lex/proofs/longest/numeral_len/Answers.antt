use Rattle.std.proofs.Common.{ℕ, ◌≤◌, take, drop, length, sym, subst}
use Rattle.m2_base.specs.Lexemes.{IsLongest}
use Rattle.m2_lex.specs.Ahead.{IsPlain}
use Rattle.m2_lex.proofs.LongestNumerals.{longest_hexadecimal, longest_plain, plain-within, plain_on}
use Rattle.m2_lex.proofs.longest.numeral_len.Goals as goal

pub returns-in-Some-clause-longest : goal.returns-in-Some-clause-longest
returns-in-Some-clause-longest c = longest_hexadecimal c.args.text.now c.in-Some.count c.requires.digit c.in-Some.ensures.length.0 c.in-Some.ensures.length.1

pub returns-clause-within : goal.returns-clause-within
returns-clause-within c = let text = c.args.text.now in subst (λ (n : ℕ). n ≤ length text) (sym c.plain_len-count.ensures) (plain-within text)

pub returns-clause-longest : goal.returns-clause-longest
returns-clause-longest c =
    let text = c.args.text.now in
    subst (λ (n : ℕ). IsLongest (take n text) (drop n text)) (sym c.plain_len-count.ensures) (longest_plain text c.requires.digit c.in_default.ensures.length)

pub returns-clause-plain : goal.returns-clause-plain
returns-clause-plain c =
    let text = c.args.text.now in
    let count = c.plain_len-count.result in
    subst (λ (n : ℕ). IsPlain n (drop count text)) (sym c.saturating_sub.ensures) (plain_on c.hexadecimal_len.new.plain count text c.in_default.ensures.plain)

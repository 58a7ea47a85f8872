use Rattle.std.proofs.Common.{◌≡◌, ◌∙◌, drop, get_or, ap, refl, sym}
use Rattle.std.proofs.lemmas.List.{take_rest}
use Rattle.std.specs.List.{prefix_len}
use Rattle.m2_base.specs.Letters.{stays_in}
use Rattle.m2_lex.proofs.LongestStrings.{longest_string, longest_open_string}
use Rattle.m2_lex.proofs.longest.string_len.Goals as goal

pub returns-then-byte_at-quote-clause-longest : goal.returns-then-byte_at-quote-clause-longest
returns-then-byte_at-quote-clause-longest c =
    let text = c.args.text.now in
    let quote = get_or text 0 0 in
    let inside = c.string_bytes-inside.result in
    let count : inside ≡ prefix_len (stays_in quote) (drop 1 text) = c.string_bytes-inside.ensures.count ∙ ap (prefix_len (stays_in quote)) (take_rest text 1) in
    (longest_string text quote inside refl c.requires.quote count (sym c.byte_at.ensures ∙ c.if-byte_at-quote.true)).0

pub returns-else-byte_at-quote-clause-longest : goal.returns-else-byte_at-quote-clause-longest
returns-else-byte_at-quote-clause-longest c =
    let text = c.args.text.now in
    let quote = get_or text 0 0 in
    let inside = c.string_bytes-inside.result in
    let count : inside ≡ prefix_len (stays_in quote) (drop 1 text) = c.string_bytes-inside.ensures.count ∙ ap (prefix_len (stays_in quote)) (take_rest text 1) in
    (longest_open_string text quote inside refl c.requires.quote count (λ e. c.if-byte_at-quote.false (c.byte_at.ensures ∙ e))).0

use Rattle.std.proofs.Common.{◌≡◌, rules, ◌++◌, ◌∙◌, ap, sym, subst, length}
use Rattle.stream_split.specs.Limits.{Tells}
use Rattle.stream_split.specs.Streams.{main_streams, main_tokens, main_number, tokens_in}
use Rattle.stream_split.proofs.Definitions.{joined, main_is}
use Rattle.stream_split.proofs.Lengths.{streams_short}
use Rattle.stream_split.proofs.LimitsAgree.{unit_limit}
use Rattle.stream_split.proofs.StreamCounts.{cut_few}
use Rattle.stream_split.proofs.splitting.with_main.Goals as goal

pub returns-in-Ok-append-clause-streams : goal.returns-in-Ok-append-clause-streams
returns-in-Ok-append-clause-streams c =
    let tokens : c.as_slice.result.now ≡ c.main.result.now.tokens = search rules in
    let main : c.as_slice.result.now ≡ main_tokens c.args.texts.now = tokens ∙ sym (ap tokens_in c.main.ensures.text) in
    let all : c.append.new.self.items ≡ c.args.streams.items ++ c.in-Ok.more.items = search rules in
    let count : c.len.result ≡ length c.args.streams.items = search rules in
    let first : c.in-Some.first ≡ main_number c.args.texts.now = main_is c.args.texts.now.list c.args.texts.now.order c.args.streams.items c.in-Some.first c.len.result c.requires count c.in-Some.ensures in
    joined c.args.streams.items c.in-Ok.more.items c.append.new.self.items _ _ all c.requires
    (c.in-Ok.ensures.streams ∙ ap (λ z. main_streams z c.as_slice.result.now) first ∙ ap (main_streams (main_number c.args.texts.now)) main)

pub returns-in-Ok-append-clause-short : goal.returns-in-Ok-append-clause-short
returns-in-Ok-append-clause-short c = streams_short c.args.texts.now c.main.ensures.unit c.append.new.self.items (returns-in-Ok-append-clause-streams c)

pub returns-in-Ok-append-clause-few : goal.returns-in-Ok-append-clause-few
returns-in-Ok-append-clause-few c = cut_few c.args.texts.now c.main.ensures.unit c.append.new.self.items (returns-in-Ok-append-clause-streams c)

pub returns-in-Ok-append-clause-limits : goal.returns-in-Ok-append-clause-limits
returns-in-Ok-append-clause-limits c =
    let tokens : c.as_slice.result.now ≡ c.main.result.now.tokens = search rules in
    sym (unit_limit c.args.texts.now c.main.ensures.unit c.main.result.now c.main.ensures.text c.in-Some.first c.as_slice.result.now tokens) ∙ c.in-Ok.ensures.limits

pub returns-in-Err-clause-limits : goal.returns-in-Err-clause-limits
returns-in-Err-clause-limits c =
    let tokens : c.as_slice.result.now ≡ c.main.result.now.tokens = search rules in
    subst (Tells c.in-Err.fault) (unit_limit c.args.texts.now c.main.ensures.unit c.main.result.now c.main.ensures.text c.in-Some.first c.as_slice.result.now tokens) c.in-Err.ensures.limits

use Rattle.std.proofs.Common.{rules, tests}
use Rattle.std.proofs.lemmas.Iterator.{YieldsList-from_slice}
use Rattle.std.proofs.lemmas.Iterator.Adapters.{YieldsList-from_skip}
use Rattle.std.proofs.lemmas.Iterator.Consumers.{YieldsList-at, YieldsList-from_filter, count_from_yields_List}
use Rattle.m2_base.specs.declared.token.Token.{Token}
use Rattle.stream_split.specs.Sizes.{may_make_row}
use Rattle.stream_split.proofs.extents.declared_room.Goals as goal

pub returns-clause-room : goal.returns-clause-room
returns-clause-room c =
    count_from_yields_List c.filter.result _ c.count.ensures.ran
    (YieldsList-from_filter _ (λ (t : Token). may_make_row t.kind) (YieldsList-at c.filter.ensures.source (YieldsList-from_skip 3 (YieldsList-from_slice c.args.tokens.now (cc)) c.skip.ensures.count)) c.filter.ensures.closure (λ x r q k. search (rules, tests)))

use Rattle.ll_grammar.proofs.Answering.{returns_value, returns_spelled, returns_fault}
use Rattle.ll_grammar.proofs.Link.{IsAt}
use Rattle.m2_base.specs.FaultsOf.{fault_in}
use Rattle.m2_base.specs.Grammar.{grammar, stream, levels}
use Rattle.m2_base.specs.StreamsOf.{stream_of}
use Rattle.m2_base.specs.Views.{stream_view}
use Rattle.m2_base.proofs.GrammarChecks.{is_ll1, stream_is_root}
use Rattle.m2_parse.specs.ReadStreams.{stream_at}
use Rattle.m2_parse.specs.Streams.{in_text, cause_of, retell, stream_text}
use Rattle.m2_parse.proofs.Retold.{retold}
use Rattle.m2_parse.proofs.StreamLinks.{stream_read}
use Rattle.m2_parse.proofs.streams.parse_stream.Goals as goal

pub returns-clause-tree : goal.returns-clause-tree
unfolding stream_text
returns-clause-tree c =
    returns_value grammar is_ll1 (stream c.args.kind) (stream_is_root c.args.kind) (fault_in c.args.text) cause_of (stream_of c.args.kind) stream_view levels
    c.args.tokens.now (retell (in_text c.args.text) (stream_at levels c.args.kind c.args.tokens.now))
    (retold grammar c.args.text (stream c.args.kind) (IsAt (stream_of c.args.kind)) levels c.args.tokens.now (stream_at levels c.args.kind c.args.tokens.now) (stream_read levels c.args.kind c.args.tokens.now))
    c.whole.result c.whole.ensures

pub returns-clause-only : goal.returns-clause-only
unfolding stream_text
returns-clause-only c =
    returns_spelled grammar is_ll1 (stream c.args.kind) (stream_is_root c.args.kind) (fault_in c.args.text) cause_of (stream_of c.args.kind) stream_view levels
    c.args.tokens.now (retell (in_text c.args.text) (stream_at levels c.args.kind c.args.tokens.now))
    (retold grammar c.args.text (stream c.args.kind) (IsAt (stream_of c.args.kind)) levels c.args.tokens.now (stream_at levels c.args.kind c.args.tokens.now) (stream_read levels c.args.kind c.args.tokens.now))
    c.whole.result c.whole.ensures

pub returns-clause-fault : goal.returns-clause-fault
unfolding stream_text
returns-clause-fault c =
    returns_fault grammar is_ll1 (stream c.args.kind) (stream_is_root c.args.kind) (fault_in c.args.text) cause_of (stream_of c.args.kind) stream_view levels
    c.args.tokens.now (retell (in_text c.args.text) (stream_at levels c.args.kind c.args.tokens.now))
    (retold grammar c.args.text (stream c.args.kind) (IsAt (stream_of c.args.kind)) levels c.args.tokens.now (stream_at levels c.args.kind c.args.tokens.now) (stream_read levels c.args.kind c.args.tokens.now))
    c.whole.result c.whole.ensures

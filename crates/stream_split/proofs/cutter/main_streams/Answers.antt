use Rattle.std.proofs.Common.{subst}
use Rattle.std.proofs.lemmas.List.{take_all}
use Rattle.stream_split.proofs.Loop.{So, ready, one_turn, all_streams, passes}
use Rattle.stream_split.proofs.cutter.main_streams.Goals as goal

pub step-requires : goal.step-requires
step-requires c = ready c.args.first c.loop-t.cutter _ c.loop-t.invariant

pub loop-t-preserved : goal.loop-t-preserved
loop-t-preserved c =
    one_turn c.args.first c.loop-t.cutter c.step.new.self c.args.tokens.now c.loop-t.t-index _ _ c.loop-t-test.true c.sort_of-s.ensures c.loop-t.invariant
    c.in-Ok.ensures.limits c.in-Ok.ensures.state c.in-Ok.ensures.sent c.in-Ok.ensures.labels c.in-Ok.ensures.first

pub returns : goal.returns
returns c =
    let h = subst (So c.args.first c.loop-t.cutter) (take_all _ c.args.tokens.now c.loop-t-test.false) c.loop-t.invariant in
    record { streams = all_streams c.args.first c.loop-t.cutter c.args.tokens.now h; limits = h.within }

pub returns-in-Err-clause-limits : goal.returns-in-Err-clause-limits
returns-in-Err-clause-limits c =
    passes c.args.first c.loop-t.cutter c.args.tokens.now c.loop-t.t-index _ _ c.in-Err.fault c.loop-t-test.true c.sort_of-s.ensures c.loop-t.invariant c.in-Err.ensures.limits

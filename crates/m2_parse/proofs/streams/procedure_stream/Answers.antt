use Rattle.std.proofs.Common.{arith}
use Rattle.std.proofs.lemmas.Grind.{common_steps}
use Rattle.m2_parse.specs.ReadStreams.{procedure_stream_at}
use Rattle.m2_parse.proofs.Steps.{fails, fails_behind, handed_on}
use Rattle.m2_parse.proofs.streams.procedure_stream.Goals as goal

pub returns-in_err-heading : goal.returns-in_err-heading
unfolding procedure_stream_at
returns-in_err-heading c =
    handed_on _ _ _ c.from_residual.result c.from_residual.ensures.1 (fails _ _ _ c.in_err-heading.ensures)

pub returns-in_err-expect : goal.returns-in_err-expect
unfolding procedure_stream_at
returns-in_err-expect c =
    handed_on _ _ _ c.from_residual-in_err-expect.result c.from_residual-in_err-expect.ensures.1
    (fails_behind _ _ _ c.in_ok-heading.ensures (fails _ _ _ c.in_err-expect.ensures.gives))

pub returns-in_err-block : goal.returns-in_err-block
unfolding procedure_stream_at
returns-in_err-block c =
    handed_on _ _ _ c.from_residual-in_err-block.result c.from_residual-in_err-block.ensures.1
    (fails_behind _ _ _ c.in_ok-heading.ensures (fails_behind _ _ _ c.in_ok-expect.ensures.gives
    (fails _ _ _ c.in_err-block.ensures)))

pub returns-in_err-expect-2 : goal.returns-in_err-expect-2
unfolding procedure_stream_at
returns-in_err-expect-2 c =
    handed_on _ _ _ c.from_residual-in_err-expect-2.result c.from_residual-in_err-expect-2.ensures.1
    (fails_behind _ _ _ c.in_ok-heading.ensures (fails_behind _ _ _ c.in_ok-expect.ensures.gives
    (fails_behind _ _ _ c.in_ok-block.ensures (fails _ _ _ c.in_err-expect-2.ensures.gives))))

pub returns-in_err-expect-3 : goal.returns-in_err-expect-3
unfolding procedure_stream_at
returns-in_err-expect-3 c =
    handed_on _ _ _ c.from_residual-in_err-expect-3.result c.from_residual-in_err-expect-3.ensures.1
    (fails_behind _ _ _ c.in_ok-heading.ensures (fails_behind _ _ _ c.in_ok-expect.ensures.gives
    (fails_behind _ _ _ c.in_ok-block.ensures (fails_behind _ _ _ c.in_ok-expect-2.ensures.gives
    (fails _ _ _ c.in_err-expect-3.ensures.gives)))))

pub returns : goal.returns
unfolding procedure_stream_at
returns c = grind (arith, common_steps)

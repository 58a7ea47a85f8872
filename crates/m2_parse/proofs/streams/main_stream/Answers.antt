use Rattle.std.proofs.Common.{refl}
use Rattle.m2_parse.specs.ReadStreams.{main_at}
use Rattle.m2_parse.proofs.Steps.{fails, fails_behind, gives_behind, handed_on}
use Rattle.m2_parse.proofs.streams.main_stream.Goals as goal

pub returns-in_err-implementation : goal.returns-in_err-implementation
unfolding main_at
returns-in_err-implementation c =
    handed_on _ _ _ c.from_residual.result c.from_residual.ensures.1
    (fails _ _ _ c.in_err-implementation.ensures)

pub returns-in_err-expect : goal.returns-in_err-expect
unfolding main_at
returns-in_err-expect c =
    handed_on _ _ _ c.from_residual-in_err-expect.result c.from_residual-in_err-expect.ensures.1
    (fails_behind _ _ _ c.in_ok-implementation.ensures (fails _ _ _ c.in_err-expect.ensures.gives))

pub returns-in_err-name : goal.returns-in_err-name
unfolding main_at
returns-in_err-name c =
    handed_on _ _ _ c.from_residual-in_err-name.result c.from_residual-in_err-name.ensures.1
    (fails_behind _ _ _ c.in_ok-implementation.ensures (fails_behind _ _ _ c.in_ok-expect.ensures.gives
    (fails _ _ _ c.in_err-name.ensures)))

pub returns-in_err-expect-2 : goal.returns-in_err-expect-2
unfolding main_at
returns-in_err-expect-2 c =
    handed_on _ _ _ c.from_residual-in_err-expect-2.result c.from_residual-in_err-expect-2.ensures.1
    (fails_behind _ _ _ c.in_ok-implementation.ensures (fails_behind _ _ _ c.in_ok-expect.ensures.gives
    (fails_behind _ _ _ c.in_ok-name.ensures (fails _ _ _ c.in_err-expect-2.ensures.gives))))

pub returns-in_err-imports : goal.returns-in_err-imports
unfolding main_at
returns-in_err-imports c =
    handed_on _ _ _ c.from_residual-in_err-imports.result c.from_residual-in_err-imports.ensures.1
    (fails_behind _ _ _ c.in_ok-implementation.ensures (fails_behind _ _ _ c.in_ok-expect.ensures.gives
    (fails_behind _ _ _ c.in_ok-name.ensures (fails_behind _ _ _ c.in_ok-expect-2.ensures.gives
    (fails _ _ _ c.in_err-imports.ensures)))))

pub returns-in_err-block : goal.returns-in_err-block
unfolding main_at
returns-in_err-block c =
    handed_on _ _ _ c.from_residual-in_err-block.result c.from_residual-in_err-block.ensures.1
    (fails_behind _ _ _ c.in_ok-implementation.ensures (fails_behind _ _ _ c.in_ok-expect.ensures.gives
    (fails_behind _ _ _ c.in_ok-name.ensures (fails_behind _ _ _ c.in_ok-expect-2.ensures.gives
    (fails_behind _ _ _ c.in_ok-imports.ensures (fails _ _ _ c.in_err-block.ensures))))))

pub returns-in_err-expect-3 : goal.returns-in_err-expect-3
unfolding main_at
returns-in_err-expect-3 c =
    handed_on _ _ _ c.from_residual-in_err-expect-3.result c.from_residual-in_err-expect-3.ensures.1
    (fails_behind _ _ _ c.in_ok-implementation.ensures (fails_behind _ _ _ c.in_ok-expect.ensures.gives
    (fails_behind _ _ _ c.in_ok-name.ensures (fails_behind _ _ _ c.in_ok-expect-2.ensures.gives
    (fails_behind _ _ _ c.in_ok-imports.ensures (fails_behind _ _ _ c.in_ok-block.ensures
    (fails _ _ _ c.in_err-expect-3.ensures.gives)))))))

pub returns-in_err-expect-4 : goal.returns-in_err-expect-4
unfolding main_at
returns-in_err-expect-4 c =
    handed_on _ _ _ c.from_residual-in_err-expect-4.result c.from_residual-in_err-expect-4.ensures.1
    (fails_behind _ _ _ c.in_ok-implementation.ensures (fails_behind _ _ _ c.in_ok-expect.ensures.gives
    (fails_behind _ _ _ c.in_ok-name.ensures (fails_behind _ _ _ c.in_ok-expect-2.ensures.gives
    (fails_behind _ _ _ c.in_ok-imports.ensures (fails_behind _ _ _ c.in_ok-block.ensures
    (fails_behind _ _ _ c.in_ok-expect-3.ensures.gives (fails _ _ _ c.in_err-expect-4.ensures.gives))))))))

pub returns : goal.returns
unfolding main_at
returns c =
    gives_behind _ _ c.in_ok-implementation.ensures (gives_behind _ _ c.in_ok-expect.ensures.gives
    (gives_behind _ _ c.in_ok-name.ensures (gives_behind _ _ c.in_ok-expect-2.ensures.gives
    (gives_behind _ _ c.in_ok-imports.ensures (gives_behind _ _ c.in_ok-block.ensures
    (gives_behind _ _ c.in_ok-expect-3.ensures.gives (gives_behind _ _ c.in_ok-expect-4.ensures.gives refl)))))))

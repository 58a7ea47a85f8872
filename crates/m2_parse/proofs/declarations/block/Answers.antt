use Rattle.std.proofs.Common.{refl}
use Rattle.m2_parse.specs.ReadStreams.{block_at}
use Rattle.m2_parse.proofs.Steps.{fails, fails_behind, gives_behind, handed_on}
use Rattle.m2_parse.proofs.declarations.block.Goals as goal

pub returns-in_err-decls : goal.returns-in_err-decls
unfolding block_at
returns-in_err-decls c =
    handed_on _ _ _ c.from_residual.result c.from_residual.ensures.1 (fails _ _ _ c.in_err-decls.ensures)

pub returns-in_err-body : goal.returns-in_err-body
unfolding block_at
returns-in_err-body c =
    handed_on _ _ _ c.from_residual-in_err-body.result c.from_residual-in_err-body.ensures.1
    (fails_behind _ _ _ c.in_ok-decls.ensures (fails _ _ _ c.in_err-body.ensures))

pub returns-in_err-expect : goal.returns-in_err-expect
unfolding block_at
returns-in_err-expect c =
    handed_on _ _ _ c.from_residual-in_err-expect.result c.from_residual-in_err-expect.ensures.1
    (fails_behind _ _ _ c.in_ok-decls.ensures (fails_behind _ _ _ c.in_ok-body.ensures
    (fails _ _ _ c.in_err-expect.ensures.gives)))

pub returns-in_err-close : goal.returns-in_err-close
unfolding block_at
returns-in_err-close c =
    handed_on _ _ _ c.from_residual-in_err-close.result c.from_residual-in_err-close.ensures.1
    (fails_behind _ _ _ c.in_ok-decls.ensures (fails_behind _ _ _ c.in_ok-body.ensures
    (fails_behind _ _ _ c.in_ok-expect.ensures.gives (fails _ _ _ c.in_err-close.ensures))))

pub returns : goal.returns
unfolding block_at
returns c =
    gives_behind _ _ c.in_ok-decls.ensures (gives_behind _ _ c.in_ok-body.ensures
    (gives_behind _ _ c.in_ok-expect.ensures.gives (gives_behind _ _ c.in_ok-close.ensures refl)))

use Rattle.std.proofs.Common.{refl}
use Rattle.m2_parse.specs.ReadStreams.{variables_at}
use Rattle.m2_parse.proofs.Steps.{fails, fails_behind, gives_behind, handed_on, until_fails, until_gives}
use Rattle.m2_parse.proofs.declarations.variables.Goals as goal

pub returns-in_err-names : goal.returns-in_err-names
unfolding variables_at
returns-in_err-names c =
    handed_on _ _ _ c.from_residual.result c.from_residual.ensures.1 (fails _ _ _ c.in_err-names.ensures)

pub returns-in_err-expect : goal.returns-in_err-expect
unfolding variables_at
returns-in_err-expect c =
    handed_on _ _ _ c.from_residual-in_err-expect.result c.from_residual-in_err-expect.ensures.1
    (fails_behind _ _ _ c.in_ok-names.ensures (fails _ _ _ c.in_err-expect.ensures.gives))

pub returns-in_err-typ : goal.returns-in_err-typ
unfolding variables_at
returns-in_err-typ c =
    handed_on _ _ _ c.from_residual-in_err-typ.result c.from_residual-in_err-typ.ensures.1
    (fails_behind _ _ _ c.in_ok-names.ensures (fails_behind _ _ _ c.in_ok-expect.ensures.gives
    (until_fails _ _ _ _ c.in_err-typ.ensures)))

pub returns : goal.returns
unfolding variables_at
returns c =
    gives_behind _ _ c.in_ok-names.ensures (gives_behind _ _ c.in_ok-expect.ensures.gives
    (until_gives _ _ _ c.in_ok-typ.ensures λ mid u. refl))

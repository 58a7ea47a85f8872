use Rattle.std.proofs.Common.{refl}
use Rattle.m2_parse.specs.ReadStatements.{limit_at}
use Rattle.m2_parse.proofs.Steps.{fails, fails_behind, gives_behind, handed_on}
use Rattle.m2_parse.proofs.statements.limit.Goals as goal

pub returns-in_err-expect : goal.returns-in_err-expect
unfolding limit_at
returns-in_err-expect c =
    handed_on _ _ _ c.from_residual.result c.from_residual.ensures.1 (fails _ _ _ c.in_err-expect.ensures.gives)

pub returns-in_err-last : goal.returns-in_err-last
unfolding limit_at
returns-in_err-last c =
    handed_on _ _ _ c.from_residual-in_err-last.result c.from_residual-in_err-last.ensures.1
    (fails_behind _ _ _ c.in_ok-expect.ensures.gives (fails _ _ _ c.in_err-last.ensures))

pub returns-in_err-by : goal.returns-in_err-by
unfolding limit_at
returns-in_err-by c =
    handed_on _ _ _ c.from_residual-in_err-by.result c.from_residual-in_err-by.ensures.1
    (fails_behind _ _ _ c.in_ok-expect.ensures.gives (fails_behind _ _ _ c.in_ok-last.ensures
    (fails _ _ _ c.in_err-by.ensures)))

pub returns : goal.returns
unfolding limit_at
returns c =
    gives_behind _ _ c.in_ok-expect.ensures.gives (gives_behind _ _ c.in_ok-last.ensures
    (gives_behind _ _ c.in_ok-by.ensures refl))

use Rattle.std.proofs.Common.{refl}
use Rattle.m2_parse.specs.Reading.{until}
use Rattle.m2_parse.proofs.Steps.{fails, fails_behind, gives_behind, handed_on}
use Rattle.m2_parse.proofs.expressions.expr_until.Goals as goal

pub returns-in_err-found : goal.returns-in_err-found
unfolding until
returns-in_err-found c = handed_on _ _ _ c.from_residual.result c.from_residual.ensures.1 (fails _ _ _ c.in_err-found.ensures)

pub returns-in_err-expect : goal.returns-in_err-expect
unfolding until
returns-in_err-expect c =
    handed_on _ _ _ c.from_residual-in_err-expect.result c.from_residual-in_err-expect.ensures.1
    (fails_behind _ _ _ c.in_ok-found.ensures (fails _ _ _ c.in_err-expect.ensures.gives))

pub returns : goal.returns
unfolding until
returns c = gives_behind _ _ c.in_ok-found.ensures (gives_behind _ _ c.in_ok-expect.ensures.gives refl)

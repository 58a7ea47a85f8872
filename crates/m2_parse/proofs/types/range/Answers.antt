use Rattle.std.proofs.Common.{refl}
use Rattle.m2_parse.specs.ReadTypes.{range_with}
use Rattle.m2_parse.proofs.Steps.{fails, fails_behind, gives_behind, handed_on, until_behind, until_fails, until_gives}
use Rattle.m2_parse.proofs.types.range.Goals as goal

pub returns-in_err-open : goal.returns-in_err-open
unfolding range_with
returns-in_err-open c =
    handed_on _ _ _ c.from_residual.result c.from_residual.ensures.1 (fails _ _ _ c.in_err-open.ensures.gives)

pub returns-in_err-low : goal.returns-in_err-low
unfolding range_with
returns-in_err-low c =
    handed_on _ _ _ c.from_residual-in_err-low.result c.from_residual-in_err-low.ensures.1
    (fails_behind _ _ _ c.in_ok-open.ensures.gives (until_fails _ _ _ _ c.in_err-low.ensures))

pub returns-in_err-high : goal.returns-in_err-high
unfolding range_with
returns-in_err-high c =
    handed_on _ _ _ c.from_residual-in_err-high.result c.from_residual-in_err-high.ensures.1
    (fails_behind _ _ _ c.in_ok-open.ensures.gives
    (until_behind _ _ _ _ c.in_ok-low.ensures λ mid u. until_fails _ _ _ _ c.in_err-high.ensures))

pub returns : goal.returns
unfolding range_with
returns c =
    gives_behind _ _ c.in_ok-open.ensures.gives
    (until_gives _ _ _ c.in_ok-low.ensures λ mid u. until_gives _ _ _ c.in_ok-high.ensures λ mid u. refl)

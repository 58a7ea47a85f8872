use Rattle.std.proofs.Common.{arith}
use Rattle.std.proofs.lemmas.Grind.{common_steps}
use Rattle.m2_base.proofs.Seen.{set_of_seen, type_seen}
use Rattle.m2_parse.specs.ReadTypes.{set_of_with}
use Rattle.m2_parse.proofs.Steps.{fails, fails_behind, handed_on}
use Rattle.m2_parse.proofs.types.set_type.Goals as goal

pub returns-in_err-set : goal.returns-in_err-set
unfolding set_of_with
returns-in_err-set c =
    handed_on _ _ _ c.from_residual.result c.from_residual.ensures.1 (fails _ _ _ c.in_err-set.ensures.gives)

pub returns-in_err-expect : goal.returns-in_err-expect
unfolding set_of_with
returns-in_err-expect c =
    handed_on _ _ _ c.from_residual-in_err-expect.result c.from_residual-in_err-expect.ensures.1
    (fails_behind _ _ _ c.in_ok-set.ensures.gives (fails _ _ _ c.in_err-expect.ensures.gives))

pub returns-in_err-of : goal.returns-in_err-of
unfolding set_of_with
returns-in_err-of c =
    handed_on _ _ _ c.from_residual-in_err-of.result c.from_residual-in_err-of.ensures.1
    (fails_behind _ _ _ c.in_ok-set.ensures.gives (fails_behind _ _ _ c.in_ok-expect.ensures.gives
    (fails _ _ _ c.in_err-of.ensures)))

pub returns-in_err-new : goal.returns-in_err-new
unfolding set_of_with
returns-in_err-new c = grind (arith, common_steps)

pub returns : goal.returns
unfolding set_of_with
returns c = grind (arith, common_steps, type_seen, set_of_seen)

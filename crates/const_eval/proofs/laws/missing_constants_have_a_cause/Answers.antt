use Rattle.const_eval.proofs.ConstantCauses.{constant-caused}
use Rattle.const_eval.proofs.RefusedConstants.{constant-sound}
use Rattle.const_eval.proofs.laws.missing_constants_have_a_cause.Goals as goal

pub returns-clause-caused : goal.returns-clause-caused
returns-clause-caused c context e there = constant-caused context there e

pub returns-clause-unspoilt : goal.returns-clause-unspoilt
returns-clause-unspoilt c = constant-sound

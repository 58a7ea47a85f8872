use Rattle.block_laws.proofs.CodeIsValid.{code-valid}
use Rattle.block_laws.proofs.laws.code_is_valid.Goals as goal

pub returns : goal.returns
returns c = code-valid

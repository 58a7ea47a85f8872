use Rattle.stack_machine.proofs.Loaded.{code_is_valid}
use Rattle.stack_machine.proofs.laws.loaded_code_is_valid.Goals as goal

pub returns : goal.returns
returns c = code_is_valid

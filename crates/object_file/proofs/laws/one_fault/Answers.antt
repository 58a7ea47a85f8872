use Rattle.object_file.proofs.OneTelling.{one_place, one_code}
use Rattle.object_file.proofs.laws.one_fault.Goals as goal

pub returns-clause-place : goal.returns-clause-place
returns-clause-place c = one_place

pub returns-clause-code : goal.returns-clause-code
returns-clause-code c = one_code

use Rattle.object_file.proofs.OneTelling.{one_object as one_object_lem, fine}
use Rattle.object_file.proofs.laws.one_object.Goals as goal

pub returns-clause-object : goal.returns-clause-object
returns-clause-object c = one_object_lem

pub returns-clause-fine : goal.returns-clause-fine
returns-clause-fine c = fine

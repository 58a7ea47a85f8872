use Rattle.def_import.proofs.OneOutcome.{one_from_files, one_of_text}
use Rattle.def_import.proofs.laws.given_files_have_one_outcome.Goals as goal

pub returns-clause-from_files : goal.returns-clause-from_files
returns-clause-from_files c = one_from_files

pub returns-clause-of_text : goal.returns-clause-of_text
returns-clause-of_text c = one_of_text

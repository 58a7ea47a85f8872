use Rattle.object_commands.proofs.OneOutcome.{one_dump, one_dump_answer, one_run}
use Rattle.object_commands.proofs.laws.one_outcome.Goals as goal

pub returns-clause-dump_prints : goal.returns-clause-dump_prints
returns-clause-dump_prints c = one_dump

pub returns-clause-dump_answers : goal.returns-clause-dump_answers
returns-clause-dump_answers c = one_dump_answer

pub returns-clause-run : goal.returns-clause-run
returns-clause-run c = λ files name input steps cells these those. one_run files name steps cells input these those

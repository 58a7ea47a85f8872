use Rattle.m2_base.proofs.FinishedLaws.{one_reading, one_table as one_table_lem, rows_read}
use Rattle.m2_base.proofs.static_laws.one_table.Goals as goal

pub returns-clause-trees : goal.returns-clause-trees
returns-clause-trees c = one_reading

pub returns-clause-rows : goal.returns-clause-rows
returns-clause-rows c = one_table_lem

pub returns-clause-read : goal.returns-clause-read
returns-clause-read c = rows_read

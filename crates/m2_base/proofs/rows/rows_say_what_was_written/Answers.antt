use Rattle.m2_base.proofs.RowLaws.{row_meaning-row_of}
use Rattle.m2_base.proofs.rows.rows_say_what_was_written.Goals as goal

pub returns : goal.returns
returns c = row_meaning-row_of

use Rattle.stream_split.proofs.BroughtRows.{laid_few, scopes_most, stream_most}
use Rattle.stream_split.proofs.MadeRows.{block_brings, finished_rows}
use Rattle.stream_split.proofs.RowCounts.{rows_are_shapes, stream_rows}
use Rattle.stream_split.proofs.ReadUnits.{finished_few, rows_fit, scopes_counted}
use Rattle.stream_split.proofs.laws.rows_have_room.Goals as goal

pub returns : goal.returns
returns c =
    record {
      stream = stream_rows;
      room = stream_most;
      shapes = rows_are_shapes;
      laid = laid_few;
      scopes = scopes_most;
      brought = block_brings;
      made = finished_rows;
      finished = rows_fit;
      count = scopes_counted;
      few = finished_few;
    }

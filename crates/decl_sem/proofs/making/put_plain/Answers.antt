use Rattle.decl_sem.proofs.OneRows.{row_piece}
use Rattle.decl_sem.proofs.making.put_plain.Goals as goal

pub returns-clause-piece : goal.returns-clause-piece
returns-clause-piece c a making new =
    row_piece c.args.at c.args.meaning c.make_row.result c.make_row.ensures.made c.make_row.ensures.rows c.make_row.ensures.place c.make_row.ensures.notes c.make_row.ensures.first a making new

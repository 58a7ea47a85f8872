use Rattle.decl_sem.proofs.OneRows.{named_piece}
use Rattle.decl_sem.proofs.making.put_named.Goals as goal

pub returns-clause-piece : goal.returns-clause-piece
returns-clause-piece c a making some known new =
    named_piece c.args.ident c.args.meaning c.make_named.result c.make_named.ensures.made c.make_named.ensures.rows c.make_named.ensures.place c.make_named.ensures.answers c.make_named.ensures.diags c.make_named.ensures.first a making some known new

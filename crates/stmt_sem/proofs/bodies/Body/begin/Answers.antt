use Rattle.m2_base.specs.Views.{stream_view}
use Rattle.stmt_sem.proofs.BodyStatements.{built_first}
use Rattle.stmt_sem.proofs.bodies.Body.begin.Goals as goal

pub returns-clause-begun : goal.returns-clause-begun
returns-clause-begun c k e cell copied =
    built_first k (stream_view c.args.stream.now) e c.in_ok-piece.piece c.new-notes.result c.args.cells c.args.copies.now c.in_ok-piece.ensures c.new-notes.ensures.diags c.new-notes.ensures.answers cell copied

use Rattle.expr_sem.proofs.Sequencing.{behind}
use Rattle.stmt_sem.proofs.assignments.stored.Goals as goal

pub returns : goal.returns
returns c = behind c.then.result c.args.to c.requires.to c.in_ok-rest.ensures c.then.ensures.made

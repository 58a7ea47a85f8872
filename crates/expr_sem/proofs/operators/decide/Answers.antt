use Rattle.expr_sem.proofs.Sequencing.{behind}
use Rattle.expr_sem.proofs.operators.decide.Goals as goal

pub returns : goal.returns
returns c = behind c.then.result c.args.x c.requires.x c.in_ok-skipped.ensures.made c.then.ensures.made

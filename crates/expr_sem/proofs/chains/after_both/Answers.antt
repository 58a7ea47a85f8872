use Rattle.expr_sem.proofs.Sequencing.{behind}
use Rattle.expr_sem.proofs.chains.after_both.Goals as goal

pub returns : goal.returns
returns c = behind c.then-2.result c.args.x c.requires.x c.in_ok-rest.ensures.made c.then-2.ensures.made

use Rattle.expr_sem.proofs.Sequencing.{behind}
use Rattle.expr_sem.proofs.chains.instr_behind.Goals as goal

pub returns : goal.returns
returns c = behind c.then.result c.args.first c.requires c.in_ok-last.ensures.made c.then.ensures.made

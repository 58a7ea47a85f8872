use Rattle.decl_sem.proofs.LaidOnce.{laid_once}
use Rattle.decl_sem.proofs.laws.laid_rows_differ.Goals as goal

pub returns : goal.returns
returns c names shapes rows laid = laid_once laid

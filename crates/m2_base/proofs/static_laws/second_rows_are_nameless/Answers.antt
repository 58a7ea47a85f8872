use Rattle.m2_base.proofs.NewLaws.{item_new}
use Rattle.m2_base.proofs.NoRepeats.{block_once}
use Rattle.m2_base.proofs.static_laws.second_rows_are_nameless.Goals as goal

pub returns-clause-items : goal.returns-clause-items
returns-clause-items c = λ d kind x cell. item_new x d kind cell

pub returns-clause-blocks : goal.returns-clause-blocks
returns-clause-blocks c = block_once

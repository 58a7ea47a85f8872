use Rattle.ll_grammar.proofs.Decided.{has_one_fault}
use Rattle.ll_grammar.proofs.fault_is_unique.Goals as goal

pub returns : goal.returns
returns g c = λ grammar r. has_one_fault grammar r

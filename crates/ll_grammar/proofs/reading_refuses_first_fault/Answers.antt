use Rattle.ll_grammar.proofs.Decided.{refuses_first_fault}
use Rattle.ll_grammar.proofs.reading_refuses_first_fault.Goals as goal

pub returns : goal.returns
returns g c = λ grammar r ok root. refuses_first_fault grammar r ok root

use Rattle.ll_grammar.proofs.Decided.{is_total}
use Rattle.ll_grammar.proofs.reading_is_total.Goals as goal

pub returns : goal.returns
returns g c = λ grammar r ok root. is_total grammar r ok root

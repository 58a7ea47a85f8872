use Rattle.ll_grammar.proofs.Decided.{is_decided}
use Rattle.ll_grammar.proofs.text_is_decided.Goals as goal

pub returns : goal.returns
returns g c = λ grammar r ok root. is_decided grammar r ok root

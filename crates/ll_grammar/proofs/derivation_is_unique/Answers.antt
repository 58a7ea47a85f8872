use Rattle.ll_grammar.proofs.Decided.{is_unambiguous}
use Rattle.ll_grammar.proofs.derivation_is_unique.Goals as goal

pub returns : goal.returns
returns g c = λ grammar r ok root. is_unambiguous grammar r ok root

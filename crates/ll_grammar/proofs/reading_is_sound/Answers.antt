use Rattle.ll_grammar.proofs.Decided.{sound}
use Rattle.ll_grammar.proofs.reading_is_sound.Goals as goal

pub returns : goal.returns
returns g c = λ grammar r. sound grammar r

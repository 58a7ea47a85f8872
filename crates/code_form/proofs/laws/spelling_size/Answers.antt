use Rattle.code_form.proofs.Spellings.{length-spelling}
use Rattle.code_form.proofs.laws.spelling_size.Goals as goal

pub returns : goal.returns
returns c = length-spelling

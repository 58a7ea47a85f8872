use Rattle.object_text.proofs.Lines.{lines_of, text_of}
use Rattle.object_text.proofs.laws.some_text.Goals as goal

pub returns : goal.returns
returns c = λ o v. let lines = lines_of o v in text_of o lines.0 lines.1

use Rattle.object_text.proofs.Lines.{same_text}
use Rattle.object_text.proofs.laws.one_text.Goals as goal

pub returns : goal.returns
returns c = same_text

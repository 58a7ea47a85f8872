use Rattle.module_outcome.proofs.HaveLines.{all_lined}
use Rattle.module_outcome.proofs.laws.diagnostics_have_lines.Goals as goal

pub returns : goal.returns
returns c = all_lined c.diagnostics_stand_in_their_texts.ensures

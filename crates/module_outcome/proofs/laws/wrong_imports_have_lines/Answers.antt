use Rattle.std.proofs.Common.{Some}
use Rattle.module_outcome.proofs.HaveLines.{wrong_imports_lined}
use Rattle.module_outcome.proofs.laws.wrong_imports_have_lines.Goals as goal

pub returns : goal.returns
returns c = λ files. wrong_imports_lined (Some files)

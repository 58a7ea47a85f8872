use Rattle.unit_laws.proofs.ImportedBlocks.{imports_before}
use Rattle.unit_laws.proofs.laws.imports_come_before.Goals as goal

pub returns : goal.returns
returns c = λ texts u front unit read fronts whole. imports_before texts unit front fronts whole u read

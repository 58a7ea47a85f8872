use Rattle.block_laws.proofs.CodeIsValid.{code-valid}
use Rattle.unit_laws.proofs.ShortBlocks.{blocks_short}
use Rattle.unit_laws.proofs.SoundUnits.{unit_sound}
use Rattle.unit_laws.proofs.SpelledTrees.{items_read, statements_read}
use Rattle.unit_laws.proofs.laws.unit_code_is_valid.Goals as goal

pub returns : goal.returns
returns c = λ texts u unit read imports none.
    code-valid texts.names texts u (unit_sound texts u unit read imports) read (statements_read texts u unit read) (items_read texts u unit read) (blocks_short texts u unit read) none

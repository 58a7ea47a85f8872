use Rattle.scope_table.proofs.Steps.{loads_row}
use Rattle.scope_table.proofs.table.ScopeTable.load_word.Goals as goal

pub load-requires : goal.load-requires
load-requires c = (c.requires.table.0, c.requires.word, loads_row _ _ _ _ _)

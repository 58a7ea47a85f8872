use Rattle.scope_table.specs.Looks.{look_of}
use Rattle.scope_table.proofs.table.ScopeTable.note_look.Given as goal

abbrev pub ghosts-note_as : goal.ghosts-note_as
ghosts-note_as a = record { look = look_of a._at a._flight.now }

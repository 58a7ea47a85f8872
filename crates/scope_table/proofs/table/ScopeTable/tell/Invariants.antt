use Rattle.scope_table.proofs.table.ScopeTable.tell.Given as goal

abbrev pub ghosts-tell_as : goal.ghosts-tell_as
ghosts-tell_as a = record { about = a.self.now.table.shared.key }

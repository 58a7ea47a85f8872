use Rattle.scope_table.proofs.table.ScopeTable.apart.Given as goal

abbrev pub ghosts-join_as : goal.ghosts-join_as
ghosts-join_as a = record { about = a.self.now.table.shared.key }

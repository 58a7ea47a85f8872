use Rattle.decl_sem.specs.ImportedModules.{is_text_named}
use Rattle.decl_sem.proofs.ImportedScopes.{NoneYet}
use Rattle.decl_sem.proofs.imports.scope_in.Given as goal

abbrev pub invariant-loop-place : goal.invariant-loop-place
invariant-loop-place l = NoneYet (is_text_named l.texts l.name) l.order l.place

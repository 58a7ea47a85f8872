use Rattle.std.proofs.Common.{arith}
use Rattle.decl_sem.specs.Brought.{all_names}
use Rattle.decl_sem.proofs.BroughtRows.{bringing_failed}
use Rattle.decl_sem.proofs.ImportedNames.{module_as, module_meaning}
use Rattle.decl_sem.proofs.imports.module_rows.Goals as goal

pub module_scope-scope-requires-clause-small : goal.module_scope-scope-requires-clause-small
module_scope-scope-requires-clause-small g c = let few = c.requires.making.small in let before = c.requires.before in omega arith

pub name_row-requires-clause-meaning : goal.name_row-requires-clause-meaning
name_row-requires-clause-meaning g c = module_meaning c.args.site.now _ c.module_scope-scope.result _ c.module_scope-scope.ensures c.requires.before

pub returns-in-Err : goal.returns-in-Err
returns-in-Err g c = bringing_failed all_names c.in-Err.ensures c.in-Err.memory

pub returns : goal.returns
returns g c = module_as c.args.name c.in-Ok.value c.new.result.items c.new.ensures.items (rw c.module_scope-scope.ensures at c.in-Ok.ensures)

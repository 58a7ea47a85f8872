use Rattle.std.proofs.Common.{arith}
use Rattle.decl_sem.proofs.VariableLists.{all_variables, no_ident, one_variable, this_making, this_meaning, variables_failed}
use Rattle.decl_sem.proofs.variables.put_variables.Goals as goal

pub name_row-requires-clause-making : goal.name_row-requires-clause-making
name_row-requires-clause-making g c = this_making c.loop-name.name-index _ c.loop-name-test.true c.loop-name.invariant

pub name_row-requires-clause-meaning : goal.name_row-requires-clause-meaning
name_row-requires-clause-meaning g c = this_meaning c.loop-name.name-index no_ident c.loop-name-test.true c.loop-name.invariant c.requires.of

pub returns-in-Err : goal.returns-in-Err
returns-in-Err g c = variables_failed c.loop-name.name-index _ c.loop-name-test.true c.loop-name.invariant {after = c.name_row.new.made} c.in-Err.memory c.in-Err.ensures

pub loop-name-preserved : goal.loop-name-preserved
loop-name-preserved g c = one_variable c.loop-name.name-index _ c.loop-name-test.true c.loop-name.invariant {after = c.name_row.new.made} {p = c.in-Ok.field-0} c.capped-next.result c.capped-next.ensures c.in-Ok.ensures

pub returns : goal.returns
returns g c = all_variables c.loop-name.name-index (let h = c.loop-name-test.false in let e = c.loop-name.auto.name-index-end in omega arith) c.loop-name.invariant

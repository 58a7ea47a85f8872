use Rattle.std.proofs.Common.{arith}
use Rattle.decl_sem.proofs.ParameterLists.{all_parameters, one_parameter, parameter_making, parameter_meaning, parameters_failed}
use Rattle.decl_sem.proofs.VariableLists.{no_ident}
use Rattle.decl_sem.proofs.section_rows.put_parameters.Goals as goal

pub plain_row-requires-clause-making : goal.plain_row-requires-clause-making
plain_row-requires-clause-making g c = parameter_making c.loop-name.name-index _ c.loop-name-test.true c.loop-name.invariant

pub plain_row-requires-clause-meaning : goal.plain_row-requires-clause-meaning
plain_row-requires-clause-meaning g c = parameter_meaning c.loop-name.name-index no_ident c.loop-name-test.true c.loop-name.invariant (omega arith) c.requires.of

pub returns-in-Err : goal.returns-in-Err
returns-in-Err g c = parameters_failed c.loop-name.name-index _ c.loop-name-test.true c.loop-name.invariant {after = c.plain_row.new.made} c.in-Err.memory c.in-Err.ensures

pub loop-name-preserved : goal.loop-name-preserved
loop-name-preserved g c = one_parameter c.loop-name.name-index _ c.loop-name-test.true c.loop-name.invariant {after = c.plain_row.new.made} {p = c.in-Ok.field-0} c.in-Ok.ensures

pub returns : goal.returns
returns g c = all_parameters c.loop-name.name-index (let h = c.loop-name-test.false in let e = c.loop-name.auto.name-index-end in omega arith) c.loop-name.invariant

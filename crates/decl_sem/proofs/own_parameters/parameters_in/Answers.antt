use Rattle.std.proofs.Common.{arith}
use Rattle.decl_sem.proofs.Asking.{first_made}
use Rattle.decl_sem.proofs.OwnParameterLists.{all_parameters, no_parameters, one_parameter, parameter_making, parameters_failed, parameters_waiting}
use Rattle.decl_sem.proofs.VariableLists.{read_at}
use Rattle.decl_sem.proofs.own_parameters.parameters_in.Goals as goal

pub loop-name-init : goal.loop-name-init
loop-name-init g c = no_parameters c.args.section.now c.args.elem c.args.of c.args.from c.requires.making c.requires.elem c.requires.of c.requires.cells

pub parameter_in-requires-clause-making : goal.parameter_in-requires-clause-making
parameter_in-requires-clause-making g c = parameter_making c.loop-name.name-index _ c.loop-name-test.true c.loop-name.invariant

pub parameter_in-requires-clause-elem : goal.parameter_in-requires-clause-elem
parameter_in-requires-clause-elem g c = c.loop-name.invariant.elem_behind

pub parameter_in-requires-clause-of : goal.parameter_in-requires-clause-of
parameter_in-requires-clause-of g c = c.loop-name.invariant.of_behind

pub parameter_in-requires-clause-cells : goal.parameter_in-requires-clause-cells
parameter_in-requires-clause-cells g c = c.loop-name.invariant.cells

pub parameter_in-requires-clause-read : goal.parameter_in-requires-clause-read
parameter_in-requires-clause-read g c = read_at c.args.site.now.texts.now.names c.args.names.now c.loop-name.name-index _ c.loop-name-test.true c.requires.read

pub returns-in-Err : goal.returns-in-Err
returns-in-Err g c = parameters_failed c.loop-name.name-index _ c.loop-name-test.true c.loop-name.invariant c.in-Err.memory c.in-Err.ensures

pub returns-in-DontKnowYet : goal.returns-in-DontKnowYet
returns-in-DontKnowYet g c = parameters_waiting c.loop-name.name-index _ c.loop-name-test.true c.loop-name.invariant (rw c.in-DontKnowYet.is at c.in-Ok.ensures)

pub loop-name-preserved : goal.loop-name-preserved
loop-name-preserved g c = one_parameter c.loop-name.name-index _ c.loop-name-test.true c.loop-name.invariant (first_made c.in-Ok.is c.in-Known.is c.parameter_in.ensures)

pub returns : goal.returns
returns g c = all_parameters c.loop-name.name-index (let h = c.loop-name-test.false in let e = c.loop-name.auto.name-index-end in omega arith) c.loop-name.invariant

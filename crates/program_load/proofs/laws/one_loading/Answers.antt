use Rattle.program_load.proofs.OneLoading.{found_no_stop, one_found, one_loading_lem, one_stop}
use Rattle.program_load.specs.Closure.{start}
use Rattle.program_load.proofs.laws.one_loading.Goals as goal

pub returns-clause-program : goal.returns-clause-program
returns-clause-program c = one_loading_lem

pub returns-clause-object : goal.returns-clause-object
returns-clause-object c = one_found

pub returns-clause-failure : goal.returns-clause-failure
returns-clause-failure c = λ files name. one_stop files (start name) name

pub returns-clause-either : goal.returns-clause-either
returns-clause-either c = found_no_stop

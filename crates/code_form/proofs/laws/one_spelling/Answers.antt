use Rattle.code_form.proofs.Spellings.{one_instr, one_rest}
use Rattle.code_form.proofs.laws.one_spelling.Goals as goal

pub returns-clause-instr : goal.returns-clause-instr
returns-clause-instr c = one_instr

pub returns-clause-rest : goal.returns-clause-rest
returns-clause-rest c = one_rest

use Rattle.ll_grammar.proofs.OneAnswer.{has_answer, has_one_answer}
use Rattle.ll_grammar.proofs.answer_is_unique.Goals as goal

pub returns-clause-exists : goal.returns-clause-exists
returns-clause-exists g c = λ grammar r value tell ok root. has_answer grammar r value tell ok root

pub returns-clause-one : goal.returns-clause-one
returns-clause-one g c = λ grammar r value tell ok root. has_one_answer grammar r value tell ok root

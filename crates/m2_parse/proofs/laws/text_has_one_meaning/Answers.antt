use Rattle.ll_grammar.specs.Grammar.{sub}
use Rattle.ll_grammar.proofs.OneAnswer.{has_answer, has_one_answer}
use Rattle.m2_base.specs.FaultsOf.{fault_in}
use Rattle.m2_base.specs.Grammar.{grammar, main}
use Rattle.m2_base.specs.WholeTexts.{main_blocks}
use Rattle.m2_base.proofs.GrammarChecks.{is_ll1, main_is_root}
use Rattle.m2_parse.proofs.laws.text_has_one_meaning.Goals as goal

pub returns-clause-exists : goal.returns-clause-exists
returns-clause-exists c = λ m text. has_answer grammar (main sub) (main_blocks m) (fault_in text) is_ll1 main_is_root

pub returns-clause-one : goal.returns-clause-one
returns-clause-one c = λ m text. has_one_answer grammar (main sub) (main_blocks m) (fault_in text) is_ll1 main_is_root

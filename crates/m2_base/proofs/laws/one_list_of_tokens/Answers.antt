use Rattle.m2_base.proofs.OneList.{one_list_of_names as one_list_of_names_lem, one_list_of_tokens as one_list_of_tokens_lem}
use Rattle.m2_base.proofs.laws.one_list_of_tokens.Goals as goal

pub returns-clause-tokens : goal.returns-clause-tokens
returns-clause-tokens c = one_list_of_tokens_lem

pub returns-clause-names : goal.returns-clause-names
returns-clause-names c = one_list_of_names_lem

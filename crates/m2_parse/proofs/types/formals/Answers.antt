use Rattle.std.proofs.Common.{arith}
use Rattle.std.proofs.lemmas.Grind.{common_steps}
use Rattle.m2_base.proofs.Seen.{proc_type_seen}
use Rattle.m2_parse.specs.ReadTypes.{formal_list_at, formals_at}
use Rattle.m2_parse.proofs.types.formals.Goals as goal

pub returns-in_default : goal.returns-in_default
unfolding formals_at formal_list_at
returns-in_default c = grind (arith, common_steps, proc_type_seen)

pub returns-in_err-expect : goal.returns-in_err-expect
unfolding formals_at formal_list_at
returns-in_err-expect c = grind (arith, common_steps)

pub returns-in_err-result : goal.returns-in_err-result
unfolding formals_at formal_list_at
returns-in_err-result c = grind (arith, common_steps)

pub returns-then-not-begins_formal : goal.returns-then-not-begins_formal
unfolding formals_at formal_list_at
returns-then-not-begins_formal c = grind (arith, common_steps, proc_type_seen)

pub returns-in_err-formals : goal.returns-in_err-formals
unfolding formals_at formal_list_at
returns-in_err-formals c = grind (arith, common_steps)

pub returns-in_err-expect-2 : goal.returns-in_err-expect-2
unfolding formals_at formal_list_at
returns-in_err-expect-2 c = grind (arith, common_steps)

pub returns-in_err-result-2 : goal.returns-in_err-result-2
unfolding formals_at formal_list_at
returns-in_err-result-2 c = grind (arith, common_steps)

pub returns : goal.returns
unfolding formals_at formal_list_at
returns c = grind (arith, common_steps, proc_type_seen)

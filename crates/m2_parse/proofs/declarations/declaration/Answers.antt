use Rattle.std.proofs.Common.{arith}
use Rattle.std.proofs.lemmas.Grind.{common_steps}
use Rattle.m2_parse.specs.ReadStreams.{declaration_at}
use Rattle.m2_parse.proofs.declarations.declaration.Goals as goal

pub returns-in_err-items : goal.returns-in_err-items
unfolding declaration_at
returns-in_err-items c = grind (arith, common_steps)

pub returns-in-Some : goal.returns-in-Some
unfolding declaration_at
returns-in-Some c = grind (arith, common_steps)

pub returns-in_err-items-2 : goal.returns-in_err-items-2
unfolding declaration_at
returns-in_err-items-2 c = grind (arith, common_steps)

pub returns-in-Some-next_if : goal.returns-in-Some-next_if
unfolding declaration_at
returns-in-Some-next_if c = grind (arith, common_steps)

pub returns-in_err-items-3 : goal.returns-in_err-items-3
unfolding declaration_at
returns-in_err-items-3 c = grind (arith, common_steps)

pub returns-in-Some-next_if-2 : goal.returns-in-Some-next_if-2
unfolding declaration_at
returns-in-Some-next_if-2 c = grind (arith, common_steps)

pub returns-in_err-item : goal.returns-in_err-item
unfolding declaration_at
returns-in_err-item c = grind (arith, common_steps)

pub returns-in_err-list_of : goal.returns-in_err-list_of
unfolding declaration_at
returns-in_err-list_of c = grind (arith, common_steps)

pub returns : goal.returns
unfolding declaration_at
returns c = grind (arith, common_steps)

use Rattle.std.proofs.Common.{arith}
use Rattle.std.proofs.lemmas.Grind.{common_steps}
use Rattle.m2_parse.specs.ReadStreams.{definition_declaration_at}
use Rattle.m2_parse.proofs.declarations.definition_declaration.Goals as goal

pub returns-in_err-items : goal.returns-in_err-items
unfolding definition_declaration_at
returns-in_err-items c = grind (arith, common_steps)

pub returns-in-Some : goal.returns-in-Some
unfolding definition_declaration_at
returns-in-Some c = grind (arith, common_steps)

pub returns-in_err-items-2 : goal.returns-in_err-items-2
unfolding definition_declaration_at
returns-in_err-items-2 c = grind (arith, common_steps)

pub returns-in-Some-next_if : goal.returns-in-Some-next_if
unfolding definition_declaration_at
returns-in-Some-next_if c = grind (arith, common_steps)

pub returns-in_err-items-3 : goal.returns-in_err-items-3
unfolding definition_declaration_at
returns-in_err-items-3 c = grind (arith, common_steps)

pub returns-in-Some-next_if-2 : goal.returns-in-Some-next_if-2
unfolding definition_declaration_at
returns-in-Some-next_if-2 c = grind (arith, common_steps)

pub returns-in_err-heading : goal.returns-in_err-heading
unfolding definition_declaration_at
returns-in_err-heading c = grind (arith, common_steps)

pub returns-in_err-expect : goal.returns-in_err-expect
unfolding definition_declaration_at
returns-in_err-expect c = grind (arith, common_steps)

pub returns-in_err-list_of : goal.returns-in_err-list_of
unfolding definition_declaration_at
returns-in_err-list_of c = grind (arith, common_steps)

pub returns : goal.returns
unfolding definition_declaration_at
returns c = grind (arith, common_steps)

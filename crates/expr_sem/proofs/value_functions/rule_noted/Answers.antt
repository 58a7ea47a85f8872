use Rattle.expr_sem.proofs.value_functions.rule_noted.Goals as goal

pub returns-in-Function : goal.returns-in-Function
returns-in-Function g c = rw c.in-Function.is c.of_value_noted.ensures

pub returns-in-Val : goal.returns-in-Val
returns-in-Val g c = rw c.in-Val.is c.val_of_operand.ensures

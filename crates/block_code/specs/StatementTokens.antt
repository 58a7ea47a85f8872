-- How many tokens statements and blocks are made of, at the least: what stands between statements isn't counted.
use Rattle.std.specs.Prelude.{ℕ, ◌+◌, Option, Some, None}
use Rattle.m2_base.specs.Statics.ProcedureRows.{parameter_count}
use Rattle.m2_base.specs.Trees.{CaseArm, CaseArms, CaseElse, Expr, Heading, IfArm, IfArms, Statement, Statements}
use Rattle.m2_base.specs.Trees.{StmtForm, Stream, assign_form, call_statement, case_arm, case_else, case_form}
use Rattle.m2_base.specs.Trees.{empty_form, exit_form, for_form, if_arm, if_form, loop_form, more_case_arms}
use Rattle.m2_base.specs.Trees.{more_if_arms, more_statements, no_case_arms, no_case_else, no_if_arms, no_statements}
use Rattle.m2_base.specs.Trees.{repeat_form, return_form, statement, while_form, with_form}
use Rattle.block_code.specs.Tokens.{designator_tokens, expr_tokens, exprs_tokens, labels_tokens}

-- of an expression, if there is one
abbrev pub option_tokens : Option Expr → ℕ
option_tokens None = 0
option_tokens (Some e) = expr_tokens e

abbrev mutual
  -- of a statement
  pub statement_tokens : Statement → ℕ
  statement_tokens (statement at form) = stmt_form_tokens form

  -- of each form of statement; the brackets round the arguments of a call may be left out
  pub stmt_form_tokens : StmtForm → ℕ
  stmt_form_tokens (assign_form d e) = designator_tokens d + 1 + expr_tokens e
  stmt_form_tokens (call_statement d args) = designator_tokens d + exprs_tokens args
  stmt_form_tokens (if_form arms other) = 1 + if_arms_tokens arms + statements_tokens other
  stmt_form_tokens (loop_form body) = 2 + statements_tokens body
  stmt_form_tokens exit_form = 1
  stmt_form_tokens (case_form e arms other) = 2 + expr_tokens e + case_arms_tokens arms + else_tokens other
  stmt_form_tokens (while_form e body) = 3 + expr_tokens e + statements_tokens body
  stmt_form_tokens (repeat_form body e) = 2 + statements_tokens body + expr_tokens e
  stmt_form_tokens (for_form i first last by body) =
      6 + expr_tokens first + expr_tokens last + option_tokens by + statements_tokens body
  stmt_form_tokens (with_form d body) = 3 + designator_tokens d + statements_tokens body
  stmt_form_tokens (return_form e) = 1 + option_tokens e
  stmt_form_tokens empty_form = 0

  -- of statements
  pub statements_tokens : Statements → ℕ
  statements_tokens no_statements = 0
  statements_tokens (more_statements s ss) = statement_tokens s + statements_tokens ss

  -- of the arms of an IF: before and behind each test there is a word
  pub if_arms_tokens : IfArms → ℕ
  if_arms_tokens no_if_arms = 0
  if_arms_tokens (more_if_arms a others) = if_arm_tokens a + if_arms_tokens others

  -- of one arm
  pub if_arm_tokens : IfArm → ℕ
  if_arm_tokens (if_arm e body) = 2 + expr_tokens e + statements_tokens body

  -- of the arms of a CASE: before each there is a bar or the word OF
  pub case_arms_tokens : CaseArms → ℕ
  case_arms_tokens no_case_arms = 0
  case_arms_tokens (more_case_arms a others) = case_arm_tokens a + case_arms_tokens others

  -- of one arm
  pub case_arm_tokens : CaseArm → ℕ
  case_arm_tokens (case_arm labels body) = 1 + labels_tokens labels + statements_tokens body

  -- of what stands behind ELSE
  pub else_tokens : CaseElse → ℕ
  else_tokens no_case_else = 0
  else_tokens (case_else body) = 1 + statements_tokens body

-- the names of the parameters
abbrev pub parameters_of : Option Heading → ℕ
parameters_of None = 0
parameters_of (Some h) = parameter_count h.sections

-- of a block, as far as code is made of it: the names of its parameters, its statements and the name at its end
abbrev pub block_tokens : Stream → ℕ
block_tokens s = parameters_of s.heading + statements_tokens s.body + 1

-- The trees of statements, by their derivations and the tokens behind them:
-- an empty statement is at the token after it.
use Rattle.std.specs.Prelude.{ℕ, List, [], ◌∷◌, ◌++◌, Option, Some, None}
use Rattle.m2_base.specs.declared.token.Token.{Token}
use Rattle.m2_base.specs.Trees.{Expr, exprs, Designator, designator_at, labels, Statement, statement, assign_form}
use Rattle.m2_base.specs.Trees.{call_statement, if_form, loop_form, exit_form, case_form, while_form, repeat_form}
use Rattle.m2_base.specs.Trees.{for_form, with_form, return_form, empty_form, statements, IfArm, if_arm, if_arms}
use Rattle.m2_base.specs.Trees.{CaseArm, case_arm, case_arms, CaseElse, no_case_else, case_else}
use Rattle.m2_base.specs.ExpressionsOf.{ident_of, designator_of, expr_of, optional_expr_of, labels_of, actuals_of}
use Rattle.ll_grammar.specs.Derivations.{Tree, leaf, both, left, right, more, inner, tokens}

-- the number of the next token
abbrev pub place : List Token → ℕ
place [] = 0
place (t ∷ ts) = t.at

-- an assignment, and a call
abbrev pub assignment : Designator → Expr → Statement
assignment d value = statement (designator_at d) (assign_form d value)

abbrev pub invocation : Designator → List Expr → Statement
invocation d args = statement (designator_at d) (call_statement d (exprs args))

-- a bare designator is a call without arguments
abbrev pub optional_actuals_of : Tree Token → List Expr
optional_actuals_of (left args) = actuals_of args
optional_actuals_of _ = []

-- the statements after ELSE of an IF, of which there is none where there is no ELSE
abbrev pub other_statements : Option (List Statement) → List Statement
other_statements None = []
other_statements (Some ss) = ss

-- the statements after ELSE of a CASE
abbrev pub case_else_with : Option (List Statement) → CaseElse
case_else_with None = no_case_else
case_else_with (Some ss) = case_else (statements ss)

abbrev pub no_statement : Statement
no_statement = statement 0 empty_form

abbrev pub designated_of : Tree Token → Statement
designated_of (both d (left (both becomes e))) = assignment (designator_of d) (expr_of e)
designated_of (both d (right args)) = invocation (designator_of d) (optional_actuals_of args)
designated_of _ = no_statement

abbrev pub exit_of : Tree Token → Statement
exit_of (leaf t) = statement t.at exit_form
exit_of _ = no_statement

abbrev pub return_of : Tree Token → Statement
return_of (both (leaf t) e) = statement t.at (return_form (optional_expr_of e))
return_of _ = no_statement

abbrev pub step_of : Tree Token → Option Expr
step_of (left (both by e)) = Some (expr_of e)
step_of _ = None

abbrev mutual
  pub statements_of : Tree Token → List Token → List Statement
  statements_of (both s ss) w = optional_statement_of s (tokens ss ++ w) ∷ more_statements_of ss w
  statements_of _ w = []

  pub more_statements_of : Tree Token → List Token → List Statement
  more_statements_of (more (both semicolon s) ss) w =
      optional_statement_of s (tokens ss ++ w) ∷ more_statements_of ss w
  more_statements_of _ w = []

  pub optional_statement_of : Tree Token → List Token → Statement
  optional_statement_of (left s) w = statement_of s w
  optional_statement_of _ w = statement (place w) empty_form

  pub statement_of : Tree Token → List Token → Statement
  statement_of (inner s) w = statement_rule_of s w
  statement_of _ w = no_statement

  pub statement_rule_of : Tree Token → List Token → Statement
  statement_rule_of (left s) w = designated_of s
  statement_rule_of (right (left s)) w = if_of s w
  statement_rule_of (right (right (left s))) w = case_of s w
  statement_rule_of (right (right (right (left s)))) w = while_of s w
  statement_rule_of (right (right (right (right (left s))))) w = repeat_of s w
  statement_rule_of (right (right (right (right (right (left s)))))) w = loop_of s w
  statement_rule_of (right (right (right (right (right (right (left s))))))) w = exit_of s
  statement_rule_of (right (right (right (right (right (right (right (left s)))))))) w = return_of s
  statement_rule_of (right (right (right (right (right (right (right (right (left s))))))))) w = for_of s w
  statement_rule_of (right (right (right (right (right (right (right (right (right s))))))))) w = with_of s w
  statement_rule_of _ w = no_statement

  pub if_of : Tree Token → List Token → Statement
  if_of (both (leaf t) (both a (both arms (both other end)))) w =
      statement t.at (if_form (if_arms (if_arm_of a (tokens (both arms (both other end)) ++ w)
      ∷ elsifs_of arms (tokens (both other end) ++ w)))
      (statements (other_statements (otherwise_of other (tokens end ++ w)))))
  if_of _ w = no_statement

  pub if_arm_of : Tree Token → List Token → IfArm
  if_arm_of (both e (both then ss)) w = if_arm (expr_of e) (statements (statements_of ss w))
  if_arm_of d w = if_arm (expr_of d) (statements [])

  pub elsifs_of : Tree Token → List Token → List IfArm
  elsifs_of (more a arms) w = elsif_of a (tokens arms ++ w) ∷ elsifs_of arms w
  elsifs_of _ w = []

  pub elsif_of : Tree Token → List Token → IfArm
  elsif_of (both elsif a) w = if_arm_of a w
  elsif_of d w = if_arm (expr_of d) (statements [])

  pub otherwise_of : Tree Token → List Token → Option (List Statement)
  otherwise_of (left (both else ss)) w = Some (statements_of ss w)
  otherwise_of _ w = None

  pub case_of : Tree Token → List Token → Statement
  case_of (both (leaf t) (both e (both of (both arms (both other end))))) w =
      statement t.at (case_form (expr_of e) (case_arms (arms_of arms (tokens (both other end) ++ w)))
      (case_else_with (otherwise_of other (tokens end ++ w))))
  case_of _ w = no_statement

  pub arms_of : Tree Token → List Token → List CaseArm
  arms_of (both a arms) w = arm_of a (tokens arms ++ w) ++ more_arms_of arms w
  arms_of _ w = []

  pub more_arms_of : Tree Token → List Token → List CaseArm
  more_arms_of (more (both bar a) arms) w = arm_of a (tokens arms ++ w) ++ more_arms_of arms w
  more_arms_of _ w = []

  -- an empty arm leaves no entry
  pub arm_of : Tree Token → List Token → List CaseArm
  arm_of (left (both ls (both colon ss))) w = case_arm (labels (labels_of ls)) (statements (statements_of ss w)) ∷ []
  arm_of _ w = []

  pub while_of : Tree Token → List Token → Statement
  while_of (both (leaf t) (both e (both doing (both ss end)))) w =
      statement t.at (while_form (expr_of e) (statements (statements_of ss (tokens end ++ w))))
  while_of _ w = no_statement

  pub repeat_of : Tree Token → List Token → Statement
  repeat_of (both (leaf t) (both ss (both until e))) w =
      statement t.at (repeat_form (statements (statements_of ss (tokens (both until e) ++ w))) (expr_of e))
  repeat_of _ w = no_statement

  pub loop_of : Tree Token → List Token → Statement
  loop_of (both (leaf t) (both ss end)) w =
      statement t.at (loop_form (statements (statements_of ss (tokens end ++ w))))
  loop_of _ w = no_statement

  pub for_of : Tree Token → List Token → Statement
  for_of (both (leaf t) (both i (both becomes (both low (both to (both high (both by (both doing (both ss end)))))))))
      w =
      statement t.at (for_form (ident_of i) (expr_of low) (expr_of high) (step_of by)
      (statements (statements_of ss (tokens end ++ w))))
  for_of _ w = no_statement

  pub with_of : Tree Token → List Token → Statement
  with_of (both (leaf t) (both d (both doing (both ss end)))) w =
      statement t.at (with_form (designator_of d) (statements (statements_of ss (tokens end ++ w))))
  with_of _ w = no_statement

-- What every tree of statements has that was read from the tokens of a text: its expressions and designators are read,
-- and a FOR has a name.
use Rattle.std.specs.Prelude.{◌≢◌, ℕ, List, Option, Some, None}
use Rattle.m2_base.specs.Statics.ReadTrees.{AreReadExprs, AreReadLabels, IsReadDesignator, IsReadExpr}
use Rattle.m2_base.specs.Trees.{CaseArm, CaseArms, CaseElse, Expr, IfArm, IfArms, Statement, Statements, StmtForm}
use Rattle.m2_base.specs.Trees.{assign_form, call_statement, case_arm, case_else, case_form, empty_form, exit_form}
use Rattle.m2_base.specs.Trees.{for_form, if_arm, if_form, loop_form, more_case_arms, more_if_arms, more_statements}
use Rattle.m2_base.specs.Trees.{no_case_arms, no_case_else, no_if_arms, no_statements, repeat_form, return_form}
use Rattle.m2_base.specs.Trees.{statement, while_form, with_form}

-- an expression that stands or doesn't
abbrev pub IsReadExprOption : (names : List (List ℕ)) → Option Expr → Type 0
IsReadExprOption names None = Unit {0}
IsReadExprOption names (Some e) = IsReadExpr names e

abbrev mutual
  -- a statement
  pub IsReadStatement : (names : List (List ℕ)) → Statement → Type 0
  IsReadStatement names (statement at form) = IsReadStmtForm names form

  -- by its form
  pub IsReadStmtForm : (names : List (List ℕ)) → StmtForm → Type 0
  IsReadStmtForm names (assign_form d e) = IsReadDesignator names d × IsReadExpr names e
  IsReadStmtForm names (call_statement d args) = IsReadDesignator names d × AreReadExprs names args
  IsReadStmtForm names (if_form arms other) = AreReadIfArms names arms × AreReadStatements names other
  IsReadStmtForm names (loop_form body) = AreReadStatements names body
  IsReadStmtForm names exit_form = Unit {0}
  IsReadStmtForm names (case_form e arms other) =
      IsReadExpr names e × AreReadCaseArms names arms × IsReadCaseElse names other
  IsReadStmtForm names (while_form e body) = IsReadExpr names e × AreReadStatements names body
  IsReadStmtForm names (repeat_form body e) = AreReadStatements names body × IsReadExpr names e
  IsReadStmtForm names (for_form i first last by body) =
      (i.name ≢ 0) × IsReadExpr names first × IsReadExpr names last × IsReadExprOption names by
      × AreReadStatements names body
  IsReadStmtForm names (with_form d body) = IsReadDesignator names d × AreReadStatements names body
  IsReadStmtForm names (return_form e) = IsReadExprOption names e
  IsReadStmtForm names empty_form = Unit {0}

  -- statements
  pub AreReadStatements : (names : List (List ℕ)) → Statements → Type 0
  AreReadStatements names no_statements = Unit {0}
  AreReadStatements names (more_statements s ss) = IsReadStatement names s × AreReadStatements names ss

  -- the arms of an IF
  pub AreReadIfArms : (names : List (List ℕ)) → IfArms → Type 0
  AreReadIfArms names no_if_arms = Unit {0}
  AreReadIfArms names (more_if_arms a others) = IsReadIfArm names a × AreReadIfArms names others

  -- one of them
  pub IsReadIfArm : (names : List (List ℕ)) → IfArm → Type 0
  IsReadIfArm names (if_arm e body) = IsReadExpr names e × AreReadStatements names body

  -- the arms of a CASE
  pub AreReadCaseArms : (names : List (List ℕ)) → CaseArms → Type 0
  AreReadCaseArms names no_case_arms = Unit {0}
  AreReadCaseArms names (more_case_arms a others) = IsReadCaseArm names a × AreReadCaseArms names others

  -- one of them
  pub IsReadCaseArm : (names : List (List ℕ)) → CaseArm → Type 0
  IsReadCaseArm names (case_arm labels body) = AreReadLabels names labels × AreReadStatements names body

  -- its ELSE
  pub IsReadCaseElse : (names : List (List ℕ)) → CaseElse → Type 0
  IsReadCaseElse names no_case_else = Unit {0}
  IsReadCaseElse names (case_else body) = AreReadStatements names body

-- Readers of statements. They take the number of levels that are left, and the reader of a statement.
use Rattle.std.specs.Prelude.{ℕ, zero, suc, Bool, List, [], ◌∷◌, Ok, Option, Some, None, if◌then◌else◌, length}
use Rattle.m2_base.specs.declared.kind.TokenKind.TheVariants.{Identifier, If, Case, While, Repeat, Loop, Exit, Return}
use Rattle.m2_base.specs.declared.kind.TokenKind.TheVariants.{For, With, Becomes, LeftParenthesis, Semicolon, Else}
use Rattle.m2_base.specs.declared.kind.TokenKind.TheVariants.{Then, Elsif, Colon, Bar, Of, End, Do, Until, To, By}
use Rattle.m2_base.specs.declared.token.Token.{Token}
use Rattle.m2_base.specs.KindNumbers.{kind_number}
use Rattle.m2_base.specs.Grammar.{number_of_token}
use Rattle.m2_base.specs.Trees.{Expr, Designator, labels, Statement, statement, if_form, loop_form, exit_form}
use Rattle.m2_base.specs.Trees.{case_form, while_form, repeat_form, for_form, with_form, return_form, empty_form}
use Rattle.m2_base.specs.Trees.{statements, IfArm, if_arm, if_arms, CaseArm, case_arm, case_arms}
use Rattle.m2_base.specs.StatementsOf.{assignment, invocation, other_statements, case_else_with}
use Rattle.ll_grammar.specs.Readers.{◌>>=◌, listed, repeat, itself, all, at_depth}
use Rattle.m2_parse.specs.Reading.{Read, tell, place, next_is, next_in, expect, until}
use Rattle.m2_parse.specs.ReadNames.{ident_at}
use Rattle.m2_parse.specs.ReadExpressions.{begins_expr, expr_with, labels_with, designator_with, actuals_with}
use Rattle.m2_parse.specs.ReadExpressions.{factor_at}

-- what a statement begins with
abbrev pub begins_statement : List Token → Bool
begins_statement ts = next_in (Identifier ∷ If ∷ Case ∷ While ∷ Repeat ∷ Loop ∷ Exit ∷ Return ∷ For ∷ With ∷ []) ts

abbrev pub expr_at : ℕ → Read Expr
expr_at n ts = expr_with (factor_at n) ts

abbrev pub designator_at : ℕ → Read Designator
designator_at n ts = designator_with (factor_at n) ts

-- EXIT
unfoldable pub exit_at : Read Statement
exit_at ts = expect Exit ts >>= λ t. Ok (statement t.0.at exit_form, t.1)

-- RETURN [Expr]
unfoldable pub optional_expr_at : ℕ → Read (Option Expr)
optional_expr_at n ts =
    if begins_expr ts then (do
      e ← expr_at n ts
      Ok (Some e.0, e.1)) else Ok (None, ts)

unfoldable pub return_at : ℕ → Read Statement
return_at n ts = do
  t ← expect Return ts
  e ← optional_expr_at n t.1
  Ok (statement t.0.at (return_form e.0), e.1)

-- Designator (":=" Expr | [Actuals])
unfoldable pub optional_actuals_at : ℕ → Read (List Expr)
optional_actuals_at n ts =
    if next_is LeftParenthesis ts then actuals_with (factor_at n) ts else Ok ([], ts)

unfoldable pub assigned_at : ℕ → Designator → Read Statement
assigned_at n d ts =
    if next_is Becomes ts then (do
      b ← expect Becomes ts
      e ← expr_at n b.1
      Ok (assignment d e.0, e.1)) else (do
        es ← optional_actuals_at n ts
        Ok (invocation d es.0, es.1))

unfoldable pub designated_at : ℕ → Read Statement
designated_at n ts = do
  d ← designator_at n ts
  assigned_at n d.0 d.1

-- [BY Expr]
unfoldable pub step_at : ℕ → Read (Option Expr)
step_at n ts =
    if next_is By ts then (do
      b ← expect By ts
      e ← expr_at n b.1
      Ok (Some e.0, e.1)) else Ok (None, ts)

-- TO Expr [BY Expr]
unfoldable pub limit_at : ℕ → Read (Expr × Option Expr)
limit_at n ts = do
  o ← expect To ts
  last ← expr_at n o.1
  by ← step_at n last.1
  Ok ((last.0, by.0), by.1)

module _ (n : ℕ) (reader : Read Statement) where
  -- Stmts = Stmt {";" Stmt}; an empty one is at the token after it
  unfoldable pub optional_statement_with : Read Statement
  optional_statement_with ts = if begins_statement ts then reader ts else Ok (statement (place ts) empty_form, ts)

  abbrev pub statements_with : Read (List Statement)
  statements_with ts = listed number_of_token (kind_number Semicolon) optional_statement_with itself ts

  -- [ELSE Stmts]
  unfoldable pub otherwise_with : Read (Option (List Statement))
  otherwise_with ts =
      if next_is Else ts then (do
        p ← expect Else ts
        ss ← statements_with p.1
        Ok (Some ss.0, ss.1)) else Ok (None, ts)

  -- Expr THEN Stmts
  unfoldable pub if_arm_with : Read IfArm
  if_arm_with ts = do
    e ← expr_at n ts
    p ← expect Then e.1
    ss ← statements_with p.1
    Ok (if_arm e.0 (statements ss.0), ss.1)

  -- {ELSIF Expr THEN Stmts}
  unfoldable pub elsif_with : Read IfArm
  elsif_with ts = do
    p ← expect Elsif ts
    a ← if_arm_with p.1
    Ok (a.0, a.1)

  abbrev pub elsifs_with : Read (List IfArm)
  elsifs_with ts = repeat (next_is Elsif) elsif_with itself (length ts) ts

  -- Expr THEN Stmts {ELSIF Expr THEN Stmts}
  unfoldable pub if_arms_with : Read (List IfArm)
  if_arms_with ts = do
    a ← if_arm_with ts
    more ← elsifs_with a.1
    Ok (a.0 ∷ more.0, more.1)

  -- IF Expr THEN Stmts {ELSIF Expr THEN Stmts} [ELSE Stmts] END
  unfoldable pub if_with : Read Statement
  if_with ts = do
    t ← expect If ts
    a ← if_arm_with t.1
    more ← elsifs_with a.1
    other ← otherwise_with more.1
    e ← expect End other.1
    Ok (statement t.0.at (if_form (if_arms (a.0 ∷ more.0)) (statements (other_statements other.0))), e.1)

  -- Arm = [Labels ":" Stmts]; an empty one leaves no entry
  unfoldable pub arm_with : Read (List CaseArm)
  arm_with ts =
      if begins_expr ts then (do
        ls ← labels_with (factor_at n) ts
        c ← expect Colon ls.1
        ss ← statements_with c.1
        Ok (case_arm (labels ls.0) (statements ss.0) ∷ [], ss.1)) else Ok ([], ts)

  abbrev pub arms_with : Read (List CaseArm)
  arms_with ts = listed number_of_token (kind_number Bar) arm_with all ts

  -- CASE Expr OF Arm {"|" Arm} [ELSE Stmts] END
  unfoldable pub case_with : Read Statement
  case_with ts = do
    t ← expect Case ts
    x ← expr_at n t.1
    o ← expect Of x.1
    arms ← arms_with o.1
    other ← otherwise_with arms.1
    e ← expect End other.1
    Ok (statement t.0.at (case_form x.0 (case_arms arms.0) (case_else_with other.0)), e.1)

  -- DO Stmts END
  unfoldable pub body_with : Read (List Statement)
  body_with ts = do
    d ← expect Do ts
    until End (statements_with d.1)

  -- WHILE Expr DO Stmts END
  unfoldable pub while_with : Read Statement
  while_with ts = do
    t ← expect While ts
    x ← expr_at n t.1
    d ← expect Do x.1
    ss ← statements_with d.1
    e ← expect End ss.1
    Ok (statement t.0.at (while_form x.0 (statements ss.0)), e.1)

  -- REPEAT Stmts UNTIL Expr
  unfoldable pub repeat_with : Read Statement
  repeat_with ts = do
    t ← expect Repeat ts
    ss ← statements_with t.1
    u ← expect Until ss.1
    x ← expr_at n u.1
    Ok (statement t.0.at (repeat_form (statements ss.0) x.0), x.1)

  -- LOOP Stmts END
  unfoldable pub loop_with : Read Statement
  loop_with ts = do
    t ← expect Loop ts
    ss ← statements_with t.1
    e ← expect End ss.1
    Ok (statement t.0.at (loop_form (statements ss.0)), e.1)

  -- FOR ident ":=" Expr TO Expr [BY Expr] DO Stmts END
  unfoldable pub for_with : Read Statement
  for_with ts = do
    t ← expect For ts
    i ← ident_at t.1
    b ← expect Becomes i.1
    first ← expr_at n b.1
    o ← expect To first.1
    last ← expr_at n o.1
    by ← step_at n last.1
    d ← expect Do by.1
    ss ← statements_with d.1
    e ← expect End ss.1
    Ok (statement t.0.at (for_form i.0 first.0 last.0 by.0 (statements ss.0)), e.1)

  -- WITH Designator DO Stmts END
  unfoldable pub with_with : Read Statement
  with_with ts = do
    t ← expect With ts
    x ← designator_at n t.1
    d ← expect Do x.1
    ss ← statements_with d.1
    e ← expect End ss.1
    Ok (statement t.0.at (with_form x.0 (statements ss.0)), e.1)

  -- Stmt
  unfoldable pub inner_statement : Read Statement
  inner_statement ts =
      if next_is Identifier ts then designated_at n ts else
      (if next_is If ts then if_with ts else
      (if next_is Case ts then case_with ts else
      (if next_is While ts then while_with ts else
      (if next_is Repeat ts then repeat_with ts else
      (if next_is Loop ts then loop_with ts else
      (if next_is Exit ts then exit_at ts else
      (if next_is Return ts then return_at n ts else
      (if next_is For ts then for_with ts else with_with ts))))))))

-- a statement, where so many levels are left
unfoldable pub statement_at : ℕ → Read Statement
statement_at zero ts = at_depth tell (begins_statement ts) ts
statement_at (suc n) ts = inner_statement n (statement_at n) ts

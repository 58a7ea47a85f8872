-- Statements that were made of their parts, seen.
use Rattle.std.proofs.Common.{◌≡◌, ℕ, List, map, Option, Some, None, refl, ap, ◌∙◌}
use Rattle.std.specs.Prelude.{option_map}
use Rattle.std.specs.declared.vec.Vec.{Vec}
use Rattle.std.specs.declared.alloc.Global.{Global}
use Rattle.m2_base.specs.declared.trees.expressions as expressions
use Rattle.m2_base.specs.declared.trees.statements as code
use Rattle.m2_base.specs.declared.trees.statements.StmtForm.TheVariants.{Case, If}
use Rattle.m2_base.specs.StatementsOf.{case_else_with}
use Rattle.m2_base.specs.Trees as plain
use Rattle.m2_base.specs.Views.{expr_view, statement_view, stmt_form_view, if_arm_view, case_arm_view, case_else_seen}
use Rattle.m2_base.proofs.Seen.{statement_seen, case_seen, if_seen}

-- a statement at its place
pub statement_is : (at : ℕ) (form : code.StmtForm.StmtForm) {p : plain.StmtForm} → stmt_form_view form ≡ p
    → statement_view (record { at = at; form = form }) ≡ plain.statement at p
statement_is at form h = statement_seen _ ∙ ap (plain.statement at) h

pub case_else_is : (other : Option (Vec code.Statement.Statement Global)) → case_else_seen other ≡ case_else_with (option_map (λ v. map statement_view v.items) other)
case_else_is None = refl
case_else_is (Some body) = refl

pub case_is : (value : expressions.Expr.Expr) (arms : Vec code.CaseArm.CaseArm Global) (other : Option (Vec code.Statement.Statement Global))
    → stmt_form_view (Case value arms other)
    ≡ plain.case_form (expr_view value) (plain.case_arms (map case_arm_view arms.items)) (case_else_with (option_map (λ v. map statement_view v.items) other))
case_is value arms other =
    case_seen value arms other ∙ ap (plain.case_form (expr_view value) (plain.case_arms (map case_arm_view arms.items))) (case_else_is other)

pub if_is : (arms : Vec code.IfArm.IfArm Global) (other : Vec code.Statement.Statement Global) {rest : List plain.Statement}
    → map statement_view other.items ≡ rest
    → stmt_form_view (If arms other) ≡ plain.if_form (plain.if_arms (map if_arm_view arms.items)) (plain.statements rest)
if_is arms other h =
    if_seen arms other ∙ ap (λ v. plain.if_form (plain.if_arms (map if_arm_view arms.items)) (plain.statements v)) h

-- What is read of a statement is read of its parts, and its parts are smaller.
use Rattle.std.proofs.Common.{◌≡◌, ◌+◌, ◌-◌, ◌*◌, ℕ, zero, suc, ◌<◌, ◌≤◌, List, [], ◌∷◌, Option, Some, None, map, refl, sym, subst, arith, length}
use Rattle.std.specs.Prelude.{get_or}
use Rattle.std.specs.declared.alloc.Global.{Global}
use Rattle.std.specs.declared.vec.Vec.{Vec}
use Rattle.m2_base.specs.Trees as plain
use Rattle.m2_base.specs.Views.{case_arm_view, expr_view, if_arm_view, label_view, statement_view, stmt_form_view}
use Rattle.m2_base.specs.declared.trees.Ident.{Ident}
use Rattle.m2_base.specs.declared.trees.expressions.Designator.{Designator}
use Rattle.m2_base.specs.declared.trees.expressions.Expr.{Expr}
use Rattle.m2_base.specs.declared.trees.statements.CaseArm.{CaseArm, out-CaseArm, size-CaseArm, size_is-CaseArm}
use Rattle.m2_base.specs.declared.trees.statements.IfArm.{IfArm, out-IfArm, size-IfArm, size_is-IfArm}
use Rattle.m2_base.specs.declared.trees.statements.Statement.{Statement, size-Statement, size_is-Statement}
use Rattle.m2_base.specs.declared.trees.statements.StmtForm.TheVariants.{Case, For, If, Loop, Repeat, While, With}
use Rattle.m2_base.specs.declared.trees.statements.StmtForm.TheViews.{sized-Case, sized-For, sized-If, sized-Loop, sized-Repeat, sized-While, sized-With}
use Rattle.m2_base.proofs.Seen.{case_arm_seen, if_arm_seen, statement_seen}
use Rattle.m2_base.specs.Statics.ReadStatements.{AreReadCaseArms, AreReadIfArms, AreReadStatements, IsReadCaseArm, IsReadIfArm, IsReadStatement, IsReadStmtForm}
use denote.Param.Weighed.{most}

-- the form of a statement
pub form_read : (names : List (List ℕ)) (s : Statement) (t : plain.StmtForm) → stmt_form_view s.form ≡ t → IsReadStatement names (statement_view s) → IsReadStmtForm names t
form_read names s t seen h = subst (λ (u : plain.StmtForm). IsReadStmtForm names u) seen (subst (λ (u : plain.Statement). IsReadStatement names u) (statement_seen s) h)

pub if_arm_read : (names : List (List ℕ)) (a : IfArm) → IsReadIfArm names (if_arm_view a) → IsReadIfArm names (plain.if_arm (expr_view (out-IfArm a).test) (plain.statements (map statement_view (out-IfArm a).body.items)))
if_arm_read names a h = subst (λ (u : plain.IfArm). IsReadIfArm names u) (if_arm_seen a) h

pub case_arm_read : (names : List (List ℕ)) (a : CaseArm) → IsReadCaseArm names (case_arm_view a) → IsReadCaseArm names (plain.case_arm (plain.labels (map label_view (out-CaseArm a).labels.items)) (plain.statements (map statement_view (out-CaseArm a).body.items)))
case_arm_read names a h = subst (λ (u : plain.CaseArm). IsReadCaseArm names u) (case_arm_seen a) h

-- each item of a list
module _ {X : Type 0} (names : List (List ℕ)) where
  statement_at : (view : X → plain.Statement) (xs : List X) (k : ℕ) (d : X) → k < length xs → AreReadStatements names (plain.statements (map view xs)) → IsReadStatement names (view (get_or xs k d))
  statement_at view [] k d h all = absurd (omega (arith, h))
  statement_at view (y ∷ xs) zero d h all = all.0
  statement_at view (y ∷ xs) (suc k) d h all = statement_at view xs k d (omega (arith, h)) all.1

  pub read_statement : (view : X → plain.Statement) (xs : List X) (k : ℕ) (x : X) → k < length xs → x ≡ get_or xs k x → AreReadStatements names (plain.statements (map view xs)) → IsReadStatement names (view x)
  read_statement view xs k x h e all = subst (λ (u : X). IsReadStatement names (view u)) (sym e) (statement_at view xs k x h all)

  if_arm_at : (view : X → plain.IfArm) (xs : List X) (k : ℕ) (d : X) → k < length xs → AreReadIfArms names (plain.if_arms (map view xs)) → IsReadIfArm names (view (get_or xs k d))
  if_arm_at view [] k d h all = absurd (omega (arith, h))
  if_arm_at view (y ∷ xs) zero d h all = all.0
  if_arm_at view (y ∷ xs) (suc k) d h all = if_arm_at view xs k d (omega (arith, h)) all.1

  pub read_if_arm : (view : X → plain.IfArm) (xs : List X) (k : ℕ) (x : X) → k < length xs → x ≡ get_or xs k x → AreReadIfArms names (plain.if_arms (map view xs)) → IsReadIfArm names (view x)
  read_if_arm view xs k x h e all = subst (λ (u : X). IsReadIfArm names (view u)) (sym e) (if_arm_at view xs k x h all)

  case_arm_at : (view : X → plain.CaseArm) (xs : List X) (k : ℕ) (d : X) → k < length xs → AreReadCaseArms names (plain.case_arms (map view xs)) → IsReadCaseArm names (view (get_or xs k d))
  case_arm_at view [] k d h all = absurd (omega (arith, h))
  case_arm_at view (y ∷ xs) zero d h all = all.0
  case_arm_at view (y ∷ xs) (suc k) d h all = case_arm_at view xs k d (omega (arith, h)) all.1

  pub read_case_arm : (view : X → plain.CaseArm) (xs : List X) (k : ℕ) (x : X) → k < length xs → x ≡ get_or xs k x → AreReadCaseArms names (plain.case_arms (map view xs)) → IsReadCaseArm names (view x)
  read_case_arm view xs k x h e all = subst (λ (u : X). IsReadCaseArm names (view u)) (sym e) (case_arm_at view xs k x h all)

-- ---- sizes

pub if_arm_smaller : (a : IfArm) → most size-Statement (out-IfArm a).body.items < size-IfArm a
if_arm_smaller a = grind (arith, size_is-IfArm)

pub case_arm_smaller : (a : CaseArm) → most size-Statement (out-CaseArm a).body.items < size-CaseArm a
case_arm_smaller a = grind (arith, size_is-CaseArm)

pub if_smaller : (s : Statement) (arms : Vec IfArm Global) (other : Vec Statement Global) → s.form ≡ If arms other → most size-IfArm arms.items < size-Statement s
if_smaller s arms other e = grind (arith, size_is-Statement, sized-If)

pub else_smaller : (s : Statement) (arms : Vec IfArm Global) (other : Vec Statement Global) → s.form ≡ If arms other → most size-Statement other.items < size-Statement s
else_smaller s arms other e = grind (arith, size_is-Statement, sized-If)

pub loop_smaller : (s : Statement) (body : Vec Statement Global) → s.form ≡ Loop body → most size-Statement body.items < size-Statement s
loop_smaller s body e = grind (arith, size_is-Statement, sized-Loop)

pub case_smaller : (s : Statement) (value : Expr) (arms : Vec CaseArm Global) (other : Option (Vec Statement Global)) → s.form ≡ Case value arms other → most size-CaseArm arms.items < size-Statement s
case_smaller s value arms other e = grind (arith, size_is-Statement, sized-Case)

pub while_smaller : (s : Statement) (test : Expr) (body : Vec Statement Global) → s.form ≡ While test body → most size-Statement body.items < size-Statement s
while_smaller s test body e = grind (arith, size_is-Statement, sized-While)

pub repeat_smaller : (s : Statement) (body : Vec Statement Global) (test : Expr) → s.form ≡ Repeat body test → most size-Statement body.items < size-Statement s
repeat_smaller s body test e = grind (arith, size_is-Statement, sized-Repeat)

pub for_smaller : (s : Statement) (name : Ident) (first last : Expr) (by : Option Expr) (body : Vec Statement Global) → s.form ≡ For name first last by body → most size-Statement body.items < size-Statement s
for_smaller s name first last by body e = grind (arith, size_is-Statement, sized-For)

pub with_smaller : (s : Statement) (of : Designator) (body : Vec Statement Global) → s.form ≡ With of body → most size-Statement body.items < size-Statement s
with_smaller s of body e = grind (arith, size_is-Statement, sized-With)

-- the greater one
abbrev pub greater : ℕ → ℕ → ℕ
greater a b = a + (b - a)

-- the statements behind ELSE of a CASE, if it has one
abbrev pub rest_size : Option (Vec Statement Global) → ℕ
rest_size None = 0
rest_size (Some body) = most size-Statement body.items

else_body_smaller : (s : Statement) (value : Expr) (arms : Vec CaseArm Global) (other : Option (Vec Statement Global)) (body : Vec Statement Global) → s.form ≡ Case value arms other → other ≡ Some body → most size-Statement body.items < size-Statement s
else_body_smaller s value arms other body e is = grind (arith, size_is-Statement, sized-Case)

pub rest_smaller : (s : Statement) (value : Expr) (arms : Vec CaseArm Global) (other : Option (Vec Statement Global)) → s.form ≡ Case value arms other → rest_size other < size-Statement s
rest_smaller s value arms None e = grind (arith, size_is-Statement, sized-Case)
rest_smaller s value arms (Some body) e = else_body_smaller s value arms (Some body) body e refl

-- ---- measures: eight times a size, and a last figure

-- the same size, and a lower figure
pub lower : (n j d t : ℕ) → 8 * n + (j + suc d) ≡ t → 8 * n + j < t
lower n j d t e = omega (arith, e)

pub same_lower : (l m n j d t : ℕ) → l ≡ m → n ≡ m → 8 * n + (j + suc d) ≡ t → 8 * l + j < t
same_lower l m n j d t p q e = omega (arith, p, q, e)

-- the first of two sizes, or the second
pub first_lower : (m n j d t : ℕ) → 8 * greater m n + (j + suc d) ≡ t → 8 * m + j < t
first_lower m n j d t e = omega (arith, e)

pub second_lower : (m n j d t : ℕ) → 8 * greater m n + (j + suc d) ≡ t → 8 * n + j < t
second_lower m n j d t e = omega (arith, e)

-- an item
pub item_lower : (m n k t : ℕ) → m ≤ n → 8 * n + suc k ≡ t → 8 * m < t
item_lower m n k t h e = omega (arith, h, e)

-- a part, or two of them, or a part of an item
pub part_lower : (l m n j d t : ℕ) → l ≡ m → m < n → j + suc d ≡ 8 → 8 * n ≡ t → 8 * l + j < t
part_lower l m n j d t p h f e = omega (arith, p, h, f, e)

pub parts_lower : (l m x y n j d t : ℕ) → l ≡ m → x ≡ y → m < n → y < n → j + suc d ≡ 8 → 8 * n ≡ t → 8 * greater l x + j < t
parts_lower l m x y n j d t p q h i f e = omega (arith, p, q, h, i, f, e)

pub item_part_lower : (l m n o j k d t : ℕ) → l ≡ m → m < n → n ≤ o → j + suc d ≡ 8 → 8 * o + k ≡ t → 8 * l + j < t
item_part_lower l m n o j k d t p h i f e = omega (arith, p, h, i, f, e)

-- What is seen of each struct of the trees and of each variant. `seen` is of a value that is there, `made` of one that
-- is put together.
use Rattle.std.proofs.Common.{◌≡◌, ℕ, map, Option, Some, None, ap, sym, ◌∙◌}
use Rattle.std.specs.Prelude.{option_map}
use Rattle.std.specs.declared.boxed.Box.{Box}
use Rattle.std.specs.declared.vec.Vec.{Vec}
use Rattle.std.specs.declared.alloc.Global.{Global}
use Rattle.m2_base.specs.declared.trees.Ident.{Ident}
use Rattle.m2_base.specs.declared.trees.Qual.{Qual}
use Rattle.m2_base.specs.declared.trees.operators.Operator.{Operator}
use Rattle.m2_base.specs.declared.trees.expressions as expressions
use Rattle.m2_base.specs.declared.trees.expressions.Expr.{fold_out-Expr}
use Rattle.m2_base.specs.declared.trees.expressions.ExprForm.{fold-roll-ExprForm}
use Rattle.m2_base.specs.declared.trees.expressions.ExprForm.TheVariants.{Number, Char, Str, Set, Name, Call, One, Many, rolls-Number, rolls-Char, rolls-Str, rolls-Set, rolls-Name, rolls-Call, rolls-One, rolls-Many}
use Rattle.m2_base.specs.declared.trees.expressions.Selector.{fold-roll-Selector}
use Rattle.m2_base.specs.declared.trees.expressions.Selector.TheVariants.{Field, Index, Deref, rolls-Field, rolls-Index, rolls-Deref}
use Rattle.m2_base.specs.declared.trees.expressions.Designator.{fold_out-Designator}
use Rattle.m2_base.specs.declared.trees.expressions.Next.{fold_out-Next}
use Rattle.m2_base.specs.declared.trees.expressions.Label.{out-Label, roll-Label, roll-out-Label, fold-roll-Label}
use Rattle.m2_base.specs.declared.trees.types as types
use Rattle.m2_base.specs.declared.trees.types.TypeExpr.{fold_out-TypeExpr}
use Rattle.m2_base.specs.declared.trees.types.TypeForm.{fold-roll-TypeForm}
use Rattle.m2_base.specs.declared.trees.types.TypeForm.TheVariants.{Named, Enum, Sub, Array, Rec, Set as SetOf, Pointer, Proc, rolls-Named, rolls-Enum, rolls-Sub, rolls-Array, rolls-Rec, rolls-Set as rolls-SetOf, rolls-Pointer, rolls-Proc}
use Rattle.m2_base.specs.declared.trees.types.FieldList.{fold-roll-FieldList}
use Rattle.m2_base.specs.declared.trees.types.FieldList.TheVariants.{Plain, Cases, rolls-Plain, rolls-Cases}
use Rattle.m2_base.specs.declared.trees.types.VariantArm.{fold_out-VariantArm}
use Rattle.m2_base.specs.declared.trees.types.Formal.{Formal}
use Rattle.m2_base.specs.declared.trees.statements as statements
use Rattle.m2_base.specs.declared.trees.statements.Statement.{fold_out-Statement}
use Rattle.m2_base.specs.declared.trees.statements.StmtForm.{fold-roll-StmtForm}
use Rattle.m2_base.specs.declared.trees.statements.StmtForm.TheVariants.{Assign, Call as Invoke, If, Loop, Exit, Case, While, Repeat, For, With, Return, Empty, rolls-Assign, rolls-Call as rolls-Invoke, rolls-If, rolls-Loop, rolls-Exit, rolls-Case, rolls-While, rolls-Repeat, rolls-For, rolls-With, rolls-Return, rolls-Empty}
use Rattle.m2_base.specs.declared.trees.statements.IfArm.{out-IfArm, roll-IfArm, fold_out-IfArm, fold-roll-IfArm}
use Rattle.m2_base.specs.declared.trees.statements.CaseArm.{out-CaseArm, roll-CaseArm, fold_out-CaseArm, fold-roll-CaseArm}
use Rattle.m2_base.specs.Trees as plain
use Rattle.m2_base.specs.Views.{type_view, type_form_view, field_list_view, variant_arm_view, statement_view, stmt_form_view, if_arm_view, case_arm_view, case_else_seen}
use Rattle.m2_base.specs.Views.{expr_view, form_view, selector_view, designator_view, next_view, label_view, set_with}

-- Expressions.

pub expr_seen : (e : expressions.Expr.Expr) → expr_view e ≡ plain.expr e.at (form_view e.form)
unfolding expr_view form_view
expr_seen e = fold_out-Expr _ _ _ _ _ _ _ _ _ _ _ _ e

pub designator_seen : (d : expressions.Designator.Designator) → designator_view d ≡ plain.designator d.first (plain.selectors (map selector_view d.rest.items))
unfolding designator_view selector_view
designator_seen d = fold_out-Designator _ _ _ _ _ _ _ _ _ _ _ _ d

pub next_seen : (n : expressions.Next.Next) → next_view n ≡ plain.next n.op n.op_at (expr_view n.right)
unfolding next_view expr_view
next_seen n = fold_out-Next _ _ _ _ _ _ _ _ _ _ _ _ n

pub label_made : (low : expressions.Expr.Expr) (high : Option expressions.Expr.Expr) → label_view (roll-Label (record { low = low; high = high })) ≡ plain.label_with (expr_view low) (option_map expr_view high)
unfolding label_view expr_view
label_made low None = fold-roll-Label _ _ _ _ _ _ _ _ _ _ _ _ (record { low = low; high = None })
label_made low (Some high) = fold-roll-Label _ _ _ _ _ _ _ _ _ _ _ _ (record { low = low; high = Some high })

pub label_seen : (l : expressions.Label.Label) → label_view l ≡ plain.label_with (expr_view (out-Label l).low) (option_map expr_view (out-Label l).high)
label_seen l = ap label_view (sym (roll-out-Label l)) ∙ label_made (out-Label l).low (out-Label l).high

pub number_seen : (n : ℕ) → form_view (Number n) ≡ plain.number_form n
unfolding form_view
number_seen n = ap form_view (sym (rolls-Number n)) ∙ fold-roll-ExprForm _ _ _ _ _ _ _ _ _ _ _ _ _

pub char_seen : (n : ℕ) → form_view (Char n) ≡ plain.char_form n
unfolding form_view
char_seen n = ap form_view (sym (rolls-Char n)) ∙ fold-roll-ExprForm _ _ _ _ _ _ _ _ _ _ _ _ _

pub string_seen : (n : ℕ) → form_view (Str n) ≡ plain.string_form n
unfolding form_view
string_seen n = ap form_view (sym (rolls-Str n)) ∙ fold-roll-ExprForm _ _ _ _ _ _ _ _ _ _ _ _ _

pub set_seen : (of : Option expressions.Designator.Designator) (items : Vec expressions.Label.Label Global) → form_view (Set of items) ≡ set_with (option_map designator_view of) (map label_view items.items)
unfolding form_view designator_view label_view
set_seen None items = ap form_view (sym (rolls-Set None items)) ∙ fold-roll-ExprForm _ _ _ _ _ _ _ _ _ _ _ _ _
set_seen (Some d) items = ap form_view (sym (rolls-Set (Some d) items)) ∙ fold-roll-ExprForm _ _ _ _ _ _ _ _ _ _ _ _ _

pub plain_set_seen : (items : Vec expressions.Label.Label Global) → form_view (Set None items) ≡ plain.set_form (plain.labels (map label_view items.items))
plain_set_seen items = set_seen None items

pub typed_set_seen : (d : expressions.Designator.Designator) (items : Vec expressions.Label.Label Global) → form_view (Set (Some d) items) ≡ plain.typed_set_form (designator_view d) (plain.labels (map label_view items.items))
typed_set_seen d items = set_seen (Some d) items

pub name_seen : (d : expressions.Designator.Designator) → form_view (Name d) ≡ plain.name_form (designator_view d)
unfolding form_view designator_view
name_seen d = ap form_view (sym (rolls-Name d)) ∙ fold-roll-ExprForm _ _ _ _ _ _ _ _ _ _ _ _ _

pub call_seen : (d : expressions.Designator.Designator) (es : Vec expressions.Expr.Expr Global) → form_view (Call d es) ≡ plain.call_form (designator_view d) (plain.exprs (map expr_view es.items))
unfolding form_view designator_view expr_view
call_seen d es = ap form_view (sym (rolls-Call d es)) ∙ fold-roll-ExprForm _ _ _ _ _ _ _ _ _ _ _ _ _

pub one_seen : (op : Operator) (op_at : ℕ) (e : Box expressions.Expr.Expr Global) → form_view (One op op_at e) ≡ plain.one_form op op_at (expr_view e.value)
unfolding form_view expr_view
one_seen op op_at e = ap form_view (sym (rolls-One op op_at e)) ∙ fold-roll-ExprForm _ _ _ _ _ _ _ _ _ _ _ _ _

pub many_seen : (e : Box expressions.Expr.Expr Global) (ns : Vec expressions.Next.Next Global) → form_view (Many e ns) ≡ plain.many_form (expr_view e.value) (plain.nexts (map next_view ns.items))
unfolding form_view expr_view next_view
many_seen e ns = ap form_view (sym (rolls-Many e ns)) ∙ fold-roll-ExprForm _ _ _ _ _ _ _ _ _ _ _ _ _

pub field_seen : (name : Ident) (at : ℕ) → selector_view (Field name at) ≡ plain.field_selector name at
unfolding selector_view
field_seen name at = ap selector_view (sym (rolls-Field name at)) ∙ fold-roll-Selector _ _ _ _ _ _ _ _ _ _ _ _ _

pub index_seen : (es : Vec expressions.Expr.Expr Global) (at : ℕ) → selector_view (Index es at) ≡ plain.index_selector (plain.exprs (map expr_view es.items)) at
unfolding selector_view expr_view
index_seen es at = ap selector_view (sym (rolls-Index es at)) ∙ fold-roll-Selector _ _ _ _ _ _ _ _ _ _ _ _ _

pub deref_seen : (at : ℕ) → selector_view (Deref at) ≡ plain.deref_selector at
unfolding selector_view
deref_seen at = ap selector_view (sym (rolls-Deref at)) ∙ fold-roll-Selector _ _ _ _ _ _ _ _ _ _ _ _ _

-- Types.

pub type_seen : (t : types.TypeExpr.TypeExpr) → type_view t ≡ plain.type_expr t.at (type_form_view t.form)
unfolding type_view type_form_view
type_seen t = fold_out-TypeExpr _ _ _ _ _ _ _ _ t

pub named_seen : (q : Qual) → type_form_view (Named q) ≡ plain.named_type q
unfolding type_form_view
named_seen q = ap type_form_view (sym (rolls-Named q)) ∙ fold-roll-TypeForm _ _ _ _ _ _ _ _ _

pub enum_seen : (names : Vec Ident Global) → type_form_view (Enum names) ≡ plain.enum_type names.items
unfolding type_form_view
enum_seen names = ap type_form_view (sym (rolls-Enum names)) ∙ fold-roll-TypeForm _ _ _ _ _ _ _ _ _

pub sub_seen : (base : Option Qual) (low high : expressions.Expr.Expr) → type_form_view (Sub base low high) ≡ plain.sub_type base (expr_view low) (expr_view high)
unfolding type_form_view
sub_seen base low high = ap type_form_view (sym (rolls-Sub base low high)) ∙ fold-roll-TypeForm _ _ _ _ _ _ _ _ _

pub array_seen : (index : Vec types.TypeExpr.TypeExpr Global) (of : Box types.TypeExpr.TypeExpr Global) → type_form_view (Array index of) ≡ plain.array_type (plain.type_exprs (map type_view index.items)) (type_view of.value)
unfolding type_form_view type_view
array_seen index of = ap type_form_view (sym (rolls-Array index of)) ∙ fold-roll-TypeForm _ _ _ _ _ _ _ _ _

pub record_seen : (fields : Vec types.FieldList.FieldList Global) → type_form_view (Rec fields) ≡ plain.record_type (plain.field_lists (map field_list_view fields.items))
unfolding type_form_view field_list_view
record_seen fields = ap type_form_view (sym (rolls-Rec fields)) ∙ fold-roll-TypeForm _ _ _ _ _ _ _ _ _

pub set_of_seen : (of : Box types.TypeExpr.TypeExpr Global) → type_form_view (SetOf of) ≡ plain.set_type (type_view of.value)
unfolding type_form_view type_view
set_of_seen of = ap type_form_view (sym (rolls-SetOf of)) ∙ fold-roll-TypeForm _ _ _ _ _ _ _ _ _

pub pointer_seen : (of : Box types.TypeExpr.TypeExpr Global) → type_form_view (Pointer of) ≡ plain.pointer_type (type_view of.value)
unfolding type_form_view type_view
pointer_seen of = ap type_form_view (sym (rolls-Pointer of)) ∙ fold-roll-TypeForm _ _ _ _ _ _ _ _ _

pub proc_type_seen : (formals : Vec Formal Global) (result : Option Qual) → type_form_view (Proc formals result) ≡ plain.proc_type formals.items result
unfolding type_form_view
proc_type_seen formals result = ap type_form_view (sym (rolls-Proc formals result)) ∙ fold-roll-TypeForm _ _ _ _ _ _ _ _ _

pub plain_fields_seen : (names : Vec Ident Global) (typ : types.TypeExpr.TypeExpr) → field_list_view (Plain names typ) ≡ plain.plain_fields names.items (type_view typ)
unfolding field_list_view type_view
plain_fields_seen names typ = ap field_list_view (sym (rolls-Plain names typ)) ∙ fold-roll-FieldList _ _ _ _ _ _ _ _ _

pub case_fields_seen : (tag : Option Ident) (of : Qual) (arms : Vec types.VariantArm.VariantArm Global) (other : Vec types.FieldList.FieldList Global) → field_list_view (Cases tag of arms other) ≡ plain.case_fields tag of (plain.variant_arms (map variant_arm_view arms.items)) (plain.field_lists (map field_list_view other.items))
unfolding field_list_view variant_arm_view
case_fields_seen tag of arms other = ap field_list_view (sym (rolls-Cases tag of arms other)) ∙ fold-roll-FieldList _ _ _ _ _ _ _ _ _

pub variant_arm_seen : (a : types.VariantArm.VariantArm) → variant_arm_view a ≡ plain.variant_arm (plain.labels (map label_view a.labels.items)) (plain.field_lists (map field_list_view a.fields.items))
unfolding variant_arm_view field_list_view
variant_arm_seen a = fold_out-VariantArm _ _ _ _ _ _ _ _ a

-- Statements.

pub statement_seen : (s : statements.Statement.Statement) → statement_view s ≡ plain.statement s.at (stmt_form_view s.form)
unfolding statement_view stmt_form_view
statement_seen s = fold_out-Statement _ _ _ _ _ _ _ _ s

pub assign_seen : (to : expressions.Designator.Designator) (value : expressions.Expr.Expr) → stmt_form_view (Assign to value) ≡ plain.assign_form (designator_view to) (expr_view value)
unfolding stmt_form_view
assign_seen to value = ap stmt_form_view (sym (rolls-Assign to value)) ∙ fold-roll-StmtForm _ _ _ _ _ _ _ _ _

pub invoke_seen : (to : expressions.Designator.Designator) (args : Vec expressions.Expr.Expr Global) → stmt_form_view (Invoke to args) ≡ plain.call_statement (designator_view to) (plain.exprs (map expr_view args.items))
unfolding stmt_form_view
invoke_seen to args = ap stmt_form_view (sym (rolls-Invoke to args)) ∙ fold-roll-StmtForm _ _ _ _ _ _ _ _ _

pub if_seen : (arms : Vec statements.IfArm.IfArm Global) (other : Vec statements.Statement.Statement Global) → stmt_form_view (If arms other) ≡ plain.if_form (plain.if_arms (map if_arm_view arms.items)) (plain.statements (map statement_view other.items))
unfolding stmt_form_view if_arm_view statement_view
if_seen arms other = ap stmt_form_view (sym (rolls-If arms other)) ∙ fold-roll-StmtForm _ _ _ _ _ _ _ _ _

pub loop_seen : (body : Vec statements.Statement.Statement Global) → stmt_form_view (Loop body) ≡ plain.loop_form (plain.statements (map statement_view body.items))
unfolding stmt_form_view statement_view
loop_seen body = ap stmt_form_view (sym (rolls-Loop body)) ∙ fold-roll-StmtForm _ _ _ _ _ _ _ _ _

pub exit_seen : stmt_form_view Exit ≡ plain.exit_form
unfolding stmt_form_view
exit_seen = ap stmt_form_view (sym rolls-Exit) ∙ fold-roll-StmtForm _ _ _ _ _ _ _ _ _

pub case_seen : (value : expressions.Expr.Expr) (arms : Vec statements.CaseArm.CaseArm Global) (other : Option (Vec statements.Statement.Statement Global)) → stmt_form_view (Case value arms other) ≡ plain.case_form (expr_view value) (plain.case_arms (map case_arm_view arms.items)) (case_else_seen other)
unfolding stmt_form_view case_arm_view statement_view
case_seen value arms None = ap stmt_form_view (sym (rolls-Case value arms None)) ∙ fold-roll-StmtForm _ _ _ _ _ _ _ _ _
case_seen value arms (Some body) = ap stmt_form_view (sym (rolls-Case value arms (Some body))) ∙ fold-roll-StmtForm _ _ _ _ _ _ _ _ _

pub while_seen : (test : expressions.Expr.Expr) (body : Vec statements.Statement.Statement Global) → stmt_form_view (While test body) ≡ plain.while_form (expr_view test) (plain.statements (map statement_view body.items))
unfolding stmt_form_view statement_view
while_seen test body = ap stmt_form_view (sym (rolls-While test body)) ∙ fold-roll-StmtForm _ _ _ _ _ _ _ _ _

pub repeat_seen : (body : Vec statements.Statement.Statement Global) (test : expressions.Expr.Expr) → stmt_form_view (Repeat body test) ≡ plain.repeat_form (plain.statements (map statement_view body.items)) (expr_view test)
unfolding stmt_form_view statement_view
repeat_seen body test = ap stmt_form_view (sym (rolls-Repeat body test)) ∙ fold-roll-StmtForm _ _ _ _ _ _ _ _ _

pub for_seen : (name : Ident) (first last : expressions.Expr.Expr) (by : Option expressions.Expr.Expr) (body : Vec statements.Statement.Statement Global) → stmt_form_view (For name first last by body) ≡ plain.for_form name (expr_view first) (expr_view last) (option_map expr_view by) (plain.statements (map statement_view body.items))
unfolding stmt_form_view statement_view
for_seen name first last by body = ap stmt_form_view (sym (rolls-For name first last by body)) ∙ fold-roll-StmtForm _ _ _ _ _ _ _ _ _

pub with_seen : (of : expressions.Designator.Designator) (body : Vec statements.Statement.Statement Global) → stmt_form_view (With of body) ≡ plain.with_form (designator_view of) (plain.statements (map statement_view body.items))
unfolding stmt_form_view statement_view
with_seen of body = ap stmt_form_view (sym (rolls-With of body)) ∙ fold-roll-StmtForm _ _ _ _ _ _ _ _ _

pub return_seen : (value : Option expressions.Expr.Expr) → stmt_form_view (Return value) ≡ plain.return_form (option_map expr_view value)
unfolding stmt_form_view
return_seen value = ap stmt_form_view (sym (rolls-Return value)) ∙ fold-roll-StmtForm _ _ _ _ _ _ _ _ _

pub empty_seen : stmt_form_view Empty ≡ plain.empty_form
unfolding stmt_form_view
empty_seen = ap stmt_form_view (sym rolls-Empty) ∙ fold-roll-StmtForm _ _ _ _ _ _ _ _ _

pub if_arm_seen : (a : statements.IfArm.IfArm) → if_arm_view a ≡ plain.if_arm (expr_view (out-IfArm a).test) (plain.statements (map statement_view (out-IfArm a).body.items))
unfolding if_arm_view statement_view
if_arm_seen a = fold_out-IfArm _ _ _ _ _ _ _ _ a

pub case_arm_seen : (a : statements.CaseArm.CaseArm) → case_arm_view a ≡ plain.case_arm (plain.labels (map label_view (out-CaseArm a).labels.items)) (plain.statements (map statement_view (out-CaseArm a).body.items))
unfolding case_arm_view statement_view
case_arm_seen a = fold_out-CaseArm _ _ _ _ _ _ _ _ a

pub if_arm_made : (test : expressions.Expr.Expr) (body : Vec statements.Statement.Statement Global) → if_arm_view (roll-IfArm (record { test = test; body = body })) ≡ plain.if_arm (expr_view test) (plain.statements (map statement_view body.items))
unfolding if_arm_view statement_view
if_arm_made test body = fold-roll-IfArm _ _ _ _ _ _ _ _ (record { test = test; body = body })

pub case_arm_made : (labels : Vec expressions.Label.Label Global) (body : Vec statements.Statement.Statement Global) → case_arm_view (roll-CaseArm (record { labels = labels; body = body })) ≡ plain.case_arm (plain.labels (map label_view labels.items)) (plain.statements (map statement_view body.items))
unfolding case_arm_view statement_view
case_arm_made labels body = fold-roll-CaseArm _ _ _ _ _ _ _ _ (record { labels = labels; body = body })

-- The code's trees, seen as plain data: one view for each type. `proofs/Seen` has what is seen of each variant.
use Rattle.std.specs.Prelude.{List, map, Option, Some, None, option_map}
use Rattle.std.specs.declared.vec.Vec.{Vec}
use Rattle.std.specs.declared.alloc.Global.{Global}
use Rattle.m2_base.specs.declared.trees.expressions as expressions
use Rattle.m2_base.specs.declared.trees.expressions.Expr.{fold-Expr}
use Rattle.m2_base.specs.declared.trees.expressions.ExprForm.{fold-ExprForm}
use Rattle.m2_base.specs.declared.trees.expressions.Next.{fold-Next}
use Rattle.m2_base.specs.declared.trees.expressions.Designator.{fold-Designator}
use Rattle.m2_base.specs.declared.trees.expressions.Selector.{fold-Selector}
use Rattle.m2_base.specs.declared.trees.expressions.Label.{fold-Label}
use Rattle.m2_base.specs.declared.trees.expressions.ExprForm.TheOpen.{ExprForm-F, Selector-F, Designator-F, Expr-F}
use Rattle.m2_base.specs.declared.trees.expressions.ExprForm.TheOpen.{Label-F, Next-F, Number, Char, Str, Set, Name}
use Rattle.m2_base.specs.declared.trees.expressions.ExprForm.TheOpen.{Call, One, Many, Field, Index, Deref}
use Rattle.m2_base.specs.declared.trees.types as types
use Rattle.m2_base.specs.declared.trees.types.TypeExpr.{fold-TypeExpr}
use Rattle.m2_base.specs.declared.trees.types.TypeForm.{fold-TypeForm}
use Rattle.m2_base.specs.declared.trees.types.FieldList.{fold-FieldList}
use Rattle.m2_base.specs.declared.trees.types.VariantArm.{fold-VariantArm}
use Rattle.m2_base.specs.declared.trees.types.FieldList.TheOpen.{FieldList-F, TypeForm-F, TypeExpr-F, VariantArm-F}
use Rattle.m2_base.specs.declared.trees.types.FieldList.TheOpen.{Named, Enum, Sub, Array, Rec, Set as SetOf, Pointer}
use Rattle.m2_base.specs.declared.trees.types.FieldList.TheOpen.{Proc as ProcType, Plain, Cases}
use Rattle.m2_base.specs.declared.trees.statements as statements
use Rattle.m2_base.specs.declared.trees.statements.Statement.{fold-Statement}
use Rattle.m2_base.specs.declared.trees.statements.StmtForm.{fold-StmtForm}
use Rattle.m2_base.specs.declared.trees.statements.IfArm.{fold-IfArm}
use Rattle.m2_base.specs.declared.trees.statements.CaseArm.{fold-CaseArm}
use Rattle.m2_base.specs.declared.trees.statements.StmtForm.TheOpen.{StmtForm-F, CaseArm-F, IfArm-F, Statement-F}
use Rattle.m2_base.specs.declared.trees.statements.StmtForm.TheOpen.{Assign, Call as Invoke, If, Loop, Exit, Case}
use Rattle.m2_base.specs.declared.trees.statements.StmtForm.TheOpen.{While, Repeat, For, With, Return, Empty}
use Rattle.m2_base.specs.declared.trees.declarations as declarations
use Rattle.m2_base.specs.declared.trees.declarations.Decl.TheVariants.{Const, Types, Vars, Proc}
use Rattle.m2_base.specs.Trees as plain
use Rattle.m2_base.specs.Trees.{Expr, expr, ExprForm, number_form, char_form, string_form, set_form, typed_set_form}
use Rattle.m2_base.specs.Trees.{name_form, call_form, one_form, many_form, exprs, Next, next, nexts, Designator}
use Rattle.m2_base.specs.Trees.{designator, Selector, field_selector, index_selector, deref_selector, selectors, Label}
use Rattle.m2_base.specs.Trees.{label_with, labels}
use Rattle.m2_base.specs.Trees.{TypeExpr, type_expr, TypeForm, named_type, enum_type, sub_type, array_type}
use Rattle.m2_base.specs.Trees.{record_type, set_type, pointer_type, proc_type, type_exprs, FieldList, plain_fields}
use Rattle.m2_base.specs.Trees.{case_fields, field_lists, VariantArm, variant_arm, variant_arms}
use Rattle.m2_base.specs.Trees.{Statement, statement, StmtForm, assign_form, call_statement, if_form, loop_form}
use Rattle.m2_base.specs.Trees.{exit_form, case_form, while_form, repeat_form, for_form, with_form, return_form}
use Rattle.m2_base.specs.Trees.{empty_form, IfArm, if_arm, if_arms, CaseArm, case_arm, case_arms, CaseElse}
use Rattle.m2_base.specs.Trees.{no_case_else, case_else}
use Rattle.m2_base.specs.Trees.{Decl, const_decl, type_decl, vars_decl, proc_decl}

-- Expressions.

-- a set, with its type before the brackets or without
abbrev pub set_with : Option Designator → List Label → ExprForm
set_with None items = set_form (labels items)
set_with (Some d) items = typed_set_form d (labels items)

abbrev pub form_step : ExprForm-F ExprForm Selector Designator Expr Label Next → ExprForm
form_step (Number n) = number_form n
form_step (Char c) = char_form c
form_step (Str name) = string_form name
form_step (Set of items) = set_with of items.items
form_step (Name d) = name_form d
form_step (Call d args) = call_form d (exprs args.items)
form_step (One op op_at e) = one_form op op_at e.value
form_step (Many first rest) = many_form first.value (nexts rest.items)

abbrev pub selector_step : Selector-F ExprForm Selector Designator Expr Label Next → Selector
selector_step (Field name at) = field_selector name at
selector_step (Index es at) = index_selector (exprs es.items) at
selector_step (Deref at) = deref_selector at

abbrev pub designator_step : Designator-F ExprForm Selector Designator Expr Label Next → Designator
designator_step d = designator d.first (selectors d.rest.items)

abbrev pub expr_step : Expr-F ExprForm Selector Designator Expr Label Next → Expr
expr_step e = expr e.at e.form

abbrev pub label_step : Label-F ExprForm Selector Designator Expr Label Next → Label
label_step l = label_with l.low l.high

abbrev pub next_step : Next-F ExprForm Selector Designator Expr Label Next → Next
next_step n = next n.op n.op_at n.right

unfoldable pub form_view : expressions.ExprForm.ExprForm → ExprForm
form_view = fold-ExprForm ExprForm Selector Designator Expr Label Next form_step selector_step designator_step
    expr_step label_step next_step

unfoldable pub selector_view : expressions.Selector.Selector → Selector
selector_view = fold-Selector ExprForm Selector Designator Expr Label Next form_step selector_step designator_step
    expr_step label_step next_step

unfoldable pub designator_view : expressions.Designator.Designator → Designator
designator_view = fold-Designator ExprForm Selector Designator Expr Label Next form_step selector_step designator_step
    expr_step label_step next_step

unfoldable pub expr_view : expressions.Expr.Expr → Expr
expr_view = fold-Expr ExprForm Selector Designator Expr Label Next form_step selector_step designator_step expr_step
    label_step next_step

unfoldable pub label_view : expressions.Label.Label → Label
label_view = fold-Label ExprForm Selector Designator Expr Label Next form_step selector_step designator_step expr_step
    label_step next_step

unfoldable pub next_view : expressions.Next.Next → Next
next_view = fold-Next ExprForm Selector Designator Expr Label Next form_step selector_step designator_step expr_step
    label_step next_step

-- Types.

abbrev pub field_list_step : FieldList-F FieldList TypeForm TypeExpr VariantArm → FieldList
field_list_step (Plain names typ) = plain_fields names.items typ
field_list_step (Cases tag of arms other) = case_fields tag of (variant_arms arms.items) (field_lists other.items)

abbrev pub type_form_step : TypeForm-F FieldList TypeForm TypeExpr VariantArm → TypeForm
type_form_step (Named q) = named_type q
type_form_step (Enum names) = enum_type names.items
type_form_step (Sub base low high) = sub_type base (expr_view low) (expr_view high)
type_form_step (Array index of) = array_type (type_exprs index.items) of.value
type_form_step (Rec fields) = record_type (field_lists fields.items)
type_form_step (SetOf of) = set_type of.value
type_form_step (Pointer of) = pointer_type of.value
type_form_step (ProcType formals result) = proc_type formals.items result

abbrev pub type_step : TypeExpr-F FieldList TypeForm TypeExpr VariantArm → TypeExpr
type_step t = type_expr t.at t.form

abbrev pub variant_arm_step : VariantArm-F FieldList TypeForm TypeExpr VariantArm → VariantArm
variant_arm_step a = variant_arm (labels (map label_view a.labels.items)) (field_lists a.fields.items)

unfoldable pub field_list_view : types.FieldList.FieldList → FieldList
field_list_view =
    fold-FieldList FieldList TypeForm TypeExpr VariantArm field_list_step type_form_step type_step variant_arm_step

unfoldable pub type_form_view : types.TypeForm.TypeForm → TypeForm
type_form_view =
    fold-TypeForm FieldList TypeForm TypeExpr VariantArm field_list_step type_form_step type_step variant_arm_step

unfoldable pub type_view : types.TypeExpr.TypeExpr → TypeExpr
type_view =
    fold-TypeExpr FieldList TypeForm TypeExpr VariantArm field_list_step type_form_step type_step variant_arm_step

unfoldable pub variant_arm_view : types.VariantArm.VariantArm → VariantArm
variant_arm_view =
    fold-VariantArm FieldList TypeForm TypeExpr VariantArm field_list_step type_form_step type_step variant_arm_step

-- Statements.

-- what stands after ELSE of a CASE, where it stands
abbrev pub case_else_of : Option (Vec Statement Global) → CaseElse
case_else_of None = no_case_else
case_else_of (Some body) = case_else (plain.statements body.items)

abbrev pub stmt_form_step : StmtForm-F StmtForm CaseArm IfArm Statement → StmtForm
stmt_form_step (Assign to value) = assign_form (designator_view to) (expr_view value)
stmt_form_step (Invoke to args) = call_statement (designator_view to) (exprs (map expr_view args.items))
stmt_form_step (If arms other) = if_form (if_arms arms.items) (plain.statements other.items)
stmt_form_step (Loop body) = loop_form (plain.statements body.items)
stmt_form_step Exit = exit_form
stmt_form_step (Case value arms other) = case_form (expr_view value) (case_arms arms.items) (case_else_of other)
stmt_form_step (While test body) = while_form (expr_view test) (plain.statements body.items)
stmt_form_step (Repeat body test) = repeat_form (plain.statements body.items) (expr_view test)
stmt_form_step (For name first last by body) =
    for_form name (expr_view first) (expr_view last) (option_map expr_view by) (plain.statements body.items)
stmt_form_step (With of body) = with_form (designator_view of) (plain.statements body.items)
stmt_form_step (Return value) = return_form (option_map expr_view value)
stmt_form_step Empty = empty_form

abbrev pub case_arm_step : CaseArm-F StmtForm CaseArm IfArm Statement → CaseArm
case_arm_step a = case_arm (labels (map label_view a.labels.items)) (plain.statements a.body.items)

abbrev pub if_arm_step : IfArm-F StmtForm CaseArm IfArm Statement → IfArm
if_arm_step a = if_arm (expr_view a.test) (plain.statements a.body.items)

abbrev pub statement_step : Statement-F StmtForm CaseArm IfArm Statement → Statement
statement_step s = statement s.at s.form

unfoldable pub stmt_form_view : statements.StmtForm.StmtForm → StmtForm
stmt_form_view = fold-StmtForm StmtForm CaseArm IfArm Statement stmt_form_step case_arm_step if_arm_step statement_step

unfoldable pub case_arm_view : statements.CaseArm.CaseArm → CaseArm
case_arm_view = fold-CaseArm StmtForm CaseArm IfArm Statement stmt_form_step case_arm_step if_arm_step statement_step

unfoldable pub if_arm_view : statements.IfArm.IfArm → IfArm
if_arm_view = fold-IfArm StmtForm CaseArm IfArm Statement stmt_form_step case_arm_step if_arm_step statement_step

unfoldable pub statement_view : statements.Statement.Statement → Statement
statement_view =
    fold-Statement StmtForm CaseArm IfArm Statement stmt_form_step case_arm_step if_arm_step statement_step

-- the ELSE of a CASE, seen
abbrev pub case_else_seen : Option (Vec statements.Statement.Statement Global) → CaseElse
case_else_seen None = no_case_else
case_else_seen (Some body) = case_else (plain.statements (map statement_view body.items))

-- Declarations and streams.

abbrev pub section_view : declarations.Section.Section → plain.Section
section_view s = record { by_ref = s.by_ref; names = s.names.items; is_open = s.is_open; of = s.of }

abbrev pub heading_view : declarations.Heading.Heading → plain.Heading
heading_view h = record { name = h.name; sections = map section_view h.sections.items; result = h.result }

abbrev pub import_view : declarations.Import.Import → plain.Import
import_view i = record { from = i.from; names = i.names.items }

abbrev pub decl_view : declarations.Decl.Decl → Decl
decl_view (Const name value) = const_decl name (expr_view value)
decl_view (Types name typ) = type_decl name (option_map type_view typ)
decl_view (Vars names typ) = vars_decl names.items (type_view typ)
decl_view (Proc heading stream) = proc_decl (heading_view heading) stream

abbrev pub stream_view : declarations.Stream.Stream → plain.Stream
stream_view s = record {
  kind = s.kind;
  implementation = s.implementation;
  name = s.name;
  imports = map import_view s.imports.items;
  heading = option_map heading_view s.heading;
  decls = map decl_view s.decls.items;
  body = plain.statements (map statement_view s.body.items);
  close = s.close;
}

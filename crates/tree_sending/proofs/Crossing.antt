-- The tree of a stream may be sent to another thread, and be seen by many: its parts may, from the smallest on.
use denote.Param.Send.{IsSend, IsSync, sendable}
use denote.Param.SendFields.{as_row_send, as_row_sync, declared_send, declared_sync, variants_send, variants_sync}
use denote.Struct.Field.{bool-field, u32-field, u64-field}
use Rattle.std.proofs.Crossing.{Box-send, Box-sync, Vec-send, Vec-sync}
use Rattle.std.proofs.option.Option.TheSendSync as option
use Rattle.std.specs.contracts.alloc.Global as Global
use Rattle.std.specs.contracts.impls.GlobalAllocator.TheImpl.{ghosts}
use Rattle.std.specs.contracts.option.Option as Option
use Rattle.std.specs.contracts.vec.Vec as Vec
use Rattle.m2_base.specs.contracts.trees.declarations.Decl as Decl
use Rattle.m2_base.specs.contracts.trees.declarations.Stream as Stream
use Rattle.m2_base.specs.contracts.trees.expressions.Designator as Designator
use Rattle.m2_base.specs.contracts.trees.expressions.Expr as Expr
use Rattle.m2_base.specs.contracts.trees.expressions.Label as Label
use Rattle.m2_base.specs.contracts.trees.statements.Statement as Statement
use Rattle.m2_base.specs.contracts.trees.types.TypeExpr as TypeExpr
use Rattle.m2_base.proofs.trees.Ident.TheSendSync as ident
use Rattle.m2_base.proofs.trees.Qual.TheSendSync as qual
use Rattle.m2_base.proofs.trees.declarations.Heading.TheSendSync as heading
use Rattle.m2_base.proofs.trees.declarations.Import.TheSendSync as imports
use Rattle.m2_base.proofs.trees.declarations.StreamKind.TheSendSync as kind
use Rattle.m2_base.proofs.trees.expressions.ExprForm.TheLaws.TheKnot as expressions
use Rattle.m2_base.proofs.trees.operators.Operator.TheSendSync as operator
use Rattle.m2_base.proofs.trees.statements.StmtForm.TheLaws.TheKnot as statements
use Rattle.m2_base.proofs.trees.types.FieldList.TheLaws.TheKnot as types
use Rattle.m2_base.proofs.trees.types.Formal.TheSendSync as formal

-- ** Numbers

u32-send : IsSend u32-field.row
u32-send = search sendable

u32-sync : IsSync u32-field.row
u32-sync = search sendable

u64-send : IsSend u64-field.row
u64-send = search sendable

u64-sync : IsSync u64-field.row
u64-sync = search sendable

bool-send : IsSend bool-field.row
bool-send = search sendable

bool-sync : IsSync bool-field.row
bool-sync = search sendable

-- ** Expressions

if_designator-send : IsSend (Designator.the_field).row → IsSend (Option.the_field Designator.the_row).row
if_designator-send d = option.the_field_send Designator.the_row (as_row_send Designator.the_field d)

if_designator-sync : IsSync (Designator.the_field).row → IsSync (Option.the_field Designator.the_row).row
if_designator-sync d = option.the_field_sync Designator.the_row (as_row_sync Designator.the_field d)

if_expr-send : IsSend (Expr.the_field).row → IsSend (Option.the_field Expr.the_row).row
if_expr-send e = option.the_field_send Expr.the_row (as_row_send Expr.the_field e)

if_expr-sync : IsSync (Expr.the_field).row → IsSync (Option.the_field Expr.the_row).row
if_expr-sync e = option.the_field_sync Expr.the_row (as_row_sync Expr.the_field e)

expr-send : IsSend (Expr.the_field).row
expr-send = expressions.send-Expr u64-send u32-send option.the_send if_designator-send Vec-send operator.the_field_send Box-send ident.the_field_send if_expr-send

expr-sync : IsSync (Expr.the_field).row
expr-sync = expressions.sync-Expr u64-sync u32-sync option.the_sync if_designator-sync Vec-sync operator.the_field_sync Box-sync ident.the_field_sync if_expr-sync

designator-send : IsSend (Designator.the_field).row
designator-send = expressions.send-Designator u64-send u32-send option.the_send if_designator-send Vec-send operator.the_field_send Box-send ident.the_field_send if_expr-send

designator-sync : IsSync (Designator.the_field).row
designator-sync = expressions.sync-Designator u64-sync u32-sync option.the_sync if_designator-sync Vec-sync operator.the_field_sync Box-sync ident.the_field_sync if_expr-sync

label-send : IsSend (Label.the_field).row
label-send = expressions.send-Label u64-send u32-send option.the_send if_designator-send Vec-send operator.the_field_send Box-send ident.the_field_send if_expr-send

label-sync : IsSync (Label.the_field).row
label-sync = expressions.sync-Label u64-sync u32-sync option.the_sync if_designator-sync Vec-sync operator.the_field_sync Box-sync ident.the_field_sync if_expr-sync

labels-send : IsSend (Vec.the_field Label.the_row Global.the_row ghosts).row
labels-send = Vec-send Label.the_row (as_row_send Label.the_field label-send)

labels-sync : IsSync (Vec.the_field Label.the_row Global.the_row ghosts).row
labels-sync = Vec-sync Label.the_row (as_row_sync Label.the_field label-sync)

-- ** Types

type-send : IsSend TypeExpr.the_row
type-send =
    as_row_send TypeExpr.the_field
    (types.send-TypeExpr (Vec-send _ ident.the_send) (option.the_field_send _ ident.the_send) qual.the_field_send Vec-send (option.the_field_send _ qual.the_send) expr-send Box-send
    (Vec-send _ formal.the_send) u32-send labels-send)

type-sync : IsSync TypeExpr.the_row
type-sync =
    as_row_sync TypeExpr.the_field
    (types.sync-TypeExpr (Vec-sync _ ident.the_sync) (option.the_field_sync _ ident.the_sync) qual.the_field_sync Vec-sync (option.the_field_sync _ qual.the_sync) expr-sync Box-sync
    (Vec-sync _ formal.the_sync) u32-sync labels-sync)

-- ** Declarations and statements

decl-send : IsSend Decl.the_row
decl-send =
    let e : IsSend Expr.the_row = as_row_send Expr.the_field expr-send in
    variants_send Decl.enum (
      (ident.the_send, (e, tt)),
      (
        (ident.the_send, (option.the_send TypeExpr.the_row type-send, tt)),
        ((Vec-send _ ident.the_send, (type-send, tt)), ((heading.the_send, (as_row_send u32-field u32-send, tt)), tt)),
      ),
    )

decl-sync : IsSync Decl.the_row
decl-sync =
    let e : IsSync Expr.the_row = as_row_sync Expr.the_field expr-sync in
    variants_sync Decl.enum (
      (ident.the_sync, (e, tt)),
      (
        (ident.the_sync, (option.the_sync TypeExpr.the_row type-sync, tt)),
        ((Vec-sync _ ident.the_sync, (type-sync, tt)), ((heading.the_sync, (as_row_sync u32-field u32-sync, tt)), tt)),
      ),
    )

statement-send : IsSend Statement.the_row
statement-send =
    let e : IsSend Expr.the_row = as_row_send Expr.the_field expr-send in
    as_row_send Statement.the_field
    (statements.send-Statement designator-send expr-send (Vec-send Expr.the_row e) Vec-send (λ h s. option.the_send (Vec.the_row h Global.the_row ghosts) (Vec-send h s)) ident.the_field_send
    (option.the_field_send Expr.the_row e) labels-send u32-send)

statement-sync : IsSync Statement.the_row
statement-sync =
    let e : IsSync Expr.the_row = as_row_sync Expr.the_field expr-sync in
    as_row_sync Statement.the_field
    (statements.sync-Statement designator-sync expr-sync (Vec-sync Expr.the_row e) Vec-sync (λ h s. option.the_sync (Vec.the_row h Global.the_row ghosts) (Vec-sync h s)) ident.the_field_sync
    (option.the_field_sync Expr.the_row e) labels-sync u32-sync)

-- ** The tree

pub tree-send : IsSend Stream.the_row
tree-send =
    declared_send Stream.the_type (
      kind.the_send,
      (
        as_row_send bool-field bool-send,
        (
          option.the_send _ ident.the_send,
          (Vec-send _ imports.the_send, (option.the_send _ heading.the_send, (Vec-send Decl.the_row decl-send, (Vec-send Statement.the_row statement-send, (ident.the_send, tt))))),
        ),
      ),
    )

pub tree-sync : IsSync Stream.the_row
tree-sync =
    declared_sync Stream.the_type (
      kind.the_sync,
      (
        as_row_sync bool-field bool-sync,
        (
          option.the_sync _ ident.the_sync,
          (Vec-sync _ imports.the_sync, (option.the_sync _ heading.the_sync, (Vec-sync Decl.the_row decl-sync, (Vec-sync Statement.the_row statement-sync, (ident.the_sync, tt))))),
        ),
      ),
    )

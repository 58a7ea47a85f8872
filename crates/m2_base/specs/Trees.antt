-- The trees of a text, as plain data: what the parser gives, with lists of their own.
-- Each part is a field; `at` is the first token, of an operator its own, of an empty statement the token after it.
use Rattle.std.specs.Prelude.{ℕ, Bool, List, [], ◌∷◌, Option, Some, None}
pub use Rattle.m2_base.specs.declared.trees.Ident.{Ident}
pub use Rattle.m2_base.specs.declared.trees.Qual.{Qual}
pub use Rattle.m2_base.specs.declared.trees.operators.Operator.{Operator}
pub use Rattle.m2_base.specs.declared.trees.types.Formal.{Formal}
pub use Rattle.m2_base.specs.declared.trees.declarations.StreamKind.{StreamKind}
pub use Rattle.m2_base.specs.declared.trees.declarations.StreamKind.TheVariants.{Main, Definition, Procedure}

-- Expressions. The operators of one sum, one term or one relation are one `many_form`, in text order. A set has
-- its type before the brackets, or none. A label or an element is one value or a range.
mutual
  pub data Expr : Type 0 where
    expr : (at : ℕ) → ExprForm → Expr

  pub data ExprForm : Type 0 where
    number_form : ℕ → ExprForm
    char_form : ℕ → ExprForm
    string_form : (name : ℕ) → ExprForm
    set_form : Labels → ExprForm
    typed_set_form : Designator → Labels → ExprForm
    name_form : Designator → ExprForm
    call_form : Designator → Exprs → ExprForm
    one_form : (op : Operator) → (op_at : ℕ) → Expr → ExprForm
    many_form : Expr → Nexts → ExprForm

  pub data Exprs : Type 0 where
    no_exprs : Exprs
    more_exprs : Expr → Exprs → Exprs

  pub data Next : Type 0 where
    next : (op : Operator) → (op_at : ℕ) → Expr → Next

  pub data Nexts : Type 0 where
    no_nexts : Nexts
    more_nexts : Next → Nexts → Nexts

  pub data Designator : Type 0 where
    designator : Ident → Selectors → Designator

  -- the number is the token of `.`, `[` or `^`
  pub data Selector : Type 0 where
    field_selector : Ident → (at : ℕ) → Selector
    index_selector : Exprs → (at : ℕ) → Selector
    deref_selector : (at : ℕ) → Selector

  pub data Selectors : Type 0 where
    no_selectors : Selectors
    more_selectors : Selector → Selectors → Selectors

  pub data Label : Type 0 where
    one_label : Expr → Label
    range_label : (low high : Expr) → Label

  pub data Labels : Type 0 where
    no_labels : Labels
    more_labels : Label → Labels → Labels

-- Types. A record is its list of fields; of a variant part the tag, the tag's type,
-- the arms and what stands after ELSE.
mutual
  pub data TypeExpr : Type 0 where
    type_expr : (at : ℕ) → TypeForm → TypeExpr

  pub data TypeForm : Type 0 where
    named_type : Qual → TypeForm
    enum_type : List Ident → TypeForm
    sub_type : Option Qual → (low high : Expr) → TypeForm
    array_type : (index : TypeExprs) → (of : TypeExpr) → TypeForm
    record_type : FieldLists → TypeForm
    set_type : TypeExpr → TypeForm
    pointer_type : TypeExpr → TypeForm
    proc_type : List Formal → Option Qual → TypeForm

  pub data TypeExprs : Type 0 where
    no_types : TypeExprs
    more_types : TypeExpr → TypeExprs → TypeExprs

  pub data FieldList : Type 0 where
    plain_fields : List Ident → TypeExpr → FieldList
    case_fields : (tag : Option Ident) → (of : Qual) → (arms : VariantArms) → (other : FieldLists) → FieldList

  pub data FieldLists : Type 0 where
    no_fields : FieldLists
    more_fields : FieldList → FieldLists → FieldLists

  pub data VariantArm : Type 0 where
    variant_arm : Labels → FieldLists → VariantArm

  pub data VariantArms : Type 0 where
    no_variant_arms : VariantArms
    more_variant_arms : VariantArm → VariantArms → VariantArms

-- Statements. ELSE of a CASE stands or doesn't.
mutual
  pub data Statement : Type 0 where
    statement : (at : ℕ) → StmtForm → Statement

  pub data StmtForm : Type 0 where
    assign_form : (to : Designator) → (value : Expr) → StmtForm
    call_statement : (to : Designator) → (args : Exprs) → StmtForm
    if_form : (arms : IfArms) → (other : Statements) → StmtForm
    loop_form : (body : Statements) → StmtForm
    exit_form : StmtForm
    case_form : (value : Expr) → (arms : CaseArms) → (other : CaseElse) → StmtForm
    while_form : (test : Expr) → (body : Statements) → StmtForm
    repeat_form : (body : Statements) → (test : Expr) → StmtForm
    for_form : (name : Ident) → (first last : Expr) → (by : Option Expr) → (body : Statements) → StmtForm
    with_form : (of : Designator) → (body : Statements) → StmtForm
    return_form : Option Expr → StmtForm
    empty_form : StmtForm

  pub data Statements : Type 0 where
    no_statements : Statements
    more_statements : Statement → Statements → Statements

  pub data IfArm : Type 0 where
    if_arm : (test : Expr) → (body : Statements) → IfArm

  pub data IfArms : Type 0 where
    no_if_arms : IfArms
    more_if_arms : IfArm → IfArms → IfArms

  pub data CaseArm : Type 0 where
    case_arm : Labels → (body : Statements) → CaseArm

  pub data CaseArms : Type 0 where
    no_case_arms : CaseArms
    more_case_arms : CaseArm → CaseArms → CaseArms

  pub data CaseElse : Type 0 where
    no_case_else : CaseElse
    case_else : Statements → CaseElse

-- names of parameters that have one mode and one type
pub record Section : Type 0 where
  pub by_ref : Bool
  pub names : List Ident
  pub is_open : Bool
  pub of : Qual

pub record Heading : Type 0 where
  pub name : Ident
  pub sections : List Section
  pub result : Option Qual

-- names of modules, or after FROM names of that module
pub record Import : Type 0 where
  pub from : Option Ident
  pub names : List Ident

-- a declaration; a procedure has the number of the stream that its block is in, in a definition 0
pub data Decl : Type 0 where
  const_decl : Ident → Expr → Decl
  type_decl : Ident → Option TypeExpr → Decl
  vars_decl : List Ident → TypeExpr → Decl
  proc_decl : Heading → (stream : ℕ) → Decl

-- the tree of one block
pub record Stream : Type 0 where
  pub kind : StreamKind
  pub implementation : Bool
  pub name : Option Ident
  pub imports : List Import
  pub heading : Option Heading
  pub decls : List Decl
  pub body : Statements
  pub close : Ident

-- the lists of the trees
abbrev pub exprs : List Expr → Exprs
exprs [] = no_exprs
exprs (x ∷ xs) = more_exprs x (exprs xs)

abbrev pub nexts : List Next → Nexts
nexts [] = no_nexts
nexts (x ∷ xs) = more_nexts x (nexts xs)

abbrev pub selectors : List Selector → Selectors
selectors [] = no_selectors
selectors (x ∷ xs) = more_selectors x (selectors xs)

abbrev pub labels : List Label → Labels
labels [] = no_labels
labels (x ∷ xs) = more_labels x (labels xs)

abbrev pub type_exprs : List TypeExpr → TypeExprs
type_exprs [] = no_types
type_exprs (x ∷ xs) = more_types x (type_exprs xs)

abbrev pub field_lists : List FieldList → FieldLists
field_lists [] = no_fields
field_lists (x ∷ xs) = more_fields x (field_lists xs)

abbrev pub variant_arms : List VariantArm → VariantArms
variant_arms [] = no_variant_arms
variant_arms (x ∷ xs) = more_variant_arms x (variant_arms xs)

abbrev pub statements : List Statement → Statements
statements [] = no_statements
statements (x ∷ xs) = more_statements x (statements xs)

abbrev pub if_arms : List IfArm → IfArms
if_arms [] = no_if_arms
if_arms (x ∷ xs) = more_if_arms x (if_arms xs)

abbrev pub case_arms : List CaseArm → CaseArms
case_arms [] = no_case_arms
case_arms (x ∷ xs) = more_case_arms x (case_arms xs)

-- an expression's first token
abbrev pub expr_at : Expr → ℕ
expr_at (expr at form) = at

-- a type's first token
abbrev pub type_at : TypeExpr → ℕ
type_at (type_expr at form) = at

-- a designator's first token
abbrev pub designator_at : Designator → ℕ
designator_at (designator first rest) = first.at

-- one value, or a range
abbrev pub label_with : Expr → Option Expr → Label
label_with low None = one_label low
label_with low (Some high) = range_label low high

-- an expression and the operators behind it, or the expression alone where there are none
abbrev pub with_operators : Expr → List Next → Expr
with_operators first [] = first
with_operators first (n ∷ ns) = expr (expr_at first) (many_form first (nexts (n ∷ ns)))

-- an expression in round brackets, of which the first is this token
abbrev pub in_brackets : ℕ → Expr → Expr
in_brackets at (expr inner_at form) = expr at form

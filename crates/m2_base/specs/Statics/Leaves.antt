-- Trees of which each leaf has a property: each token that they name, and each value that comes from one.
use Rattle.std.specs.Prelude.{ℕ, List, Option, Some, None}
use Rattle.m2_base.specs.Lists.{Each}
use Rattle.m2_base.specs.Statics.Items.{Item, const_item, heading_item, import_item, items_of, proc_item, type_item}
use Rattle.m2_base.specs.Statics.Items.{vars_item}
use Rattle.m2_base.specs.Trees.{CaseArm, CaseArms, CaseElse, Designator, Expr, ExprForm, Exprs, FieldList, FieldLists}
use Rattle.m2_base.specs.Trees.{Heading, Ident, IfArm, IfArms, Label, Labels, Next, Nexts, Qual, Section, Selector}
use Rattle.m2_base.specs.Trees.{Selectors, Statement, Statements, StmtForm, Stream, TypeExpr, TypeExprs, TypeForm}
use Rattle.m2_base.specs.Trees.{VariantArm, VariantArms, array_type, assign_form, call_form, call_statement, case_arm}
use Rattle.m2_base.specs.Trees.{case_else, case_fields, case_form, char_form, deref_selector, designator, empty_form}
use Rattle.m2_base.specs.Trees.{enum_type, exit_form, expr, field_selector, for_form, if_arm, if_form, index_selector}
use Rattle.m2_base.specs.Trees.{loop_form, many_form, more_case_arms, more_exprs, more_fields, more_if_arms}
use Rattle.m2_base.specs.Trees.{more_labels, more_nexts, more_selectors, more_statements, more_types}
use Rattle.m2_base.specs.Trees.{more_variant_arms, name_form, named_type, next, no_case_arms, no_case_else, no_exprs}
use Rattle.m2_base.specs.Trees.{no_fields, no_if_arms, no_labels, no_nexts, no_selectors, no_statements, no_types}
use Rattle.m2_base.specs.Trees.{no_variant_arms, number_form, one_form, one_label, plain_fields, pointer_type}
use Rattle.m2_base.specs.Trees.{proc_type, range_label, record_type, repeat_form, return_form, set_form, set_type}
use Rattle.m2_base.specs.Trees.{statement, string_form, sub_type, type_expr, typed_set_form, variant_arm, while_form}
use Rattle.m2_base.specs.Trees.{with_form}
use Rattle.m2_base.specs.declared.trees.types.Formal.{Formal}

-- a leaf: a token, by its number; a name; the value of a number, a character or a string;
-- the number of a procedure's stream
pub data Leaf : Type 0 where
  token_leaf : ℕ → Leaf
  name_leaf : Ident → Leaf
  number_leaf : ℕ → Leaf
  character_leaf : ℕ → Leaf
  string_leaf : ℕ → Leaf
  stream_leaf : ℕ → Leaf

module _ (P : Leaf → Type 0) where
  -- a name; of all other trees each leaf
  abbrev pub NameHas : Ident → Type 0
  NameHas i = P (name_leaf i)

  abbrev mutual
    -- an expression
    pub ExprHas : Expr → Type 0
    ExprHas (expr at form) = P (token_leaf at) × FormHas form

    -- by its form
    pub FormHas : ExprForm → Type 0
    FormHas (number_form v) = P (number_leaf v)
    FormHas (char_form v) = P (character_leaf v)
    FormHas (string_form v) = P (string_leaf v)
    FormHas (set_form items) = LabelsHave items
    FormHas (typed_set_form d items) = DesignatorHas d × LabelsHave items
    FormHas (name_form d) = DesignatorHas d
    FormHas (call_form d args) = DesignatorHas d × ExprsHave args
    FormHas (one_form op op_at e) = P (token_leaf op_at) × ExprHas e
    FormHas (many_form first rest) = ExprHas first × NextsHave rest

    -- expressions
    pub ExprsHave : Exprs → Type 0
    ExprsHave no_exprs = Unit {0}
    ExprsHave (more_exprs e es) = ExprHas e × ExprsHave es

    -- operators, each with the operand behind it
    pub NextsHave : Nexts → Type 0
    NextsHave no_nexts = Unit {0}
    NextsHave (more_nexts x xs) = NextHas x × NextsHave xs

    -- an operator with its operand
    pub NextHas : Next → Type 0
    NextHas (next op op_at e) = P (token_leaf op_at) × ExprHas e

    -- the elements of a set, or labels
    pub LabelsHave : Labels → Type 0
    LabelsHave no_labels = Unit {0}
    LabelsHave (more_labels l ls) = LabelHas l × LabelsHave ls

    -- one value, or a range
    pub LabelHas : Label → Type 0
    LabelHas (one_label e) = ExprHas e
    LabelHas (range_label low high) = ExprHas low × ExprHas high

    -- a designator
    pub DesignatorHas : Designator → Type 0
    DesignatorHas (designator first rest) = NameHas first × SelectorsHave rest

    -- selectors
    pub SelectorsHave : Selectors → Type 0
    SelectorsHave no_selectors = Unit {0}
    SelectorsHave (more_selectors s ss) = SelectorHas s × SelectorsHave ss

    -- a selector
    pub SelectorHas : Selector → Type 0
    SelectorHas (field_selector i dot) = NameHas i × P (token_leaf dot)
    SelectorHas (index_selector es bracket) = ExprsHave es × P (token_leaf bracket)
    SelectorHas (deref_selector caret) = P (token_leaf caret)

  -- a name, if there is one
  abbrev pub NameOptionHas : Option Ident → Type 0
  NameOptionHas None = Unit {0}
  NameOptionHas (Some i) = NameHas i

  -- a name with or without a module before it
  pub record QualHas (q : Qual) : Type 0 where
    pub first : NameHas q.first
    pub second : NameOptionHas q.second

  -- a name of a type, if there is one
  abbrev pub QualOptionHas : Option Qual → Type 0
  QualOptionHas None = Unit {0}
  QualOptionHas (Some q) = QualHas q

  -- names that are declared
  abbrev pub NamesHave : List Ident → Type 0
  NamesHave idents = Each NameHas idents

  -- the parameters of a procedure type
  abbrev pub FormalsHave : List Formal → Type 0
  FormalsHave formals = Each (λ f. QualHas f.of) formals

  abbrev mutual
    -- a type
    pub TypeHas : TypeExpr → Type 0
    TypeHas (type_expr at form) = P (token_leaf at) × TypeFormHas form

    -- by its form
    pub TypeFormHas : TypeForm → Type 0
    TypeFormHas (named_type q) = QualHas q
    TypeFormHas (enum_type idents) = NamesHave idents
    TypeFormHas (sub_type base low high) = QualOptionHas base × ExprHas low × ExprHas high
    TypeFormHas (array_type index of) = TypesHave index × TypeHas of
    TypeFormHas (record_type fields) = FieldsHave fields
    TypeFormHas (set_type of) = TypeHas of
    TypeFormHas (pointer_type of) = TypeHas of
    TypeFormHas (proc_type formals result) = FormalsHave formals × QualOptionHas result

    -- index types
    pub TypesHave : TypeExprs → Type 0
    TypesHave no_types = Unit {0}
    TypesHave (more_types t ts) = TypeHas t × TypesHave ts

    -- the fields of a record
    pub FieldsHave : FieldLists → Type 0
    FieldsHave no_fields = Unit {0}
    FieldsHave (more_fields f fs) = FieldHas f × FieldsHave fs

    -- fields of one type, or a variant part
    pub FieldHas : FieldList → Type 0
    FieldHas (plain_fields idents t) = NamesHave idents × TypeHas t
    FieldHas (case_fields tag of arms other) = NameOptionHas tag × QualHas of × ArmsHave arms × FieldsHave other

    -- the variants
    pub ArmsHave : VariantArms → Type 0
    ArmsHave no_variant_arms = Unit {0}
    ArmsHave (more_variant_arms a arms) = ArmHas a × ArmsHave arms

    -- a variant: its labels and its fields
    pub ArmHas : VariantArm → Type 0
    ArmHas (variant_arm labels fields) = LabelsHave labels × FieldsHave fields

  -- the type of a type's declaration, if there is one
  abbrev pub TypeOptionHas : Option TypeExpr → Type 0
  TypeOptionHas None = Unit {0}
  TypeOptionHas (Some t) = TypeHas t

  -- parameters of one type
  pub record SectionHas (s : Section) : Type 0 where
    pub idents : NamesHave s.names
    pub of : QualHas s.of

  -- a procedure's heading
  pub record HeadingHas (h : Heading) : Type 0 where
    pub name : NameHas h.name
    pub sections : Each SectionHas h.sections
    pub result : QualOptionHas h.result

  -- an item of a block
  abbrev pub ItemHas : Item → Type 0
  ItemHas (heading_item h) = HeadingHas h
  ItemHas (import_item from i) = NameOptionHas from × NameHas i
  ItemHas (const_item i e) = NameHas i × ExprHas e
  ItemHas (type_item i t) = NameHas i × TypeOptionHas t
  ItemHas (vars_item idents t) = NamesHave idents × TypeHas t
  ItemHas (proc_item h stream) = HeadingHas h × P (stream_leaf stream)

  -- an expression, if there is one
  abbrev pub ExprOptionHas : Option Expr → Type 0
  ExprOptionHas None = Unit {0}
  ExprOptionHas (Some e) = ExprHas e

  abbrev mutual
    -- a statement
    pub StatementHas : Statement → Type 0
    StatementHas (statement at form) = P (token_leaf at) × StatementFormHas form

    -- by its form
    pub StatementFormHas : StmtForm → Type 0
    StatementFormHas (assign_form d value) = DesignatorHas d × ExprHas value
    StatementFormHas (call_statement d args) = DesignatorHas d × ExprsHave args
    StatementFormHas (if_form arms other) = IfArmsHave arms × StatementsHave other
    StatementFormHas (loop_form body) = StatementsHave body
    StatementFormHas exit_form = Unit {0}
    StatementFormHas (case_form value arms other) = ExprHas value × CaseArmsHave arms × CaseElseHas other
    StatementFormHas (while_form test body) = ExprHas test × StatementsHave body
    StatementFormHas (repeat_form body test) = StatementsHave body × ExprHas test
    StatementFormHas (for_form i low high by body) =
        NameHas i × ExprHas low × ExprHas high × ExprOptionHas by × StatementsHave body
    StatementFormHas (with_form d body) = DesignatorHas d × StatementsHave body
    StatementFormHas (return_form value) = ExprOptionHas value
    StatementFormHas empty_form = Unit {0}

    -- statements
    pub StatementsHave : Statements → Type 0
    StatementsHave no_statements = Unit {0}
    StatementsHave (more_statements s ss) = StatementHas s × StatementsHave ss

    -- the arms of an IF
    pub IfArmsHave : IfArms → Type 0
    IfArmsHave no_if_arms = Unit {0}
    IfArmsHave (more_if_arms a arms) = IfArmHas a × IfArmsHave arms

    -- an arm of an IF: its test and its statements
    pub IfArmHas : IfArm → Type 0
    IfArmHas (if_arm test body) = ExprHas test × StatementsHave body

    -- the arms of a CASE
    pub CaseArmsHave : CaseArms → Type 0
    CaseArmsHave no_case_arms = Unit {0}
    CaseArmsHave (more_case_arms a arms) = CaseArmHas a × CaseArmsHave arms

    -- an arm of a CASE: its labels and its statements
    pub CaseArmHas : CaseArm → Type 0
    CaseArmHas (case_arm labels body) = LabelsHave labels × StatementsHave body

    -- the statements after ELSE of a CASE, if it has one
    pub CaseElseHas : CaseElse → Type 0
    CaseElseHas no_case_else = Unit {0}
    CaseElseHas (case_else body) = StatementsHave body

  -- the tree of a block: its items, its name where it has one, its statements, and its closing name
  pub record StreamHas (s : Stream) : Type 0 where
    pub items : Each ItemHas (items_of s)
    pub name : NameOptionHas s.name
    pub body : StatementsHave s.body
    pub close : NameHas s.close

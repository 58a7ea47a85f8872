-- What every leaf has every tree has.
use Rattle.std.specs.Prelude.{List, Option, Some, None}
use Rattle.m2_base.specs.Statics.Items.{Item, const_item, heading_item, import_item, items_of, proc_item, type_item, vars_item}
use Rattle.m2_base.specs.Statics.Leaves.{Leaf, token_leaf, name_leaf, number_leaf, character_leaf, string_leaf, stream_leaf, ArmHas, ArmsHave, CaseArmHas, CaseArmsHave, CaseElseHas, DesignatorHas, ExprHas, ExprOptionHas, ExprsHave, FieldHas, FieldsHave, FormHas, FormalsHave, HeadingHas, IfArmHas, IfArmsHave, ItemHas, LabelHas, LabelsHave, NameHas, NameOptionHas, NamesHave, NextHas, NextsHave, QualHas, QualOptionHas, SectionHas, SelectorHas, SelectorsHave, StatementFormHas, StatementHas, StatementsHave, StreamHas, TypeFormHas, TypeHas, TypeOptionHas, TypesHave}
use Rattle.m2_base.specs.Trees.{CaseArm, CaseArms, CaseElse, Designator, Expr, ExprForm, Exprs, FieldList, FieldLists, Heading, IfArm, IfArms, Label, Labels, Next, Nexts, Section, Selector, Selectors, Statement, Statements, StmtForm, Stream, TypeExpr, TypeExprs, TypeForm, VariantArm, VariantArms, array_type, assign_form, call_form, call_statement, case_arm, case_else, case_fields, case_form, char_form, deref_selector, designator, empty_form, enum_type, exit_form, expr, field_selector, for_form, if_arm, if_form, index_selector, loop_form, many_form, more_case_arms, more_exprs, more_fields, more_if_arms, more_labels, more_nexts, more_selectors, more_statements, more_types, more_variant_arms, name_form, named_type, next, no_case_arms, no_case_else, no_exprs, no_fields, no_if_arms, no_labels, no_nexts, no_selectors, no_statements, no_types, no_variant_arms, number_form, one_form, one_label, plain_fields, pointer_type, proc_type, range_label, record_type, repeat_form, return_form, set_form, set_type, statement, string_form, sub_type, type_expr, typed_set_form, variant_arm, while_form, with_form}
use Rattle.m2_base.specs.declared.trees.Ident.{Ident}
use Rattle.m2_base.specs.declared.trees.Qual.{Qual}
use Rattle.m2_base.specs.declared.trees.types.Formal.{Formal}
use Rattle.m2_base.proofs.EachLaws.{each_all}

module _ (P : Leaf → Type 0) (all : (leaf : Leaf) → P leaf) where
  -- ** Expressions

  mutual
    expr_all : (e : Expr) → ExprHas P e
    expr_all (expr at form) = (all (token_leaf at), form_all form)

    form_all : (f : ExprForm) → FormHas P f
    form_all (number_form v) = all (number_leaf v)
    form_all (char_form v) = all (character_leaf v)
    form_all (string_form v) = all (string_leaf v)
    form_all (set_form items) = labels_all items
    form_all (typed_set_form d items) = (designator_all d, labels_all items)
    form_all (name_form d) = designator_all d
    form_all (call_form d args) = (designator_all d, exprs_all args)
    form_all (one_form op op_at e) = (all (token_leaf op_at), expr_all e)
    form_all (many_form first rest) = (expr_all first, nexts_all rest)

    exprs_all : (es : Exprs) → ExprsHave P es
    exprs_all no_exprs = tt
    exprs_all (more_exprs e es) = (expr_all e, exprs_all es)

    nexts_all : (xs : Nexts) → NextsHave P xs
    nexts_all no_nexts = tt
    nexts_all (more_nexts x xs) = (next_all x, nexts_all xs)

    next_all : (x : Next) → NextHas P x
    next_all (next op op_at e) = (all (token_leaf op_at), expr_all e)

    labels_all : (ls : Labels) → LabelsHave P ls
    labels_all no_labels = tt
    labels_all (more_labels l ls) = (label_all l, labels_all ls)

    label_all : (l : Label) → LabelHas P l
    label_all (one_label e) = expr_all e
    label_all (range_label low high) = (expr_all low, expr_all high)

    designator_all : (d : Designator) → DesignatorHas P d
    designator_all (designator first rest) = (all (name_leaf first), selectors_all rest)

    selectors_all : (ss : Selectors) → SelectorsHave P ss
    selectors_all no_selectors = tt
    selectors_all (more_selectors s ss) = (selector_all s, selectors_all ss)

    selector_all : (s : Selector) → SelectorHas P s
    selector_all (field_selector i dot) = (all (name_leaf i), all (token_leaf dot))
    selector_all (index_selector es bracket) = (exprs_all es, all (token_leaf bracket))
    selector_all (deref_selector caret) = all (token_leaf caret)

  -- ** Types

  option_all : (o : Option Ident) → NameOptionHas P o
  option_all None = tt
  option_all (Some i) = all (name_leaf i)

  names_all : (idents : List Ident) → NamesHave P idents
  names_all idents = each_all (NameHas P) idents (λ i. all (name_leaf i))

  qual_all : (q : Qual) → QualHas P q
  qual_all q = record { first = all (name_leaf q.first); second = option_all q.second }

  qual_option_all : (o : Option Qual) → QualOptionHas P o
  qual_option_all None = tt
  qual_option_all (Some q) = qual_all q

  formals_all : (formals : List Formal) → FormalsHave P formals
  formals_all formals = each_all (λ f. QualHas P f.of) formals (λ f. qual_all f.of)

  mutual
    type_all : (t : TypeExpr) → TypeHas P t
    type_all (type_expr at form) = (all (token_leaf at), type_form_all form)

    type_form_all : (f : TypeForm) → TypeFormHas P f
    type_form_all (named_type q) = qual_all q
    type_form_all (enum_type idents) = names_all idents
    type_form_all (sub_type base low high) = (qual_option_all base, expr_all low, expr_all high)
    type_form_all (array_type index of) = (types_all index, type_all of)
    type_form_all (record_type fields) = fields_all fields
    type_form_all (set_type of) = type_all of
    type_form_all (pointer_type of) = type_all of
    type_form_all (proc_type formals result) = (formals_all formals, qual_option_all result)

    types_all : (ts : TypeExprs) → TypesHave P ts
    types_all no_types = tt
    types_all (more_types t ts) = (type_all t, types_all ts)

    fields_all : (fs : FieldLists) → FieldsHave P fs
    fields_all no_fields = tt
    fields_all (more_fields f fs) = (field_all f, fields_all fs)

    field_all : (f : FieldList) → FieldHas P f
    field_all (plain_fields idents t) = (names_all idents, type_all t)
    field_all (case_fields tag of arms other) = (option_all tag, qual_all of, arms_all arms, fields_all other)

    arms_all : (arms : VariantArms) → ArmsHave P arms
    arms_all no_variant_arms = tt
    arms_all (more_variant_arms a arms) = (arm_all a, arms_all arms)

    arm_all : (a : VariantArm) → ArmHas P a
    arm_all (variant_arm labels fields) = (labels_all labels, fields_all fields)

  -- ** Items

  type_option_all : (o : Option TypeExpr) → TypeOptionHas P o
  type_option_all None = tt
  type_option_all (Some t) = type_all t

  section_all : (s : Section) → SectionHas P s
  section_all s = record { idents = names_all s.names; of = qual_all s.of }

  heading_all : (h : Heading) → HeadingHas P h
  heading_all h =
      record {
        name = all (name_leaf h.name);
        sections = each_all (SectionHas P) h.sections section_all;
        result = qual_option_all h.result;
      }

  item_all : (x : Item) → ItemHas P x
  item_all (heading_item h) = heading_all h
  item_all (import_item from i) = (option_all from, all (name_leaf i))
  item_all (const_item i e) = (all (name_leaf i), expr_all e)
  item_all (type_item i t) = (all (name_leaf i), type_option_all t)
  item_all (vars_item idents t) = (names_all idents, type_all t)
  item_all (proc_item h stream) = (heading_all h, all (stream_leaf stream))

  -- ** Statements

  expr_option_all : (o : Option Expr) → ExprOptionHas P o
  expr_option_all None = tt
  expr_option_all (Some e) = expr_all e

  mutual
    statement_all : (s : Statement) → StatementHas P s
    statement_all (statement at form) = (all (token_leaf at), statement_form_all form)

    statement_form_all : (f : StmtForm) → StatementFormHas P f
    statement_form_all (assign_form d e) = (designator_all d, expr_all e)
    statement_form_all (call_statement d args) = (designator_all d, exprs_all args)
    statement_form_all (if_form arms other) = (if_arms_all arms, statements_all other)
    statement_form_all (loop_form body) = statements_all body
    statement_form_all exit_form = tt
    statement_form_all (case_form e arms other) = (expr_all e, case_arms_all arms, case_else_all other)
    statement_form_all (while_form e body) = (expr_all e, statements_all body)
    statement_form_all (repeat_form body e) = (statements_all body, expr_all e)
    statement_form_all (for_form i first last by body) = (all (name_leaf i), expr_all first, expr_all last, expr_option_all by, statements_all body)
    statement_form_all (with_form d body) = (designator_all d, statements_all body)
    statement_form_all (return_form e) = expr_option_all e
    statement_form_all empty_form = tt

    statements_all : (ss : Statements) → StatementsHave P ss
    statements_all no_statements = tt
    statements_all (more_statements s ss) = (statement_all s, statements_all ss)

    if_arms_all : (arms : IfArms) → IfArmsHave P arms
    if_arms_all no_if_arms = tt
    if_arms_all (more_if_arms a arms) = (if_arm_all a, if_arms_all arms)

    if_arm_all : (a : IfArm) → IfArmHas P a
    if_arm_all (if_arm e body) = (expr_all e, statements_all body)

    case_arms_all : (arms : CaseArms) → CaseArmsHave P arms
    case_arms_all no_case_arms = tt
    case_arms_all (more_case_arms a arms) = (case_arm_all a, case_arms_all arms)

    case_arm_all : (a : CaseArm) → CaseArmHas P a
    case_arm_all (case_arm labels body) = (labels_all labels, statements_all body)

    case_else_all : (other : CaseElse) → CaseElseHas P other
    case_else_all no_case_else = tt
    case_else_all (case_else body) = statements_all body

  pub stream_all : (s : Stream) → StreamHas P s
  stream_all s = record { items = each_all (ItemHas P) (items_of s) item_all; name = option_all s.name; body = statements_all s.body; close = all (name_leaf s.close) }

-- Trees whose leaves are as tokens were read are as read, and so are the items and the statements of streams over such tokens.
use Rattle.std.specs.Prelude.{ℕ, ◌<◌, ◌^◌, List, Option, Some, None}
use Rattle.std.proofs.Common.{arith}
use Rattle.ll_grammar.specs.Texts as texts
use Rattle.m2_base.specs.Grammar as rules
use Rattle.m2_base.specs.Grammar.{grammar, levels}
use Rattle.m2_base.specs.Lists.{Each}
use Rattle.m2_base.specs.Statics.Items.{Item, const_item, heading_item, import_item, items_of, proc_item, type_item, vars_item}
use Rattle.m2_base.specs.Statics.Leaves.{Leaf, token_leaf, name_leaf, number_leaf, character_leaf, string_leaf, stream_leaf, ArmHas, ArmsHave, CaseArmHas, CaseArmsHave, CaseElseHas, DesignatorHas, ExprHas, ExprOptionHas, ExprsHave, FieldHas, FieldsHave, FormHas, FormalsHave, HeadingHas, IfArmHas, IfArmsHave, ItemHas, LabelHas, LabelsHave, NameOptionHas, NextHas, NextsHave, QualHas, QualOptionHas, SectionHas, SelectorHas, SelectorsHave, StatementFormHas, StatementHas, StatementsHave, StreamHas, TypeFormHas, TypeHas, TypeOptionHas, TypesHave}
use Rattle.m2_base.specs.Statics.ReadStatements.{AreReadCaseArms, AreReadIfArms, AreReadStatements, IsReadCaseArm, IsReadCaseElse, IsReadExprOption, IsReadIfArm, IsReadStatement, IsReadStmtForm}
use Rattle.m2_base.specs.Statics.ReadTrees.{AreReadArms, AreReadExprs, AreReadFields, AreReadFormals, AreReadLabels, AreReadNexts, AreReadSelectors, AreReadTypes, IsReadArm, IsReadDesignator, IsReadExpr, IsReadField, IsReadForm, IsReadHeading, IsReadItem, IsReadLabel, IsReadName, IsReadNext, IsReadOption, IsReadQual, IsReadQualOption, IsReadSection, IsReadSelector, IsReadString, IsReadToken, IsReadType, IsReadTypeForm, IsReadTypeOption}
use Rattle.m2_base.specs.StreamsOf as streams
use Rattle.m2_base.specs.Trees.{CaseArm, CaseArms, CaseElse, Designator, Expr, ExprForm, Exprs, FieldList, FieldLists, Heading, Ident, IfArm, IfArms, Label, Labels, Next, Nexts, Qual, Section, Selector, Selectors, Statement, Statements, StmtForm, Stream, StreamKind, TypeExpr, TypeExprs, TypeForm, VariantArm, VariantArms, array_type, assign_form, call_form, call_statement, case_arm, case_else, case_fields, case_form, char_form, deref_selector, designator, empty_form, enum_type, exit_form, expr, field_selector, for_form, if_arm, if_form, index_selector, loop_form, many_form, more_case_arms, more_exprs, more_fields, more_if_arms, more_labels, more_nexts, more_selectors, more_statements, more_types, more_variant_arms, name_form, named_type, next, no_case_arms, no_case_else, no_exprs, no_fields, no_if_arms, no_labels, no_nexts, no_selectors, no_statements, no_types, no_variant_arms, number_form, one_form, one_label, plain_fields, pointer_type, proc_type, range_label, record_type, repeat_form, return_form, set_form, set_type, statement, string_form, sub_type, type_expr, typed_set_form, variant_arm, while_form, with_form}
use Rattle.m2_base.specs.declared.token.Token.{Token}
use Rattle.m2_base.specs.declared.trees.types.Formal.{Formal}
use Rattle.m2_base.proofs.EachLaws.{each_then}
use Rattle.m2_base.proofs.LeafExpressions.{TokenHas}
use Rattle.m2_base.proofs.LeafStreams.{streams_leaves}

module _ (names : List (List ℕ)) where
  -- a leaf that was read
  abbrev pub IsReadLeaf : Leaf → Type 0
  IsReadLeaf (token_leaf at) = Unit {0}
  IsReadLeaf (name_leaf i) = IsReadName names i
  IsReadLeaf (number_leaf v) = v < 2 ^ 32
  IsReadLeaf (character_leaf v) = v < 256
  IsReadLeaf (string_leaf v) = IsReadString names v
  IsReadLeaf (stream_leaf v) = v < 2 ^ 32

  token_read : (t : Token) → IsReadToken names t → TokenHas IsReadLeaf t
  token_read t r = record { place = tt; name = r.name; number = r.number; character = r.character; text = r.text; cut = r.cut }

  -- ** Expressions

  mutual
    expr_read : (e : Expr) → ExprHas IsReadLeaf e → IsReadExpr names e
    expr_read (expr at form) h = form_read form h.1

    form_read : (f : ExprForm) → FormHas IsReadLeaf f → IsReadForm names f
    form_read (number_form v) h = h
    form_read (char_form v) h = h
    form_read (string_form v) h = h
    form_read (set_form items) h = labels_read items h
    form_read (typed_set_form d items) h = (designator_read d h.0, labels_read items h.1)
    form_read (name_form d) h = designator_read d h
    form_read (call_form d args) h = (designator_read d h.0, exprs_read args h.1)
    form_read (one_form op op_at e) h = expr_read e h.1
    form_read (many_form first rest) h = (expr_read first h.0, nexts_read rest h.1)

    exprs_read : (es : Exprs) → ExprsHave IsReadLeaf es → AreReadExprs names es
    exprs_read no_exprs h = tt
    exprs_read (more_exprs e es) h = (expr_read e h.0, exprs_read es h.1)

    nexts_read : (xs : Nexts) → NextsHave IsReadLeaf xs → AreReadNexts names xs
    nexts_read no_nexts h = tt
    nexts_read (more_nexts x xs) h = (next_read x h.0, nexts_read xs h.1)

    next_read : (x : Next) → NextHas IsReadLeaf x → IsReadNext names x
    next_read (next op op_at e) h = expr_read e h.1

    labels_read : (ls : Labels) → LabelsHave IsReadLeaf ls → AreReadLabels names ls
    labels_read no_labels h = tt
    labels_read (more_labels l ls) h = (label_read l h.0, labels_read ls h.1)

    label_read : (l : Label) → LabelHas IsReadLeaf l → IsReadLabel names l
    label_read (one_label e) h = expr_read e h
    label_read (range_label low high) h = (expr_read low h.0, expr_read high h.1)

    designator_read : (d : Designator) → DesignatorHas IsReadLeaf d → IsReadDesignator names d
    designator_read (designator first rest) h = (h.0.some, selectors_read rest h.1)

    selectors_read : (ss : Selectors) → SelectorsHave IsReadLeaf ss → AreReadSelectors names ss
    selectors_read no_selectors h = tt
    selectors_read (more_selectors s ss) h = (selector_read s h.0, selectors_read ss h.1)

    selector_read : (s : Selector) → SelectorHas IsReadLeaf s → IsReadSelector names s
    selector_read (field_selector i dot) h = h.0.some
    selector_read (index_selector es bracket) h = exprs_read es h.0
    selector_read (deref_selector caret) h = tt

  -- ** Types

  name_option_read : (o : Option Ident) → NameOptionHas IsReadLeaf o → IsReadOption names o
  name_option_read None h = tt
  name_option_read (Some i) h = h

  qual_read : (q : Qual) → QualHas IsReadLeaf q → IsReadQual names q
  qual_read q h = record { first = h.first; second = name_option_read q.second h.second }

  qual_option_read : (o : Option Qual) → QualOptionHas IsReadLeaf o → IsReadQualOption names o
  qual_option_read None h = tt
  qual_option_read (Some q) h = qual_read q h

  formals_read : (formals : List Formal) → FormalsHave IsReadLeaf formals → AreReadFormals names formals
  formals_read formals h = each_then (λ f. QualHas IsReadLeaf f.of) (λ f. IsReadQual names f.of) formals (λ f k. qual_read f.of k) h

  mutual
    type_read : (t : TypeExpr) → TypeHas IsReadLeaf t → IsReadType names t
    type_read (type_expr at form) h = type_form_read form h.1

    type_form_read : (f : TypeForm) → TypeFormHas IsReadLeaf f → IsReadTypeForm names f
    type_form_read (named_type q) h = qual_read q h
    type_form_read (enum_type idents) h = h
    type_form_read (sub_type base low high) h = (qual_option_read base h.0, expr_read low h.1, expr_read high h.2)
    type_form_read (array_type index of) h = (types_read index h.0, type_read of h.1)
    type_form_read (record_type fields) h = fields_read fields h
    type_form_read (set_type of) h = type_read of h
    type_form_read (pointer_type of) h = type_read of h
    type_form_read (proc_type formals result) h = (formals_read formals h.0, qual_option_read result h.1)

    types_read : (ts : TypeExprs) → TypesHave IsReadLeaf ts → AreReadTypes names ts
    types_read no_types h = tt
    types_read (more_types t ts) h = (type_read t h.0, types_read ts h.1)

    fields_read : (fs : FieldLists) → FieldsHave IsReadLeaf fs → AreReadFields names fs
    fields_read no_fields h = tt
    fields_read (more_fields f fs) h = (field_read f h.0, fields_read fs h.1)

    field_read : (f : FieldList) → FieldHas IsReadLeaf f → IsReadField names f
    field_read (plain_fields idents t) h = (h.0, type_read t h.1)
    field_read (case_fields tag of arms other) h = (name_option_read tag h.0, qual_read of h.1, arms_read arms h.2, fields_read other h.3)

    arms_read : (arms : VariantArms) → ArmsHave IsReadLeaf arms → AreReadArms names arms
    arms_read no_variant_arms h = tt
    arms_read (more_variant_arms a arms) h = (arm_read a h.0, arms_read arms h.1)

    arm_read : (a : VariantArm) → ArmHas IsReadLeaf a → IsReadArm names a
    arm_read (variant_arm labels fields) h = (labels_read labels h.0, fields_read fields h.1)

  -- ** Items

  type_option_read : (o : Option TypeExpr) → TypeOptionHas IsReadLeaf o → IsReadTypeOption names o
  type_option_read None h = tt
  type_option_read (Some t) h = type_read t h

  section_read : (s : Section) → SectionHas IsReadLeaf s → IsReadSection names s
  section_read s h = record { idents = h.idents; of = qual_read s.of h.of }

  heading_read : (h : Heading) → HeadingHas IsReadLeaf h → IsReadHeading names h
  heading_read h k =
      record {
        name = k.name;
        sections = each_then (SectionHas IsReadLeaf) (IsReadSection names) h.sections section_read k.sections;
        result = qual_option_read h.result k.result;
      }

  item_read : (x : Item) → ItemHas IsReadLeaf x → IsReadItem names x
  item_read (heading_item h) k = heading_read h k
  item_read (import_item from i) k = (name_option_read from k.0, k.1)
  item_read (const_item i e) k = (k.0, expr_read e k.1)
  item_read (type_item i t) k = (k.0, type_option_read t k.1)
  item_read (vars_item idents t) k = (k.0, type_read t k.1)
  item_read (proc_item h stream) k = (heading_read h k.0, k.1)

  -- ** Statements

  expr_option_read : (o : Option Expr) → ExprOptionHas IsReadLeaf o → IsReadExprOption names o
  expr_option_read None h = tt
  expr_option_read (Some e) h = expr_read e h

  mutual
    statement_read : (s : Statement) → StatementHas IsReadLeaf s → IsReadStatement names s
    statement_read (statement at form) h = statement_form_read form h.1

    statement_form_read : (f : StmtForm) → StatementFormHas IsReadLeaf f → IsReadStmtForm names f
    statement_form_read (assign_form d e) h = (designator_read d h.0, expr_read e h.1)
    statement_form_read (call_statement d args) h = (designator_read d h.0, exprs_read args h.1)
    statement_form_read (if_form arms other) h = (if_arms_read arms h.0, statements_read other h.1)
    statement_form_read (loop_form body) h = statements_read body h
    statement_form_read exit_form h = tt
    statement_form_read (case_form e arms other) h = (expr_read e h.0, case_arms_read arms h.1, case_else_read other h.2)
    statement_form_read (while_form e body) h = (expr_read e h.0, statements_read body h.1)
    statement_form_read (repeat_form body e) h = (statements_read body h.0, expr_read e h.1)
    statement_form_read (for_form i first last by body) h = (h.0.some, expr_read first h.1, expr_read last h.2, expr_option_read by h.3, statements_read body h.4)
    statement_form_read (with_form d body) h = (designator_read d h.0, statements_read body h.1)
    statement_form_read (return_form e) h = expr_option_read e h
    statement_form_read empty_form h = tt

    statements_read : (ss : Statements) → StatementsHave IsReadLeaf ss → AreReadStatements names ss
    statements_read no_statements h = tt
    statements_read (more_statements s ss) h = (statement_read s h.0, statements_read ss h.1)

    if_arms_read : (arms : IfArms) → IfArmsHave IsReadLeaf arms → AreReadIfArms names arms
    if_arms_read no_if_arms h = tt
    if_arms_read (more_if_arms a arms) h = (if_arm_read a h.0, if_arms_read arms h.1)

    if_arm_read : (a : IfArm) → IfArmHas IsReadLeaf a → IsReadIfArm names a
    if_arm_read (if_arm e body) h = (expr_read e h.0, statements_read body h.1)

    case_arms_read : (arms : CaseArms) → CaseArmsHave IsReadLeaf arms → AreReadCaseArms names arms
    case_arms_read no_case_arms h = tt
    case_arms_read (more_case_arms a arms) h = (case_arm_read a h.0, case_arms_read arms h.1)

    case_arm_read : (a : CaseArm) → CaseArmHas IsReadLeaf a → IsReadCaseArm names a
    case_arm_read (case_arm labels body) h = (labels_read labels h.0, statements_read body h.1)

    case_else_read : (other : CaseElse) → CaseElseHas IsReadLeaf other → IsReadCaseElse names other
    case_else_read no_case_else h = tt
    case_else_read (case_else body) h = statements_read body h

  -- ** Streams

  leaves_read : (kind : StreamKind) (tree : Stream) (ts : List Token) → texts.Spells grammar levels (rules.stream kind) (streams.stream_of kind) tree ts → Each (IsReadToken names) ts → StreamHas IsReadLeaf tree
  leaves_read kind tree ts spelled h = streams_leaves IsReadLeaf (omega arith) kind tree ts spelled (each_then (IsReadToken names) (TokenHas IsReadLeaf) ts token_read h)

  pub items_are_read : (kind : StreamKind) (tree : Stream) (ts : List Token) → texts.Spells grammar levels (rules.stream kind) (streams.stream_of kind) tree ts → Each (IsReadToken names) ts → Each (IsReadItem names) (items_of tree)
  items_are_read kind tree ts spelled h = each_then (ItemHas IsReadLeaf) (IsReadItem names) (items_of tree) item_read (leaves_read kind tree ts spelled h).items

  pub statements_are_read : (kind : StreamKind) (tree : Stream) (ts : List Token) → texts.Spells grammar levels (rules.stream kind) (streams.stream_of kind) tree ts → Each (IsReadToken names) ts → AreReadStatements names tree.body
  statements_are_read kind tree ts spelled h = statements_read tree.body (leaves_read kind tree ts spelled h).body

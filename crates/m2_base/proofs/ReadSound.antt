-- What is as read is sound.
use Rattle.std.specs.Prelude.{ℕ, List, [], ◌∷◌, length, Option, Some, None}
use Rattle.m2_base.specs.Lists.{Each}
use Rattle.m2_base.specs.Statics.Items.{Item, const_item, heading_item, import_item, proc_item, type_item, vars_item}
use Rattle.m2_base.specs.Statics.ReadTrees.{AreReadArms, AreReadExprs, AreReadFields, AreReadNames, AreReadLabels, AreReadNexts, AreReadTypes, IsReadArm, IsReadExpr, IsReadField, IsReadForm, IsReadOption, IsReadItem, IsReadLabel, IsReadNext, IsReadTypeOption, IsReadSection, IsReadType, IsReadTypeForm}
use Rattle.m2_base.specs.Statics.SoundTrees.{AreSoundArms, AreSoundExprs, AreSoundFields, AreSoundLabels, AreSoundNames, AreSoundNexts, AreSoundSections, AreSoundTypes, IsSoundArm, IsSoundExpr, IsSoundField, IsSoundForm, IsSoundItem, IsSoundLabel, IsSoundNext, IsSoundOption, IsSoundTag, IsSoundType, IsSoundTypeForm}
use Rattle.m2_base.specs.Trees.{Expr, ExprForm, Exprs, FieldList, FieldLists, Ident, Label, Labels, Next, Nexts, Section, TypeExpr, TypeExprs, TypeForm, VariantArm, VariantArms, array_type, call_form, case_fields, char_form, enum_type, expr, many_form, more_exprs, more_fields, more_labels, more_nexts, more_types, more_variant_arms, name_form, named_type, next, no_exprs, no_fields, no_labels, no_nexts, no_types, no_variant_arms, number_form, one_form, one_label, plain_fields, pointer_type, proc_type, range_label, record_type, set_form, set_type, string_form, sub_type, type_expr, typed_set_form, variant_arm}

module _ (names : List (List ℕ)) where
  mutual
    expr_sound : (e : Expr) → IsReadExpr names e → IsSoundExpr (length names) e
    expr_sound (expr at form) r = form_sound form r

    form_sound : (f : ExprForm) → IsReadForm names f → IsSoundForm (length names) f
    form_sound (number_form n) r = r
    form_sound (char_form n) r = r
    form_sound (string_form n) r = r.0
    form_sound (set_form items) r = labels_sound items r
    form_sound (typed_set_form d items) r = labels_sound items r.1
    form_sound (name_form d) r = tt
    form_sound (call_form d args) r = exprs_sound args r.1
    form_sound (one_form op op_at e) r = expr_sound e r
    form_sound (many_form first rest) r = (expr_sound first r.0, nexts_sound rest r.1)

    exprs_sound : (es : Exprs) → AreReadExprs names es → AreSoundExprs (length names) es
    exprs_sound no_exprs r = tt
    exprs_sound (more_exprs e es) r = (expr_sound e r.0, exprs_sound es r.1)

    nexts_sound : (ns : Nexts) → AreReadNexts names ns → AreSoundNexts (length names) ns
    nexts_sound no_nexts r = tt
    nexts_sound (more_nexts n ns) r = (next_sound n r.0, nexts_sound ns r.1)

    next_sound : (n : Next) → IsReadNext names n → IsSoundNext (length names) n
    next_sound (next op op_at e) r = expr_sound e r

    labels_sound : (ls : Labels) → AreReadLabels names ls → AreSoundLabels (length names) ls
    labels_sound no_labels r = tt
    labels_sound (more_labels l ls) r = (label_sound l r.0, labels_sound ls r.1)

    label_sound : (l : Label) → IsReadLabel names l → IsSoundLabel (length names) l
    label_sound (one_label e) r = expr_sound e r
    label_sound (range_label low high) r = (expr_sound low r.0, expr_sound high r.1)

  idents_sound : (is : List Ident) → AreReadNames names is → AreSoundNames (length names) is
  idents_sound [] r = tt
  idents_sound (i ∷ is) r = (r.0.known, idents_sound is r.1)

  tag_sound : (tag : Option Ident) → IsReadOption names tag → IsSoundTag (length names) tag
  tag_sound None r = tt
  tag_sound (Some i) r = r.known

  mutual
    type_sound : (t : TypeExpr) → IsReadType names t → IsSoundType (length names) t
    type_sound (type_expr at form) r = type_form_sound form r

    type_form_sound : (f : TypeForm) → IsReadTypeForm names f → IsSoundTypeForm (length names) f
    type_form_sound (named_type q) r = tt
    type_form_sound (enum_type idents) r = idents_sound idents r
    type_form_sound (sub_type base low high) r = (expr_sound low r.1, expr_sound high r.2)
    type_form_sound (array_type index of) r = (types_sound index r.0, type_sound of r.1)
    type_form_sound (record_type fields) r = fields_sound fields r
    type_form_sound (set_type of) r = type_sound of r
    type_form_sound (pointer_type of) r = type_sound of r
    type_form_sound (proc_type formals result) r = tt

    types_sound : (ts : TypeExprs) → AreReadTypes names ts → AreSoundTypes (length names) ts
    types_sound no_types r = tt
    types_sound (more_types t ts) r = (type_sound t r.0, types_sound ts r.1)

    fields_sound : (fs : FieldLists) → AreReadFields names fs → AreSoundFields (length names) fs
    fields_sound no_fields r = tt
    fields_sound (more_fields f fs) r = (field_sound f r.0, fields_sound fs r.1)

    field_sound : (f : FieldList) → IsReadField names f → IsSoundField (length names) f
    field_sound (plain_fields idents t) r = (idents_sound idents r.0, type_sound t r.1)
    field_sound (case_fields tag of arms other) r = (tag_sound tag r.0, arms_sound arms r.2, fields_sound other r.3)

    arms_sound : (vs : VariantArms) → AreReadArms names vs → AreSoundArms (length names) vs
    arms_sound no_variant_arms r = tt
    arms_sound (more_variant_arms a arms) r = (arm_sound a r.0, arms_sound arms r.1)

    arm_sound : (a : VariantArm) → IsReadArm names a → IsSoundArm (length names) a
    arm_sound (variant_arm ls fields) r = fields_sound fields r.1

  option_sound : (t : Option TypeExpr) → IsReadTypeOption names t → IsSoundOption (length names) t
  option_sound None r = tt
  option_sound (Some t) r = type_sound t r

  sections_sound : (ss : List Section) → Each (IsReadSection names) ss → AreSoundSections (length names) ss
  sections_sound [] r = tt
  sections_sound (s ∷ ss) r = (idents_sound s.names r.0.idents, sections_sound ss r.1)

  pub item_sound : (x : Item) → IsReadItem names x → IsSoundItem (length names) x
  item_sound (heading_item h) r = sections_sound h.sections r.sections
  item_sound (import_item from i) r = r.1.known
  item_sound (const_item i e) r = (r.0.known, expr_sound e r.1)
  item_sound (type_item i t) r = (r.0.known, option_sound t r.1)
  item_sound (vars_item idents t) r = (idents_sound idents r.0, type_sound t r.1)
  item_sound (proc_item h stream) r = (r.0.name.known, sections_sound h.sections r.0.sections, r.1)

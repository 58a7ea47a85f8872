-- The rows that a block declares stand at tokens that its tree names.
use Rattle.std.specs.Prelude.{if◌then◌else◌, ℕ, ◌+◌, Bool, true, false, List, [], ◌∷◌, ◌++◌, flat_map, length, map, Option, Some, None, unwrap_or}
use Rattle.std.proofs.Common.{subst, sym}
use Rattle.m2_base.specs.Lists.{Each}
use Rattle.m2_base.specs.declared.rows.Row.{Row}
use Rattle.m2_base.specs.Rows.{const_kind, field_kind, param_kind, var_kind}
use Rattle.m2_base.specs.Statics.BlockRows.{at_item, brought_in, context_of, declare_block, declare_items, first_cell, scene_of}
use Rattle.m2_base.specs.Statics.Blocks.{BlockTree}
use Rattle.m2_base.specs.Statics.Contexts.{Context, Source, scope_of_module}
use Rattle.m2_base.specs.declared.sites.Named.{Named}
use Rattle.m2_base.specs.Statics.Declarations.{declare}
use Rattle.m2_base.specs.Statics.ImportedConstants.{Member, are_too_many, brings, brought_names, members_of, new_members}
use Rattle.m2_base.specs.Statics.ImportRows.{alias_row, place_or_broken}
use Rattle.m2_base.specs.Statics.Items.{Item, const_item, heading_item, import_item, items_of, proc_item, type_item, vars_item}
use Rattle.m2_base.specs.Statics.Layouts.{brought_shape, laid_shapes, with_brought}
use Rattle.m2_base.specs.Statics.Makes.{Makes, own_rows, with_rows}
use Rattle.m2_base.specs.Statics.ShapedRows.{AreShaped, more_of, none_of}
use Rattle.m2_base.specs.Statics.Shapes.{Shape, arm_shapes, arms_shapes, array_shapes, field_shapes, fields_shapes, form_shapes, formal_shapes, item_shapes, named, nameless, open_shapes, own_section_shapes, section_shapes, tag_shapes, type_item_shapes, type_shapes, types_shapes}
use Rattle.m2_base.specs.Statics.Leaves.{ArmHas, ArmsHave, FieldHas, FieldsHave, FormalsHave, ItemHas, NameOptionHas, NamesHave, QualHas, SectionHas, StreamHas, TypeFormHas, TypeHas, TypeOptionHas, TypesHave}
use Rattle.m2_base.specs.Statics.StandingTrees.{Stands}
use Rattle.m2_base.specs.Statics.Uses.{use_of}
use Rattle.m2_base.specs.Trees.{FieldList, FieldLists, Section, TypeExpr, TypeExprs, TypeForm, VariantArm, VariantArms, array_type, case_fields, enum_type, more_fields, more_types, more_variant_arms, named_type, no_fields, no_types, no_variant_arms, plain_fields, pointer_type, proc_type, record_type, set_type, sub_type, type_expr, variant_arm}
use Rattle.m2_base.specs.declared.trees.types.Formal.{Formal}
use Rattle.m2_base.specs.declared.trees.Ident.{Ident}
use Rattle.m2_base.specs.declared.trees.Qual.{Qual}
use Rattle.m2_base.specs.declared.trees.declarations.StreamKind.{StreamKind}
use Rattle.m2_base.proofs.EachLaws.{each_append}
use Rattle.m2_base.proofs.LayoutLaws.{block_shaped}

module _ (Here : ℕ → Type 0) where
  -- shapes that stand here
  abbrev AreHere : List Shape → Type 0
  AreHere shapes = Each (λ (s : Shape). Here s.at) shapes

  join : (ss ts : List Shape) → AreHere ss → AreHere ts → AreHere (ss ++ ts)
  join ss ts h k = each_append (λ (s : Shape). Here s.at) ss ts h k

  -- ** Shapes

  names_here : (k : ℕ) (idents : List Ident) → NamesHave (Stands Here) idents → AreHere (map (named k) idents)
  names_here k [] h = tt
  names_here k (i ∷ idents) h = (h.0, names_here k idents h.1)

  nameless_here : (k : ℕ) (idents : List Ident) → NamesHave (Stands Here) idents → AreHere (map (λ i. nameless k i.at) idents)
  nameless_here k [] h = tt
  nameless_here k (i ∷ idents) h = (h.0, nameless_here k idents h.1)

  open_here : (is_open : Bool) (q : Qual) → QualHas (Stands Here) q → AreHere (open_shapes is_open q)
  open_here true q h = (h.first, tt)
  open_here false q h = tt

  formals_here : (formals : List Formal) → FormalsHave (Stands Here) formals → AreHere (flat_map formal_shapes formals)
  formals_here [] h = tt
  formals_here (f ∷ formals) h =
      join (formal_shapes f) (flat_map formal_shapes formals)
      (join (open_shapes f.is_open f.of) (nameless param_kind f.of.first.at ∷ []) (open_here f.is_open f.of h.0) (h.0.first, tt)) (formals_here formals h.1)

  tag_here : (tag : Option Ident) → NameOptionHas (Stands Here) tag → AreHere (tag_shapes tag)
  tag_here None h = tt
  tag_here (Some i) h = (h, tt)

  array_here : (at : ℕ) (ts : TypeExprs) → Here at → AreHere (array_shapes at ts)
  array_here at no_types k = tt
  array_here at (more_types t ts) k = (k, array_here at ts k)

  mutual
    type_here : (t : TypeExpr) → TypeHas (Stands Here) t → AreHere (type_shapes t)
    type_here (type_expr at form) h = form_here form at h.0 h.1

    form_here : (form : TypeForm) (at : ℕ) → Here at → TypeFormHas (Stands Here) form → AreHere (form_shapes at form)
    form_here (named_type q) at k h = tt
    form_here (enum_type idents) at k h = (k, names_here const_kind idents h)
    form_here (sub_type base low high) at k h = (k, tt)
    form_here (array_type index of) at k h =
        join (types_shapes index ++ type_shapes of) (array_shapes at index) (join (types_shapes index) (type_shapes of) (types_here index h.0) (type_here of h.1)) (array_here at index k)
    form_here (record_type fields) at k h = join (fields_shapes fields) _ (fields_here fields h) (k, tt)
    form_here (set_type of) at k h = join (type_shapes of) _ (type_here of h) (k, tt)
    form_here (pointer_type of) at k h = join (type_shapes of) _ (type_here of h) (k, tt)
    form_here (proc_type formals result) at k h = join (flat_map formal_shapes formals) _ (formals_here formals h.0) (k, tt)

    types_here : (ts : TypeExprs) → TypesHave (Stands Here) ts → AreHere (types_shapes ts)
    types_here no_types h = tt
    types_here (more_types t ts) h = join (type_shapes t) (types_shapes ts) (type_here t h.0) (types_here ts h.1)

    fields_here : (fs : FieldLists) → FieldsHave (Stands Here) fs → AreHere (fields_shapes fs)
    fields_here no_fields h = tt
    fields_here (more_fields f fs) h = join (field_shapes f) (fields_shapes fs) (field_here f h.0) (fields_here fs h.1)

    field_here : (f : FieldList) → FieldHas (Stands Here) f → AreHere (field_shapes f)
    field_here (plain_fields idents t) h = join (type_shapes t) _ (type_here t h.1) (nameless_here field_kind idents h.0)
    field_here (case_fields tag of arms other) h =
        join (tag_shapes tag ++ arms_shapes arms) (fields_shapes other) (join (tag_shapes tag) (arms_shapes arms) (tag_here tag h.0) (arms_here arms h.2)) (fields_here other h.3)

    arms_here : (arms : VariantArms) → ArmsHave (Stands Here) arms → AreHere (arms_shapes arms)
    arms_here no_variant_arms h = tt
    arms_here (more_variant_arms a arms) h = join (arm_shapes a) (arms_shapes arms) (arm_here a h.0) (arms_here arms h.1)

    arm_here : (a : VariantArm) → ArmHas (Stands Here) a → AreHere (arm_shapes a)
    arm_here (variant_arm _ fields) h = fields_here fields h.1

  sections_here : (sections : List Section) → Each (SectionHas (Stands Here)) sections → AreHere (flat_map section_shapes sections)
  sections_here [] h = tt
  sections_here (s ∷ sections) h =
      join (section_shapes s) (flat_map section_shapes sections)
      (join (open_shapes s.is_open s.of) _ (open_here s.is_open s.of h.0.of) (nameless_here param_kind s.names h.0.idents)) (sections_here sections h.1)

  own_sections_here : (sections : List Section) → Each (SectionHas (Stands Here)) sections → AreHere (flat_map own_section_shapes sections)
  own_sections_here [] h = tt
  own_sections_here (s ∷ sections) h =
      join (own_section_shapes s) (flat_map own_section_shapes sections)
      (join (open_shapes s.is_open s.of) _ (open_here s.is_open s.of h.0.of) (names_here var_kind s.names h.0.idents)) (own_sections_here sections h.1)

  type_item_here : (i : Ident) (t : Option TypeExpr) → Here i.at → TypeOptionHas (Stands Here) t → AreHere (type_item_shapes i t)
  type_item_here i None k h = (k, tt)
  type_item_here i (Some t) k h = type_here t h

  item_here : (x : Item) → ItemHas (Stands Here) x → AreHere (item_shapes x)
  item_here (heading_item h) s = own_sections_here h.sections s.sections
  item_here (import_item from i) s = (s.1, tt)
  item_here (const_item i e) s = (s.0, tt)
  item_here (type_item i t) s = join (type_item_shapes i t) _ (type_item_here i t s.0 s.1) (s.0, tt)
  item_here (vars_item idents t) s = join (type_shapes t) _ (type_here t s.1) (names_here var_kind idents s.0)
  item_here (proc_item h stream) s = join (flat_map section_shapes h.sections) _ (sections_here h.sections s.0.sections) (s.0.name, (s.0.name, tt))

  -- ** What is brought

  -- names that stand here
  abbrev BroughtHere : List Named → Type 0
  BroughtHere brought = Each (λ (b : Named). Here b.at) brought

  brought_names_here : (members : List Member) (i o at : ℕ) → Here at → BroughtHere (brought_names i o at members)
  brought_names_here [] i o at h = tt
  brought_names_here (m ∷ members) i o at h = (h, brought_names_here members i (o + 1) at h)

  brought_either : (b : Bool) (x y : Makes (List Named)) → BroughtHere x.value → BroughtHere y.value → BroughtHere (if b then x else y).value
  brought_either true x y h k = h
  brought_either false x y h k = k

  brings_here : (c : Context) (at : ℕ) (members new : List Member) → Here at → BroughtHere (brings c at members new).value
  brings_here c at members new h = brought_either (are_too_many c new) _ _ tt (brought_names_here new (unwrap_or c.item 0) (length (own_rows c)) at h)

  item_brought : (x : Item) (c : Context) (kind : StreamKind) (cell : ℕ) → ItemHas (Stands Here) x → BroughtHere (declare c kind x cell).value.brought
  item_brought (heading_item h) c kind cell s = tt
  item_brought (import_item None i) c kind cell s = tt
  item_brought (import_item (Some m) i) c kind cell s =
      let e = (use_of c (Some (scope_of_module c.source m.name)) i.name i.at).value in
      let d = with_rows c [] in
      let f = with_rows d (alias_row d i (place_or_broken e)).rows in
      let members = members_of f.scene e in
      brings_here f i.at members (new_members f [] members) s.1
  item_brought (const_item i e) c kind cell s = tt
  item_brought (type_item i t) c kind cell s = tt
  item_brought (vars_item idents t) c kind cell s = tt
  item_brought (proc_item h stream) c kind cell s = tt

  items_brought : (items : List Item) (c : Context) (kind : StreamKind) (i cell : ℕ) → Each (ItemHas (Stands Here)) items → Each BroughtHere (declare_items c kind i cell items).value.brought
  items_brought [] c kind i cell h = tt
  items_brought (x ∷ items) c kind i cell h =
      let m = declare (at_item c i) kind x cell in
      (item_brought x (at_item c i) kind cell h.0, items_brought items (brought_in (with_rows c m.rows) m.value.brought) kind (i + 1) m.value.cell h.1)

  -- ** All shapes and rows

  brought_here : (brought : List Named) → BroughtHere brought → AreHere (map brought_shape brought)
  brought_here [] h = tt
  brought_here (b ∷ brought) h = (h.0, brought_here brought h.1)

  with_brought_here : (shapes : List Shape) (brought : List Named) → AreHere shapes → BroughtHere brought → AreHere (with_brought shapes brought)
  with_brought_here shapes [] h k = h
  with_brought_here shapes (b ∷ brought) h k = join shapes (brought_shape b ∷ map brought_shape brought) h (k.0, brought_here brought k.1)

  laid_here : (items : List Item) (brought : List (List Named)) → Each (ItemHas (Stands Here)) items → Each BroughtHere brought → AreHere (laid_shapes items brought)
  laid_here [] brought h k = tt
  laid_here (x ∷ items) [] h k = join (item_shapes x) (laid_shapes items []) (item_here x h.0) (laid_here items [] h.1 tt)
  laid_here (x ∷ items) (b ∷ brought) h k =
      join (with_brought (item_shapes x) b) (laid_shapes items brought) (with_brought_here (item_shapes x) b (item_here x h.0) k.0) (laid_here items brought h.1 k.1)

  shaped_here : {ss : List Shape} {rs : List Row} → AreShaped ss rs → AreHere ss → Each (λ (r : Row). Here r.at) rs
  shaped_here none_of h = tt
  shaped_here (more_of i rest) h = (subst Here (sym i.at) h.0, shaped_here rest h.1)

  block_brought : (source : Source) (tables : List (List Row)) (b : BlockTree) → StreamHas (Stands Here) b.tree → Each BroughtHere (declare_block source tables b).value.brought
  unfolding declare_block
  block_brought source tables b h =
      items_brought (items_of b.tree) (context_of source tables b) b.tree.kind 0 (first_cell (scene_of tables b.block) b.tree.kind b.block.own) h.items

  -- the rows of a block
  pub rows_stand : (source : Source) (tables : List (List Row)) (b : BlockTree) → StreamHas (Stands Here) b.tree → Each (λ (r : Row). Here r.at) (declare_block source tables b).rows
  rows_stand source tables b h =
      shaped_here (block_shaped source tables b) (laid_here (items_of b.tree) (declare_block source tables b).value.brought h.items (block_brought source tables b h))

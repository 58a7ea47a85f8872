-- What holds of the kinds that the rows of a type have holds of the shapes of all type expressions, and of the rows with such shapes.
use Rattle.std.specs.Prelude.{◌≡◌, ℕ, ◌==◌, Bool, true, false, if◌then◌else◌, List, [], ◌∷◌, ◌++◌, map, flat_map, Option, Some, None}
use Rattle.std.proofs.Common.{subst, sym, ◌∙◌, refl}
use Rattle.std.proofs.lemmas.Bool.{eqb-true}
use Rattle.m2_base.specs.Lists.{Each}
use Rattle.m2_base.specs.Rows.{row_meaning, numbers_of, basic_of, natural, const_kind, type_name_kind, var_kind, proc_kind, module_kind, alias_kind, field_kind, param_kind, standard_kind, basic_kind, enum_kind, subrange_kind, array_kind, open_array_kind, record_kind, set_kind, pointer_kind, proc_type_kind, opaque_kind}
use Rattle.m2_base.specs.declared.rows.Row.{Row}
use Rattle.m2_base.specs.declared.rows.RowMeaning.{RowMeaning}
use Rattle.m2_base.specs.declared.trees.Ident.{Ident}
use Rattle.m2_base.specs.declared.trees.Qual.{Qual}
use Rattle.m2_base.specs.declared.trees.types.Formal.{Formal}
use Rattle.m2_base.specs.Trees.{TypeExpr, type_expr, TypeForm, named_type, enum_type, sub_type, array_type, record_type, set_type, pointer_type, proc_type, TypeExprs, no_types, more_types, FieldList, plain_fields, case_fields, FieldLists, no_fields, more_fields, variant_arm, VariantArms, no_variant_arms, more_variant_arms, Section}
use Rattle.m2_base.specs.Statics.Items.{Item, const_item, heading_item, import_item, proc_item, type_item, vars_item}
use Rattle.m2_base.specs.Statics.ShapedRows.{AreShaped, none_of, more_of}
use Rattle.m2_base.specs.Statics.Shapes.{Shape, import_kind, item_shapes, type_shapes, form_shapes, types_shapes, fields_shapes, field_shapes, arms_shapes, array_shapes, formal_shapes, open_shapes, tag_shapes, type_item_shapes, section_shapes, own_section_shapes}
use Rattle.m2_base.proofs.EachLaws.{each_append}
use Rattle.m2_base.proofs.SoundTypes.{either}
use Rattle.row_laws.proofs.Choices.{either_by}

-- ** Shapes

-- P of the kind of each shape
abbrev pub HaveKinds : (ℕ → Type 0) → List Shape → Type 0
HaveKinds P shapes = Each (λ (s : Shape). P s.kind) shapes

-- P of each kind that the rows of a type have
pub record OfTypes (P : ℕ → Type 0) : Type 0 where
  pub const_kind : P const_kind
  pub field_kind : P field_kind
  pub param_kind : P param_kind
  pub enum_kind : P enum_kind
  pub subrange_kind : P subrange_kind
  pub array_kind : P array_kind
  pub open_array_kind : P open_array_kind
  pub record_kind : P record_kind
  pub set_kind : P set_kind
  pub pointer_kind : P pointer_kind
  pub proc_type_kind : P proc_type_kind
  pub opaque_kind : P opaque_kind

-- P of the kind of the names that an item declares
abbrev pub OfNames : (ℕ → Type 0) → Item → Type 0
OfNames P (heading_item h) = P var_kind
OfNames P (import_item from name) = P (import_kind from)
OfNames P (const_item name value) = P const_kind
OfNames P (type_item name typ) = P type_name_kind
OfNames P (vars_item names typ) = P var_kind
OfNames P (proc_item h stream) = P proc_kind

module _ (P : ℕ → Type 0) (is : OfTypes P) where
  kinds_append : (xs ys : List Shape) → HaveKinds P xs → HaveKinds P ys → HaveKinds P (xs ++ ys)
  kinds_append xs ys h k = each_append (λ (s : Shape). P s.kind) xs ys h k

  kinds_mapped : {A : Type 0} (f : A → Shape) (xs : List A) → ((x : A) → P (f x).kind) → HaveKinds P (map f xs)
  kinds_mapped f [] h = tt
  kinds_mapped f (x ∷ xs) h = (h x, kinds_mapped f xs h)

  pub open_kinds : (is_open : Bool) (q : Qual) → HaveKinds P (open_shapes is_open q)
  open_kinds true q = (is.open_array_kind, tt)
  open_kinds false q = tt

  formals_kinds : (formals : List Formal) → HaveKinds P (flat_map formal_shapes formals)
  formals_kinds [] = tt
  formals_kinds (f ∷ formals) = kinds_append (formal_shapes f) _ (kinds_append (open_shapes f.is_open f.of) _ (open_kinds f.is_open f.of) (is.param_kind, tt)) (formals_kinds formals)

  arrays_kinds : (at : ℕ) (ts : TypeExprs) → HaveKinds P (array_shapes at ts)
  arrays_kinds at no_types = tt
  arrays_kinds at (more_types t ts) = (is.array_kind, arrays_kinds at ts)

  tag_kinds : (tag : Option Ident) → HaveKinds P (tag_shapes tag)
  tag_kinds None = tt
  tag_kinds (Some i) = (is.field_kind, tt)

  mutual
    pub type_kinds : (t : TypeExpr) → HaveKinds P (type_shapes t)
    type_kinds (type_expr at form) = form_kinds at form

    form_kinds : (at : ℕ) (form : TypeForm) → HaveKinds P (form_shapes at form)
    form_kinds at (named_type q) = tt
    form_kinds at (enum_type idents) = (is.enum_kind, kinds_mapped _ idents (λ i. is.const_kind))
    form_kinds at (sub_type base low high) = (is.subrange_kind, tt)
    form_kinds at (array_type index of) =
        kinds_append (types_shapes index ++ type_shapes of) _ (kinds_append (types_shapes index) _ (types_kinds index) (type_kinds of)) (arrays_kinds at index)
    form_kinds at (record_type fields) = kinds_append (fields_shapes fields) _ (fields_kinds fields) (is.record_kind, tt)
    form_kinds at (set_type of) = kinds_append (type_shapes of) _ (type_kinds of) (is.set_kind, tt)
    form_kinds at (pointer_type of) = kinds_append (type_shapes of) _ (type_kinds of) (is.pointer_kind, tt)
    form_kinds at (proc_type formals result) = kinds_append (flat_map formal_shapes formals) _ (formals_kinds formals) (is.proc_type_kind, tt)

    types_kinds : (ts : TypeExprs) → HaveKinds P (types_shapes ts)
    types_kinds no_types = tt
    types_kinds (more_types t ts) = kinds_append (type_shapes t) _ (type_kinds t) (types_kinds ts)

    fields_kinds : (fs : FieldLists) → HaveKinds P (fields_shapes fs)
    fields_kinds no_fields = tt
    fields_kinds (more_fields f fs) = kinds_append (field_shapes f) _ (field_kinds f) (fields_kinds fs)

    field_kinds : (f : FieldList) → HaveKinds P (field_shapes f)
    field_kinds (plain_fields idents t) = kinds_append (type_shapes t) _ (type_kinds t) (kinds_mapped _ idents (λ i. is.field_kind))
    field_kinds (case_fields tag of arms other) =
        kinds_append (tag_shapes tag ++ arms_shapes arms) _ (kinds_append (tag_shapes tag) _ (tag_kinds tag) (arms_kinds arms)) (fields_kinds other)

    arms_kinds : (arms : VariantArms) → HaveKinds P (arms_shapes arms)
    arms_kinds no_variant_arms = tt
    arms_kinds (more_variant_arms (variant_arm ls fs) arms) = kinds_append (fields_shapes fs) _ (fields_kinds fs) (arms_kinds arms)

  pub sections_kinds : (sections : List Section) → HaveKinds P (flat_map section_shapes sections)
  sections_kinds [] = tt
  sections_kinds (s ∷ sections) =
      kinds_append (section_shapes s) _ (kinds_append (open_shapes s.is_open s.of) _ (open_kinds s.is_open s.of) (kinds_mapped _ s.names (λ i. is.param_kind))) (sections_kinds sections)

  own_sections_kinds : (sections : List Section) → P var_kind → HaveKinds P (flat_map own_section_shapes sections)
  own_sections_kinds [] h = tt
  own_sections_kinds (s ∷ sections) h =
      kinds_append (own_section_shapes s) _ (kinds_append (open_shapes s.is_open s.of) _ (open_kinds s.is_open s.of) (kinds_mapped _ s.names (λ i. h))) (own_sections_kinds sections h)

  type_item_kinds : (name : Ident) (typ : Option TypeExpr) → HaveKinds P (type_item_shapes name typ)
  type_item_kinds name None = (is.opaque_kind, tt)
  type_item_kinds name (Some t) = type_kinds t

  -- where P holds of the names of an item, it holds of all its shapes
  pub item_kinds : (x : Item) → OfNames P x → HaveKinds P (item_shapes x)
  item_kinds (heading_item h) k = own_sections_kinds h.sections k
  item_kinds (import_item from name) k = (k, tt)
  item_kinds (const_item name value) k = (k, tt)
  item_kinds (type_item name typ) k = kinds_append (type_item_shapes name typ) _ (type_item_kinds name typ) (k, tt)
  item_kinds (vars_item names typ) k = kinds_append (type_shapes typ) _ (type_kinds typ) (kinds_mapped _ names (λ i. k))
  item_kinds (proc_item h stream) k = kinds_append (flat_map section_shapes h.sections) _ (sections_kinds h.sections) (is.proc_type_kind, (k, tt))

-- ** Rows

-- the kind of a row with this meaning
abbrev pub kind_of_meaning : RowMeaning → ℕ
kind_of_meaning m = (numbers_of m).0

-- P of the kind of each row's meaning
abbrev pub MeanKinds : (ℕ → Type 0) → List Row → Type 0
MeanKinds P rows = Each (λ (r : Row). P (kind_of_meaning (row_meaning r))) rows

basic_means : (n : ℕ) → kind_of_meaning (basic_of n) ≡ basic_kind
basic_means n =
    let E : RowMeaning → Type 0 = λ (m : RowMeaning). kind_of_meaning m ≡ basic_kind in
    either E (n == 1) _ _ refl (either E (n == 2) _ _ refl (either E (n == 3) _ _ refl
    (either E (n == 4) _ _ refl (either E (n == 5) _ _ refl (either E (n == 6) _ _ refl refl)))))

module _ (P : ℕ → Type 0) (basic : P basic_kind) where
  -- a row means its kind, and a row of no kind is as a basic type's
  row_means : (r : Row) → P r.kind → P (kind_of_meaning (row_meaning r))
  row_means r h =
      kind const_kind _ _ refl (kind type_name_kind _ _ refl (kind var_kind _ _ refl (kind proc_kind _ _ refl (kind module_kind _ _ refl
      (kind alias_kind _ _ refl (kind field_kind _ _ refl (kind param_kind _ _ refl (kind standard_kind _ _ refl
      (kind basic_kind _ _ (basic_means (natural r.a)) (kind enum_kind _ _ refl (kind subrange_kind _ _ refl (kind array_kind _ _ refl
      (kind open_array_kind _ _ refl (kind record_kind _ _ refl (kind set_kind _ _ refl (kind pointer_kind _ _ refl
      (kind proc_type_kind _ _ refl (kind opaque_kind _ _ refl basic))))))))))))))))))
    where
      kind : (k : ℕ) (m n : RowMeaning) → kind_of_meaning m ≡ k → P (kind_of_meaning n) → P (kind_of_meaning (if r.kind == k then m else n))
      kind k m n e rest = either_by (λ (x : RowMeaning). P (kind_of_meaning x)) (r.kind == k) m n (λ t. subst P (eqb-true r.kind k t ∙ sym e) h) (λ f. rest)

  -- what holds of the kinds of shapes holds of those that rows with such shapes mean
  pub shaped_means : (shapes : List Shape) (rows : List Row) → AreShaped shapes rows → HaveKinds P shapes → MeanKinds P rows
  shaped_means [] [] none_of h = tt
  shaped_means [] (r ∷ rows) is h = elim is [ ]
  shaped_means (s ∷ shapes) [] is h = elim is [ ]
  shaped_means (s ∷ shapes) (r ∷ rows) (more_of is rest) h = (row_means r (subst P (sym is.kind) h.0), shaped_means shapes rows rest h.1)

-- The shapes of each form of type, as the code sees it.
use Rattle.std.proofs.Common.{◌≡◌, ℕ, zero, suc, ◌+◌, ◌<◌, List, [], ◌∷◌, ◌++◌, length, map, take, refl, ap, arith, ◌∙◌, Option}
use Rattle.std.specs.Prelude.{flat_map}
use Rattle.std.specs.declared.alloc.Global.{Global}
use Rattle.std.specs.declared.boxed.Box.{Box}
use Rattle.std.specs.declared.vec.Vec.{Vec}
use Rattle.m2_base.proofs.Seen.{type_seen, named_seen, enum_seen, sub_seen, array_seen, record_seen, set_of_seen, pointer_seen, proc_type_seen, plain_fields_seen, case_fields_seen, variant_arm_seen}
use Rattle.m2_base.specs.Rows.{array_kind, const_kind, enum_kind, field_kind, pointer_kind, proc_type_kind, record_kind, set_kind, subrange_kind}
use Rattle.m2_base.specs.Statics.Shapes.{named, nameless, tag_shapes, array_shapes, formal_shapes, type_shapes, form_shapes, types_shapes, field_shapes, fields_shapes, arms_shapes, arm_shapes}
use Rattle.decl_sem.specs.Shapes.{arrays_of}
use Rattle.m2_base.specs.Trees.{TypeExpr, type_exprs, FieldList, field_lists, VariantArm, variant_arms}
use Rattle.m2_base.specs.Views.{type_view, type_form_view, field_list_view, variant_arm_view}
use Rattle.m2_base.specs.declared.trees.Ident.{Ident}
use Rattle.m2_base.specs.declared.trees.Qual.{Qual}
use Rattle.m2_base.specs.declared.trees.expressions as expressions
use Rattle.m2_base.specs.declared.trees.types as code
use Rattle.m2_base.specs.declared.trees.types.Formal.{Formal}
use Rattle.m2_base.specs.declared.trees.types.TypeForm.TheVariants.{Named, Enum, Sub, Array, Rec, Set as SetOf, Pointer, Proc}
use Rattle.m2_base.specs.declared.trees.types.FieldList.TheVariants.{Plain, Cases}

-- ** Lists of trees

module _ {X : Type 0} where
  types_map : (view : X → TypeExpr) (xs : List X) → types_shapes (type_exprs (map view xs)) ≡ flat_map (λ x. type_shapes (view x)) xs
  types_map view [] = refl
  types_map view (x ∷ xs) = ap (λ rest. type_shapes (view x) ++ rest) (types_map view xs)

  fields_map : (view : X → FieldList) (xs : List X) → fields_shapes (field_lists (map view xs)) ≡ flat_map (λ x. field_shapes (view x)) xs
  fields_map view [] = refl
  fields_map view (x ∷ xs) = ap (λ rest. field_shapes (view x) ++ rest) (fields_map view xs)

  arms_map : (view : X → VariantArm) (xs : List X) → arms_shapes (variant_arms (map view xs)) ≡ flat_map (λ x. arm_shapes (view x)) xs
  arms_map view [] = refl
  arms_map view (x ∷ xs) = ap (λ rest. arm_shapes (view x) ++ rest) (arms_map view xs)

arrays_map : (at : ℕ) (ts : List code.TypeExpr.TypeExpr) → array_shapes at (type_exprs (map type_view ts)) ≡ arrays_of at ts
unfolding arrays_of
arrays_map at [] = refl
arrays_map at (t ∷ ts) = ap (λ rest. nameless array_kind at ∷ rest) (arrays_map at ts)

pub no_arrays : (at : ℕ) → arrays_of at [] ≡ []
unfolding arrays_of
no_arrays at = refl

next_array : (at : ℕ) (ts : List code.TypeExpr.TypeExpr) (k : ℕ) → k < length ts → arrays_of at (take (suc k) ts) ≡ arrays_of at (take k ts) ++ nameless array_kind at ∷ []
unfolding arrays_of
next_array at [] k h = absurd (omega (arith, h))
next_array at (t ∷ ts) zero h = refl
next_array at (t ∷ ts) (suc k) h = ap (λ rest. nameless array_kind at ∷ rest) (next_array at ts k (omega (arith, h)))

pub one_more_array : (at : ℕ) (ts : List code.TypeExpr.TypeExpr) (k : ℕ) → k < length ts → arrays_of at (take (k + 1) ts) ≡ arrays_of at (take k ts) ++ nameless array_kind at ∷ []
one_more_array at ts k h = let e : k + 1 ≡ suc k = omega arith in ap (λ (j : ℕ). arrays_of at (take j ts)) e ∙ next_array at ts k h

pub ruleset of_arrays = (no_arrays, one_more_array)

-- ** Types

pub whole_type : (t : code.TypeExpr.TypeExpr) → type_shapes (type_view t) ≡ form_shapes t.at (type_form_view t.form)
whole_type t = ap type_shapes (type_seen t)

module _ (at : ℕ) where
  pub of_named : (q : Qual) → form_shapes at (type_form_view (Named q)) ≡ []
  of_named q = ap (form_shapes at) (named_seen q)

  pub of_enum : (names : Vec Ident Global) → form_shapes at (type_form_view (Enum names)) ≡ nameless enum_kind at ∷ map (named const_kind) names.items
  of_enum names = ap (form_shapes at) (enum_seen names)

  pub of_sub : (base : Option Qual) (low high : expressions.Expr.Expr) → form_shapes at (type_form_view (Sub base low high)) ≡ nameless subrange_kind at ∷ []
  of_sub base low high = ap (form_shapes at) (sub_seen base low high)

  pub of_array : (index : Vec code.TypeExpr.TypeExpr Global) (of : Box code.TypeExpr.TypeExpr Global)
      → form_shapes at (type_form_view (Array index of)) ≡ (flat_map (λ t. type_shapes (type_view t)) index.items ++ type_shapes (type_view of.value)) ++ arrays_of at index.items
  of_array index of =
      ap (form_shapes at) (array_seen index of)
      ∙ ap (λ rows. (rows ++ type_shapes (type_view of.value)) ++ array_shapes at (type_exprs (map type_view index.items))) (types_map type_view index.items)
      ∙ ap (λ rows. (flat_map (λ t. type_shapes (type_view t)) index.items ++ type_shapes (type_view of.value)) ++ rows) (arrays_map at index.items)

  pub of_record : (fields : Vec code.FieldList.FieldList Global) → form_shapes at (type_form_view (Rec fields)) ≡ flat_map (λ f. field_shapes (field_list_view f)) fields.items ++ nameless record_kind at ∷ []
  of_record fields = ap (form_shapes at) (record_seen fields) ∙ ap (λ fs. fs ++ nameless record_kind at ∷ []) (fields_map field_list_view fields.items)

  pub of_set : (of : Box code.TypeExpr.TypeExpr Global) → form_shapes at (type_form_view (SetOf of)) ≡ type_shapes (type_view of.value) ++ nameless set_kind at ∷ []
  of_set of = ap (form_shapes at) (set_of_seen of)

  pub of_pointer : (of : Box code.TypeExpr.TypeExpr Global) → form_shapes at (type_form_view (Pointer of)) ≡ type_shapes (type_view of.value) ++ nameless pointer_kind at ∷ []
  of_pointer of = ap (form_shapes at) (pointer_seen of)

  pub of_proc : (formals : Vec Formal Global) (result : Option Qual) → form_shapes at (type_form_view (Proc formals result)) ≡ flat_map formal_shapes formals.items ++ nameless proc_type_kind at ∷ []
  of_proc formals result = ap (form_shapes at) (proc_type_seen formals result)

pub ruleset of_types = (whole_type, of_named, of_enum, of_sub, of_array, of_record, of_set, of_pointer, of_proc)

-- ** Fields

pub of_plain : (names : Vec Ident Global) (typ : code.TypeExpr.TypeExpr) → field_shapes (field_list_view (Plain names typ)) ≡ type_shapes (type_view typ) ++ map (λ i. nameless field_kind i.at) names.items
of_plain names typ = ap field_shapes (plain_fields_seen names typ)

pub of_cases : (tag : Option Ident) (of : Qual) (arms : Vec code.VariantArm.VariantArm Global) (other : Vec code.FieldList.FieldList Global)
    → field_shapes (field_list_view (Cases tag of arms other))
    ≡ (tag_shapes tag ++ flat_map (λ a. arm_shapes (variant_arm_view a)) arms.items) ++ flat_map (λ f. field_shapes (field_list_view f)) other.items
of_cases tag of arms other =
    ap field_shapes (case_fields_seen tag of arms other)
    ∙ ap (λ rows. (tag_shapes tag ++ rows) ++ fields_shapes (field_lists (map field_list_view other.items))) (arms_map variant_arm_view arms.items)
    ∙ ap (λ rows. (tag_shapes tag ++ flat_map (λ a. arm_shapes (variant_arm_view a)) arms.items) ++ rows) (fields_map field_list_view other.items)

pub of_arm : (a : code.VariantArm.VariantArm) → arm_shapes (variant_arm_view a) ≡ flat_map (λ f. field_shapes (field_list_view f)) a.fields.items
of_arm a = ap arm_shapes (variant_arm_seen a) ∙ fields_map field_list_view a.fields.items

pub ruleset of_fields = (of_plain, of_cases, of_arm)

-- ** All fields of a record

pub of_list : (fields : List code.FieldList.FieldList) → fields_shapes (field_lists (map field_list_view fields)) ≡ flat_map (λ f. field_shapes (field_list_view f)) fields
of_list fields = fields_map field_list_view fields

pub ruleset of_lists = (of_list)

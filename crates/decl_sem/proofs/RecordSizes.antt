-- The parts of a record are smaller than the whole.
use Rattle.std.specs.Prelude.{◌≡◌, ℕ, zero, suc, ◌+◌, ◌*◌, ◌<◌, ◌≤◌, List, [], ◌∷◌, length, map, Option}
use Rattle.std.proofs.Common.{sym, ap, ◌∙◌, subst, arith, get_or}
use Rattle.std.specs.declared.alloc.Global.{Global}
use Rattle.std.specs.declared.vec.Vec.{Vec}
use Rattle.m2_base.proofs.Seen.{case_fields_seen, plain_fields_seen, variant_arm_seen}
use Rattle.m2_base.specs.Trees.{FieldLists, VariantArms, field_lists, record_type, variant_arms}
use Rattle.m2_base.specs.Views.{field_list_view, type_view, variant_arm_view}
use Rattle.m2_base.specs.declared.trees.Ident.{Ident}
use Rattle.m2_base.specs.declared.trees.Qual.{Qual}
use Rattle.m2_base.specs.declared.trees.types as code
use Rattle.m2_base.specs.declared.trees.types.FieldList.TheVariants.{Plain, Cases}
use Rattle.m2_base.specs.declared.trees.types.TypeForm.TheVariants.{Rec}
use Rattle.decl_sem.proofs.TypeForms.{is_record, seen}
use Rattle.decl_sem.proofs.TypeSizes.{size_arms, size_field, size_fields, size_type}

-- field lists and variants, as plain data
abbrev pub fields_of : List code.FieldList.FieldList → FieldLists
fields_of xs = field_lists (map field_list_view xs)

abbrev pub arms_of : List code.VariantArm.VariantArm → VariantArms
arms_of xs = variant_arms (map variant_arm_view xs)

-- the fields of a record
pub record_small : (t : code.TypeExpr.TypeExpr) (fields : Vec code.FieldList.FieldList Global) (l : List code.FieldList.FieldList) → l ≡ fields.items → t.form ≡ Rec fields → 4 * size_fields (fields_of l) + 2 < 4 * size_type (type_view t)
record_small t fields l same e =
    let whole : size_type (type_view t) ≡ suc (size_fields (fields_of l)) = ap size_type (seen t (record_type (fields_of l)) (is_record t fields l same e)) in
    omega arith

field_at_most : (xs : List code.FieldList.FieldList) (k : ℕ) (d : code.FieldList.FieldList) → k < length xs → size_field (field_list_view (get_or xs k d)) ≤ size_fields (fields_of xs)
field_at_most [] k d h = absurd (omega (arith, h))
field_at_most (x ∷ xs) zero d h = omega arith
field_at_most (x ∷ xs) (suc k) d h = let rest = field_at_most xs k d (omega (arith, h)) in omega (arith, rest)

-- a field list of a record
pub field_small : (xs : List code.FieldList.FieldList) (k : ℕ) (x : code.FieldList.FieldList) → k < length xs → x ≡ get_or xs k x → 4 * size_field (field_list_view x) < 4 * size_fields (fields_of xs) + 1
field_small xs k x h e =
    let small : size_field (field_list_view x) ≤ size_fields (fields_of xs) = subst (λ (u : code.FieldList.FieldList). size_field (field_list_view u) ≤ size_fields (fields_of xs)) (sym e) (field_at_most xs k x h) in
    omega (arith, small)

arm_at_most : (xs : List code.VariantArm.VariantArm) (k : ℕ) (d : code.VariantArm.VariantArm) → k < length xs → size_fields (fields_of (get_or xs k d).fields.items) < size_arms (arms_of xs)
arm_at_most [] k d h = absurd (omega (arith, h))
arm_at_most (x ∷ xs) zero d h = let e = ap (λ a. size_arms (variant_arms (a ∷ map variant_arm_view xs))) (variant_arm_seen x) in omega (arith, e)
arm_at_most (x ∷ xs) (suc k) d h = let rest = arm_at_most xs k d (omega (arith, h)) in omega (arith, rest)

-- the fields of a variant
pub arm_small : (xs : List code.VariantArm.VariantArm) (k : ℕ) (x : code.VariantArm.VariantArm) (l : List code.FieldList.FieldList) → l ≡ x.fields.items → k < length xs → x ≡ get_or xs k x → 4 * size_fields (fields_of l) + 1 < 4 * size_arms (arms_of xs) + 1
arm_small xs k x l same h e =
    let small : size_fields (fields_of x.fields.items) < size_arms (arms_of xs) = subst (λ (u : code.VariantArm.VariantArm). size_fields (fields_of u.fields.items) < size_arms (arms_of xs)) (sym e) (arm_at_most xs k x h) in
    let same_size = ap (λ (v : List code.FieldList.FieldList). size_fields (fields_of v)) same in
    omega (arith, small, same_size)

-- the type of fields
pub plain_small : (f : code.FieldList.FieldList) (names : Vec Ident Global) (typ u : code.TypeExpr.TypeExpr) → u ≡ typ → f ≡ Plain names typ → 4 * size_type (type_view u) < 4 * size_field (field_list_view f)
plain_small f names typ u same e =
    let whole : size_field (field_list_view f) ≡ suc (size_type (type_view typ)) = ap (λ (g : code.FieldList.FieldList). size_field (field_list_view g)) e ∙ ap size_field (plain_fields_seen names typ) in
    let same_size = ap (λ (v : code.TypeExpr.TypeExpr). size_type (type_view v)) same in
    omega (arith, whole, same_size)

-- what stands behind a tag
pub cases_small : (f : code.FieldList.FieldList) (tag : Option Ident) (of : Qual) (arms : Vec code.VariantArm.VariantArm Global) (other : Vec code.FieldList.FieldList Global) (k : List code.VariantArm.VariantArm) (l : List code.FieldList.FieldList)
    → k ≡ arms.items → l ≡ other.items → f ≡ Cases tag of arms other → 4 * (size_arms (arms_of k) + size_fields (fields_of l)) + 2 < 4 * size_field (field_list_view f)
cases_small f tag of arms other k l same_arms same_other e =
    let whole : size_field (field_list_view f) ≡ suc (size_arms (arms_of arms.items) + size_fields (fields_of other.items)) = ap (λ (g : code.FieldList.FieldList). size_field (field_list_view g)) e ∙ ap size_field (case_fields_seen tag of arms other) in
    let arms_same = ap (λ (v : List code.VariantArm.VariantArm). size_arms (arms_of v)) same_arms in
    let other_same = ap (λ (v : List code.FieldList.FieldList). size_fields (fields_of v)) same_other in
    omega (arith, whole, arms_same, other_same)

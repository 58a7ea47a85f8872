-- The static rules of operands: where one notes a diagnostic, what it gives is in error, and so is what it makes of an error.
use Rattle.std.specs.Prelude.{◌≡◌, refl, ℕ, ℤ, Bool, not, ◌&&◌, ◌||◌, if◌then◌else◌, is_none, Option, Some, None}
use Rattle.std.proofs.Common.{◌∙◌, ap}
use Rattle.m2_base.specs.Gives.{Gives, and_then, gives}
use Rattle.m2_base.specs.Standard.{boolean, broken, character, cardinal}
use Rattle.m2_base.specs.Statics.Compatible.{taken_beside}
use Rattle.m2_base.specs.Statics.Contexts.{Context, refuse}
use Rattle.m2_base.specs.Statics.Diagnostics.{unknown_name, wrong_argument}
use Rattle.m2_base.specs.Statics.Folding.{is_arithmetic, is_relation, number_kind, number_type}
use Rattle.m2_base.specs.Statics.Functions.{abs_of, absolute, cap_of, chr_of, converted, end_value, max_of, min_of, number_argument, odd_of, oddness, ord_of, ordinal_argument, ordinal_type, ordinal_type_argument, size_value, type_argument, val_as, val_of}
use Rattle.m2_base.specs.Statics.Lookup.{Entry}
use Rattle.m2_base.specs.Statics.Operands.{constant_of_operand, is_bad, operand_type, worse}
use Rattle.m2_base.specs.Statics.Operations.{apply_one, apply_one_by, as_number, base_type, folded, gives_result, logical, member_of_set, membership, membership_in, number_operation, on_alike, on_compatible, on_numbers, on_scalars, operate, operate_by, result_of, set_operation, sign_of, with_sign, wrong as wrong_operands}
use Rattle.m2_base.specs.Statics.Ranges.{Range}
use Rattle.m2_base.specs.Statics.Sets.{checked_element, element_of, set_type_of, with_elements}
use Rattle.m2_base.specs.Statics.Types.{base_of, is_broken, kind_of, range_of}
use Rattle.m2_base.specs.Statics.Uses.{bound_or, bound_outside, use_by_item, use_in_item, use_of}
use Rattle.m2_base.specs.declared.operands.FoldKind.{FoldKind}
use Rattle.m2_base.specs.declared.operands.Operand.TheVariants.{Computed, Constant, InError, NamedType, NotConstant, Variable}
use Rattle.m2_base.specs.declared.operands.Operand.{Operand}
use Rattle.m2_base.specs.declared.rows.Place.{Place}
use Rattle.m2_base.specs.declared.rows.RowMeaning.TheVariants.{Set}
use Rattle.m2_base.specs.declared.rows.RowMeaning.{RowMeaning}
use Rattle.m2_base.specs.declared.sites.Named.{Named}
use Rattle.m2_base.specs.declared.trees.operators.Operator.TheVariants.{And, In, Not, Or}
use Rattle.m2_base.specs.declared.trees.operators.Operator.{Operator}
use Rattle.const_eval.proofs.RefusedSteps.{BrokenIsThere, IsError, IsMissing, IsUntyped, QuietOr, broken-is, broken-range, of-error, of-second, quiet, quiet-if, quiet-then, tests, wrong}
use Rattle.m2_base.proofs.SoundTypes.{either}

-- what is made of an error beside another operand is in error
pub worse-broken : (o : Operand) → worse o InError ≡ InError
worse-broken InError = refl
worse-broken o = refl

-- an error comes out
abbrev IsGiven : Gives Operand → Type 0
IsGiven g = IsError g.value

module _ (c : Context) where
  -- ---- names

  found-quiet : (code name at : ℕ) (e : Option Entry) → QuietOr IsMissing (bound_or c code name at e)
  found-quiet code name at None = wrong refl
  found-quiet code name at (Some e) = quiet refl

  outside-quiet : (name at : ℕ) (e : Option Entry) → QuietOr IsMissing (bound_outside c name at e)
  outside-quiet name at None = wrong refl
  outside-quiet name at (Some e) = search tests

  in_item-quiet : (item name at : ℕ) (n : Option Named) → QuietOr IsMissing (use_in_item c item name at n)
  in_item-quiet item name at None = outside-quiet name at _
  in_item-quiet item name at (Some n) = search (tests, found-quiet)

  by_item-quiet : (name at : ℕ) (item : Option ℕ) → QuietOr IsMissing (use_by_item c name at item)
  by_item-quiet name at None = found-quiet unknown_name name at _
  by_item-quiet name at (Some item) = in_item-quiet item name at _

  pub use-quiet : (within : Option ℕ) (name at : ℕ) → QuietOr IsMissing (use_of c within name at)
  use-quiet None name at = search (tests, by_item-quiet)
  use-quiet (Some s) name at = found-quiet _ name at _

  -- ---- types

  pub set_type-quiet : (at : ℕ) (o : Operand) → QuietOr IsUntyped (set_type_of c at o)
  set_type-quiet at (NamedType t) = search tests
  set_type-quiet at InError = quiet refl
  set_type-quiet at o = wrong refl

  type-quiet : (at : ℕ) (o : Operand) → QuietOr IsUntyped (type_argument c at o)
  type-quiet at (NamedType t) = quiet refl
  type-quiet at InError = quiet refl
  type-quiet at o = wrong refl

  ordinal_type-quiet : (at : ℕ) (t : Place) → QuietOr IsUntyped (ordinal_type c at t)
  ordinal_type-quiet at t = search tests

  ordinal_type-untyped : (at : ℕ) (t : Place) → IsUntyped t → IsUntyped (ordinal_type c at t).value
  ordinal_type-untyped at t e =
      either (λ (g : Gives Place). IsUntyped g.value) (not (is_broken c.scene t) && is_none (range_of c.scene t)) (refuse c at wrong_argument broken) (gives t) refl e

  ordinal-quiet : (at : ℕ) (o : Operand) → QuietOr IsUntyped (ordinal_type_argument c at o)
  ordinal-quiet at o =
      quiet-then IsUntyped IsUntyped (type_argument c at o) (ordinal_type c at) (type-quiet at o)
      (ordinal_type-untyped at (type_argument c at o).value) (ordinal_type-quiet at (type_argument c at o).value)

  ordinal-untyped : (at : ℕ) → IsUntyped (ordinal_type_argument c at InError).value
  ordinal-untyped at = ordinal_type-untyped at _ refl

  -- ---- standard functions

  number_argument-quiet : (at : ℕ) (o : Operand) → QuietOr IsError (number_argument c at o)
  number_argument-quiet at o = search tests

  ordinal_argument-quiet : (at : ℕ) (o : Operand) → QuietOr IsError (ordinal_argument c at o)
  ordinal_argument-quiet at o = search tests

  converted-quiet : (at : ℕ) (t : Place) (o : Operand) → QuietOr IsError (converted c at t o)
  converted-quiet at t (Constant u v) = search tests
  converted-quiet at t InError = quiet refl
  converted-quiet at t NotConstant = quiet refl
  converted-quiet at t o = quiet refl

  absolute-quiet : (at : ℕ) (t : Place) (o : Operand) → QuietOr IsError (absolute c at t o)
  absolute-quiet at t (Constant u v) = search tests
  absolute-quiet at t InError = quiet refl
  absolute-quiet at t NotConstant = quiet refl
  absolute-quiet at t o = quiet refl

  pub abs-quiet : (at : ℕ) (o : Operand) → QuietOr IsError (abs_of c at o)
  abs-quiet at o =
      let x : Operand = (number_argument c at o).value in
      quiet-then IsError IsError (number_argument c at o) (λ y. absolute c at (number_type (number_kind (base_type c y))) y) (number_argument-quiet at o)
      (λ e. of-error (λ y. IsError (absolute c at (number_type (number_kind (base_type c y))) y).value) x e refl)
      (absolute-quiet at (number_type (number_kind (base_type c x))) x)

  pub cap-quiet : (at : ℕ) (o : Operand) → QuietOr IsError (cap_of c at o)
  cap-quiet at o = search tests

  converted-error : (at : ℕ) (t : Place) (o : Operand) → IsError o → IsError (converted c at t o).value
  converted-error at t o e = of-error (λ y. IsError (converted c at t y).value) o e refl

  pub chr-quiet : (at : ℕ) (o : Operand) → QuietOr IsError (chr_of c at o)
  chr-quiet at o =
      let x : Operand = (number_argument c at o).value in
      quiet-then IsError IsError (number_argument c at o) (converted c at character) (number_argument-quiet at o)
      (converted-error at character x) (converted-quiet at character x)

  pub odd-quiet : (at : ℕ) (o : Operand) → QuietOr IsError (odd_of c at o)
  odd-quiet at o =
      quiet-then IsError IsError (number_argument c at o) (λ y. gives (oddness y)) (number_argument-quiet at o)
      (λ e. of-error (λ y. IsError (oddness y)) (number_argument c at o).value e refl) (quiet refl)

  pub ord-quiet : (at : ℕ) (o : Operand) → QuietOr IsError (ord_of c at o)
  ord-quiet at o =
      let x : Operand = (ordinal_argument c at o).value in
      quiet-then IsError IsError (ordinal_argument c at o) (converted c at cardinal) (ordinal_argument-quiet at o)
      (converted-error at cardinal x) (converted-quiet at cardinal x)

  val_as-quiet : (at : ℕ) (t : Place) (o : Operand) → QuietOr IsError (val_as c at t o)
  val_as-quiet at t o = search (tests, converted-quiet)

  val_as-error : (at : ℕ) (t : Place) → IsError (val_as c at t InError).value
  val_as-error at t = either IsGiven (is_broken c.scene t) (gives InError) (converted c at t InError) refl refl

  val_as-untyped : BrokenIsThere c → (at : ℕ) (t : Place) (o : Operand) → IsUntyped t → IsError (val_as c at t o).value
  val_as-untyped h at t o e = ap (λ (b : Bool). (if b then gives InError else converted c at t o).value) (ap (is_broken c.scene) e ∙ broken-is c h)

  val-after : (at : ℕ) (t : Place) (o : Operand) → QuietOr IsError (and_then (ordinal_argument c at o) (val_as c at t))
  val-after at t o =
      let x : Operand = (ordinal_argument c at o).value in
      quiet-then IsError IsError (ordinal_argument c at o) (val_as c at t) (ordinal_argument-quiet at o)
      (λ e. of-error (λ y. IsError (val_as c at t y).value) x e (val_as-error at t)) (val_as-quiet at t x)

  pub val-quiet : BrokenIsThere c → (t_at : ℕ) (t : Operand) (at : ℕ) (o : Operand) → QuietOr IsError (val_of c t_at t at o)
  val-quiet h t_at t at o =
      let typ : Place = (ordinal_type_argument c t_at t).value in
      quiet-then IsUntyped IsError (ordinal_type_argument c t_at t) (λ u. and_then (ordinal_argument c at o) (val_as c at u)) (ordinal-quiet t_at t)
      (val_as-untyped h at typ (ordinal_argument c at o).value) (val-after at typ o)

  pub val-error : (t_at : ℕ) (t : Operand) (at : ℕ) → IsError (val_of c t_at t at InError).value
  val-error t_at t at = val_as-error at (ordinal_type_argument c t_at t).value

  -- of no type there is no value
  pub val-untyped : BrokenIsThere c → (t_at : ℕ) (at : ℕ) (o : Operand) → IsError (val_of c t_at InError at o).value
  val-untyped h t_at at o = val_as-untyped h at (ordinal_type_argument c t_at InError).value (ordinal_argument c at o).value (ordinal-untyped t_at)

  end-untyped : BrokenIsThere c → (end : Range → ℤ) (t : Place) → IsUntyped t → IsError (end_value c t end (range_of c.scene t))
  end-untyped h end t e = ap (λ u. end_value c u end (range_of c.scene u)) e ∙ ap (end_value c _ end) (broken-range c h)

  end-quiet : BrokenIsThere c → (at : ℕ) (end : Range → ℤ) (o : Operand)
      → QuietOr IsError (and_then (ordinal_type_argument c at o) (λ t. gives (end_value c t end (range_of c.scene t))))
  end-quiet h at end o =
      quiet-then IsUntyped IsError (ordinal_type_argument c at o) (λ t. gives (end_value c t end (range_of c.scene t))) (ordinal-quiet at o)
      (end-untyped h end (ordinal_type_argument c at o).value) (quiet refl)

  pub min-quiet : BrokenIsThere c → (at : ℕ) (o : Operand) → QuietOr IsError (min_of c at o)
  min-quiet h at o = end-quiet h at (λ r. r.low) o

  pub max-quiet : BrokenIsThere c → (at : ℕ) (o : Operand) → QuietOr IsError (max_of c at o)
  max-quiet h at o = end-quiet h at (λ r. r.high) o

  pub min-error : BrokenIsThere c → (at : ℕ) → IsError (min_of c at InError).value
  min-error h at = end-untyped h (λ r. r.low) _ (ordinal-untyped at)

  pub max-error : BrokenIsThere c → (at : ℕ) → IsError (max_of c at InError).value
  max-error h at = end-untyped h (λ r. r.high) _ (ordinal-untyped at)

  pub size-quiet : (at : ℕ) (o : Operand) → QuietOr IsError (size_value c at o)
  size-quiet at (NamedType t) = quiet refl
  size-quiet at (Variable t) = search tests
  size-quiet at InError = quiet refl
  size-quiet at NotConstant = quiet refl
  size-quiet at o = wrong refl

  -- ---- operators

  folded-quiet : (op_at : ℕ) (t : Place) (v : Option ℤ) → QuietOr IsError (folded c op_at t v)
  folded-quiet op_at t None = wrong refl
  folded-quiet op_at t (Some v) = quiet refl

  result_of-quiet : (op_at : ℕ) (k : FoldKind) (op : Operator) (t : Place) (v w : Option ℤ) → QuietOr IsError (result_of c op_at k op t v w)
  result_of-quiet op_at k op t (Some v) (Some w) = folded-quiet op_at t _
  result_of-quiet op_at k op t v w = quiet refl

  result-quiet : (op_at : ℕ) (k : FoldKind) (op : Operator) (t : Place) (x y : Operand) → QuietOr IsError (gives_result c op_at k op t x y)
  result-quiet op_at k op t x y = search (tests, result_of-quiet)

  result-second : (op_at : ℕ) (k : FoldKind) (op : Operator) (t : Place) (x y : Operand) → IsError y → IsError (gives_result c op_at k op t x y).value
  result-second op_at k op t x y e =
      of-second IsGiven (is_bad x) y (gives InError) (result_of c op_at k op t (constant_of_operand x) (constant_of_operand y)) e refl

  logical-quiet : (op : Operator) (op_at : ℕ) (x y : Operand) → QuietOr IsError (logical c op op_at x y)
  logical-quiet op op_at x y = search (tests, result-quiet)

  set-quiet : (op : Operator) (op_at : ℕ) (x y : Operand) → QuietOr IsError (set_operation c op op_at x y)
  set-quiet op op_at x y = search (tests, result-quiet)

  number-quiet : (op : Operator) (op_at : ℕ) (x y : Operand) → QuietOr IsError (number_operation c op op_at x y)
  number-quiet op op_at x y = search (tests, result-quiet)

  number-first : (op : Operator) (op_at : ℕ) (x y : Operand) → IsError x → IsError (number_operation c op op_at x y).value
  number-first op op_at x y e =
      of-error (λ z. IsGiven (number_operation c op op_at z y)) x e
      (either IsGiven (is_arithmetic op) (gives InError) (if is_relation op then gives InError else wrong_operands c op_at) refl
      (either IsGiven (is_relation op) (gives InError) (wrong_operands c op_at) refl refl))

  number-second : (op : Operator) (op_at : ℕ) (x y : Operand) → IsError y → IsError (number_operation c op op_at x y).value
  number-second op op_at x y e =
      let k : FoldKind = number_kind (base_type c x) in
      either IsGiven (is_arithmetic op) (gives_result c op_at k op (number_type k) x y)
      (if is_relation op then gives_result c op_at k op boolean x y else wrong_operands c op_at) (result-second op_at k op (number_type k) x y e)
      (either IsGiven (is_relation op) (gives_result c op_at k op boolean x y) (wrong_operands c op_at) (result-second op_at k op boolean x y e) refl)

  as_number-quiet : (at : ℕ) (t : Place) (o : Operand) → QuietOr IsError (as_number c at t o)
  as_number-quiet at t (Constant u v) = search tests
  as_number-quiet at t o = quiet refl

  numbers-quiet : (op : Operator) (op_at : ℕ) (x : Operand) (x_at : ℕ) (y : Operand) (y_at : ℕ) → QuietOr IsError (on_numbers c op op_at x x_at y y_at)
  numbers-quiet op op_at x x_at y y_at =
      let v : Gives Operand = as_number c x_at (base_type c y) x in
      let w : Gives Operand = as_number c y_at (base_type c x) y in
      quiet-if IsError (is_arithmetic op || is_relation op) (and_then v (λ x'. and_then w (number_operation c op op_at x'))) (wrong_operands c op_at)
      (quiet-then IsError IsError v (λ x'. and_then w (number_operation c op op_at x')) (as_number-quiet x_at (base_type c y) x)
      (number-first op op_at v.value w.value)
      (quiet-then IsError IsError w (number_operation c op op_at v.value) (as_number-quiet y_at (base_type c x) y)
      (number-second op op_at v.value w.value) (number-quiet op op_at v.value w.value)))
      (wrong refl)

  scalars-quiet : (op : Operator) (op_at : ℕ) (x y : Operand) → QuietOr IsError (on_scalars c op op_at x y)
  scalars-quiet op op_at x y = search (tests, result-quiet)

  compatible-quiet : (op : Operator) (op_at : ℕ) (x : Operand) (x_at : ℕ) (y : Operand) (y_at : ℕ) → QuietOr IsError (on_compatible c op op_at x x_at y y_at)
  compatible-quiet op op_at x x_at y y_at = search (tests, numbers-quiet, scalars-quiet)

  alike-quiet : (op : Operator) (op_at : ℕ) (x : Operand) (x_at : ℕ) (y : Operand) (y_at : ℕ) → QuietOr IsError (on_alike c op op_at x x_at y y_at)
  alike-quiet op op_at x x_at y y_at = search (tests, set-quiet, compatible-quiet)

  member-quiet : (op_at : ℕ) (x : Operand) (x_at : ℕ) (y : Operand) (base : Place) → QuietOr IsError (membership_in c op_at x x_at y base)
  member-quiet op_at x x_at y base =
      let element : Operand = taken_beside c.source c.scene x (Computed base) in
      let v : Gives Operand = as_number c x_at (base_of c.scene base) element in
      let told : QuietOr IsError (and_then v (λ e. gives (member_of_set e y))) =
      quiet-then IsError IsError v (λ e. gives (member_of_set e y)) (as_number-quiet x_at (base_of c.scene base) element)
      (λ e. of-error (λ o. IsError (member_of_set o y)) v.value e refl) (quiet refl) in
      search (tests, told)

  membership-quiet : (op_at : ℕ) (x : Operand) (x_at : ℕ) (y : Operand) (m : RowMeaning) → QuietOr IsError (membership c op_at x x_at y m)
  membership-quiet op_at x x_at y (Set base) = member-quiet op_at x x_at y base
  membership-quiet op_at x x_at y m = wrong refl

  by_operator-quiet : (op : Operator) (op_at : ℕ) (x : Operand) (x_at : ℕ) (y : Operand) (y_at : ℕ) → QuietOr IsError (operate_by c op op_at x x_at y y_at)
  by_operator-quiet And op_at x x_at y y_at = logical-quiet And op_at x y
  by_operator-quiet Or op_at x x_at y y_at = logical-quiet Or op_at x y
  by_operator-quiet In op_at x x_at y y_at = membership-quiet op_at x x_at y (kind_of c.scene (operand_type y))
  by_operator-quiet op op_at x x_at y y_at = alike-quiet op op_at x x_at y y_at

  pub operate-quiet : (op : Operator) (op_at : ℕ) (x : Operand) (x_at : ℕ) (y : Operand) (y_at : ℕ) → QuietOr IsError (operate c op op_at x x_at y y_at)
  operate-quiet op op_at x x_at y y_at = search (tests, by_operator-quiet)

  pub operate-second : (op : Operator) (op_at : ℕ) (x : Operand) (x_at y_at : ℕ) → IsError (operate c op op_at x x_at InError y_at).value
  operate-second op op_at x x_at y_at =
      of-second IsGiven (is_bad x) InError (gives (worse x InError)) _ refl (worse-broken x)

  with_sign-quiet : (op : Operator) (op_at : ℕ) (t : Place) (r : Range) (o : Operand) → QuietOr IsError (with_sign c op op_at t r o)
  with_sign-quiet op op_at t r (Constant u v) = folded-quiet op_at t _
  with_sign-quiet op op_at t r o = quiet refl

  sign-quiet : (op : Operator) (op_at : ℕ) (o : Operand) → QuietOr IsError (sign_of c op op_at o)
  sign-quiet op op_at o = search (tests, with_sign-quiet)

  by_sign-quiet : (op : Operator) (op_at : ℕ) (o : Operand) → QuietOr IsError (apply_one_by c op op_at o)
  by_sign-quiet Not op_at o = search tests
  by_sign-quiet op op_at o = sign-quiet op op_at o

  pub apply-quiet : (op : Operator) (op_at : ℕ) (o : Operand) → QuietOr IsError (apply_one c op op_at o)
  apply-quiet op op_at o = search (tests, by_sign-quiet)

  -- ---- elements of sets

  checked-quiet : (base : Place) (at : ℕ) (o : Operand) → QuietOr IsError (checked_element c base at o)
  checked-quiet base at (Constant t v) = search tests
  checked-quiet base at o = quiet refl

  pub element_of-quiet : (base : Place) (at : ℕ) (o : Operand) → QuietOr IsError (element_of c base at o)
  element_of-quiet base at o = search (tests, checked-quiet)

-- a set with an element in error is in error
pub with_error-low : (bits high : Operand) → with_elements bits InError high ≡ InError
with_error-low InError high = refl
with_error-low (Constant t v) high = refl
with_error-low bits high = refl

pub with_error-high : (bits low : Operand) → with_elements bits low InError ≡ InError
with_error-high (Constant t v) (Constant u w) = refl
with_error-high (Constant t v) InError = refl
with_error-high (Constant t v) low = refl
with_error-high InError low = refl
with_error-high bits InError = refl
with_error-high bits low = refl

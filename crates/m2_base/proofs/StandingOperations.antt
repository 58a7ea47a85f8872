-- The diagnostics of operators, of standard functions and of sets stand at the operators and the operands.
use Rattle.std.specs.Prelude.{ℕ, not, is_none, ◌&&◌, ◌||◌, is_some, ℤ, pos, nat_abs, Option, Some, None}
use Rattle.m2_base.specs.Rows.{Place, RowMeaning, Set, is_same_place}
use Rattle.m2_base.specs.Standard.{boolean, cardinal, character, integer, whole}
use Rattle.m2_base.specs.Trees.{Operator}
use Rattle.m2_base.specs.Statics.Assignable.{is_open_array}
use Rattle.m2_base.specs.Statics.Compatible.{is_compatible, is_integer_or_cardinal, is_number_type, is_pointer, taken_beside}
use Rattle.m2_base.specs.Statics.Contexts.{Context}
use Rattle.m2_base.specs.Statics.Folding.{fold, is_arithmetic, is_equality, is_relation, number_kind, number_type, where_in}
use Rattle.m2_base.specs.Statics.Functions.{abs_of, absolute, cap_of, chr_of, converted, max_of, min_of, number_argument, odd_of, ord_of, ordinal_argument, ordinal_type_argument, size_value, type_argument, val_of}
use Rattle.m2_base.specs.Statics.Operands.{char_or_same, constant_of_operand, is_bad, is_procedure, operand_type}
use Rattle.m2_base.specs.Statics.Operations.{apply_one, apply_one_by, are_sets_alike, as_number, base_type, compares_sets, folded, gives_result, is_boolean, is_ordinal, logical, makes_set, membership, membership_in, number_operation, on_alike, on_compatible, on_numbers, on_scalars, operate, operate_by, result_of, set_operation, sign_of, signed, with_sign}
use Rattle.m2_base.specs.Statics.Ranges.{Range, integer_range, is_within, whole_range}
use Rattle.m2_base.specs.Statics.Sets.{checked_element, element_of, set_type_of}
use Rattle.m2_base.specs.Statics.Types.{base_of, is_broken, kind_of, range_of}
use Rattle.m2_base.specs.declared.operands.FoldKind.TheVariants as kinds
use Rattle.m2_base.specs.declared.operands.FoldKind.{FoldKind}
use Rattle.m2_base.specs.declared.operands.Operand.TheVariants.{Computed, Constant, InError, NamedType, NotConstant, Variable}
use Rattle.m2_base.specs.declared.operands.Operand.{Operand}
use Rattle.m2_base.specs.declared.trees.operators.Operator.TheVariants.{And, In, Not, Or}
use Rattle.m2_base.proofs.StandingNotes.{GivesAt, gives_either, join, none, one}

module _ (Here : ℕ → Type 0) where
  -- ** Operators

  folded_at : (c : Context) (op_at : ℕ) (t : Place) (o : Option ℤ) → Here op_at → GivesAt Here c (folded c op_at t o)
  folded_at c op_at t (Some v) h = none
  folded_at c op_at t None h = one h

  result_at : (c : Context) (op_at : ℕ) (k : FoldKind) (op : Operator) (t : Place) (x y : Option ℤ) → Here op_at → GivesAt Here c (result_of c op_at k op t x y)
  result_at c op_at k op t (Some x) (Some y) h = folded_at c op_at t (fold k op x y) h
  result_at c op_at k op t None y h = none
  result_at c op_at k op t (Some x) None h = none

  gives_result_at : (c : Context) (op_at : ℕ) (k : FoldKind) (op : Operator) (t : Place) (x y : Operand) → Here op_at → GivesAt Here c (gives_result c op_at k op t x y)
  gives_result_at c op_at k op t x y h =
      gives_either (is_bad x || is_bad y) _ _ none (result_at c op_at k op t (constant_of_operand x) (constant_of_operand y) h)

  number_at_by : (c : Context) (at : ℕ) (t u : Place) (v : ℤ) → Here at → GivesAt Here c (as_number c at t (Constant u v))
  number_at_by c at t u v h =
      gives_either (is_same_place u whole && is_integer_or_cardinal t) _ _ (gives_either (is_within (range_of c.scene t) v) _ _ none (one h)) none

  as_number_at : (c : Context) (at : ℕ) (t : Place) (o : Operand) → Here at → GivesAt Here c (as_number c at t o)
  as_number_at c at t (Constant u v) h = number_at_by c at t u v h
  as_number_at c at t o h = none

  logical_at : (c : Context) (op : Operator) (op_at : ℕ) (x y : Operand) → Here op_at → GivesAt Here c (logical c op op_at x y)
  logical_at c op op_at x y h =
      gives_either (is_boolean c x && is_boolean c y) _ _ (gives_result_at c op_at kinds.Ordinal op boolean x y h) (one h)

  set_operation_at : (c : Context) (op : Operator) (op_at : ℕ) (x y : Operand) → Here op_at → GivesAt Here c (set_operation c op op_at x y)
  set_operation_at c op op_at x y h =
      gives_either (makes_set op) _ _ (gives_result_at c op_at kinds.Set op (operand_type x) x y h)
      (gives_either (compares_sets op) _ _ (gives_result_at c op_at kinds.Set op boolean x y h) (one h))

  number_operation_at : (c : Context) (op : Operator) (op_at : ℕ) (x y : Operand) → Here op_at → GivesAt Here c (number_operation c op op_at x y)
  number_operation_at c op op_at x y h =
      let k = number_kind (base_type c x) in
      gives_either (is_arithmetic op) _ _ (gives_result_at c op_at k op (number_type k) x y h)
      (gives_either (is_relation op) _ _ (gives_result_at c op_at k op boolean x y h) (one h))

  on_numbers_at : (c : Context) (op : Operator) (op_at : ℕ) (x : Operand) (x_at : ℕ) (y : Operand) (y_at : ℕ) → Here op_at → Here x_at → Here y_at → GivesAt Here c (on_numbers c op op_at x x_at y y_at)
  on_numbers_at c op op_at x x_at y y_at h hx hy =
      let x' = (as_number c x_at (base_type c y) x).value in
      let y' = (as_number c y_at (base_type c x) y).value in
      gives_either (is_arithmetic op || is_relation op) _ _
      (join (as_number_at c x_at (base_type c y) x hx) (join (as_number_at c y_at (base_type c x) y hy) (number_operation_at c op op_at x' y' h)))
      (one h)

  on_scalars_at : (c : Context) (op : Operator) (op_at : ℕ) (x y : Operand) → Here op_at → GivesAt Here c (on_scalars c op op_at x y)
  on_scalars_at c op op_at x y h =
      let ordinals = is_some (range_of c.scene (base_type c x)) && is_some (range_of c.scene (base_type c y)) in
      let pointers = is_pointer c.scene (base_type c x) || is_pointer c.scene (base_type c y) in
      gives_either ((is_relation op && ordinals) || (is_equality op && pointers)) _ _ (gives_result_at c op_at kinds.Ordinal op boolean x y h) (one h)

  on_compatible_at : (c : Context) (op : Operator) (op_at : ℕ) (x : Operand) (x_at : ℕ) (y : Operand) (y_at : ℕ) → Here op_at → Here x_at → Here y_at → GivesAt Here c (on_compatible c op op_at x x_at y y_at)
  on_compatible_at c op op_at x x_at y y_at h hx hy =
      gives_either (is_number_type (base_type c x) && is_number_type (base_type c y)) _ _ (on_numbers_at c op op_at x x_at y y_at h hx hy) (on_scalars_at c op op_at x y h)

  on_alike_at : (c : Context) (op : Operator) (op_at : ℕ) (x : Operand) (x_at : ℕ) (y : Operand) (y_at : ℕ) → Here op_at → Here x_at → Here y_at → GivesAt Here c (on_alike c op op_at x x_at y y_at)
  on_alike_at c op op_at x x_at y y_at h hx hy =
      gives_either (are_sets_alike c x y) _ _ (set_operation_at c op op_at x y h)
      (gives_either (is_compatible c.scene x y) _ _
      (on_compatible_at c op op_at (taken_beside c.source c.scene x y) x_at (taken_beside c.source c.scene y x) y_at h hx hy) (one h))

  membership_in_at : (c : Context) (op_at : ℕ) (x : Operand) (x_at : ℕ) (y : Operand) (base : Place) → Here op_at → Here x_at → GivesAt Here c (membership_in c op_at x x_at y base)
  membership_in_at c op_at x x_at y base h hx =
      let element = taken_beside c.source c.scene x (Computed base) in
      gives_either (is_broken c.scene base) _ _ none
      (gives_either (is_compatible c.scene x (Computed base) && is_ordinal c element) _ _
      (join (as_number_at c x_at (base_of c.scene base) element hx) none) (one h))

  membership_at : (c : Context) (op_at : ℕ) (x : Operand) (x_at : ℕ) (y : Operand) (m : RowMeaning) → Here op_at → Here x_at → GivesAt Here c (membership c op_at x x_at y m)
  membership_at c op_at x x_at y (Set base) h hx = membership_in_at c op_at x x_at y base h hx
  membership_at c op_at x x_at y m h hx = one h

  operate_by_at : (c : Context) (op : Operator) (op_at : ℕ) (x : Operand) (x_at : ℕ) (y : Operand) (y_at : ℕ) → Here op_at → Here x_at → Here y_at → GivesAt Here c (operate_by c op op_at x x_at y y_at)
  operate_by_at c And op_at x x_at y y_at h hx hy = logical_at c And op_at x y h
  operate_by_at c Or op_at x x_at y y_at h hx hy = logical_at c Or op_at x y h
  operate_by_at c In op_at x x_at y y_at h hx hy = membership_at c op_at x x_at y (kind_of c.scene (operand_type y)) h hx
  operate_by_at c op op_at x x_at y y_at h hx hy = on_alike_at c op op_at x x_at y y_at h hx hy

  pub operate_at : (c : Context) (op : Operator) (op_at : ℕ) (x : Operand) (x_at : ℕ) (y : Operand) (y_at : ℕ) → Here op_at → Here x_at → Here y_at → GivesAt Here c (operate c op op_at x x_at y y_at)
  operate_at c op op_at x x_at y y_at h hx hy =
      gives_either (is_bad x || is_bad y) _ _ none
      (gives_either (is_procedure x || is_procedure y) _ _ (one h) (operate_by_at c op op_at x x_at y y_at h hx hy))

  with_sign_at : (c : Context) (op : Operator) (op_at : ℕ) (t : Place) (r : Range) (o : Operand) → Here op_at → GivesAt Here c (with_sign c op op_at t r o)
  with_sign_at c op op_at t r (Constant u v) h = folded_at c op_at t (where_in r (signed op v)) h
  with_sign_at c op op_at t r o h = none

  sign_at : (c : Context) (op : Operator) (op_at : ℕ) (o : Operand) → Here op_at → GivesAt Here c (sign_of c op op_at o)
  sign_at c op op_at o h =
      gives_either (is_same_place (base_type c o) integer) _ _ (with_sign_at c op op_at integer integer_range o h)
      (gives_either (is_same_place (base_type c o) whole) _ _ (with_sign_at c op op_at whole whole_range o h) (one h))

  apply_by_at : (c : Context) (op : Operator) (op_at : ℕ) (o : Operand) → Here op_at → GivesAt Here c (apply_one_by c op op_at o)
  apply_by_at c Not op_at o h = gives_either (is_boolean c o) _ _ none (one h)
  apply_by_at c op op_at o h = sign_at c op op_at o h

  pub apply_at : (c : Context) (op : Operator) (op_at : ℕ) (o : Operand) → Here op_at → GivesAt Here c (apply_one c op op_at o)
  apply_at c op op_at o h = gives_either (is_bad o) _ _ none (apply_by_at c op op_at o h)

  -- ** Standard functions

  number_argument_at : (c : Context) (at : ℕ) (o : Operand) → Here at → GivesAt Here c (number_argument c at o)
  number_argument_at c at o h = gives_either (is_bad o) _ _ none (gives_either (is_number_type (base_type c o)) _ _ none (one h))

  ordinal_argument_at : (c : Context) (at : ℕ) (o : Operand) → Here at → GivesAt Here c (ordinal_argument c at o)
  ordinal_argument_at c at o h = gives_either (is_bad o) _ _ none (gives_either (is_ordinal c (char_or_same c.source o)) _ _ none (one h))

  type_argument_at : (c : Context) (at : ℕ) (o : Operand) → Here at → GivesAt Here c (type_argument c at o)
  type_argument_at c at (NamedType t) h = none
  type_argument_at c at InError h = none
  type_argument_at c at o h = one h

  ordinal_type_at : (c : Context) (at : ℕ) (o : Operand) → Here at → GivesAt Here c (ordinal_type_argument c at o)
  ordinal_type_at c at o h =
      let t = (type_argument c at o).value in
      join (type_argument_at c at o h) (gives_either (not (is_broken c.scene t) && is_none (range_of c.scene t)) _ _ (one h) none)

  converted_at : (c : Context) (at : ℕ) (t : Place) (o : Operand) → Here at → GivesAt Here c (converted c at t o)
  converted_at c at t (Constant u v) h = gives_either (is_within (range_of c.scene t) v) _ _ none (one h)
  converted_at c at t InError h = none
  converted_at c at t NotConstant h = none
  converted_at c at t o h = none

  absolute_at : (c : Context) (at : ℕ) (t : Place) (o : Operand) → Here at → GivesAt Here c (absolute c at t o)
  absolute_at c at t (Constant u v) h =
      gives_either (is_same_place t integer && not (is_within (Some integer_range) (pos (nat_abs v)))) _ _ (one h) none
  absolute_at c at t InError h = none
  absolute_at c at t NotConstant h = none
  absolute_at c at t o h = none

  pub abs_at : (c : Context) (at : ℕ) (o : Operand) → Here at → GivesAt Here c (abs_of c at o)
  abs_at c at o h =
      let x = (number_argument c at o).value in
      join (number_argument_at c at o h) (absolute_at c at (number_type (number_kind (base_type c x))) x h)

  pub cap_at : (c : Context) (at : ℕ) (o : Operand) → Here at → GivesAt Here c (cap_of c at o)
  cap_at c at o h = gives_either (is_bad o) _ _ none (gives_either (is_same_place (base_type c (char_or_same c.source o)) character) _ _ none (one h))

  pub chr_at : (c : Context) (at : ℕ) (o : Operand) → Here at → GivesAt Here c (chr_of c at o)
  chr_at c at o h = join (number_argument_at c at o h) (converted_at c at character (number_argument c at o).value h)

  pub odd_at : (c : Context) (at : ℕ) (o : Operand) → Here at → GivesAt Here c (odd_of c at o)
  odd_at c at o h = join (number_argument_at c at o h) none

  pub ord_at : (c : Context) (at : ℕ) (o : Operand) → Here at → GivesAt Here c (ord_of c at o)
  ord_at c at o h = join (ordinal_argument_at c at o h) (converted_at c at cardinal (ordinal_argument c at o).value h)

  pub val_at : (c : Context) (t_at : ℕ) (t : Operand) (at : ℕ) (o : Operand) → Here t_at → Here at → GivesAt Here c (val_of c t_at t at o)
  val_at c t_at t at o ht h =
      let typ = (ordinal_type_argument c t_at t).value in
      let x = (ordinal_argument c at o).value in
      join (ordinal_type_at c t_at t ht) (join (ordinal_argument_at c at o h) (gives_either (is_broken c.scene typ) _ _ none (converted_at c at typ x h)))

  pub min_at : (c : Context) (at : ℕ) (o : Operand) → Here at → GivesAt Here c (min_of c at o)
  min_at c at o h = join (ordinal_type_at c at o h) none

  pub max_at : (c : Context) (at : ℕ) (o : Operand) → Here at → GivesAt Here c (max_of c at o)
  max_at c at o h = join (ordinal_type_at c at o h) none

  pub size_at : (c : Context) (at : ℕ) (o : Operand) → Here at → GivesAt Here c (size_value c at o)
  size_at c at (NamedType t) h = none
  size_at c at (Variable t) h = gives_either (is_open_array c.scene t) _ _ (one h) none
  size_at c at InError h = none
  size_at c at NotConstant h = none
  size_at c at o h = one h

  -- ** Sets

  pub set_type_at : (c : Context) (at : ℕ) (o : Operand) → Here at → GivesAt Here c (set_type_of c at o)
  set_type_at c at (NamedType t) h = gives_either _ _ _ none (one h)
  set_type_at c at InError h = none
  set_type_at c at o h = one h

  checked_element_at : (c : Context) (base : Place) (at : ℕ) (o : Operand) → Here at → GivesAt Here c (checked_element c base at o)
  checked_element_at c base at (Constant t v) h = gives_either (is_within (range_of c.scene base) v) _ _ none (one h)
  checked_element_at c base at o h = none

  pub element_at : (c : Context) (base : Place) (at : ℕ) (o : Operand) → Here at → GivesAt Here c (element_of c base at o)
  element_at c base at o h =
      gives_either (is_bad o) _ _ none
      (gives_either (is_broken c.scene base) _ _ none
      (gives_either (not (is_procedure o) && is_compatible c.scene o (Computed base)) _ _
      (checked_element_at c base at (taken_beside c.source c.scene o (Computed base)) h) (one h)))

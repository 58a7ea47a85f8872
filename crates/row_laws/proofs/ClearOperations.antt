-- What operators, standard functions and sets give of operands that aren't in error, where they have no diagnostic.
use Rattle.std.specs.Prelude.{◌≡◌, ℕ, true, false, not, is_none, ◌&&◌, ◌||◌, is_some, ℤ, pos, nat_abs, slice_index_or, ◌⊎◌, List, Option, Some, None}
use Rattle.std.proofs.Common.{ap, subst, sym, ◌∙◌, refl, inl, inr}
use Rattle.std.proofs.lemmas.Bool.{and_parts, false≢true, or_cases, or_from, or_parts, true≢false}
use Rattle.m2_base.specs.Gives.{Gives, gives}
use Rattle.m2_base.specs.Rows.{is_same_place, row_of, row_meaning}
use Rattle.m2_base.specs.declared.rows.Place.{Place}
use Rattle.m2_base.specs.declared.rows.RowMeaning.{RowMeaning}
use Rattle.m2_base.specs.declared.rows.RowMeaning.TheVariants.{Broken, Set}
use Rattle.m2_base.specs.declared.rows.Row.{Row}
use Rattle.m2_base.specs.Standard.{bitset, boolean, cardinal, character, integer, whole}
use Rattle.m2_base.specs.declared.trees.operators.Operator.{Operator}
use Rattle.m2_base.specs.Statics.Assignable.{is_open_array}
use Rattle.m2_base.specs.Statics.Compatible.{is_beside_char, is_compatible, is_integer_or_cardinal, is_number_type, is_pointer, taken_beside}
use Rattle.m2_base.specs.Statics.Contexts.{Context, Source}
use Rattle.m2_base.specs.Statics.Folding.{fold, is_arithmetic, is_equality, is_relation, number_kind, number_type, where_in}
use Rattle.m2_base.specs.Statics.Functions.{abs_of, absolute, cap_of, capital, chr_of, converted, end_value, max_of, min_of, number_argument, odd_of, oddness, ord_of, ordinal_argument, ordinal_type, ordinal_type_argument, size_value, type_argument, val_as, val_of}
use Rattle.m2_base.specs.Statics.Operands.{as_char, char_or_same, constant_of_operand, is_bad, is_one_char, is_procedure, operand_type, worse}
use Rattle.m2_base.specs.Statics.Operations.{apply_one, apply_one_by, are_sets_alike, as_number, base_type, compares_sets, folded, gives_result, is_boolean, is_ordinal, is_set_kind, logical, makes_set, member_of_set, membership, membership_in, negated, number_operation, on_alike, on_compatible, on_numbers, on_scalars, operate, operate_by, result_of, set_operation, sign_of, signed, with_sign}
use Rattle.m2_base.specs.Statics.Ranges.{Range, integer_range, is_within, whole_range}
use Rattle.m2_base.specs.Statics.Sets.{checked_element, element_of, no_elements, set_base, set_base_by, set_type_of, with_elements}
use Rattle.m2_base.specs.Statics.Types.{base_of, is_broken, kind_of, meaning_at, range_of, stands_as, stands_for}
use Rattle.m2_base.specs.declared.operands.FoldKind.TheVariants as kinds
use Rattle.m2_base.specs.declared.operands.FoldKind.{FoldKind}
use Rattle.m2_base.specs.declared.operands.Operand.TheVariants.{Computed, Constant, InError, NamedType, NotConstant, StringConstant, Variable}
use Rattle.m2_base.specs.declared.operands.Operand.{Operand}
use Rattle.m2_base.specs.declared.trees.operators.Operator.TheVariants.{And, In, Not, Or}
use Rattle.m2_base.proofs.SoundTypes.{either}
use Rattle.m2_base.proofs.TypeLaws.{same_place-is}
use Rattle.row_laws.specs.Clear.{HasClear, IsClear}
use Rattle.row_laws.proofs.ClearRows.{HaveClear, IsClearScene, have_clear, not_broken, place_clear, stands_clear}
use Rattle.row_laws.proofs.Choices.{either_by, where_false}
use Rattle.row_laws.proofs.ClearNotes.{GivesFine, fine_either, given, join, refused}

-- ** Operands

-- an operand that isn't in error; of a constant and a type, neither is the type
abbrev pub IsGood : Operand → Type 0
IsGood (Constant t v) = IsClear t
IsGood (NamedType t) = IsClear t
IsGood InError = ⊥
IsGood other = Unit {0}

-- one that takes part in further checks
abbrev IsAble : Operand → Type 0
IsAble o = IsGood o × (is_bad o ≡ false)

-- where the operand is a constant, the type isn't in error
abbrev IsFor : Place → Operand → Type 0
IsFor t (Constant u v) = IsClear t
IsFor t other = Unit {0}

for_all : (t : Place) (x : Operand) → IsClear t → IsFor t x
for_all t (Constant u v) h = h
for_all t x h = tt

for_own : (x : Operand) → IsGood x → IsFor (operand_type x) x
for_own (Constant t v) h = h
for_own x h = tt

worse_good : (x y : Operand) → IsGood x → IsGood y → IsGood (worse x y)
worse_good InError y h k = absurd h
worse_good x InError h k = absurd k
worse_good x y h k = tt

char_good : (source : Source) (o : Operand) → IsGood o → IsGood (as_char source o)
char_good source (StringConstant n l) h = refl
char_good source o h = h

pub same_good : (source : Source) (o : Operand) → IsGood o → IsGood (char_or_same source o)
same_good source o h = either IsGood (is_one_char o) _ _ (char_good source o h) h

char_able : (source : Source) (o : Operand) → IsAble o → IsAble (as_char source o)
char_able source (StringConstant n l) h = (refl, refl)
char_able source o h = h

number_clear : (t : Place) → is_integer_or_cardinal t ≡ true → IsClear t
number_clear t e = by_case (or_cases (is_same_place t integer) (is_same_place t cardinal) e)
  where
    by_case : (is_same_place t integer ≡ true) ⊎ (is_same_place t cardinal ≡ true) → IsClear t
    by_case (inl h) = subst IsClear (sym (same_place-is t integer h)) refl
    by_case (inr h) = subst IsClear (sym (same_place-is t cardinal h)) refl

number_type_clear : (k : FoldKind) → IsClear (number_type k)
number_type_clear kinds.Integer = refl
number_type_clear kinds.Cardinal = refl
number_type_clear k = refl

module _ (c : Context) (clear : IsClearScene c.scene) where
  pub types : HaveClear c.scene.tables
  types = have_clear c.scene.tables clear.rows

  -- ** Operators

  folded_fine : (op_at : ℕ) (t : Place) (o : Option ℤ) → IsClear t → GivesFine IsGood (folded c op_at t o)
  folded_fine op_at t (Some v) h = given h
  folded_fine op_at t None h = refused

  result_fine : (op_at : ℕ) (k : FoldKind) (op : Operator) (t : Place) (x : Operand) (y : Option ℤ) → IsFor t x → GivesFine IsGood (result_of c op_at k op t (constant_of_operand x) y)
  result_fine op_at k op t (Constant u v) (Some w) h = folded_fine op_at t (fold k op v w) h
  result_fine op_at k op t (Constant u v) None h = given tt
  result_fine op_at k op t x y h = given tt

  gives_result_fine : (op_at : ℕ) (k : FoldKind) (op : Operator) (t : Place) (x y : Operand) → IsFor t x → is_bad x ≡ false → is_bad y ≡ false → GivesFine IsGood (gives_result c op_at k op t x y)
  gives_result_fine op_at k op t x y h p q =
      where_false (λ (g : Gives Operand). GivesFine IsGood g) (is_bad x || is_bad y) _ _ (or_from (is_bad x) (is_bad y) p q) (result_fine op_at k op t x (constant_of_operand y) h)

  number_fine_by : (at : ℕ) (t u : Place) (v : ℤ) → IsClear u → GivesFine IsAble (as_number c at t (Constant u v))
  number_fine_by at t u v h =
      either_by (λ (g : Gives Operand). GivesFine IsAble g) (is_same_place u whole && is_integer_or_cardinal t) _ _
      (λ e. fine_either (is_within (range_of c.scene t) v) _ _ (given (number_clear t (and_parts _ _ e).1, refl)) refused) (λ e. given (h, refl))

  as_number_fine : (at : ℕ) (t : Place) (o : Operand) → IsAble o → GivesFine IsAble (as_number c at t o)
  as_number_fine at t (Constant u v) h = number_fine_by at t u v h.0
  as_number_fine at t o h = given h

  logical_fine : (op : Operator) (op_at : ℕ) (x y : Operand) → IsAble x → IsAble y → GivesFine IsGood (logical c op op_at x y)
  logical_fine op op_at x y h k =
      fine_either (is_boolean c x && is_boolean c y) _ _ (gives_result_fine op_at kinds.Ordinal op boolean x y (for_all boolean x refl) h.1 k.1) refused

  set_operation_fine : (op : Operator) (op_at : ℕ) (x y : Operand) → IsAble x → IsAble y → GivesFine IsGood (set_operation c op op_at x y)
  set_operation_fine op op_at x y h k =
      fine_either (makes_set op) _ _ (gives_result_fine op_at kinds.Set op (operand_type x) x y (for_own x h.0) h.1 k.1)
      (fine_either (compares_sets op) _ _ (gives_result_fine op_at kinds.Set op boolean x y (for_all boolean x refl) h.1 k.1) refused)

  number_operation_fine : (op : Operator) (op_at : ℕ) (x y : Operand) → IsAble x → IsAble y → GivesFine IsGood (number_operation c op op_at x y)
  number_operation_fine op op_at x y h k =
      let kind = number_kind (base_type c x) in
      fine_either (is_arithmetic op) _ _ (gives_result_fine op_at kind op (number_type kind) x y (for_all (number_type kind) x (number_type_clear kind)) h.1 k.1)
      (fine_either (is_relation op) _ _ (gives_result_fine op_at kind op boolean x y (for_all boolean x refl) h.1 k.1) refused)

  on_numbers_fine : (op : Operator) (op_at : ℕ) (x : Operand) (x_at : ℕ) (y : Operand) (y_at : ℕ) → IsAble x → IsAble y → GivesFine IsGood (on_numbers c op op_at x x_at y y_at)
  on_numbers_fine op op_at x x_at y y_at h k =
      let x' = (as_number c x_at (base_type c y) x).value in
      let y' = (as_number c y_at (base_type c x) y).value in
      fine_either (is_arithmetic op || is_relation op) _ _
      (join (as_number_fine x_at (base_type c y) x h) (λ h'. join (as_number_fine y_at (base_type c x) y k) (λ k'. number_operation_fine op op_at x' y' h' k')))
      refused

  on_scalars_fine : (op : Operator) (op_at : ℕ) (x y : Operand) → IsAble x → IsAble y → GivesFine IsGood (on_scalars c op op_at x y)
  on_scalars_fine op op_at x y h k =
      let ordinals = is_some (range_of c.scene (base_type c x)) && is_some (range_of c.scene (base_type c y)) in
      let pointers = is_pointer c.scene (base_type c x) || is_pointer c.scene (base_type c y) in
      fine_either ((is_relation op && ordinals) || (is_equality op && pointers)) _ _ (gives_result_fine op_at kinds.Ordinal op boolean x y (for_all boolean x refl) h.1 k.1) refused

  on_compatible_fine : (op : Operator) (op_at : ℕ) (x : Operand) (x_at : ℕ) (y : Operand) (y_at : ℕ) → IsAble x → IsAble y → GivesFine IsGood (on_compatible c op op_at x x_at y y_at)
  on_compatible_fine op op_at x x_at y y_at h k =
      fine_either (is_number_type (base_type c x) && is_number_type (base_type c y)) _ _ (on_numbers_fine op op_at x x_at y y_at h k) (on_scalars_fine op op_at x y h k)

  taken_able : (x y : Operand) → IsAble x → IsAble (taken_beside c.source c.scene x y)
  taken_able x y h = either IsAble (is_beside_char c.scene x y) _ _ (char_able c.source x h) h

  on_alike_fine : (op : Operator) (op_at : ℕ) (x : Operand) (x_at : ℕ) (y : Operand) (y_at : ℕ) → IsAble x → IsAble y → GivesFine IsGood (on_alike c op op_at x x_at y y_at)
  on_alike_fine op op_at x x_at y y_at h k =
      fine_either (are_sets_alike c x y) _ _ (set_operation_fine op op_at x y h k)
      (fine_either (is_compatible c.scene x y) _ _
      (on_compatible_fine op op_at (taken_beside c.source c.scene x y) x_at (taken_beside c.source c.scene y x) y_at (taken_able x y h) (taken_able y x k)) refused)

  member_good : (x y : Operand) → IsGood x → IsGood (member_of_set x y)
  member_good (Constant t v) (Constant s bits) h = refl
  member_good (Constant t v) y h = tt
  member_good InError y h = absurd h
  member_good x y h = tt

  membership_in_fine : (op_at : ℕ) (x : Operand) (x_at : ℕ) (y : Operand) (base : Place) → IsAble x → IsClear base → GivesFine IsGood (membership_in c op_at x x_at y base)
  membership_in_fine op_at x x_at y base h k =
      let element = taken_beside c.source c.scene x (Computed base) in
      where_false (λ (g : Gives Operand). GivesFine IsGood g) (is_broken c.scene base) _ _ (not_broken c.scene types base k)
      (fine_either (is_compatible c.scene x (Computed base) && is_ordinal c element) _ _
      (join (as_number_fine x_at (base_of c.scene base) element (taken_able x (Computed base) h)) (λ e. given (member_good (as_number c x_at (base_of c.scene base) element).value y e.0))) refused)

  membership_fine : (op_at : ℕ) (x : Operand) (x_at : ℕ) (y : Operand) (m : RowMeaning) → IsAble x → HasClear m → GivesFine IsGood (membership c op_at x x_at y m)
  membership_fine op_at x x_at y (Set base) h k = membership_in_fine op_at x x_at y base h k
  membership_fine op_at x x_at y m h k = refused

  operate_by_fine : (op : Operator) (op_at : ℕ) (x : Operand) (x_at : ℕ) (y : Operand) (y_at : ℕ) → IsAble x → IsAble y → GivesFine IsGood (operate_by c op op_at x x_at y y_at)
  operate_by_fine And op_at x x_at y y_at h k = logical_fine And op_at x y h k
  operate_by_fine Or op_at x x_at y y_at h k = logical_fine Or op_at x y h k
  operate_by_fine In op_at x x_at y y_at h k =
      membership_fine op_at x x_at y (kind_of c.scene (operand_type y)) h (place_clear c.scene.tables types (stands_for c.scene (operand_type y)))
  operate_by_fine op op_at x x_at y y_at h k = on_alike_fine op op_at x x_at y y_at h k

  pub operate_fine : (op : Operator) (op_at : ℕ) (x : Operand) (x_at : ℕ) (y : Operand) (y_at : ℕ) → IsGood x → IsGood y → GivesFine IsGood (operate c op op_at x x_at y y_at)
  operate_fine op op_at x x_at y y_at h k =
      either_by (λ (g : Gives Operand). GivesFine IsGood g) (is_bad x || is_bad y) (gives (worse x y)) _ (λ e. given (worse_good x y h k))
      (λ e. fine_either (is_procedure x || is_procedure y) _ _ refused
      (operate_by_fine op op_at x x_at y y_at (h, (or_parts (is_bad x) (is_bad y) e).0) (k, (or_parts (is_bad x) (is_bad y) e).1)))

  with_sign_fine : (op : Operator) (op_at : ℕ) (t : Place) (r : Range) (o : Operand) → IsClear t → GivesFine IsGood (with_sign c op op_at t r o)
  with_sign_fine op op_at t r (Constant u v) h = folded_fine op_at t (where_in r (signed op v)) h
  with_sign_fine op op_at t r o h = given tt

  sign_fine : (op : Operator) (op_at : ℕ) (o : Operand) → GivesFine IsGood (sign_of c op op_at o)
  sign_fine op op_at o =
      fine_either (is_same_place (base_type c o) integer) _ _ (with_sign_fine op op_at integer integer_range o refl)
      (fine_either (is_same_place (base_type c o) whole) _ _ (with_sign_fine op op_at whole whole_range o refl) refused)

  negated_good : (o : Operand) → IsGood (negated o)
  negated_good (Constant t v) = refl
  negated_good o = tt

  apply_by_fine : (op : Operator) (op_at : ℕ) (o : Operand) → GivesFine IsGood (apply_one_by c op op_at o)
  apply_by_fine Not op_at o = fine_either (is_boolean c o) _ _ (given (negated_good o)) refused
  apply_by_fine op op_at o = sign_fine op op_at o

  pub apply_fine : (op : Operator) (op_at : ℕ) (o : Operand) → IsGood o → GivesFine IsGood (apply_one c op op_at o)
  apply_fine op op_at o h = fine_either (is_bad o) (gives o) _ (given h) (apply_by_fine op op_at o)

  -- ** Standard functions

  number_argument_fine : (at : ℕ) (o : Operand) → IsGood o → GivesFine IsGood (number_argument c at o)
  number_argument_fine at o h = fine_either (is_bad o) (gives o) _ (given h) (fine_either (is_number_type (base_type c o)) _ _ (given h) refused)

  ordinal_argument_fine : (at : ℕ) (o : Operand) → IsGood o → GivesFine IsGood (ordinal_argument c at o)
  ordinal_argument_fine at o h =
      fine_either (is_bad o) (gives o) _ (given h) (fine_either (is_ordinal c (char_or_same c.source o)) (gives (char_or_same c.source o)) _ (given (same_good c.source o h)) refused)

  type_argument_fine : (at : ℕ) (o : Operand) → IsGood o → GivesFine IsClear (type_argument c at o)
  type_argument_fine at (NamedType t) h = given h
  type_argument_fine at InError h = absurd h
  type_argument_fine at o h = refused

  -- a type with a range
  abbrev IsOrdinal : Place → Type 0
  IsOrdinal t = IsClear t × (is_none (range_of c.scene t) ≡ false)

  ordinal_type_fine : (at : ℕ) (t : Place) → IsClear t → GivesFine IsOrdinal (ordinal_type c at t)
  ordinal_type_fine at t h =
      either_by (λ (g : Gives Place). GivesFine IsOrdinal g) (not (is_broken c.scene t) && is_none (range_of c.scene t)) _ _ (λ e. refused)
      (λ e. given (h, sym (ap (λ b. not b && is_none (range_of c.scene t)) (not_broken c.scene types t h)) ∙ e))

  ordinal_type_argument_fine : (at : ℕ) (o : Operand) → IsGood o → GivesFine IsOrdinal (ordinal_type_argument c at o)
  ordinal_type_argument_fine at o h = join (type_argument_fine at o h) (λ k. ordinal_type_fine at (type_argument c at o).value k)

  converted_fine : (at : ℕ) (t : Place) (o : Operand) → IsClear t → IsGood o → GivesFine IsGood (converted c at t o)
  converted_fine at t (Constant u v) h k = fine_either (is_within (range_of c.scene t) v) _ _ (given h) refused
  converted_fine at t InError h k = absurd k
  converted_fine at t NotConstant h k = given tt
  converted_fine at t o h k = given tt

  absolute_fine : (at : ℕ) (t : Place) (o : Operand) → IsClear t → IsGood o → GivesFine IsGood (absolute c at t o)
  absolute_fine at t (Constant u v) h k =
      fine_either (is_same_place t integer && not (is_within (Some integer_range) (pos (nat_abs v)))) _ _ refused (given h)
  absolute_fine at t InError h k = absurd k
  absolute_fine at t NotConstant h k = given tt
  absolute_fine at t o h k = given tt

  pub abs_fine : (at : ℕ) (o : Operand) → IsGood o → GivesFine IsGood (abs_of c at o)
  abs_fine at o h =
      let x = (number_argument c at o).value in
      let kind = number_kind (base_type c x) in
      join (number_argument_fine at o h) (λ k. absolute_fine at (number_type kind) x (number_type_clear kind) k)

  capital_good : (o : Operand) → IsGood (capital o)
  capital_good (Constant t v) = refl
  capital_good o = tt

  pub cap_fine : (at : ℕ) (o : Operand) → IsGood o → GivesFine IsGood (cap_of c at o)
  cap_fine at o h =
      fine_either (is_bad o) (gives o) _ (given h)
      (fine_either (is_same_place (base_type c (char_or_same c.source o)) character) _ _ (given (capital_good (char_or_same c.source o))) refused)

  pub chr_fine : (at : ℕ) (o : Operand) → IsGood o → GivesFine IsGood (chr_of c at o)
  chr_fine at o h = join (number_argument_fine at o h) (λ k. converted_fine at character (number_argument c at o).value refl k)

  oddness_good : (o : Operand) → IsGood o → IsGood (oddness o)
  oddness_good (Constant t v) h = refl
  oddness_good InError h = absurd h
  oddness_good NotConstant h = tt
  oddness_good o h = tt

  pub odd_fine : (at : ℕ) (o : Operand) → IsGood o → GivesFine IsGood (odd_of c at o)
  odd_fine at o h = join (number_argument_fine at o h) (λ k. given (oddness_good (number_argument c at o).value k))

  pub ord_fine : (at : ℕ) (o : Operand) → IsGood o → GivesFine IsGood (ord_of c at o)
  ord_fine at o h = join (ordinal_argument_fine at o h) (λ k. converted_fine at cardinal (ordinal_argument c at o).value refl k)

  val_as_fine : (at : ℕ) (t : Place) (o : Operand) → IsClear t → IsGood o → GivesFine IsGood (val_as c at t o)
  val_as_fine at t o h k = where_false (λ (g : Gives Operand). GivesFine IsGood g) (is_broken c.scene t) _ _ (not_broken c.scene types t h) (converted_fine at t o h k)

  pub val_fine : (t_at : ℕ) (t : Operand) (at : ℕ) (o : Operand) → IsGood t → IsGood o → GivesFine IsGood (val_of c t_at t at o)
  val_fine t_at t at o h k =
      let typ = (ordinal_type_argument c t_at t).value in
      let x = (ordinal_argument c at o).value in
      join (ordinal_type_argument_fine t_at t h) (λ h'. join (ordinal_argument_fine at o k) (λ k'. val_as_fine at typ x h'.0 k'))

  end_good : (t : Place) (end : Range → ℤ) (o : Option Range) → IsClear t → is_none o ≡ false → IsGood (end_value c t end o)
  end_good t end None h e = absurd (true≢false e)
  end_good t end (Some r) h e = h

  pub min_fine : (at : ℕ) (o : Operand) → IsGood o → GivesFine IsGood (min_of c at o)
  min_fine at o h =
      let t = (ordinal_type_argument c at o).value in
      join (ordinal_type_argument_fine at o h) (λ k. given (end_good t (λ r. r.low) (range_of c.scene t) k.0 k.1))

  pub max_fine : (at : ℕ) (o : Operand) → IsGood o → GivesFine IsGood (max_of c at o)
  max_fine at o h =
      let t = (ordinal_type_argument c at o).value in
      join (ordinal_type_argument_fine at o h) (λ k. given (end_good t (λ r. r.high) (range_of c.scene t) k.0 k.1))

  pub size_fine : (at : ℕ) (o : Operand) → IsGood o → GivesFine IsGood (size_value c at o)
  size_fine at (NamedType t) h = given refl
  size_fine at (Variable t) h = fine_either (is_open_array c.scene t) _ _ refused (given tt)
  size_fine at InError h = absurd h
  size_fine at NotConstant h = given tt
  size_fine at o h = refused

  -- ** Sets

  -- the base of a set isn't in error
  base_by : (u : Place) (m : RowMeaning) → meaning_at c.scene u ≡ m → is_set_kind m ≡ true → HasClear m → IsClear (set_base c u)
  base_by u (Set base) e s h =
      let kind : kind_of c.scene u ≡ Set base = ap (meaning_at c.scene) (ap (stands_as c.scene u) e) ∙ e in
      subst IsClear (sym (ap set_base_by kind)) h
  base_by u m e s h = absurd (false≢true s)

  base_clear : (u : Place) → is_set_kind (meaning_at c.scene u) ≡ true → IsClear (set_base c u)
  base_clear u s = base_by u (meaning_at c.scene u) refl s (place_clear c.scene.tables types u)

  -- a set's type
  abbrev pub IsSetType : Place → Type 0
  IsSetType t = IsClear t × IsClear (set_base c t)

  pub bitset_fine : IsSetType bitset
  bitset_fine = (refl, base_clear bitset (ap (λ (rows : List Row). is_set_kind (row_meaning (slice_index_or rows 5 (row_of 0 0 Broken)))) clear.standard))

  pub set_type_fine : (at : ℕ) (o : Operand) → IsGood o → GivesFine IsSetType (set_type_of c at o)
  set_type_fine at (NamedType t) h =
      either_by (λ (g : Gives Place). GivesFine IsSetType g) (is_set_kind (kind_of c.scene t)) (gives (stands_for c.scene t)) _
      (λ e. given (stands_clear c.scene types t h, base_clear (stands_for c.scene t) e)) (λ e. refused)
  set_type_fine at InError h = absurd h
  set_type_fine at o h = refused

  pub no_elements_good : (t : Place) → IsSetType t → IsGood (no_elements c t)
  no_elements_good t h = where_false IsGood (is_broken c.scene (set_base c t)) _ _ (not_broken c.scene types (set_base c t) h.1) h.0

  checked_element_fine : (base : Place) (at : ℕ) (o : Operand) → IsGood o → GivesFine IsGood (checked_element c base at o)
  checked_element_fine base at (Constant t v) h = fine_either (is_within (range_of c.scene base) v) _ _ (given h) refused
  checked_element_fine base at o h = given h

  pub element_fine : (base : Place) (at : ℕ) (o : Operand) → IsClear base → IsGood o → GivesFine IsGood (element_of c base at o)
  element_fine base at o k h =
      let element = taken_beside c.source c.scene o (Computed base) in
      fine_either (is_bad o) (gives o) _ (given h)
      (where_false (λ (g : Gives Operand). GivesFine IsGood g) (is_broken c.scene base) _ _ (not_broken c.scene types base k)
      (fine_either (not (is_procedure o) && is_compatible c.scene o (Computed base)) _ _
      (checked_element_fine base at element (either IsGood (is_beside_char c.scene o (Computed base)) _ _ (char_good c.source o h) h)) refused))

-- ** Elements

high_good : (t : Place) (b : ℤ) (u : Place) (l : ℤ) (high : Operand) → IsClear t → IsClear u → IsGood high → IsGood (with_elements (Constant t b) (Constant u l) high)
high_good t b u l (Constant v h) p q k = p
high_good t b u l high p q k = worse_good (Constant t b) (worse (Constant u l) high) p (worse_good (Constant u l) high q k)

low_good : (t : Place) (b : ℤ) (low high : Operand) → IsClear t → IsGood low → IsGood high → IsGood (with_elements (Constant t b) low high)
low_good t b (Constant u l) high p h k = high_good t b u l high p h k
low_good t b low high p h k = worse_good (Constant t b) (worse low high) p (worse_good low high h k)

pub elements_good : (bits low high : Operand) → IsGood bits → IsGood low → IsGood high → IsGood (with_elements bits low high)
elements_good (Constant t b) low high p h k = low_good t b low high p h k
elements_good bits low high p h k = worse_good bits (worse low high) p (worse_good low high h k)

-- The static rules of operands bind no use: they note no answer.
use Rattle.std.specs.Prelude.{◌≡◌, refl, ℕ, ℤ, Bool, true, false, ◌||◌, if◌then◌else◌, [], ◌++◌, Option, Some, None}
use Rattle.std.proofs.Common.{◌∙◌, ap}
use Rattle.m2_base.specs.Gives.{Gives, and_then, gives}
use Rattle.m2_base.specs.Standard.{cardinal, character}
use Rattle.m2_base.specs.Statics.Compatible.{taken_beside}
use Rattle.m2_base.specs.Statics.Contexts.{Context}
use Rattle.m2_base.specs.Statics.Folding.{is_arithmetic, is_relation, number_kind, number_type}
use Rattle.m2_base.specs.Statics.Functions.{abs_of, absolute, cap_of, chr_of, converted, end_value, max_of, min_of, number_argument, odd_of, oddness, ord_of, ordinal_argument, ordinal_type, ordinal_type_argument, size_value, type_argument, val_as, val_of}
use Rattle.m2_base.specs.Statics.Operands.{operand_type}
use Rattle.m2_base.specs.Statics.Operations.{apply_one, apply_one_by, as_number, base_type, folded, gives_result, logical, member_of_set, membership, membership_in, number_operation, on_alike, on_compatible, on_numbers, on_scalars, operate, operate_by, result_of, set_operation, sign_of, with_sign, wrong as wrong_operands}
use Rattle.m2_base.specs.Statics.Ranges.{Range}
use Rattle.m2_base.specs.Statics.Sets.{checked_element, element_of, set_type_of}
use Rattle.m2_base.specs.Statics.Types.{base_of, kind_of, range_of}
use Rattle.m2_base.specs.declared.operands.FoldKind.{FoldKind}
use Rattle.m2_base.specs.declared.operands.Operand.TheVariants.{Computed, Constant, InError, NamedType, NotConstant, Variable}
use Rattle.m2_base.specs.declared.operands.Operand.{Operand}
use Rattle.m2_base.specs.declared.rows.Place.{Place}
use Rattle.m2_base.specs.declared.rows.RowMeaning.TheVariants.{Set}
use Rattle.m2_base.specs.declared.rows.RowMeaning.{RowMeaning}
use Rattle.m2_base.specs.declared.trees.operators.Operator.TheVariants.{And, In, Not, Or}
use Rattle.m2_base.specs.declared.trees.operators.Operator.{Operator}

-- no answer is noted
pub data IsSilent {A : Type 0} (g : Gives A) : Type 0 where
  silent : g.answers ≡ [] → IsSilent g

pub answers_none : {A : Type 0} (g : Gives A) → IsSilent g → g.answers ≡ []
answers_none g (silent e) = e

-- one after another
pub silent-then : {A B : Type 0} (a : Gives A) (f : A → Gives B) → IsSilent a → IsSilent (f a.value) → IsSilent (and_then a f)
silent-then a f (silent d) (silent e) = silent (ap (λ l. l ++ (f a.value).answers) d ∙ e)

-- by a test
pub silent-if : {A : Type 0} (t : Bool) (a b : Gives A) → IsSilent a → IsSilent b → IsSilent (if t then a else b)
silent-if true a b p q = p
silent-if false a b p q = q

-- a rule that is one step with a test in it
ruleset silence = (silent-if, silent)

module _ (c : Context) where
  -- ---- types

  pub set_type-silent : (at : ℕ) (o : Operand) → IsSilent (set_type_of c at o)
  set_type-silent at (NamedType t) = search silence
  set_type-silent at InError = silent refl
  set_type-silent at o = silent refl

  type-silent : (at : ℕ) (o : Operand) → IsSilent (type_argument c at o)
  type-silent at (NamedType t) = silent refl
  type-silent at InError = silent refl
  type-silent at o = silent refl

  ordinal_type-silent : (at : ℕ) (t : Place) → IsSilent (ordinal_type c at t)
  ordinal_type-silent at t = search silence

  ordinal-silent : (at : ℕ) (o : Operand) → IsSilent (ordinal_type_argument c at o)
  ordinal-silent at o = silent-then (type_argument c at o) (ordinal_type c at) (type-silent at o) (ordinal_type-silent at (type_argument c at o).value)

  -- ---- standard functions

  number_argument-silent : (at : ℕ) (o : Operand) → IsSilent (number_argument c at o)
  number_argument-silent at o = search silence

  ordinal_argument-silent : (at : ℕ) (o : Operand) → IsSilent (ordinal_argument c at o)
  ordinal_argument-silent at o = search silence

  converted-silent : (at : ℕ) (t : Place) (o : Operand) → IsSilent (converted c at t o)
  converted-silent at t (Constant u v) = search silence
  converted-silent at t InError = silent refl
  converted-silent at t NotConstant = silent refl
  converted-silent at t o = silent refl

  absolute-silent : (at : ℕ) (t : Place) (o : Operand) → IsSilent (absolute c at t o)
  absolute-silent at t (Constant u v) = search silence
  absolute-silent at t InError = silent refl
  absolute-silent at t NotConstant = silent refl
  absolute-silent at t o = silent refl

  pub abs-silent : (at : ℕ) (o : Operand) → IsSilent (abs_of c at o)
  abs-silent at o =
      let x : Operand = (number_argument c at o).value in
      silent-then (number_argument c at o) (λ y. absolute c at (number_type (number_kind (base_type c y))) y) (number_argument-silent at o)
      (absolute-silent at (number_type (number_kind (base_type c x))) x)

  pub cap-silent : (at : ℕ) (o : Operand) → IsSilent (cap_of c at o)
  cap-silent at o = search silence

  pub chr-silent : (at : ℕ) (o : Operand) → IsSilent (chr_of c at o)
  chr-silent at o =
      silent-then (number_argument c at o) (converted c at character) (number_argument-silent at o) (converted-silent at character (number_argument c at o).value)

  pub odd-silent : (at : ℕ) (o : Operand) → IsSilent (odd_of c at o)
  odd-silent at o = silent-then (number_argument c at o) (λ y. gives (oddness y)) (number_argument-silent at o) (silent refl)

  pub ord-silent : (at : ℕ) (o : Operand) → IsSilent (ord_of c at o)
  ord-silent at o =
      silent-then (ordinal_argument c at o) (converted c at cardinal) (ordinal_argument-silent at o) (converted-silent at cardinal (ordinal_argument c at o).value)

  val_as-silent : (at : ℕ) (t : Place) (o : Operand) → IsSilent (val_as c at t o)
  val_as-silent at t o = search (silence, converted-silent)

  pub val-silent : (t_at : ℕ) (t : Operand) (at : ℕ) (o : Operand) → IsSilent (val_of c t_at t at o)
  val-silent t_at t at o =
      let typ : Place = (ordinal_type_argument c t_at t).value in
      silent-then (ordinal_type_argument c t_at t) (λ u. and_then (ordinal_argument c at o) (val_as c at u)) (ordinal-silent t_at t)
      (silent-then (ordinal_argument c at o) (val_as c at typ) (ordinal_argument-silent at o) (val_as-silent at typ (ordinal_argument c at o).value))

  end-silent : (at : ℕ) (end : Range → ℤ) (o : Operand) → IsSilent (and_then (ordinal_type_argument c at o) (λ t. gives (end_value c t end (range_of c.scene t))))
  end-silent at end o =
      silent-then (ordinal_type_argument c at o) (λ t. gives (end_value c t end (range_of c.scene t))) (ordinal-silent at o) (silent refl)

  pub min-silent : (at : ℕ) (o : Operand) → IsSilent (min_of c at o)
  min-silent at o = end-silent at (λ r. r.low) o

  pub max-silent : (at : ℕ) (o : Operand) → IsSilent (max_of c at o)
  max-silent at o = end-silent at (λ r. r.high) o

  pub size-silent : (at : ℕ) (o : Operand) → IsSilent (size_value c at o)
  size-silent at (NamedType t) = silent refl
  size-silent at (Variable t) = search silence
  size-silent at InError = silent refl
  size-silent at NotConstant = silent refl
  size-silent at o = silent refl

  -- ---- operators

  folded-silent : (op_at : ℕ) (t : Place) (v : Option ℤ) → IsSilent (folded c op_at t v)
  folded-silent op_at t None = silent refl
  folded-silent op_at t (Some v) = silent refl

  result_of-silent : (op_at : ℕ) (k : FoldKind) (op : Operator) (t : Place) (v w : Option ℤ) → IsSilent (result_of c op_at k op t v w)
  result_of-silent op_at k op t (Some v) (Some w) = folded-silent op_at t _
  result_of-silent op_at k op t v w = silent refl

  result-silent : (op_at : ℕ) (k : FoldKind) (op : Operator) (t : Place) (x y : Operand) → IsSilent (gives_result c op_at k op t x y)
  result-silent op_at k op t x y = search (silence, result_of-silent)

  logical-silent : (op : Operator) (op_at : ℕ) (x y : Operand) → IsSilent (logical c op op_at x y)
  logical-silent op op_at x y = search (silence, result-silent)

  set-silent : (op : Operator) (op_at : ℕ) (x y : Operand) → IsSilent (set_operation c op op_at x y)
  set-silent op op_at x y = search (silence, result-silent)

  number-silent : (op : Operator) (op_at : ℕ) (x y : Operand) → IsSilent (number_operation c op op_at x y)
  number-silent op op_at x y = search (silence, result-silent)

  as_number-silent : (at : ℕ) (t : Place) (o : Operand) → IsSilent (as_number c at t o)
  as_number-silent at t (Constant u v) = search silence
  as_number-silent at t o = silent refl

  numbers-silent : (op : Operator) (op_at : ℕ) (x : Operand) (x_at : ℕ) (y : Operand) (y_at : ℕ) → IsSilent (on_numbers c op op_at x x_at y y_at)
  numbers-silent op op_at x x_at y y_at =
      let v : Gives Operand = as_number c x_at (base_type c y) x in
      let w : Gives Operand = as_number c y_at (base_type c x) y in
      silent-if (is_arithmetic op || is_relation op) (and_then v (λ x'. and_then w (number_operation c op op_at x'))) (wrong_operands c op_at)
      (silent-then v (λ x'. and_then w (number_operation c op op_at x')) (as_number-silent x_at (base_type c y) x)
      (silent-then w (number_operation c op op_at v.value) (as_number-silent y_at (base_type c x) y) (number-silent op op_at v.value w.value)))
      (silent refl)

  scalars-silent : (op : Operator) (op_at : ℕ) (x y : Operand) → IsSilent (on_scalars c op op_at x y)
  scalars-silent op op_at x y = search (silence, result-silent)

  compatible-silent : (op : Operator) (op_at : ℕ) (x : Operand) (x_at : ℕ) (y : Operand) (y_at : ℕ) → IsSilent (on_compatible c op op_at x x_at y y_at)
  compatible-silent op op_at x x_at y y_at = search (silence, numbers-silent, scalars-silent)

  alike-silent : (op : Operator) (op_at : ℕ) (x : Operand) (x_at : ℕ) (y : Operand) (y_at : ℕ) → IsSilent (on_alike c op op_at x x_at y y_at)
  alike-silent op op_at x x_at y y_at = search (silence, set-silent, compatible-silent)

  member-silent : (op_at : ℕ) (x : Operand) (x_at : ℕ) (y : Operand) (base : Place) → IsSilent (membership_in c op_at x x_at y base)
  member-silent op_at x x_at y base =
      let element : Operand = taken_beside c.source c.scene x (Computed base) in
      let v : Gives Operand = as_number c x_at (base_of c.scene base) element in
      let told : IsSilent (and_then v (λ e. gives (member_of_set e y))) =
      silent-then v (λ e. gives (member_of_set e y)) (as_number-silent x_at (base_of c.scene base) element) (silent refl) in
      search (silence, told)

  membership-silent : (op_at : ℕ) (x : Operand) (x_at : ℕ) (y : Operand) (m : RowMeaning) → IsSilent (membership c op_at x x_at y m)
  membership-silent op_at x x_at y (Set base) = member-silent op_at x x_at y base
  membership-silent op_at x x_at y m = silent refl

  by_operator-silent : (op : Operator) (op_at : ℕ) (x : Operand) (x_at : ℕ) (y : Operand) (y_at : ℕ) → IsSilent (operate_by c op op_at x x_at y y_at)
  by_operator-silent And op_at x x_at y y_at = logical-silent And op_at x y
  by_operator-silent Or op_at x x_at y y_at = logical-silent Or op_at x y
  by_operator-silent In op_at x x_at y y_at = membership-silent op_at x x_at y (kind_of c.scene (operand_type y))
  by_operator-silent op op_at x x_at y y_at = alike-silent op op_at x x_at y y_at

  pub operate-silent : (op : Operator) (op_at : ℕ) (x : Operand) (x_at : ℕ) (y : Operand) (y_at : ℕ) → IsSilent (operate c op op_at x x_at y y_at)
  operate-silent op op_at x x_at y y_at = search (silence, by_operator-silent)

  with_sign-silent : (op : Operator) (op_at : ℕ) (t : Place) (r : Range) (o : Operand) → IsSilent (with_sign c op op_at t r o)
  with_sign-silent op op_at t r (Constant u v) = folded-silent op_at t _
  with_sign-silent op op_at t r o = silent refl

  sign-silent : (op : Operator) (op_at : ℕ) (o : Operand) → IsSilent (sign_of c op op_at o)
  sign-silent op op_at o = search (silence, with_sign-silent)

  by_sign-silent : (op : Operator) (op_at : ℕ) (o : Operand) → IsSilent (apply_one_by c op op_at o)
  by_sign-silent Not op_at o = search silence
  by_sign-silent op op_at o = sign-silent op op_at o

  pub apply-silent : (op : Operator) (op_at : ℕ) (o : Operand) → IsSilent (apply_one c op op_at o)
  apply-silent op op_at o = search (silence, by_sign-silent)

  -- ---- elements of sets

  checked-silent : (base : Place) (at : ℕ) (o : Operand) → IsSilent (checked_element c base at o)
  checked-silent base at (Constant t v) = search silence
  checked-silent base at o = silent refl

  pub element_of-silent : (base : Place) (at : ℕ) (o : Operand) → IsSilent (element_of c base at o)
  element_of-silent base at o = search (silence, checked-silent)

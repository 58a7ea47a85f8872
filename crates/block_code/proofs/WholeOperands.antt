-- What operators and sets give of operands that aren't in error isn't in error either, unless a diagnostic was noted.
use Rattle.std.specs.Prelude.{◌≡◌, ℕ, ◌&&◌, ◌||◌, not, Bool, true, false, if◌then◌else◌, is_some, ℤ, pos, Option, Some, None}
use Rattle.std.proofs.Common.{refl}
use Rattle.std.proofs.lemmas.Bool.{or_from}
use Rattle.m2_base.specs.Rows.{is_same_place}
use Rattle.m2_base.specs.Standard.{boolean, integer, whole}
use Rattle.m2_base.specs.declared.rows.Place.{Place}
use Rattle.m2_base.specs.declared.rows.RowMeaning.{RowMeaning}
use Rattle.m2_base.specs.declared.rows.RowMeaning.TheVariants.{Set}
use Rattle.m2_base.specs.Statics.Compatible.{is_beside_char, is_compatible, is_integer_or_cardinal, is_number_type, is_pointer, taken_beside}
use Rattle.m2_base.specs.Statics.Contexts.{Context, Scene, Source}
use Rattle.m2_base.specs.Statics.Folding.{fold, is_arithmetic, is_equality, is_relation, number_kind, number_type, where_in}
use Rattle.m2_base.specs.Statics.Operands.{as_char, char_or_same, constant_of_operand, is_bad, is_one_char, is_procedure, operand_type, worse}
use Rattle.m2_base.specs.Statics.Operations.{apply_one, apply_one_by, are_sets_alike, as_number, base_type, compares_sets, folded, gives_result, is_boolean, is_ordinal, is_set_kind, logical, makes_set, member_of_set, membership, membership_in, negated, number_operation, on_alike, on_compatible, on_numbers, on_scalars, operate, operate_by, result_of, set_operation, sign_of, signed, with_sign}
use Rattle.m2_base.specs.Statics.Ranges.{Range, integer_range, is_within, whole_range}
use Rattle.m2_base.specs.Statics.Sets.{checked_element, element_of, no_elements, set_base, set_type_of, with_elements}
use Rattle.m2_base.specs.Statics.Types.{base_of, is_broken, kind_of, range_of}
use Rattle.m2_base.specs.declared.operands.FoldKind.{FoldKind}
use Rattle.m2_base.specs.declared.operands.FoldKind.TheVariants as kinds
use Rattle.m2_base.specs.declared.operands.Operand.{Operand}
use Rattle.m2_base.specs.declared.operands.Operand.TheVariants.{Computed, Constant, InError, NamedType, NotConstant, StringConstant}
use Rattle.m2_base.specs.declared.trees.operators.Operator.{Operator}
use Rattle.m2_base.specs.declared.trees.operators.Operator.TheVariants.{And, In, Not, Or}
use Rattle.block_code.proofs.Noted.{UnlessNoted, by_test, given, in_turn, noted, otherwise}
use Rattle.block_code.proofs.WholeRows.{IsWhole, kind-whole, stood-base}
use Rattle.block_code.specs.Whole.{AreWhole, HasWholeParts, IsWholeType}

-- ---- operands

pub not_bad : (scene : Scene) (o : Operand) → IsWhole scene o → is_bad o ≡ false
not_bad scene NotConstant h = absurd h
not_bad scene InError h = absurd h
not_bad scene o h = refl

-- neither of two is bad
pub neither_bad : (scene : Scene) (x y : Operand) → IsWhole scene x → IsWhole scene y → (is_bad x || is_bad y) ≡ false
neither_bad scene x y h k = or_from (is_bad x) (is_bad y) (not_bad scene x h) (not_bad scene y k)

pub as_char-whole : (source : Source) (scene : Scene) (o : Operand) → IsWhole scene o → IsWhole scene (as_char source o)
as_char-whole source scene (StringConstant n l) h = tt
as_char-whole source scene o h = h

-- an operand, or its character by a test
by_char : (source : Source) (scene : Scene) (b : Bool) (o : Operand) → IsWhole scene o → IsWhole scene (if b then as_char source o else o)
by_char source scene true o h = as_char-whole source scene o h
by_char source scene false o h = h

pub char_or_same-whole : (source : Source) (scene : Scene) (o : Operand) → IsWhole scene o → IsWhole scene (char_or_same source o)
char_or_same-whole source scene o h = by_char source scene (is_one_char o) o h

pub taken_beside-whole : (source : Source) (scene : Scene) (x y : Operand) → IsWhole scene x → IsWhole scene (taken_beside source scene x y)
taken_beside-whole source scene x y h = by_char source scene (is_beside_char scene x y) x h

-- what an operator or a function gives: a constant or a computed value
abbrev pub IsResult : Operand → Type 0
IsResult (Constant t v) = Unit {0}
IsResult (Computed t) = Unit {0}
IsResult other = ⊥

module _ (c : Context) where
  -- ---- operators

  folded-result : (op_at : ℕ) (t : Place) (o : Option ℤ) → UnlessNoted IsResult (folded c op_at t o)
  folded-result op_at t (Some v) = given tt
  folded-result op_at t None = noted

  result_of-result : (op_at : ℕ) (k : FoldKind) (op : Operator) (t : Place) (x y : Option ℤ) → UnlessNoted IsResult (result_of c op_at k op t x y)
  result_of-result op_at k op t (Some x) (Some y) = folded-result op_at t (fold k op x y)
  result_of-result op_at k op t (Some x) None = given tt
  result_of-result op_at k op t None y = given tt

  gives-result : (op_at : ℕ) (k : FoldKind) (op : Operator) (t : Place) (x y : Operand) → IsWhole c.scene x → IsWhole c.scene y → UnlessNoted IsResult (gives_result c op_at k op t x y)
  gives-result op_at k op t x y h l =
      otherwise (is_bad x || is_bad y) _ (neither_bad c.scene x y h l) (result_of-result op_at k op t (constant_of_operand x) (constant_of_operand y))

  as_number-whole : (at : ℕ) (t : Place) (o : Operand) → IsWhole c.scene o → UnlessNoted (IsWhole c.scene) (as_number c at t o)
  as_number-whole at t (Constant u v) h =
      by_test (is_same_place u whole && is_integer_or_cardinal t) (λ e. by_test (is_within (range_of c.scene t) v) (λ f. given tt) (λ f. noted)) (λ e. given tt)
  as_number-whole at t o h = given h

  logical-result : (op : Operator) (op_at : ℕ) (x y : Operand) → IsWhole c.scene x → IsWhole c.scene y → UnlessNoted IsResult (logical c op op_at x y)
  logical-result op op_at x y h k = by_test (is_boolean c x && is_boolean c y) (λ e. gives-result op_at kinds.Ordinal op boolean x y h k) (λ e. noted)

  set-result : (op : Operator) (op_at : ℕ) (x y : Operand) → IsWhole c.scene x → IsWhole c.scene y → UnlessNoted IsResult (set_operation c op op_at x y)
  set-result op op_at x y h k =
      by_test (makes_set op) (λ e. gives-result op_at kinds.Set op (operand_type x) x y h k)
      (λ e. by_test (compares_sets op) (λ f. gives-result op_at kinds.Set op boolean x y h k) (λ f. noted))

  number-result : (op : Operator) (op_at : ℕ) (x y : Operand) → IsWhole c.scene x → IsWhole c.scene y → UnlessNoted IsResult (number_operation c op op_at x y)
  number-result op op_at x y h k =
      let n = number_kind (base_type c x) in
      by_test (is_arithmetic op) (λ e. gives-result op_at n op (number_type n) x y h k)
      (λ e. by_test (is_relation op) (λ f. gives-result op_at n op boolean x y h k) (λ f. noted))

  numbers-result : (op : Operator) (op_at : ℕ) (x : Operand) (x_at : ℕ) (y : Operand) (y_at : ℕ) → IsWhole c.scene x → IsWhole c.scene y
      → UnlessNoted IsResult (on_numbers c op op_at x x_at y y_at)
  numbers-result op op_at x x_at y y_at h k =
      by_test (is_arithmetic op || is_relation op)
      (λ e. in_turn (as_number-whole x_at (base_type c y) x h) (λ x' h'. in_turn (as_number-whole y_at (base_type c x) y k) (λ y' k'. number-result op op_at x' y' h' k')))
      (λ e. noted)

  scalars-result : (op : Operator) (op_at : ℕ) (x y : Operand) → IsWhole c.scene x → IsWhole c.scene y → UnlessNoted IsResult (on_scalars c op op_at x y)
  scalars-result op op_at x y h k =
      let ordinals = is_some (range_of c.scene (base_type c x)) && is_some (range_of c.scene (base_type c y)) in
      let pointers = is_pointer c.scene (base_type c x) || is_pointer c.scene (base_type c y) in
      by_test ((is_relation op && ordinals) || (is_equality op && pointers)) (λ e. gives-result op_at kinds.Ordinal op boolean x y h k) (λ e. noted)

  compatible-result : (op : Operator) (op_at : ℕ) (x : Operand) (x_at : ℕ) (y : Operand) (y_at : ℕ) → IsWhole c.scene x → IsWhole c.scene y
      → UnlessNoted IsResult (on_compatible c op op_at x x_at y y_at)
  compatible-result op op_at x x_at y y_at h k =
      by_test (is_number_type (base_type c x) && is_number_type (base_type c y)) (λ e. numbers-result op op_at x x_at y y_at h k) (λ e. scalars-result op op_at x y h k)

  alike-result : (op : Operator) (op_at : ℕ) (x : Operand) (x_at : ℕ) (y : Operand) (y_at : ℕ) → IsWhole c.scene x → IsWhole c.scene y
      → UnlessNoted IsResult (on_alike c op op_at x x_at y y_at)
  alike-result op op_at x x_at y y_at h k =
      by_test (are_sets_alike c x y) (λ e. set-result op op_at x y h k)
      (λ e. by_test (is_compatible c.scene x y)
      (λ f. compatible-result op op_at (taken_beside c.source c.scene x y) x_at (taken_beside c.source c.scene y x) y_at
      (taken_beside-whole c.source c.scene x y h) (taken_beside-whole c.source c.scene y x k))
      (λ f. noted))

  member-result : (x y : Operand) → IsWhole c.scene x → IsResult (member_of_set x y)
  member-result (Constant t v) (Constant s bits) h = tt
  member-result (Constant t v) y h = tt
  member-result InError y h = absurd h
  member-result x y h = tt

  membership_in-result : (op_at : ℕ) (x : Operand) (x_at : ℕ) (y : Operand) (base : Place) → IsWholeType c.scene base → IsWhole c.scene x
      → UnlessNoted IsResult (membership_in c op_at x x_at y base)
  membership_in-result op_at x x_at y base w h =
      let element = taken_beside c.source c.scene x (Computed base) in
      otherwise (is_broken c.scene base) _ w
      (by_test (is_compatible c.scene x (Computed base) && is_ordinal c element)
      (λ e. in_turn (as_number-whole x_at (base_of c.scene base) element (taken_beside-whole c.source c.scene x (Computed base) h)) (λ o k. given (member-result o y k)))
      (λ e. noted))

  membership-result : (op_at : ℕ) (x : Operand) (x_at : ℕ) (y : Operand) (m : RowMeaning) → HasWholeParts c.scene m → IsWhole c.scene x
      → UnlessNoted IsResult (membership c op_at x x_at y m)
  membership-result op_at x x_at y (Set base) w h = membership_in-result op_at x x_at y base w h
  membership-result op_at x x_at y m w h = noted

  operate_by-result : (rows : AreWhole c.scene) (op : Operator) (op_at : ℕ) (x : Operand) (x_at : ℕ) (y : Operand) (y_at : ℕ) → IsWhole c.scene x → IsWhole c.scene y
      → UnlessNoted IsResult (operate_by c op op_at x x_at y y_at)
  operate_by-result rows And op_at x x_at y y_at h k = logical-result And op_at x y h k
  operate_by-result rows Or op_at x x_at y y_at h k = logical-result Or op_at x y h k
  operate_by-result rows In op_at x x_at y y_at h k =
      membership-result op_at x x_at y (kind_of c.scene (operand_type y)) (kind-whole c.scene rows (operand_type y)) h
  operate_by-result rows op op_at x x_at y y_at h k = alike-result op op_at x x_at y y_at h k

  pub operate-result : (rows : AreWhole c.scene) (op : Operator) (op_at : ℕ) (x : Operand) (x_at : ℕ) (y : Operand) (y_at : ℕ) → IsWhole c.scene x → IsWhole c.scene y
      → UnlessNoted IsResult (operate c op op_at x x_at y y_at)
  operate-result rows op op_at x x_at y y_at h k =
      otherwise (is_bad x || is_bad y) _ (neither_bad c.scene x y h k)
      (by_test (is_procedure x || is_procedure y) (λ e. noted) (λ e. operate_by-result rows op op_at x x_at y y_at h k))

  negated-result : (o : Operand) → IsResult (negated o)
  negated-result (Constant t v) = tt
  negated-result o = tt

  with_sign-result : (op : Operator) (op_at : ℕ) (t : Place) (r : Range) (o : Operand) → UnlessNoted IsResult (with_sign c op op_at t r o)
  with_sign-result op op_at t r (Constant u v) = folded-result op_at t (where_in r (signed op v))
  with_sign-result op op_at t r o = given tt

  sign_of-result : (op : Operator) (op_at : ℕ) (o : Operand) → UnlessNoted IsResult (sign_of c op op_at o)
  sign_of-result op op_at o =
      by_test (is_same_place (base_type c o) integer) (λ e. with_sign-result op op_at integer integer_range o)
      (λ e. by_test (is_same_place (base_type c o) whole) (λ f. with_sign-result op op_at whole whole_range o) (λ f. noted))

  apply_one_by-result : (op : Operator) (op_at : ℕ) (o : Operand) → UnlessNoted IsResult (apply_one_by c op op_at o)
  apply_one_by-result Not op_at o = by_test (is_boolean c o) (λ e. given (negated-result o)) (λ e. noted)
  apply_one_by-result op op_at o = sign_of-result op op_at o

  pub apply_one-result : (op : Operator) (op_at : ℕ) (o : Operand) → IsWhole c.scene o → UnlessNoted IsResult (apply_one c op op_at o)
  apply_one-result op op_at o h = otherwise (is_bad o) _ (not_bad c.scene o h) (apply_one_by-result op op_at o)

  -- ---- sets

  -- the base of this set type isn't in error
  abbrev pub HasWholeBase : Place → Type 0
  HasWholeBase t = is_broken c.scene (set_base c t) ≡ false

  pub set_type-whole : (rows : AreWhole c.scene) (at : ℕ) (o : Operand) → IsWhole c.scene o → UnlessNoted HasWholeBase (set_type_of c at o)
  set_type-whole rows at (NamedType t) h = by_test (is_set_kind (kind_of c.scene t)) (λ e. given (stood-base c.scene rows t e)) (λ e. noted)
  set_type-whole rows at InError h = absurd h
  set_type-whole rows at o h = noted

  checked-whole : (base : Place) (at : ℕ) (o : Operand) → IsWhole c.scene o → UnlessNoted (IsWhole c.scene) (checked_element c base at o)
  checked-whole base at (Constant t v) h = by_test (is_within (range_of c.scene base) v) (λ e. given tt) (λ e. noted)
  checked-whole base at o h = given h

  pub element_of-whole : (base : Place) (at : ℕ) (o : Operand) → IsWholeType c.scene base → IsWhole c.scene o → UnlessNoted (IsWhole c.scene) (element_of c base at o)
  element_of-whole base at o w h =
      otherwise (is_bad o) _ (not_bad c.scene o h)
      (otherwise (is_broken c.scene base) _ w
      (by_test (not (is_procedure o) && is_compatible c.scene o (Computed base))
      (λ e. checked-whole base at (taken_beside c.source c.scene o (Computed base)) (taken_beside-whole c.source c.scene o (Computed base) h)) (λ e. noted)))

-- a set, as far as its elements make it, that isn't in error
abbrev pub IsSet : Operand → Type 0
IsSet InError = ⊥
IsSet other = Unit {0}

pub set_from : (scene : Scene) (o : Operand) → IsWhole scene o → IsSet o
set_from scene InError h = absurd h
set_from scene o h = tt

worse-set : (x y : Operand) → IsSet x → IsSet y → IsSet (worse x y)
worse-set InError y h k = absurd h
worse-set x InError h k = absurd k
worse-set x y h k = tt

pub with_elements-set : (b x y : Operand) → IsSet b → IsSet x → IsSet y → IsSet (with_elements b x y)
with_elements-set (Constant t v) (Constant u w) (Constant s z) h k l = tt
with_elements-set (Constant t v) (Constant u w) y h k l = worse-set (Constant t v) (worse (Constant u w) y) h (worse-set (Constant u w) y k l)
with_elements-set (Constant t v) x y h k l = worse-set (Constant t v) (worse x y) h (worse-set x y k l)
with_elements-set b x y h k l = worse-set b (worse x y) h (worse-set x y k l)

pub no_elements-set : (c : Context) (t : Place) → HasWholeBase c t → IsSet (no_elements c t)
no_elements-set c t h = go (is_broken c.scene (set_base c t)) h
  where
    go : (b : Bool) → b ≡ false → IsSet (if b then InError else Constant t (pos 0))
    go true e = absurd cc
    go false e = tt

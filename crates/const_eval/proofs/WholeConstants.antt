-- What operators, functions and sets give of operands that aren't in error, whose sets have bases that aren't, is such an operand too,
-- unless a diagnostic was noted.
use Rattle.std.specs.Prelude.{◌≡◌, ℕ, ◌&&◌, ◌||◌, not, Bool, true, false, if◌then◌else◌, is_none, is_some, nat_abs, ℤ, pos, Option, Some, None}
use Rattle.std.proofs.Common.{refl, ap, ◌∙◌}
use Rattle.std.proofs.lemmas.Bool.{false≢true, or_from, true≢false}
use Rattle.m2_base.specs.Gives.{gives}
use Rattle.m2_base.specs.Rows.{is_same_place}
use Rattle.m2_base.specs.Standard.{boolean, cardinal, character, integer, whole}
use Rattle.m2_base.specs.Statics.Compatible.{is_beside_char, is_compatible, is_integer_or_cardinal, is_number_type, is_pointer, taken_beside}
use Rattle.m2_base.specs.Statics.Constants.{selected, spoilt_by, value_wanted}
use Rattle.m2_base.specs.Statics.Contexts.{Context, Scene, Source}
use Rattle.m2_base.specs.Statics.Folding.{fold, is_arithmetic, is_equality, is_relation, number_kind, number_type, where_in}
use Rattle.m2_base.specs.Statics.Functions.{abs_of, absolute, cap_of, capital, chr_of, converted, end_value, max_of, min_of, number_argument, odd_of, oddness, ord_of, ordinal_argument, ordinal_type, ordinal_type_argument, size_value, type_argument, val_of}
use Rattle.m2_base.specs.Statics.Operands.{as_char, char_or_same, constant_of_operand, is_bad, is_one_char, is_procedure, operand_type, worse}
use Rattle.m2_base.specs.Statics.Operations.{apply_one, apply_one_by, are_sets_alike, as_number, base_type, compares_sets, folded, gives_result, is_boolean, is_ordinal, is_set_kind, logical, makes_set, member_of_set, membership, membership_in, negated, number_operation, on_alike, on_compatible, on_numbers, on_scalars, operate, operate_by, result_of, set_operation, sign_of, signed, with_sign}
use Rattle.m2_base.specs.Statics.Ranges.{Range, integer_range, is_within, whole_range}
use Rattle.m2_base.specs.Statics.Sets.{checked_element, element_of, no_elements, set_base, set_base_by, set_type_of, with_elements}
use Rattle.m2_base.specs.Statics.Types.{base_of, is_broken, kind_of, meaning_at, range_of, stands_as, stands_for}
use Rattle.m2_base.specs.declared.operands.FoldKind.{FoldKind}
use Rattle.m2_base.specs.declared.operands.FoldKind.TheVariants as kinds
use Rattle.m2_base.specs.declared.operands.Operand.{Operand}
use Rattle.m2_base.specs.declared.operands.Operand.TheVariants.{Computed, Constant, InError, ModuleName, NamedType, NotConstant, Procedure, StandardProcedure, StringConstant, Variable}
use Rattle.m2_base.specs.declared.rows.Place.{Place}
use Rattle.m2_base.specs.declared.rows.RowMeaning.{RowMeaning}
use Rattle.m2_base.specs.declared.rows.RowMeaning.TheVariants.{Set}
use Rattle.m2_base.specs.declared.trees.operators.Operator.{Operator}
use Rattle.m2_base.specs.declared.trees.operators.Operator.TheVariants.{And, In, Not, Or}
use Rattle.const_eval.specs.Causes.{HasWholeBase, IsWholeOperand}
use Rattle.const_eval.specs.Standard.{HasStandardRows}
use Rattle.const_eval.proofs.Spoilt.{UnlessSpoilt, by_test, given, in_turn, noted, otherwise}
use Rattle.const_eval.proofs.Standard.{boolean_whole, cardinal_whole, character_whole, integer_whole, number_whole, text_whole, whole_whole}

-- a value that isn't bad
abbrev pub IsGood : Scene → Operand → Type 0
IsGood scene (Constant t v) = HasWholeBase scene t
IsGood scene (Computed t) = HasWholeBase scene t
IsGood scene (StringConstant n l) = Unit {0}
IsGood scene other = ⊥

-- or no constant
abbrev pub IsSound : Scene → Operand → Type 0
IsSound scene NotConstant = Unit {0}
IsSound scene o = IsGood scene o

pub good_sound : (scene : Scene) (o : Operand) → IsGood scene o → IsSound scene o
good_sound scene (Constant t v) h = h
good_sound scene (Computed t) h = h
good_sound scene (StringConstant n l) h = h
good_sound scene o h = absurd h

pub sound_good : (scene : Scene) (o : Operand) → IsSound scene o → is_bad o ≡ false → IsGood scene o
sound_good scene NotConstant h e = absurd cc
sound_good scene (Constant t v) h e = h
sound_good scene (Computed t) h e = h
sound_good scene (StringConstant n l) h e = h
sound_good scene o h e = absurd h

not_bad : (scene : Scene) (o : Operand) → IsGood scene o → is_bad o ≡ false
not_bad scene (Constant t v) h = refl
not_bad scene (Computed t) h = refl
not_bad scene (StringConstant n l) h = refl
not_bad scene o h = absurd h

neither_bad : (scene : Scene) (x y : Operand) → IsGood scene x → IsGood scene y → (is_bad x || is_bad y) ≡ false
neither_bad scene x y h k = or_from (is_bad x) (is_bad y) (not_bad scene x h) (not_bad scene y k)

first_good : (a b : Bool) → (a || b) ≡ false → a ≡ false
first_good true b e = absurd cc
first_good false b e = refl

second_good : (a b : Bool) → (a || b) ≡ false → b ≡ false
second_good true b e = absurd cc
second_good false b e = e

-- of two sound ones, of which one is bad, none is in error
worse-sound : (scene : Scene) (x y : Operand) → IsSound scene x → IsSound scene y → IsSound scene (worse x y)
worse-sound scene InError y h k = absurd h
worse-sound scene x InError h k = absurd k
worse-sound scene x y h k = tt

module _ (c : Context) (there : HasStandardRows c) where
  type_whole : (o : Operand) → IsGood c.scene o → HasWholeBase c.scene (operand_type o)
  type_whole (Constant t v) h = h
  type_whole (Computed t) h = h
  type_whole (StringConstant n l) h = text_whole c there
  type_whole o h = absurd h

  -- an operand, or its character by a test
  by_char : (source : Source) (b : Bool) (o : Operand) → IsGood c.scene o → IsGood c.scene (if b then as_char source o else o)
  by_char source true (StringConstant n l) h = character_whole c there
  by_char source true (Constant t v) h = h
  by_char source true (Computed t) h = h
  by_char source true o h = absurd h
  by_char source false o h = h

  number_type_whole : (k : FoldKind) → HasWholeBase c.scene (number_type k)
  number_type_whole kinds.Integer = integer_whole c there
  number_type_whole kinds.Cardinal = cardinal_whole c there
  number_type_whole other = whole_whole c there

  -- ---- operators

  folded-sound : (op_at : ℕ) (t : Place) (o : Option ℤ) → HasWholeBase c.scene t → UnlessSpoilt c.scene (IsSound c.scene) (folded c op_at t o)
  folded-sound op_at t (Some v) h = given h
  folded-sound op_at t None h = noted

  result_of-sound : (op_at : ℕ) (k : FoldKind) (op : Operator) (t : Place) (x y : Option ℤ) → HasWholeBase c.scene t → UnlessSpoilt c.scene (IsSound c.scene) (result_of c op_at k op t x y)
  result_of-sound op_at k op t (Some x) (Some y) h = folded-sound op_at t (fold k op x y) h
  result_of-sound op_at k op t (Some x) None h = given h
  result_of-sound op_at k op t None y h = given h

  gives-sound : (op_at : ℕ) (k : FoldKind) (op : Operator) (t : Place) (x y : Operand) → HasWholeBase c.scene t → IsGood c.scene x → IsGood c.scene y → UnlessSpoilt c.scene (IsSound c.scene) (gives_result c op_at k op t x y)
  gives-sound op_at k op t x y w h l =
      otherwise (is_bad x || is_bad y) _ (neither_bad c.scene x y h l) (result_of-sound op_at k op t (constant_of_operand x) (constant_of_operand y) w)

  number_tested : (u t : Place) → (is_same_place u whole && is_integer_or_cardinal t) ≡ true → HasWholeBase c.scene t
  number_tested u t e = number_whole c there t (go (is_same_place u whole) e)
    where
      go : (b : Bool) → (b && is_integer_or_cardinal t) ≡ true → is_integer_or_cardinal t ≡ true
      go true e = e
      go false e = absurd (false≢true e)

  as_number-good : (at : ℕ) (t : Place) (o : Operand) → IsGood c.scene o → UnlessSpoilt c.scene (IsGood c.scene) (as_number c at t o)
  as_number-good at t (Constant u v) h =
      by_test (is_same_place u whole && is_integer_or_cardinal t)
      (λ e. by_test (is_within (range_of c.scene t) v) (λ f. given (number_tested u t e)) (λ f. noted)) (λ e. given h)
  as_number-good at t o h = given h

  logical-sound : (op : Operator) (op_at : ℕ) (x y : Operand) → IsGood c.scene x → IsGood c.scene y → UnlessSpoilt c.scene (IsSound c.scene) (logical c op op_at x y)
  logical-sound op op_at x y h k = by_test (is_boolean c x && is_boolean c y) (λ e. gives-sound op_at kinds.Ordinal op boolean x y (boolean_whole c there) h k) (λ e. noted)

  set-sound : (op : Operator) (op_at : ℕ) (x y : Operand) → IsGood c.scene x → IsGood c.scene y → UnlessSpoilt c.scene (IsSound c.scene) (set_operation c op op_at x y)
  set-sound op op_at x y h k =
      by_test (makes_set op) (λ e. gives-sound op_at kinds.Set op (operand_type x) x y (type_whole x h) h k)
      (λ e. by_test (compares_sets op) (λ f. gives-sound op_at kinds.Set op boolean x y (boolean_whole c there) h k) (λ f. noted))

  number-sound : (op : Operator) (op_at : ℕ) (x y : Operand) → IsGood c.scene x → IsGood c.scene y → UnlessSpoilt c.scene (IsSound c.scene) (number_operation c op op_at x y)
  number-sound op op_at x y h k =
      let n = number_kind (base_type c x) in
      by_test (is_arithmetic op) (λ e. gives-sound op_at n op (number_type n) x y (number_type_whole n) h k)
      (λ e. by_test (is_relation op) (λ f. gives-sound op_at n op boolean x y (boolean_whole c there) h k) (λ f. noted))

  numbers-sound : (op : Operator) (op_at : ℕ) (x : Operand) (x_at : ℕ) (y : Operand) (y_at : ℕ) → IsGood c.scene x → IsGood c.scene y
      → UnlessSpoilt c.scene (IsSound c.scene) (on_numbers c op op_at x x_at y y_at)
  numbers-sound op op_at x x_at y y_at h k =
      by_test (is_arithmetic op || is_relation op)
      (λ e. in_turn (as_number-good x_at (base_type c y) x h) (λ x' h'. in_turn (as_number-good y_at (base_type c x) y k) (λ y' k'. number-sound op op_at x' y' h' k')))
      (λ e. noted)

  scalars-sound : (op : Operator) (op_at : ℕ) (x y : Operand) → IsGood c.scene x → IsGood c.scene y → UnlessSpoilt c.scene (IsSound c.scene) (on_scalars c op op_at x y)
  scalars-sound op op_at x y h k =
      let ordinals = is_some (range_of c.scene (base_type c x)) && is_some (range_of c.scene (base_type c y)) in
      let pointers = is_pointer c.scene (base_type c x) || is_pointer c.scene (base_type c y) in
      by_test ((is_relation op && ordinals) || (is_equality op && pointers)) (λ e. gives-sound op_at kinds.Ordinal op boolean x y (boolean_whole c there) h k) (λ e. noted)

  compatible-sound : (op : Operator) (op_at : ℕ) (x : Operand) (x_at : ℕ) (y : Operand) (y_at : ℕ) → IsGood c.scene x → IsGood c.scene y
      → UnlessSpoilt c.scene (IsSound c.scene) (on_compatible c op op_at x x_at y y_at)
  compatible-sound op op_at x x_at y y_at h k =
      by_test (is_number_type (base_type c x) && is_number_type (base_type c y)) (λ e. numbers-sound op op_at x x_at y y_at h k) (λ e. scalars-sound op op_at x y h k)

  taken-good : (x y : Operand) → IsGood c.scene x → IsGood c.scene (taken_beside c.source c.scene x y)
  taken-good x y h = by_char c.source (is_beside_char c.scene x y) x h

  alike-sound : (op : Operator) (op_at : ℕ) (x : Operand) (x_at : ℕ) (y : Operand) (y_at : ℕ) → IsGood c.scene x → IsGood c.scene y
      → UnlessSpoilt c.scene (IsSound c.scene) (on_alike c op op_at x x_at y y_at)
  alike-sound op op_at x x_at y y_at h k =
      by_test (are_sets_alike c x y) (λ e. set-sound op op_at x y h k)
      (λ e. by_test (is_compatible c.scene x y)
      (λ f. compatible-sound op op_at (taken_beside c.source c.scene x y) x_at (taken_beside c.source c.scene y x) y_at (taken-good x y h) (taken-good y x k))
      (λ f. noted))

  member-sound : (x y : Operand) → IsGood c.scene x → IsSound c.scene (member_of_set x y)
  member-sound (Constant t v) (Constant s bits) h = boolean_whole c there
  member-sound (Constant t v) y h = boolean_whole c there
  member-sound (Computed t) y h = boolean_whole c there
  member-sound (StringConstant n l) y h = boolean_whole c there
  member-sound x y h = absurd h

  membership_in-sound : (op_at : ℕ) (x : Operand) (x_at : ℕ) (y : Operand) (base : Place) → is_broken c.scene base ≡ false → IsGood c.scene x
      → UnlessSpoilt c.scene (IsSound c.scene) (membership_in c op_at x x_at y base)
  membership_in-sound op_at x x_at y base w h =
      let element = taken_beside c.source c.scene x (Computed base) in
      otherwise (is_broken c.scene base) _ w
      (by_test (is_compatible c.scene x (Computed base) && is_ordinal c element)
      (λ e. in_turn (as_number-good x_at (base_of c.scene base) element (taken-good x (Computed base) h)) (λ o k. given (member-sound o y k)))
      (λ e. noted))

  membership-sound : (op_at : ℕ) (x : Operand) (x_at : ℕ) (y : Operand) (m : RowMeaning) → (is_set_kind m ≡ true → is_broken c.scene (set_base_by m) ≡ false) → IsGood c.scene x
      → UnlessSpoilt c.scene (IsSound c.scene) (membership c op_at x x_at y m)
  membership-sound op_at x x_at y (Set base) w h = membership_in-sound op_at x x_at y base (w refl) h
  membership-sound op_at x x_at y m w h = noted

  operate_by-sound : (op : Operator) (op_at : ℕ) (x : Operand) (x_at : ℕ) (y : Operand) (y_at : ℕ) → IsGood c.scene x → IsGood c.scene y
      → UnlessSpoilt c.scene (IsSound c.scene) (operate_by c op op_at x x_at y y_at)
  operate_by-sound And op_at x x_at y y_at h k = logical-sound And op_at x y h k
  operate_by-sound Or op_at x x_at y y_at h k = logical-sound Or op_at x y h k
  operate_by-sound In op_at x x_at y y_at h k = membership-sound op_at x x_at y (kind_of c.scene (operand_type y)) (type_whole y k) h
  operate_by-sound op op_at x x_at y y_at h k = alike-sound op op_at x x_at y y_at h k

  pub operate-sound : (op : Operator) (op_at : ℕ) (x : Operand) (x_at : ℕ) (y : Operand) (y_at : ℕ) → IsSound c.scene x → IsSound c.scene y
      → UnlessSpoilt c.scene (IsSound c.scene) (operate c op op_at x x_at y y_at)
  operate-sound op op_at x x_at y y_at h k =
      by_test (is_bad x || is_bad y) (λ e. given (worse-sound c.scene x y h k))
      (λ e. by_test (is_procedure x || is_procedure y) (λ f. noted)
      (λ f. operate_by-sound op op_at x x_at y y_at (sound_good c.scene x h (first_good (is_bad x) (is_bad y) e)) (sound_good c.scene y k (second_good (is_bad x) (is_bad y) e))))

  negated-sound : (o : Operand) → IsSound c.scene (negated o)
  negated-sound (Constant t v) = boolean_whole c there
  negated-sound o = boolean_whole c there

  with_sign-sound : (op : Operator) (op_at : ℕ) (t : Place) (r : Range) (o : Operand) → HasWholeBase c.scene t → UnlessSpoilt c.scene (IsSound c.scene) (with_sign c op op_at t r o)
  with_sign-sound op op_at t r (Constant u v) h = folded-sound op_at t (where_in r (signed op v)) h
  with_sign-sound op op_at t r o h = given h

  sign_of-sound : (op : Operator) (op_at : ℕ) (o : Operand) → UnlessSpoilt c.scene (IsSound c.scene) (sign_of c op op_at o)
  sign_of-sound op op_at o =
      by_test (is_same_place (base_type c o) integer) (λ e. with_sign-sound op op_at integer integer_range o (integer_whole c there))
      (λ e. by_test (is_same_place (base_type c o) whole) (λ f. with_sign-sound op op_at whole whole_range o (whole_whole c there)) (λ f. noted))

  apply_one_by-sound : (op : Operator) (op_at : ℕ) (o : Operand) → UnlessSpoilt c.scene (IsSound c.scene) (apply_one_by c op op_at o)
  apply_one_by-sound Not op_at o = by_test (is_boolean c o) (λ e. given (negated-sound o)) (λ e. noted)
  apply_one_by-sound op op_at o = sign_of-sound op op_at o

  pub apply_one-sound : (op : Operator) (op_at : ℕ) (o : Operand) → IsSound c.scene o → UnlessSpoilt c.scene (IsSound c.scene) (apply_one c op op_at o)
  apply_one-sound op op_at o h = by_test (is_bad o) (λ e. given h) (λ e. apply_one_by-sound op op_at o)

  -- ---- functions

  char_or_same-good : (o : Operand) → IsGood c.scene o → IsGood c.scene (char_or_same c.source o)
  char_or_same-good o h = by_char c.source (is_one_char o) o h

  number_argument-sound : (at : ℕ) (o : Operand) → IsSound c.scene o → UnlessSpoilt c.scene (IsSound c.scene) (number_argument c at o)
  number_argument-sound at o h = by_test (is_bad o) (λ e. given h) (λ e. by_test (is_number_type (base_type c o)) (λ f. given h) (λ f. noted))

  ordinal_argument-sound : (at : ℕ) (o : Operand) → IsSound c.scene o → UnlessSpoilt c.scene (IsSound c.scene) (ordinal_argument c at o)
  ordinal_argument-sound at o h =
      by_test (is_bad o) (λ e. given h)
      (λ e. by_test (is_ordinal c (char_or_same c.source o)) (λ f. given (good_sound c.scene (char_or_same c.source o) (char_or_same-good o (sound_good c.scene o h e)))) (λ f. noted))

  absolute-sound : (at : ℕ) (t : Place) (o : Operand) → HasWholeBase c.scene t → IsSound c.scene o → UnlessSpoilt c.scene (IsSound c.scene) (absolute c at t o)
  absolute-sound at t (Constant u v) w h =
      by_test (is_same_place t integer && not (is_within (Some integer_range) (pos (nat_abs v)))) (λ e. noted) (λ e. given w)
  absolute-sound at t NotConstant w h = given tt
  absolute-sound at t InError w h = absurd h
  absolute-sound at t o w h = given w

  converted-sound : (at : ℕ) (t : Place) (o : Operand) → HasWholeBase c.scene t → IsSound c.scene o → UnlessSpoilt c.scene (IsSound c.scene) (converted c at t o)
  converted-sound at t (Constant u v) w h = by_test (is_within (range_of c.scene t) v) (λ e. given w) (λ e. noted)
  converted-sound at t NotConstant w h = given tt
  converted-sound at t InError w h = absurd h
  converted-sound at t o w h = given w

  oddness-sound : (o : Operand) → IsSound c.scene o → IsSound c.scene (oddness o)
  oddness-sound (Constant t v) h = boolean_whole c there
  oddness-sound NotConstant h = tt
  oddness-sound InError h = absurd h
  oddness-sound o h = boolean_whole c there

  capital-sound : (o : Operand) → IsSound c.scene (capital o)
  capital-sound (Constant t v) = character_whole c there
  capital-sound o = character_whole c there

  pub abs-sound : (at : ℕ) (o : Operand) → IsSound c.scene o → UnlessSpoilt c.scene (IsSound c.scene) (abs_of c at o)
  abs-sound at o h = in_turn (number_argument-sound at o h) (λ x k. absolute-sound at (number_type (number_kind (base_type c x))) x (number_type_whole (number_kind (base_type c x))) k)

  pub cap-sound : (at : ℕ) (o : Operand) → IsSound c.scene o → UnlessSpoilt c.scene (IsSound c.scene) (cap_of c at o)
  cap-sound at o h =
      by_test (is_bad o) (λ e. given h) (λ e. by_test (is_same_place (base_type c (char_or_same c.source o)) character) (λ f. given (capital-sound (char_or_same c.source o))) (λ f. noted))

  pub chr-sound : (at : ℕ) (o : Operand) → IsSound c.scene o → UnlessSpoilt c.scene (IsSound c.scene) (chr_of c at o)
  chr-sound at o h = in_turn (number_argument-sound at o h) (λ x k. converted-sound at character x (character_whole c there) k)

  pub odd-sound : (at : ℕ) (o : Operand) → IsSound c.scene o → UnlessSpoilt c.scene (IsSound c.scene) (odd_of c at o)
  odd-sound at o h = in_turn (number_argument-sound at o h) (λ x k. given (oddness-sound x k))

  pub ord-sound : (at : ℕ) (o : Operand) → IsSound c.scene o → UnlessSpoilt c.scene (IsSound c.scene) (ord_of c at o)
  ord-sound at o h = in_turn (ordinal_argument-sound at o h) (λ x k. converted-sound at cardinal x (cardinal_whole c there) k)

  -- a type that isn't in error, nor its base
  abbrev IsWholeType : Place → Type 0
  IsWholeType t = (is_broken c.scene t ≡ false) × HasWholeBase c.scene t

  type_argument-whole : (at : ℕ) (o : Operand) → IsWholeOperand c.scene o → UnlessSpoilt c.scene IsWholeType (type_argument c at o)
  type_argument-whole at (NamedType t) h = given h
  type_argument-whole at InError h = absurd h
  type_argument-whole at o h = noted

  -- that is ordinal
  abbrev IsWholeOrdinal : Place → Type 0
  IsWholeOrdinal t = IsWholeType t × (is_none (range_of c.scene t) ≡ false)

  ranged : (a b : Bool) → (not a && b) ≡ false → a ≡ false → b ≡ false
  ranged true b e h = absurd (true≢false h)
  ranged false b e h = e

  ordinal_type-whole : (at : ℕ) (t : Place) → IsWholeType t → UnlessSpoilt c.scene IsWholeOrdinal (ordinal_type c at t)
  ordinal_type-whole at t h =
      by_test (not (is_broken c.scene t) && is_none (range_of c.scene t)) (λ e. noted) (λ e. given (h, ranged (is_broken c.scene t) (is_none (range_of c.scene t)) e h.0))

  ordinal_argument-whole : (at : ℕ) (o : Operand) → IsWholeOperand c.scene o → UnlessSpoilt c.scene IsWholeOrdinal (ordinal_type_argument c at o)
  ordinal_argument-whole at o h = in_turn (type_argument-whole at o h) (λ t k. ordinal_type-whole at t k)

  pub val-sound : (t_at : ℕ) (t : Operand) (at : ℕ) (o : Operand) → IsWholeOperand c.scene t → IsSound c.scene o → UnlessSpoilt c.scene (IsSound c.scene) (val_of c t_at t at o)
  val-sound t_at t at o w h =
      in_turn (ordinal_argument-whole t_at t w) (λ typ k.
      in_turn (ordinal_argument-sound at o h) (λ x l.
      otherwise (is_broken c.scene typ) (gives InError) k.0.0 (converted-sound at typ x k.0.1 l)))

  end-sound : (t : Place) (end : Range → ℤ) (r : Option Range) → is_none r ≡ false → HasWholeBase c.scene t → IsSound c.scene (end_value c t end r)
  end-sound t end (Some r) e h = h
  end-sound t end None e h = absurd (true≢false e)

  pub min-sound : (at : ℕ) (o : Operand) → IsWholeOperand c.scene o → UnlessSpoilt c.scene (IsSound c.scene) (min_of c at o)
  min-sound at o h = in_turn (ordinal_argument-whole at o h) (λ t k. given (end-sound t (λ r. r.low) (range_of c.scene t) k.1 k.0.1))

  pub max-sound : (at : ℕ) (o : Operand) → IsWholeOperand c.scene o → UnlessSpoilt c.scene (IsSound c.scene) (max_of c at o)
  max-sound at o h = in_turn (ordinal_argument-whole at o h) (λ t k. given (end-sound t (λ r. r.high) (range_of c.scene t) k.1 k.0.1))

  pub size-sound : (at : ℕ) (o : Operand) → IsWholeOperand c.scene o → UnlessSpoilt c.scene (IsSound c.scene) (size_value c at o)
  size-sound at (NamedType t) h = given (cardinal_whole c there)
  size-sound at (Variable t) h = absurd h
  size-sound at InError h = absurd h
  size-sound at NotConstant h = given tt
  size-sound at o h = noted

  -- ---- sets

  -- a set type whose base isn't in error
  abbrev pub IsWholeSet : Place → Type 0
  IsWholeSet t = (is_broken c.scene (set_base c t) ≡ false) × HasWholeBase c.scene t

  -- a set type stands for itself
  set_stands : (t : Place) (m : RowMeaning) → kind_of c.scene t ≡ m → is_set_kind m ≡ true → stands_for c.scene (stands_for c.scene t) ≡ stands_for c.scene t
  set_stands t (Set base) e s = ap (stands_as c.scene (stands_for c.scene t)) e
  set_stands t m e s = absurd (false≢true s)

  pub set_type-whole : (at : ℕ) (o : Operand) → IsWholeOperand c.scene o → UnlessSpoilt c.scene IsWholeSet (set_type_of c at o)
  set_type-whole at (NamedType t) h =
      by_test (is_set_kind (kind_of c.scene t))
      (λ e. let kind = ap (meaning_at c.scene) (set_stands t (kind_of c.scene t) refl e) in
      given (
        ap (λ (m : RowMeaning). is_broken c.scene (set_base_by m)) kind ∙ h.1 e,
        (λ s. ap (λ (m : RowMeaning). is_broken c.scene (set_base_by m)) kind ∙ h.1 e),
      )) (λ e. noted)
  set_type-whole at InError h = absurd h
  set_type-whole at o h = noted

  checked-sound : (base : Place) (at : ℕ) (o : Operand) → IsGood c.scene o → UnlessSpoilt c.scene (IsSound c.scene) (checked_element c base at o)
  checked-sound base at (Constant t v) h = by_test (is_within (range_of c.scene base) v) (λ e. given h) (λ e. noted)
  checked-sound base at o h = given (good_sound c.scene o h)

  pub element_of-sound : (base : Place) (at : ℕ) (o : Operand) → is_broken c.scene base ≡ false → IsSound c.scene o → UnlessSpoilt c.scene (IsSound c.scene) (element_of c base at o)
  element_of-sound base at o w h =
      by_test (is_bad o) (λ e. given h)
      (λ e. otherwise (is_broken c.scene base) _ w
      (by_test (not (is_procedure o) && is_compatible c.scene o (Computed base))
      (λ f. checked-sound base at (taken_beside c.source c.scene o (Computed base)) (taken-good o (Computed base) (sound_good c.scene o h e))) (λ f. noted)))

  pub with_elements-sound : (b x y : Operand) → IsSound c.scene b → IsSound c.scene x → IsSound c.scene y → IsSound c.scene (with_elements b x y)
  with_elements-sound (Constant t v) (Constant u w) (Constant s z) h k l = h
  with_elements-sound (Constant t v) (Constant u w) y h k l = worse-sound c.scene (Constant t v) (worse (Constant u w) y) h (worse-sound c.scene (Constant u w) y k l)
  with_elements-sound (Constant t v) x y h k l = worse-sound c.scene (Constant t v) (worse x y) h (worse-sound c.scene x y k l)
  with_elements-sound b x y h k l = worse-sound c.scene b (worse x y) h (worse-sound c.scene x y k l)

  pub no_elements-sound : (t : Place) → IsWholeSet t → IsSound c.scene (no_elements c t)
  no_elements-sound t h = go (is_broken c.scene (set_base c t)) h.0
    where
      go : (b : Bool) → b ≡ false → IsSound c.scene (if b then InError else Constant t (pos 0))
      go true e = absurd (true≢false e)
      go false e = h.1

  -- ---- operands, where values are wanted

  pub value-sound : (at : ℕ) (o : Operand) → IsWholeOperand c.scene o → UnlessSpoilt c.scene (IsSound c.scene) (value_wanted c at o)
  value-sound at (NamedType t) h = noted
  value-sound at (ModuleName s) h = noted
  value-sound at (StandardProcedure n) h = given tt
  value-sound at (Procedure n t k s) h = given tt
  value-sound at (Constant t v) h = given h
  value-sound at (Computed t) h = given h
  value-sound at (StringConstant n l) h = given tt
  value-sound at NotConstant h = given tt
  value-sound at (Variable t) h = absurd h
  value-sound at InError h = absurd h

  pub sound_whole : (o : Operand) → IsSound c.scene o → IsWholeOperand c.scene o
  sound_whole (Constant t v) h = h
  sound_whole (Computed t) h = h
  sound_whole (StringConstant n l) h = tt
  sound_whole NotConstant h = tt
  sound_whole o h = absurd h

  pub selected-whole : (at : ℕ) (o : Operand) → IsWholeOperand c.scene o → UnlessSpoilt c.scene (IsWholeOperand c.scene) (selected c at o)
  selected-whole at (NamedType t) h = noted
  selected-whole at (ModuleName s) h = noted
  selected-whole at InError h = absurd h
  selected-whole at o h = given tt

  pub spoilt-whole : (part o : Operand) → IsWholeOperand c.scene part → IsWholeOperand c.scene o → IsWholeOperand c.scene (spoilt_by part o)
  spoilt-whole InError o h k = absurd h
  spoilt-whole part o h k = k

-- In a sound context operators, sets and functions give what is right.
use Rattle.std.specs.Prelude.{◌≡◌, ℕ, ◌+◌, ◌^◌, ◌<◌, ◌≤◌, Bool, true, false, not, ◌&&◌, ◌||◌, if◌then◌else◌, ◌⊎◌, ℤ, pos, nat_lt, ◌==◌, List, [], ◌∷◌, filter, length, Option, Some, None, option_map, slice_index_or}
use Rattle.std.proofs.Common.{ap, subst, sym, ◌∙◌, refl, inl, inr, arith}
use Rattle.std.proofs.lemmas.Bool.{both_ways, and_parts, or_cases}
use Rattle.std.proofs.lemmas.Nat.{or_lt}
use Rattle.m2_base.specs.Gives.{Gives, gives}
use Rattle.m2_base.specs.Lists.{Each, WhereKept}
use Rattle.m2_base.specs.Rows.{Row, Place, at_place, natural, row_of, row_meaning, RowMeaning, Text, Broken, Set, IsValue, is_same_place}
use Rattle.m2_base.specs.Standard.{integer, cardinal, boolean, whole, text_type, broken, standard_rows}
use Rattle.m2_base.specs.Trees.{Operator}
use Rattle.m2_base.specs.Statics.Contexts.{Context, Layout, Named, Scene, refuse}
use Rattle.m2_base.specs.Statics.Compatible.{is_beside_char, is_integer_or_cardinal, is_number_type, is_compatible, taken_beside}
use Rattle.m2_base.specs.Statics.Folding.{fold, is_arithmetic, is_relation, number_kind, number_type, where_in}
use Rattle.m2_base.specs.Statics.Lookup.{entry_named, entry_or, first_entry, moved}
use Rattle.m2_base.specs.Statics.Operands.{operand_type, is_bad, is_procedure, constant_of_operand, worse, is_one_char, as_char, char_or_same}
use Rattle.m2_base.specs.Statics.Operations.{makes_set, compares_sets, wrong, folded, result_of, gives_result, base_type, is_boolean, is_ordinal, as_number, logical, are_sets_alike, set_operation, number_operation, on_numbers, on_scalars, on_compatible, on_alike, member_of_set, membership_in, membership, operate_by, operate, negated, signed, with_sign, sign_of, apply_one_by, apply_one, is_set_kind}
use Rattle.m2_base.specs.Statics.Ranges.{Range, integer_range, whole_range, is_within}
use Rattle.m2_base.specs.Statics.Sets.{set_type_of, set_base_by, set_base, checked_element, element_of, span, with_elements, no_elements}
use Rattle.m2_base.specs.Statics.Types.{meaning_at, stands_as, stands_for, kind_of, is_broken, range_by, range_of, base_of}
use Rattle.m2_base.specs.declared.limits.TheConstants.{MOST_BROUGHT}
use Rattle.m2_base.specs.declared.operands.FoldKind.{FoldKind}
use Rattle.m2_base.specs.declared.operands.FoldKind.TheVariants as kinds
use Rattle.m2_base.specs.declared.operands.Operand.{Operand}
use Rattle.m2_base.specs.declared.operands.Operand.TheVariants.{Constant, StringConstant, Computed, Variable, NamedType, InError}
use Rattle.m2_base.specs.declared.trees.operators.Operator.TheVariants.{In, Or, And, Not}
use Rattle.m2_base.proofs.EachLaws.{each_found}
use Rattle.m2_base.proofs.ValueBounds.{natural_small, span_small}
use Rattle.m2_base.proofs.Sound.{Sound, IsThere}
use Rattle.m2_base.proofs.SoundOperands.{SoundSource, OperandOk, IsConstant, AreValues, natural-value, truth-value, fold_value, where_in_value, integer_values, whole_values}
use Rattle.m2_base.proofs.SoundTypes.{either, broken-there, standard-there, stands_there}
use Rattle.m2_base.proofs.TypeLaws.{same_place-is}

-- a layout's ordinals have 32 bits, also behind all that imports may bring
pub record LayoutOk (l : Layout) : Type 0 where
  pub names_small : Each (λ n. n.ordinal + MOST_BROUGHT < 2 ^ 32) l.names
  pub brought_small : Each (λ n. n.ordinal < 2 ^ 32) l.brought
  pub few : length l.brought ≤ MOST_BROUGHT

-- no list gets longer when it is filtered
pub filter_count : {A : Type 0} (p : A → Bool) (xs : List A) → length (filter p xs) ≤ length xs
filter_count p [] = omega arith
filter_count {A} p (x ∷ xs) = by_test (p x) (filter_count p xs)
  where
    by_test : (b : Bool) → length (filter p xs) ≤ length xs → length (if b then x ∷ filter p xs else filter p xs) ≤ length (x ∷ xs)
    by_test true h = omega (arith, h)
    by_test false h = omega (arith, h)

pub layout_small : (l : Layout) → LayoutOk l → (name : ℕ) → WhereKept (first_entry l name) (λ n. n.ordinal < 2 ^ 32)
layout_small l ok name = by_entry (entry_named l.brought name) (each_found (λ n. n.ordinal < 2 ^ 32) (λ n. n.name == name) l.brought ok.brought_small)
  where
    by_syntax : (o : Option Named) → WhereKept o (λ n. n.ordinal + MOST_BROUGHT < 2 ^ 32) → WhereKept (option_map (moved l.brought) o) (λ n. n.ordinal < 2 ^ 32)
    by_syntax None h = tt
    by_syntax (Some n) h =
        let few = ok.few in
        let many = filter_count (λ (b : Named). nat_lt b.item n.item) l.brought in
        omega (arith, h, few, many)

    by_entry : (o : Option Named) → WhereKept o (λ n. n.ordinal < 2 ^ 32) → WhereKept (entry_or o (option_map (moved l.brought) (entry_named l.names name))) (λ n. n.ordinal < 2 ^ 32)
    by_entry None h = by_syntax (entry_named l.names name) (each_found (λ n. n.ordinal + MOST_BROUGHT < 2 ^ 32) (λ n. n.name == name) l.names ok.names_small)
    by_entry (Some n) h = h

-- where a declaration stands: its scene and its texts are sound, and its layout has small ordinals
pub record SoundContext (names : ℕ) (c : Context) : Type 0 where
  pub scene : Sound names c.scene
  pub source : SoundSource c.source
  pub few_names : names ≤ 2 ^ 32
  pub layout : LayoutOk c.layout

abbrev pub GivesOk : ℕ → Context → Gives Operand → Type 0
GivesOk names c g = OperandOk names c.scene g.value

-- ** Types that are no strings'

pub not_text : (n : ℕ) → (n ≡ 8 → ⊥) → at_place 0 n ≡ text_type → ⊥
not_text n h e = h (ap (λ (p : Place). p.ordinal) e)

-- the meaning of a row of the standard scope
standard_meaning : {names : ℕ} {scene : Scene} → Sound names scene → (n : ℕ) (m : RowMeaning) → row_meaning (slice_index_or standard_rows n (row_of 0 0 Broken)) ≡ m → meaning_at scene (at_place 0 n) ≡ m
standard_meaning sound n m e = ap (λ (rows : List Row). row_meaning (slice_index_or rows n (row_of 0 0 Broken))) sound.standard ∙ e

stands_text : {names : ℕ} {scene : Scene} → Sound names scene → stands_for scene text_type ≡ text_type
stands_text {names} {scene} sound = ap (stands_as scene text_type) (standard_meaning sound 8 Text refl)

pub text_kind : {names : ℕ} {scene : Scene} → Sound names scene → kind_of scene text_type ≡ Text
text_kind {names} {scene} sound = ap (meaning_at scene) (stands_text sound) ∙ standard_meaning sound 8 Text refl

stands_broken : {names : ℕ} {scene : Scene} → Sound names scene → stands_for scene broken ≡ broken
stands_broken {names} {scene} sound = ap (stands_as scene broken) (standard_meaning sound 10 Broken refl)

pub broken_is : {names : ℕ} {scene : Scene} → Sound names scene → is_broken scene broken ≡ true
broken_is {names} {scene} sound = ap (λ p. is_same_place p broken) (stands_broken sound)

pub text_is_sound : {names : ℕ} {scene : Scene} → Sound names scene → is_broken scene text_type ≡ false
text_is_sound {names} {scene} sound = ap (λ p. is_same_place p broken) (stands_text sound)

pub text_range : {names : ℕ} {scene : Scene} → Sound names scene → range_of scene text_type ≡ None
text_range sound = ap range_by (text_kind sound)

-- a constant of a standard type
pub standard_constant : {names : ℕ} {scene : Scene} → Sound names scene → (n : ℕ) (v : ℤ) → n < 2 ^ 32 → (n ≡ 8 → ⊥) → IsValue v → IsConstant scene (at_place 0 n) v
standard_constant sound n v h k e = (standard-there sound n h, e, not_text n k)

module _ (names : ℕ) where
  -- ** Results

  folded_ok : (c : Context) → (op_at : ℕ) (t : Place) (o : Option ℤ) → IsThere c.scene t → (t ≡ text_type → ⊥) → WhereKept o IsValue → GivesOk names c (folded c op_at t o)
  folded_ok c op_at t None h k e = tt
  folded_ok c op_at t (Some v) h k e = (h, e, k)

  result_ok : (c : Context) → (op_at : ℕ) (k : FoldKind) (op : Operator) (t : Place) (x y : Option ℤ) → IsThere c.scene t → (t ≡ text_type → ⊥) → GivesOk names c (result_of c op_at k op t x y)
  result_ok c op_at k op t (Some x) (Some y) h n = folded_ok c op_at t (fold k op x y) h n (fold_value k op x y)
  result_ok c op_at k op t (Some x) None h n = h
  result_ok c op_at k op t None y h n = h

  gives_result_ok : (c : Context) → (op_at : ℕ) (k : FoldKind) (op : Operator) (t : Place) (x y : Operand) → IsThere c.scene t → (t ≡ text_type → ⊥) → GivesOk names c (gives_result c op_at k op t x y)
  gives_result_ok c op_at k op t x y h n =
      either (GivesOk names c) (is_bad x || is_bad y) (gives InError) _ tt (result_ok c op_at k op t (constant_of_operand x) (constant_of_operand y) h n)

  pub operand_there : {scene : Scene} → Sound names scene → (o : Operand) → OperandOk names scene o → IsThere scene (operand_type o)
  operand_there sound (Constant t v) h = h.0
  operand_there sound (StringConstant n l) h = standard-there sound 8 (omega arith)
  operand_there sound (Computed t) h = h
  operand_there sound (Variable t) h = h
  operand_there sound o h = broken-there sound

  -- a result of the left operand's own type
  own_result_ok : (c : Context) → Sound names c.scene → (op_at : ℕ) (k : FoldKind) (op : Operator) (x y : Operand) → OperandOk names c.scene x → GivesOk names c (gives_result c op_at k op (operand_type x) x y)
  own_result_ok c sound op_at k op x y h =
      either (GivesOk names c) (is_bad x || is_bad y) (gives InError) _ tt (by_cases x h)
    where
      by_cases : (o : Operand) → OperandOk names c.scene o → GivesOk names c (result_of c op_at k op (operand_type o) (constant_of_operand o) (constant_of_operand y))
      by_cases (Constant t v) h' = result_ok c op_at k op t (Some v) (constant_of_operand y) h'.0 h'.2
      by_cases (StringConstant n l) h' = standard-there sound 8 (omega arith)
      by_cases (Computed t) h' = h'
      by_cases (Variable t) h' = h'
      by_cases o h' = broken-there sound

  boolean_result_ok : (c : Context) → Sound names c.scene → (op_at : ℕ) (k : FoldKind) (op : Operator) (x y : Operand) → GivesOk names c (gives_result c op_at k op boolean x y)
  boolean_result_ok c sound op_at k op x y = gives_result_ok c op_at k op boolean x y (standard-there sound 3 (omega arith)) (not_text 3 (λ e. omega (arith, e)))

  pub number_type_there : {scene : Scene} → Sound names scene → (k : FoldKind) → IsThere scene (number_type k)
  number_type_there sound kinds.Integer = standard-there sound 0 (omega arith)
  number_type_there sound kinds.Cardinal = standard-there sound 1 (omega arith)
  number_type_there sound k = standard-there sound 9 (omega arith)

  pub number_type_not_text : (k : FoldKind) → number_type k ≡ text_type → ⊥
  number_type_not_text kinds.Integer = not_text 0 (λ e. omega (arith, e))
  number_type_not_text kinds.Cardinal = not_text 1 (λ e. omega (arith, e))
  number_type_not_text k = not_text 9 (λ e. omega (arith, e))

  -- ** Operators

  integer_or_cardinal : {scene : Scene} → Sound names scene → (t : Place) → is_integer_or_cardinal t ≡ true → IsThere scene t × (t ≡ text_type → ⊥)
  integer_or_cardinal {scene} sound t e = by_case (or_cases (is_same_place t integer) (is_same_place t cardinal) e)
    where
      by_case : (is_same_place t integer ≡ true) ⊎ (is_same_place t cardinal ≡ true) → IsThere scene t × (t ≡ text_type → ⊥)
      by_case (inl h) = subst (λ p. IsThere scene p × (p ≡ text_type → ⊥)) (sym (same_place-is t integer h)) (number_type_there sound kinds.Integer, number_type_not_text kinds.Integer)
      by_case (inr h) = subst (λ p. IsThere scene p × (p ≡ text_type → ⊥)) (sym (same_place-is t cardinal h)) (number_type_there sound kinds.Cardinal, number_type_not_text kinds.Cardinal)

  as_number_ok : (c : Context) → Sound names c.scene → (at : ℕ) (t : Place) (o : Operand) → OperandOk names c.scene o → GivesOk names c (as_number c at t o)
  as_number_ok c sound at t (Constant u v) h = by_test (is_same_place u whole && is_integer_or_cardinal t) refl
    where
      by_test : (b : Bool) → (is_same_place u whole && is_integer_or_cardinal t) ≡ b
          → GivesOk names c (if b then (if is_within (range_of c.scene t) v then gives (Constant t v) else refuse c at 47 InError) else gives (Constant u v))
      by_test true e =
          let number = integer_or_cardinal sound t (and_parts _ _ e).1 in
          either (GivesOk names c) (is_within (range_of c.scene t) v) (gives (Constant t v)) _ (number.0, h.1, number.1) tt
      by_test false e = h
  as_number_ok c sound at t (StringConstant n l) h = h
  as_number_ok c sound at t (Computed u) h = h
  as_number_ok c sound at t (Variable u) h = h
  as_number_ok c sound at t (NamedType u) h = h
  as_number_ok c sound at t o h = tt

  char_ok : (c : Context) → SoundContext names c → (o : Operand) → OperandOk names c.scene o → OperandOk names c.scene (as_char c.source o)
  char_ok c sound (StringConstant n l) h =
      let e = sound.source.bytes n in
      standard_constant sound.scene 2 _ (omega arith) (λ e'. omega (arith, e')) (natural-value _ (omega (arith, e)))
  char_ok c sound (Constant t v) h = h
  char_ok c sound (Computed t) h = h
  char_ok c sound (Variable t) h = h
  char_ok c sound (NamedType t) h = h
  char_ok c sound o h = tt

  pub beside_ok : (c : Context) → SoundContext names c → (x y : Operand) → OperandOk names c.scene x → OperandOk names c.scene (taken_beside c.source c.scene x y)
  beside_ok c sound x y h = either (OperandOk names c.scene) (is_beside_char c.scene x y) (as_char c.source x) x (char_ok c sound x h) h

  pub char_or_same_ok : (c : Context) → SoundContext names c → (o : Operand) → OperandOk names c.scene o → OperandOk names c.scene (char_or_same c.source o)
  char_or_same_ok c sound o h = either (OperandOk names c.scene) (is_one_char o) (as_char c.source o) o (char_ok c sound o h) h

  logical_ok : (c : Context) → Sound names c.scene → (op : Operator) (op_at : ℕ) (x y : Operand) → GivesOk names c (logical c op op_at x y)
  logical_ok c sound op op_at x y =
      either (GivesOk names c) (is_boolean c x && is_boolean c y) _ (wrong c op_at) (boolean_result_ok c sound op_at kinds.Ordinal op x y) tt

  set_operation_ok : (c : Context) → Sound names c.scene → (op : Operator) (op_at : ℕ) (x y : Operand) → OperandOk names c.scene x → GivesOk names c (set_operation c op op_at x y)
  set_operation_ok c sound op op_at x y h =
      either (GivesOk names c) (makes_set op) _ _ (own_result_ok c sound op_at kinds.Set op x y h)
      (either (GivesOk names c) (compares_sets op) _ (wrong c op_at) (boolean_result_ok c sound op_at kinds.Set op x y) tt)

  number_operation_ok : (c : Context) → Sound names c.scene → (op : Operator) (op_at : ℕ) (x y : Operand) → GivesOk names c (number_operation c op op_at x y)
  number_operation_ok c sound op op_at x y =
      let k = number_kind (base_type c x) in
      either (GivesOk names c) (is_arithmetic op) _ _ (gives_result_ok c op_at k op (number_type k) x y (number_type_there sound k) (number_type_not_text k))
      (either (GivesOk names c) (is_relation op) _ (wrong c op_at) (boolean_result_ok c sound op_at k op x y) tt)

  on_numbers_ok : (c : Context) → Sound names c.scene → (op : Operator) (op_at : ℕ) (x : Operand) (x_at : ℕ) (y : Operand) (y_at : ℕ) → GivesOk names c (on_numbers c op op_at x x_at y y_at)
  on_numbers_ok c sound op op_at x x_at y y_at =
      either (GivesOk names c) (is_arithmetic op || is_relation op) _ (wrong c op_at)
      (number_operation_ok c sound op op_at (as_number c x_at (base_type c y) x).value (as_number c y_at (base_type c x) y).value) tt

  on_scalars_ok : (c : Context) → Sound names c.scene → (op : Operator) (op_at : ℕ) (x y : Operand) → GivesOk names c (on_scalars c op op_at x y)
  on_scalars_ok c sound op op_at x y = either (GivesOk names c) _ _ (wrong c op_at) (boolean_result_ok c sound op_at kinds.Ordinal op x y) tt

  on_compatible_ok : (c : Context) → Sound names c.scene → (op : Operator) (op_at : ℕ) (x : Operand) (x_at : ℕ) (y : Operand) (y_at : ℕ) → GivesOk names c (on_compatible c op op_at x x_at y y_at)
  on_compatible_ok c sound op op_at x x_at y y_at =
      either (GivesOk names c) (is_number_type (base_type c x) && is_number_type (base_type c y)) _ _
      (on_numbers_ok c sound op op_at x x_at y y_at) (on_scalars_ok c sound op op_at x y)

  on_alike_ok : (c : Context) → Sound names c.scene → (op : Operator) (op_at : ℕ) (x : Operand) (x_at : ℕ) (y : Operand) (y_at : ℕ) → OperandOk names c.scene x → GivesOk names c (on_alike c op op_at x x_at y y_at)
  on_alike_ok c sound op op_at x x_at y y_at h =
      either (GivesOk names c) (are_sets_alike c x y) _ _ (set_operation_ok c sound op op_at x y h)
      (either (GivesOk names c) (is_compatible c.scene x y) _ (wrong c op_at)
      (on_compatible_ok c sound op op_at (taken_beside c.source c.scene x y) x_at (taken_beside c.source c.scene y x) y_at) tt)

  member_ok : (c : Context) → Sound names c.scene → (x y : Operand) → OperandOk names c.scene (member_of_set x y)
  member_ok c sound (Constant t v) (Constant s bits) = standard_constant sound 3 _ (omega arith) (λ e. omega (arith, e)) (truth-value _)
  member_ok c sound InError y = tt
  member_ok c sound x y = standard-there sound 3 (omega arith)

  membership_in_ok : (c : Context) → Sound names c.scene → (op_at : ℕ) (x : Operand) (x_at : ℕ) (y : Operand) (base : Place) → GivesOk names c (membership_in c op_at x x_at y base)
  membership_in_ok c sound op_at x x_at y base =
      let element = taken_beside c.source c.scene x (Computed base) in
      either (GivesOk names c) (is_broken c.scene base) (gives InError) _ tt
      (either (GivesOk names c) (is_compatible c.scene x (Computed base) && is_ordinal c element) _ (wrong c op_at)
      (member_ok c sound (as_number c x_at (base_of c.scene base) element).value y) tt)

  membership_ok : (c : Context) → Sound names c.scene → (op_at : ℕ) (x : Operand) (x_at : ℕ) (y : Operand) (m : RowMeaning) → GivesOk names c (membership c op_at x x_at y m)
  membership_ok c sound op_at x x_at y (Set base) = membership_in_ok c sound op_at x x_at y base
  membership_ok c sound op_at x x_at y m = tt

  operate_by_ok : (c : Context) → Sound names c.scene → (op : Operator) (op_at : ℕ) (x : Operand) (x_at : ℕ) (y : Operand) (y_at : ℕ) → OperandOk names c.scene x → GivesOk names c (operate_by c op op_at x x_at y y_at)
  operate_by_ok c sound And op_at x x_at y y_at h = logical_ok c sound And op_at x y
  operate_by_ok c sound Or op_at x x_at y y_at h = logical_ok c sound Or op_at x y
  operate_by_ok c sound In op_at x x_at y y_at h = membership_ok c sound op_at x x_at y (kind_of c.scene (operand_type y))
  operate_by_ok c sound op op_at x x_at y y_at h = on_alike_ok c sound op op_at x x_at y y_at h

  pub worse_ok : (scene : Scene) (x y : Operand) → OperandOk names scene (worse x y)
  worse_ok scene InError y = tt
  worse_ok scene x InError = tt
  worse_ok scene x y = tt

  pub operate_ok : (c : Context) → Sound names c.scene → (op : Operator) (op_at : ℕ) (x : Operand) (x_at : ℕ) (y : Operand) (y_at : ℕ) → OperandOk names c.scene x → GivesOk names c (operate c op op_at x x_at y y_at)
  operate_ok c sound op op_at x x_at y y_at h =
      either (GivesOk names c) (is_bad x || is_bad y) (gives (worse x y)) _ (worse_ok c.scene x y)
      (either (GivesOk names c) (is_procedure x || is_procedure y) (wrong c op_at) _ tt (operate_by_ok c sound op op_at x x_at y y_at h))

  negated_ok : (c : Context) → Sound names c.scene → (o : Operand) → OperandOk names c.scene (negated o)
  negated_ok c sound (Constant t v) = standard_constant sound 3 _ (omega arith) (λ e. omega (arith, e)) (truth-value _)
  negated_ok c sound o = standard-there sound 3 (omega arith)

  with_sign_ok : (c : Context) → (op : Operator) (op_at : ℕ) (t : Place) (r : Range) (o : Operand) → IsThere c.scene t → (t ≡ text_type → ⊥) → AreValues r → GivesOk names c (with_sign c op op_at t r o)
  with_sign_ok c op op_at t r (Constant u v) h n k = folded_ok c op_at t (where_in r (signed op v)) h n (where_in_value r (signed op v) k)
  with_sign_ok c op op_at t r o h n k = h

  sign_ok : (c : Context) → Sound names c.scene → (op : Operator) (op_at : ℕ) (o : Operand) → GivesOk names c (sign_of c op op_at o)
  sign_ok c sound op op_at o =
      either (GivesOk names c) (is_same_place (base_type c o) integer) _ _
      (with_sign_ok c op op_at integer integer_range o (number_type_there sound kinds.Integer) (number_type_not_text kinds.Integer) integer_values)
      (either (GivesOk names c) (is_same_place (base_type c o) whole) _ (wrong c op_at)
      (with_sign_ok c op op_at whole whole_range o (number_type_there sound kinds.Whole) (number_type_not_text kinds.Whole) whole_values) tt)

  apply_by_ok : (c : Context) → Sound names c.scene → (op : Operator) (op_at : ℕ) (o : Operand) → GivesOk names c (apply_one_by c op op_at o)
  apply_by_ok c sound Not op_at o = either (GivesOk names c) (is_boolean c o) (gives (negated o)) (wrong c op_at) (negated_ok c sound o) tt
  apply_by_ok c sound op op_at o = sign_ok c sound op op_at o

  pub apply_ok : (c : Context) → Sound names c.scene → (op : Operator) (op_at : ℕ) (o : Operand) → OperandOk names c.scene o → GivesOk names c (apply_one c op op_at o)
  apply_ok c sound op op_at o h = either (GivesOk names c) (is_bad o) (gives o) _ h (apply_by_ok c sound op op_at o)

  -- ** Sets

  pub set_type_there : (c : Context) → Sound names c.scene → (at : ℕ) (o : Operand) → OperandOk names c.scene o → IsThere c.scene (set_type_of c at o).value
  set_type_there c sound at (NamedType t) h =
      either (λ (g : Gives Place). IsThere c.scene g.value) (is_set_kind (kind_of c.scene t)) (gives (stands_for c.scene t)) _ (stands_there sound t h) (broken-there sound)
  set_type_there c sound at o h = broken-there sound

  checked_element_ok : (c : Context) (base : Place) (at : ℕ) (o : Operand) → OperandOk names c.scene o → GivesOk names c (checked_element c base at o)
  checked_element_ok c base at (Constant t v) h = either (GivesOk names c) (is_within (range_of c.scene base) v) (gives (Constant t v)) _ h tt
  checked_element_ok c base at (StringConstant n l) h = h
  checked_element_ok c base at (Computed t) h = h
  checked_element_ok c base at (Variable t) h = h
  checked_element_ok c base at (NamedType t) h = h
  checked_element_ok c base at o h = tt

  pub element_ok : (c : Context) → SoundContext names c → (base : Place) (at : ℕ) (o : Operand) → OperandOk names c.scene o → GivesOk names c (element_of c base at o)
  element_ok c sound base at o h =
      either (GivesOk names c) (is_bad o) (gives o) _ h
      (either (GivesOk names c) (is_broken c.scene base) (gives InError) _ tt
      (either (GivesOk names c) (not (is_procedure o) && is_compatible c.scene o (Computed base)) _ _
      (checked_element_ok c base at (taken_beside c.source c.scene o (Computed base)) (beside_ok c sound o (Computed base) h)) tt))

  pub with_elements_ok : (scene : Scene) (bits low high : Operand) → OperandOk names scene bits → OperandOk names scene (with_elements bits low high)
  with_elements_ok scene (Constant t b) (Constant u l) (Constant v h) k =
      (k.0, natural-value _ (or_lt 32 (natural b) (span (natural l) (natural h)) (natural_small b k.1) (span_small (natural l) (natural h))), k.2)
  with_elements_ok scene bits low high k = worse_ok scene bits (worse low high)

  pub no_elements_ok : (c : Context) → Sound names c.scene → (t : Place) → IsThere c.scene t → OperandOk names c.scene (no_elements c t)
  no_elements_ok c sound t h = by_test (is_broken c.scene (set_base c t)) refl
    where
      by_test : (b : Bool) → is_broken c.scene (set_base c t) ≡ b → OperandOk names c.scene (if b then InError else Constant t (pos 0))
      by_test true e = tt
      by_test false e = (
        h,
        natural-value 0 (omega arith),
        λ same. both_ways (is_broken c.scene (set_base c t)) e
            (ap (λ p. is_broken c.scene (set_base c p)) same ∙ ap (λ m. is_broken c.scene (set_base_by m)) (text_kind sound) ∙ broken_is sound),
      )

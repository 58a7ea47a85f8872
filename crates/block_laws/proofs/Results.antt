-- The constants that operators and functions give have values in range.
use Rattle.std.specs.Prelude.{◌≡◌, ℕ, ◌+◌, ◌-◌, ◌%◌, ◌^◌, ◌<◌, ◌≤◌, Bool, true, false, not, ◌&&◌, ◌||◌, if◌then◌else◌, ℤ, pos, negsuc, nat_abs, nat_le, Option, Some, None}
use Rattle.std.proofs.Common.{refl, arith}
use Rattle.std.proofs.Math.Facts.{leb_yes}
use Rattle.std.proofs.Math.Nat.{mod-lt}
use Rattle.std.proofs.Math.Pow.{pow_mono}
use Rattle.std.proofs.lemmas.Bool.{and_parts, leb-true}
use Rattle.std.proofs.lemmas.Nat.{or_lt, pow_pos}
use Rattle.m2_base.proofs.SoundOperands.{AreValues, fold_value, integer_values, natural-value, truth-value, where_in_value, whole_values}
use Rattle.m2_base.proofs.SoundTypes.{either}
use Rattle.m2_base.proofs.ValueBounds.{absolute_value, natural_small, odd_is_value, span_small}
use Rattle.m2_base.specs.Gives.{Gives, gives}
use Rattle.m2_base.specs.Lists.{WhereKept}
use Rattle.m2_base.specs.Rows.{IsValue, is_same_place, natural}
use Rattle.m2_base.specs.declared.rows.Place.{Place}
use Rattle.m2_base.specs.declared.rows.RowMeaning.{RowMeaning}
use Rattle.m2_base.specs.declared.rows.RowMeaning.TheVariants.{Set}
use Rattle.m2_base.specs.Standard.{boolean, cardinal, character, integer, whole}
use Rattle.m2_base.specs.Statics.Assignable.{is_open_array}
use Rattle.m2_base.specs.Statics.Compatible.{is_beside_char, is_compatible, is_number_type, taken_beside}
use Rattle.m2_base.specs.Statics.Contexts.{Context}
use Rattle.m2_base.specs.Statics.Folding.{fold, is_arithmetic, is_relation, number_kind, number_type, where_in}
use Rattle.m2_base.specs.Statics.FormedRows.{IsSoundText}
use Rattle.m2_base.specs.Statics.Functions.{abs_of, absolute, cap_of, capital, chr_of, converted, end_value, is_small_letter, max_of, min_of, number_argument, odd_of, odd_value, oddness, ord_of, ordinal_argument, ordinal_type_argument, size_value, val_of, wrong_at}
use Rattle.m2_base.specs.Statics.Operands.{as_char, char_or_same, constant_of_operand, is_bad, is_one_char, is_procedure, worse}
use Rattle.m2_base.specs.Statics.Operations.{apply_one, apply_one_by, are_sets_alike, as_number, base_type, compares_sets, folded, gives_result, is_boolean, is_ordinal, logical, makes_set, member_of_set, membership, negated, number_operation, on_alike, on_numbers, on_scalars, operate, operate_by, result_of, set_operation, sign_of, signed, with_sign, wrong}
use Rattle.m2_base.specs.Statics.Ranges.{Range, integer_range, is_within, whole_range}
use Rattle.m2_base.specs.Statics.Sets.{checked_element, element_of, no_elements, set_base, span, with_elements}
use Rattle.m2_base.specs.Statics.Types.{is_broken, kind_of, range_of}
use Rattle.m2_base.specs.declared.trees.operators.Operator.{Operator}
use Rattle.m2_base.specs.declared.operands.FoldKind.TheVariants as kinds
use Rattle.m2_base.specs.declared.operands.FoldKind.{FoldKind}
use Rattle.m2_base.specs.declared.operands.Operand.TheVariants.{Computed, Constant, InError, ModuleName, NamedType, NotConstant, Procedure, StringConstant, Variable}
use Rattle.m2_base.specs.declared.operands.Operand.{Operand}
use Rattle.m2_base.specs.declared.trees.operators.Operator.TheVariants.{And, In, Not, Or}
use Rattle.row_laws.specs.RowRanges.{RowsInRange}
use Rattle.block_laws.proofs.Values.{HasValues, range_values, size_is}

module _ (seen : ℕ → Type 0) (P : ℕ → Place → ℕ → ℕ → Type 0) where
  abbrev Values : Operand → Type 0
  Values o = HasValues seen P o

  abbrev Given : Gives Operand → Type 0
  Given g = HasValues seen P g.value

  -- ** Operators

  folded-values : (c : Context) (op_at : ℕ) (t : Place) (o : Option ℤ) → WhereKept o IsValue → Given (folded c op_at t o)
  folded-values c op_at t None h = tt
  folded-values c op_at t (Some v) h = h

  result-values : (c : Context) (op_at : ℕ) (k : FoldKind) (op : Operator) (t : Place) (x y : Option ℤ) → Given (result_of c op_at k op t x y)
  result-values c op_at k op t (Some x) (Some y) = folded-values c op_at t (fold k op x y) (fold_value k op x y)
  result-values c op_at k op t (Some x) None = tt
  result-values c op_at k op t None y = tt

  gives-values : (c : Context) (op_at : ℕ) (k : FoldKind) (op : Operator) (t : Place) (x y : Operand) → Given (gives_result c op_at k op t x y)
  gives-values c op_at k op t x y =
      either Given (is_bad x || is_bad y) (gives InError) _ tt (result-values c op_at k op t (constant_of_operand x) (constant_of_operand y))

  set-values : (c : Context) (op : Operator) (op_at : ℕ) (x y : Operand) → Given (set_operation c op op_at x y)
  set-values c op op_at x y =
      either Given (makes_set op) _ _ (gives-values c op_at kinds.Set op _ x y)
      (either Given (compares_sets op) _ (wrong c op_at) (gives-values c op_at kinds.Set op boolean x y) tt)

  number-values : (c : Context) (op : Operator) (op_at : ℕ) (x y : Operand) → Given (number_operation c op op_at x y)
  number-values c op op_at x y =
      let k = number_kind (base_type c x) in
      either Given (is_arithmetic op) _ _ (gives-values c op_at k op (number_type k) x y)
      (either Given (is_relation op) _ (wrong c op_at) (gives-values c op_at k op boolean x y) tt)

  numbers-values : (c : Context) (op : Operator) (op_at : ℕ) (x : Operand) (x_at : ℕ) (y : Operand) (y_at : ℕ) → Given (on_numbers c op op_at x x_at y y_at)
  numbers-values c op op_at x x_at y y_at =
      either Given (is_arithmetic op || is_relation op) _ (wrong c op_at)
      (number-values c op op_at (as_number c x_at (base_type c y) x).value (as_number c y_at (base_type c x) y).value) tt

  scalars-values : (c : Context) (op : Operator) (op_at : ℕ) (x y : Operand) → Given (on_scalars c op op_at x y)
  scalars-values c op op_at x y = either Given _ _ (wrong c op_at) (gives-values c op_at kinds.Ordinal op boolean x y) tt

  alike-values : (c : Context) (op : Operator) (op_at : ℕ) (x : Operand) (x_at : ℕ) (y : Operand) (y_at : ℕ) → Given (on_alike c op op_at x x_at y y_at)
  alike-values c op op_at x x_at y y_at =
      let x' = taken_beside c.source c.scene x y in
      let y' = taken_beside c.source c.scene y x in
      either Given (are_sets_alike c x y) _ _ (set-values c op op_at x y)
      (either Given (is_compatible c.scene x y) _ (wrong c op_at)
      (either Given (is_number_type (base_type c x') && is_number_type (base_type c y')) _ _ (numbers-values c op op_at x' x_at y' y_at) (scalars-values c op op_at x' y')) tt)

  member-values : (x y : Operand) → Values (member_of_set x y)
  member-values (Constant t v) (Constant s bits) = truth-value _
  member-values InError y = tt
  member-values x y = tt

  membership-values : (c : Context) (op_at : ℕ) (x : Operand) (x_at : ℕ) (y : Operand) (m : RowMeaning) → Given (membership c op_at x x_at y m)
  membership-values c op_at x x_at y (Set base) =
      let element = taken_beside c.source c.scene x (Computed base) in
      either Given (is_broken c.scene base) (gives InError) _ tt
      (either Given (is_compatible c.scene x (Computed base) && is_ordinal c element) _ (wrong c op_at) (member-values _ y) tt)
  membership-values c op_at x x_at y m = tt

  logical-values : (c : Context) (op : Operator) (op_at : ℕ) (x y : Operand) → Given (logical c op op_at x y)
  logical-values c op op_at x y = either Given (is_boolean c x && is_boolean c y) _ (wrong c op_at) (gives-values c op_at kinds.Ordinal op boolean x y) tt

  operate_by-values : (c : Context) (op : Operator) (op_at : ℕ) (x : Operand) (x_at : ℕ) (y : Operand) (y_at : ℕ) → Given (operate_by c op op_at x x_at y y_at)
  operate_by-values c And op_at x x_at y y_at = logical-values c And op_at x y
  operate_by-values c Or op_at x x_at y y_at = logical-values c Or op_at x y
  operate_by-values c In op_at x x_at y y_at = membership-values c op_at x x_at y (kind_of c.scene _)
  operate_by-values c op op_at x x_at y y_at = alike-values c op op_at x x_at y y_at

  worse-values : (x y : Operand) → Values (worse x y)
  worse-values InError y = tt
  worse-values x InError = tt
  worse-values x y = tt

  pub operate-values : (c : Context) (op : Operator) (op_at : ℕ) (x : Operand) (x_at : ℕ) (y : Operand) (y_at : ℕ) → Given (operate c op op_at x x_at y y_at)
  operate-values c op op_at x x_at y y_at =
      either Given (is_bad x || is_bad y) (gives (worse x y)) _ (worse-values x y)
      (either Given (is_procedure x || is_procedure y) (wrong c op_at) _ tt (operate_by-values c op op_at x x_at y y_at))

  negated-values : (o : Operand) → Values (negated o)
  negated-values (Constant t v) = truth-value _
  negated-values o = tt

  with_sign-values : (c : Context) (op : Operator) (op_at : ℕ) (t : Place) (r : Range) (o : Operand) → AreValues r → Given (with_sign c op op_at t r o)
  with_sign-values c op op_at t r (Constant u v) k = folded-values c op_at t (where_in r (signed op v)) (where_in_value r (signed op v) k)
  with_sign-values c op op_at t r o k = tt

  sign-values : (c : Context) (op : Operator) (op_at : ℕ) (o : Operand) → Given (sign_of c op op_at o)
  sign-values c op op_at o =
      either Given (is_same_place (base_type c o) integer) _ _ (with_sign-values c op op_at integer integer_range o integer_values)
      (either Given (is_same_place (base_type c o) whole) _ (wrong c op_at) (with_sign-values c op op_at whole whole_range o whole_values) tt)

  apply_by-values : (c : Context) (op : Operator) (op_at : ℕ) (o : Operand) → Given (apply_one_by c op op_at o)
  apply_by-values c Not op_at o = either Given (is_boolean c o) (gives (negated o)) (wrong c op_at) (negated-values o) tt
  apply_by-values c op op_at o = sign-values c op op_at o

  pub apply-values : (c : Context) (op : Operator) (op_at : ℕ) (o : Operand) → Values o → Given (apply_one c op op_at o)
  apply-values c op op_at o h = either Given (is_bad o) (gives o) _ h (apply_by-values c op op_at o)

  -- ** Sets

  pub with_elements-values : (bits low high : Operand) → Values bits → Values (with_elements bits low high)
  with_elements-values (Constant t b) (Constant u l) (Constant v h) k =
      natural-value _ (or_lt 32 (natural b) (span (natural l) (natural h)) (natural_small b k) (span_small (natural l) (natural h)))
  with_elements-values bits low high k = worse-values bits (worse low high)

  pub no_elements-values : (c : Context) (t : Place) → Values (no_elements c t)
  no_elements-values c t = either Values (is_broken c.scene (set_base c t)) InError (Constant t (pos 0)) tt (natural-value 0 (omega arith))

  -- ** Characters

  module _ (c : Context) (text : IsSoundText c.source) where
    as_char-values : (o : Operand) → Values o → Values (as_char c.source o)
    as_char-values (StringConstant n l) h = let e = text.bytes n in natural-value _ (omega (arith, e))
    as_char-values (Constant t v) h = h
    as_char-values (Procedure name t k s) h = h
    as_char-values (ModuleName s) h = h
    as_char-values o h = tt

    pub beside-values : (x y : Operand) → Values x → Values (taken_beside c.source c.scene x y)
    beside-values x y h = either Values (is_beside_char c.scene x y) (as_char c.source x) x (as_char-values x h) h

    pub char-values : (o : Operand) → Values o → Values (char_or_same c.source o)
    char-values o h = either Values (is_one_char o) (as_char c.source o) o (as_char-values o h) h

    checked-values : (base : Place) (at : ℕ) (o : Operand) → Values o → Given (checked_element c base at o)
    checked-values base at (Constant t v) h = either Given (is_within (range_of c.scene base) v) (gives (Constant t v)) _ h tt
    checked-values base at (StringConstant n l) h = h
    checked-values base at (Procedure name t k s) h = h
    checked-values base at (ModuleName s) h = h
    checked-values base at o h = tt

    pub element-values : (base : Place) (at : ℕ) (o : Operand) → Values o → Given (element_of c base at o)
    element-values base at o h =
        either Given (is_bad o) (gives o) _ h
        (either Given (is_broken c.scene base) (gives InError) _ tt
        (either Given (not (is_procedure o) && is_compatible c.scene o (Computed base)) _ _
        (checked-values base at (taken_beside c.source c.scene o (Computed base)) (beside-values o (Computed base) h)) tt))

    ordinal-values : (at : ℕ) (o : Operand) → Values o → Given (ordinal_argument c at o)
    ordinal-values at o h =
        either Given (is_bad o) (gives o) _ h
        (either Given (is_ordinal c (char_or_same c.source o)) (gives (char_or_same c.source o)) (wrong_at c at) (char-values o h) tt)

    -- ** Functions

    number_argument-values : (at : ℕ) (o : Operand) → Values o → Given (number_argument c at o)
    number_argument-values at o h =
        either Given (is_bad o) (gives o) _ h (either Given (is_number_type (base_type c o)) (gives o) (wrong_at c at) h tt)

    converted-values : (at : ℕ) (t : Place) (o : Operand) → Values o → Given (converted c at t o)
    converted-values at t (Constant u v) k = either Given (is_within (range_of c.scene t) v) (gives (Constant t v)) _ k tt
    converted-values at t InError k = tt
    converted-values at t NotConstant k = tt
    converted-values at t o k = tt

    absolute-values : (at : ℕ) (t : Place) (o : Operand) → Values o → Given (absolute c at t o)
    absolute-values at t (Constant u v) k =
        either Given (is_same_place t integer && not (is_within (Some integer_range) (pos (nat_abs v)))) _ (gives (Constant t (pos (nat_abs v)))) tt (absolute_value v k)
    absolute-values at t InError k = tt
    absolute-values at t NotConstant k = tt
    absolute-values at t o k = tt

    pub abs-values : (at : ℕ) (o : Operand) → Values o → Given (abs_of c at o)
    abs-values at o h =
        let x = (number_argument c at o).value in
        absolute-values at (number_type (number_kind (base_type c x))) x (number_argument-values at o h)

    capital-values : (o : Operand) → Values o → Values (capital o)
    capital-values (Constant t v) h =
        either IsValue (is_small_letter v) (pos (natural v - 32)) v (natural-value _ (let small = natural_small v h in omega (arith, small))) h
    capital-values o h = tt

    pub cap-values : (at : ℕ) (o : Operand) → Values o → Given (cap_of c at o)
    cap-values at o h =
        let x = char_or_same c.source o in
        either Given (is_bad o) (gives o) _ h
        (either Given (is_same_place (base_type c x) character) (gives (capital x)) (wrong_at c at) (capital-values x (char-values o h)) tt)

    pub chr-values : (at : ℕ) (o : Operand) → Values o → Given (chr_of c at o)
    chr-values at o h = converted-values at character (number_argument c at o).value (number_argument-values at o h)

    oddness-values : (o : Operand) → Values (oddness o)
    oddness-values (Constant t v) = odd_is_value v
    oddness-values InError = tt
    oddness-values NotConstant = tt
    oddness-values o = tt

    pub odd-values : (at : ℕ) (o : Operand) → Given (odd_of c at o)
    odd-values at o = oddness-values (number_argument c at o).value

    pub ord-values : (at : ℕ) (o : Operand) → Values o → Given (ord_of c at o)
    ord-values at o h = converted-values at cardinal (ordinal_argument c at o).value (ordinal-values at o h)

    pub val-values : (t_at : ℕ) (t : Operand) (at : ℕ) (o : Operand) → Values o → Given (val_of c t_at t at o)
    val-values t_at t at o h =
        let typ = (ordinal_type_argument c t_at t).value in
        let x = (ordinal_argument c at o).value in
        either Given (is_broken c.scene typ) (gives InError) _ tt (converted-values at typ x (ordinal-values at o h))

    module _ (rows : RowsInRange c.scene) where
      end-values : (t : Place) (end : Range → ℤ) → ((r : Range) → AreValues r → IsValue (end r)) → (o : Option Range) → WhereKept o AreValues → Values (end_value c t end o)
      end-values t end f None h = tt
      end-values t end f (Some r) h = f r h

      pub min-values : (at : ℕ) (o : Operand) → Given (min_of c at o)
      min-values at o =
          let t = (ordinal_type_argument c at o).value in end-values t (λ r. r.low) (λ r k. k.0) (range_of c.scene t) (range_values c rows t)

      pub max-values : (at : ℕ) (o : Operand) → Given (max_of c at o)
      max-values at o =
          let t = (ordinal_type_argument c at o).value in end-values t (λ r. r.high) (λ r k. k.1) (range_of c.scene t) (range_values c rows t)

      pub size-values : (at : ℕ) (o : Operand) → Given (size_value c at o)
      size-values at (NamedType t) = natural-value _ ((size_is c rows t).1)
      size-values at (Variable t) = either Given (is_open_array c.scene t) (wrong_at c at) (gives (Computed cardinal)) tt tt
      size-values at InError = tt
      size-values at NotConstant = tt
      size-values at o = tt

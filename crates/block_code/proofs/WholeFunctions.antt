-- What standard functions give of operands that aren't in error isn't in error either, unless a diagnostic was noted.
use Rattle.std.specs.Prelude.{◌≡◌, ℕ, ◌&&◌, not, false, is_none, nat_abs, ℤ, pos, Option, Some, None}
use Rattle.std.proofs.Common.{ap, sym, ◌∙◌}
use Rattle.m2_base.specs.Rows.{is_same_place}
use Rattle.m2_base.specs.Standard.{cardinal, character, integer}
use Rattle.m2_base.specs.declared.rows.Place.{Place}
use Rattle.m2_base.specs.Statics.Assignable.{is_open_array}
use Rattle.m2_base.specs.Statics.Compatible.{is_number_type}
use Rattle.m2_base.specs.Statics.Contexts.{Context, Scene}
use Rattle.m2_base.specs.Statics.Folding.{number_kind, number_type}
use Rattle.m2_base.specs.Statics.Functions.{abs_of, absolute, cap_of, capital, chr_of, converted, end_value, max_of, min_of, number_argument, odd_of, oddness, ord_of, ordinal_argument, ordinal_type, ordinal_type_argument, size_value, type_argument, val_as, val_of}
use Rattle.m2_base.specs.Statics.Operands.{char_or_same, is_bad}
use Rattle.m2_base.specs.Statics.Operations.{base_type, is_ordinal}
use Rattle.m2_base.specs.Statics.Ranges.{Range, integer_range, is_within}
use Rattle.m2_base.specs.Statics.Types.{is_broken, range_of}
use Rattle.m2_base.specs.declared.operands.Operand.{Operand}
use Rattle.m2_base.specs.declared.operands.Operand.TheVariants.{Constant, InError, NamedType, NotConstant, Variable}
use Rattle.block_code.proofs.Noted.{UnlessNoted, by_test, given, in_turn, noted, otherwise}
use Rattle.block_code.proofs.WholeRows.{IsWhole}
use Rattle.block_code.proofs.WholeOperands.{IsResult, char_or_same-whole, not_bad}
use Rattle.block_code.specs.Whole.{IsWholeType}

-- an ordinal type that isn't in error
abbrev pub IsOrdinalType : Scene → Place → Type 0
IsOrdinalType scene t = IsWholeType scene t × (is_none (range_of scene t) ≡ false)

module _ (c : Context) where
  number-whole : (at : ℕ) (o : Operand) → IsWhole c.scene o → UnlessNoted (IsWhole c.scene) (number_argument c at o)
  number-whole at o h =
      otherwise (is_bad o) _ (not_bad c.scene o h) (by_test (is_number_type (base_type c o)) (λ e. given h) (λ e. noted))

  ordinal-whole : (at : ℕ) (o : Operand) → IsWhole c.scene o → UnlessNoted (IsWhole c.scene) (ordinal_argument c at o)
  ordinal-whole at o h =
      otherwise (is_bad o) _ (not_bad c.scene o h)
      (by_test (is_ordinal c (char_or_same c.source o)) (λ e. given (char_or_same-whole c.source c.scene o h)) (λ e. noted))

  type-whole : (at : ℕ) (o : Operand) → IsWhole c.scene o → UnlessNoted (IsWholeType c.scene) (type_argument c at o)
  type-whole at (NamedType t) h = given h
  type-whole at InError h = absurd h
  type-whole at o h = noted

  -- a type that isn't in error has a range where it isn't refused
  ordinal_type-whole : (at : ℕ) (t : Place) → IsWholeType c.scene t → UnlessNoted (IsOrdinalType c.scene) (ordinal_type c at t)
  ordinal_type-whole at t h =
      by_test (not (is_broken c.scene t) && is_none (range_of c.scene t)) (λ e. noted)
      (λ e. given (h, ap (λ b. not b && is_none (range_of c.scene t)) (sym h) ∙ e))

  ordinal_type_argument-whole : (at : ℕ) (o : Operand) → IsWhole c.scene o → UnlessNoted (IsOrdinalType c.scene) (ordinal_type_argument c at o)
  ordinal_type_argument-whole at o h = in_turn (type-whole at o h) (λ t k. ordinal_type-whole at t k)

  converted-result : (at : ℕ) (t : Place) (o : Operand) → IsWhole c.scene o → UnlessNoted IsResult (converted c at t o)
  converted-result at t (Constant u v) h = by_test (is_within (range_of c.scene t) v) (λ e. given tt) (λ e. noted)
  converted-result at t InError h = absurd h
  converted-result at t NotConstant h = absurd h
  converted-result at t o h = given tt

  absolute-result : (at : ℕ) (t : Place) (o : Operand) → IsWhole c.scene o → UnlessNoted IsResult (absolute c at t o)
  absolute-result at t (Constant u v) h =
      by_test (is_same_place t integer && not (is_within (Some integer_range) (pos (nat_abs v)))) (λ e. noted) (λ e. given tt)
  absolute-result at t InError h = absurd h
  absolute-result at t NotConstant h = absurd h
  absolute-result at t o h = given tt

  capital-result : (o : Operand) → IsResult (capital o)
  capital-result (Constant t v) = tt
  capital-result o = tt

  oddness-result : (o : Operand) → IsWhole c.scene o → IsResult (oddness o)
  oddness-result (Constant t v) h = tt
  oddness-result InError h = absurd h
  oddness-result NotConstant h = absurd h
  oddness-result o h = tt

  pub abs-result : (at : ℕ) (o : Operand) → IsWhole c.scene o → UnlessNoted IsResult (abs_of c at o)
  abs-result at o h = in_turn (number-whole at o h) (λ x k. absolute-result at (number_type (number_kind (base_type c x))) x k)

  pub cap-result : (at : ℕ) (o : Operand) → IsWhole c.scene o → UnlessNoted IsResult (cap_of c at o)
  cap-result at o h =
      otherwise (is_bad o) _ (not_bad c.scene o h)
      (by_test (is_same_place (base_type c (char_or_same c.source o)) character) (λ e. given (capital-result (char_or_same c.source o))) (λ e. noted))

  pub chr-result : (at : ℕ) (o : Operand) → IsWhole c.scene o → UnlessNoted IsResult (chr_of c at o)
  chr-result at o h = in_turn (number-whole at o h) (λ x k. converted-result at character x k)

  pub odd-result : (at : ℕ) (o : Operand) → IsWhole c.scene o → UnlessNoted IsResult (odd_of c at o)
  odd-result at o h = in_turn (number-whole at o h) (λ x k. given (oddness-result x k))

  pub ord-result : (at : ℕ) (o : Operand) → IsWhole c.scene o → UnlessNoted IsResult (ord_of c at o)
  ord-result at o h = in_turn (ordinal-whole at o h) (λ x k. converted-result at cardinal x k)

  val_as-result : (at : ℕ) (t : Place) (o : Operand) → IsWholeType c.scene t → IsWhole c.scene o → UnlessNoted IsResult (val_as c at t o)
  val_as-result at t o w h = otherwise (is_broken c.scene t) _ w (converted-result at t o h)

  pub val-result : (t_at : ℕ) (t : Operand) (at : ℕ) (o : Operand) → IsWhole c.scene t → IsWhole c.scene o → UnlessNoted IsResult (val_of c t_at t at o)
  val-result t_at t at o h k =
      in_turn (ordinal_type_argument-whole t_at t h) (λ u w. in_turn (ordinal-whole at o k) (λ x l. val_as-result at u x w.0 l))

  end-result : (t : Place) (end : Range → ℤ) (r : Option Range) → is_none r ≡ false → IsResult (end_value c t end r)
  end-result t end (Some r) e = tt
  end-result t end None e = absurd cc

  pub min-result : (at : ℕ) (o : Operand) → IsWhole c.scene o → UnlessNoted IsResult (min_of c at o)
  min-result at o h = in_turn (ordinal_type_argument-whole at o h) (λ t k. given (end-result t (λ r. r.low) (range_of c.scene t) k.1))

  pub max-result : (at : ℕ) (o : Operand) → IsWhole c.scene o → UnlessNoted IsResult (max_of c at o)
  max-result at o h = in_turn (ordinal_type_argument-whole at o h) (λ t k. given (end-result t (λ r. r.high) (range_of c.scene t) k.1))

  pub size-result : (at : ℕ) (o : Operand) → IsWhole c.scene o → UnlessNoted IsResult (size_value c at o)
  size-result at (NamedType t) h = given tt
  size-result at (Variable t) h = by_test (is_open_array c.scene t) (λ e. noted) (λ e. given tt)
  size-result at InError h = absurd h
  size-result at NotConstant h = absurd h
  size-result at o h = noted

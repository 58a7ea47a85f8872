-- In a sound context the standard functions of constants give what is right.
use Rattle.std.specs.Prelude.{◌≡◌, ℕ, ◌-◌, ◌^◌, ◌<◌, Bool, true, false, not, ◌&&◌, if◌then◌else◌, ℤ, pos, nat_abs, Option, Some, None, is_none}
use Rattle.std.proofs.Common.{ap, ◌∙◌, refl, arith}
use Rattle.std.proofs.lemmas.Bool.{both_ways}
use Rattle.m2_base.specs.Gives.{Gives, gives}
use Rattle.m2_base.specs.Rows.{Place, natural, RowMeaning, Array, Record, Fits, IsValue, is_same_place}
use Rattle.m2_base.specs.Standard.{integer, cardinal, character, text_type, broken}
use Rattle.m2_base.specs.Statics.Assignable.{is_open_array}
use Rattle.m2_base.specs.Statics.Compatible.{is_number_type}
use Rattle.m2_base.specs.Statics.Contexts.{Context, refuse}
use Rattle.m2_base.specs.Statics.Folding.{number_kind, number_type}
use Rattle.m2_base.specs.Statics.Functions.{wrong_at, number_argument, ordinal_argument, type_argument, ordinal_type, ordinal_type_argument, converted, absolute, abs_of, is_small_letter, capital, cap_of, chr_of, oddness, odd_of, ord_of, val_of, end_value, min_of, max_of, size_value}
use Rattle.m2_base.specs.Statics.Operands.{is_bad, char_or_same}
use Rattle.m2_base.specs.Statics.Operations.{base_type, is_ordinal}
use Rattle.m2_base.specs.Statics.Ranges.{Range, is_within, integer_range}
use Rattle.m2_base.specs.Statics.Types.{is_broken, kind_of, range_of, size_by, stands_for}
use Rattle.m2_base.specs.declared.operands.Operand.{Operand}
use Rattle.m2_base.specs.declared.operands.Operand.TheVariants.{Constant, Computed, Variable, NamedType, NotConstant, InError}
use Rattle.m2_base.proofs.Sound.{Sound, IsThere}
use Rattle.m2_base.proofs.SoundOperands.{OperandOk, AreValues, natural-value}
use Rattle.m2_base.proofs.SoundOperations.{SoundContext, GivesOk, not_text, text_range, text_is_sound, number_type_there, number_type_not_text, char_or_same_ok, standard_constant}
use Rattle.m2_base.proofs.ValueBounds.{absolute_value, natural_small, odd_is_value}
use Rattle.m2_base.proofs.SoundTypes.{either, broken-there, standard-there, kind_fits}
use Rattle.m2_base.proofs.TypeLaws.{range_of_meaning}

-- a type of no strings
abbrev pub IsPlainType : Context → Gives Place → Type 0
IsPlainType c g = IsThere c.scene g.value × (g.value ≡ text_type → ⊥)

module _ (names : ℕ) where
  -- ** Arguments

  number_argument_ok : (c : Context) (at : ℕ) (o : Operand) → OperandOk names c.scene o → GivesOk names c (number_argument c at o)
  number_argument_ok c at o h =
      either (GivesOk names c) (is_bad o) (gives o) _ h (either (GivesOk names c) (is_number_type (base_type c o)) (gives o) (wrong_at c at) h tt)

  ordinal_argument_ok : (c : Context) → SoundContext names c → (at : ℕ) (o : Operand) → OperandOk names c.scene o → GivesOk names c (ordinal_argument c at o)
  ordinal_argument_ok c sound at o h =
      either (GivesOk names c) (is_bad o) (gives o) _ h
      (either (GivesOk names c) (is_ordinal c (char_or_same c.source o)) (gives (char_or_same c.source o)) (wrong_at c at) (char_or_same_ok names c sound o h) tt)

  type_argument_there : (c : Context) → Sound names c.scene → (at : ℕ) (o : Operand) → OperandOk names c.scene o → IsThere c.scene (type_argument c at o).value
  type_argument_there c sound at (NamedType t) h = h
  type_argument_there c sound at o h = broken-there sound

  ordinal_type_plain : (c : Context) → Sound names c.scene → (at : ℕ) (t : Place) → IsThere c.scene t → IsPlainType c (ordinal_type c at t)
  ordinal_type_plain c sound at t h = by_test (not (is_broken c.scene t) && is_none (range_of c.scene t)) refl
    where
      by_test : (b : Bool) → (not (is_broken c.scene t) && is_none (range_of c.scene t)) ≡ b → IsPlainType c (if b then refuse c at 56 broken else gives t)
      by_test true e = (broken-there sound, not_text 10 (λ e'. omega (arith, e')))
      by_test false e = (
        h,
        λ same. both_ways (not (is_broken c.scene t) && is_none (range_of c.scene t)) e
            (ap (λ p. not (is_broken c.scene p) && is_none (range_of c.scene p)) same
            ∙ ap (λ b. not b && is_none (range_of c.scene text_type)) (text_is_sound sound)
            ∙ ap (λ r. is_none r) (text_range sound)),
      )

  ordinal_type_argument_plain : (c : Context) → Sound names c.scene → (at : ℕ) (o : Operand) → OperandOk names c.scene o → IsPlainType c (ordinal_type_argument c at o)
  ordinal_type_argument_plain c sound at o h = ordinal_type_plain c sound at (type_argument c at o).value (type_argument_there c sound at o h)

  -- ** Functions

  converted_ok : (c : Context) (at : ℕ) (t : Place) (o : Operand) → IsThere c.scene t → (t ≡ text_type → ⊥) → OperandOk names c.scene o → GivesOk names c (converted c at t o)
  converted_ok c at t (Constant u v) h n k = either (GivesOk names c) (is_within (range_of c.scene t) v) (gives (Constant t v)) _ (h, k.1, n) tt
  converted_ok c at t InError h n k = tt
  converted_ok c at t NotConstant h n k = tt
  converted_ok c at t o h n k = h

  absolute_ok : (c : Context) (at : ℕ) (t : Place) (o : Operand) → IsThere c.scene t → (t ≡ text_type → ⊥) → OperandOk names c.scene o → GivesOk names c (absolute c at t o)
  absolute_ok c at t (Constant u v) h n k =
      either (GivesOk names c) (is_same_place t integer && not (is_within (Some integer_range) (pos (nat_abs v)))) _ (gives (Constant t (pos (nat_abs v)))) tt
      (h, absolute_value v k.1, n)
  absolute_ok c at t InError h n k = tt
  absolute_ok c at t NotConstant h n k = tt
  absolute_ok c at t o h n k = h

  pub abs_ok : (c : Context) → Sound names c.scene → (at : ℕ) (o : Operand) → OperandOk names c.scene o → GivesOk names c (abs_of c at o)
  abs_ok c sound at o h =
      let x = (number_argument c at o).value in
      let k = number_kind (base_type c x) in
      absolute_ok c at (number_type k) x (number_type_there names sound k) (number_type_not_text names k) (number_argument_ok c at o h)

  capital_ok : (c : Context) → Sound names c.scene → (o : Operand) → OperandOk names c.scene o → OperandOk names c.scene (capital o)
  capital_ok c sound (Constant t v) h =
      standard_constant sound 2 _ (omega arith) (λ e. omega (arith, e))
      (either IsValue (is_small_letter v) (pos (natural v - 32)) v (natural-value _ (let small = natural_small v h.1 in omega (arith, small))) h.1)
  capital_ok c sound o h = standard-there sound 2 (omega arith)

  pub cap_ok : (c : Context) → SoundContext names c → (at : ℕ) (o : Operand) → OperandOk names c.scene o → GivesOk names c (cap_of c at o)
  cap_ok c sound at o h =
      let x = char_or_same c.source o in
      either (GivesOk names c) (is_bad o) (gives o) _ h
      (either (GivesOk names c) (is_same_place (base_type c x) character) (gives (capital x)) (wrong_at c at)
      (capital_ok c sound.scene x (char_or_same_ok names c sound o h)) tt)

  pub chr_ok : (c : Context) → Sound names c.scene → (at : ℕ) (o : Operand) → OperandOk names c.scene o → GivesOk names c (chr_of c at o)
  chr_ok c sound at o h =
      converted_ok c at character (number_argument c at o).value (standard-there sound 2 (omega arith)) (not_text 2 (λ e. omega (arith, e))) (number_argument_ok c at o h)

  oddness_ok : (c : Context) → Sound names c.scene → (o : Operand) → OperandOk names c.scene (oddness o)
  oddness_ok c sound (Constant t v) = standard_constant sound 3 _ (omega arith) (λ e. omega (arith, e)) (odd_is_value v)
  oddness_ok c sound InError = tt
  oddness_ok c sound NotConstant = tt
  oddness_ok c sound o = standard-there sound 3 (omega arith)

  pub odd_ok : (c : Context) → Sound names c.scene → (at : ℕ) (o : Operand) → GivesOk names c (odd_of c at o)
  odd_ok c sound at o = oddness_ok c sound (number_argument c at o).value

  pub ord_ok : (c : Context) → SoundContext names c → (at : ℕ) (o : Operand) → OperandOk names c.scene o → GivesOk names c (ord_of c at o)
  ord_ok c sound at o h =
      converted_ok c at cardinal (ordinal_argument c at o).value (standard-there sound.scene 1 (omega arith)) (not_text 1 (λ e. omega (arith, e))) (ordinal_argument_ok c sound at o h)

  pub val_ok : (c : Context) → SoundContext names c → (t_at : ℕ) (t : Operand) (at : ℕ) (o : Operand) → OperandOk names c.scene t → OperandOk names c.scene o → GivesOk names c (val_of c t_at t at o)
  val_ok c sound t_at t at o h k =
      let typ = (ordinal_type_argument c t_at t).value in
      let x = (ordinal_argument c at o).value in
      let plain = ordinal_type_argument_plain c sound.scene t_at t h in
      either (GivesOk names c) (is_broken c.scene typ) (gives InError) _ tt (converted_ok c at typ x plain.0 plain.1 (ordinal_argument_ok c sound at o k))

  end_ok : (c : Context) → Sound names c.scene → (t : Place) (end : Range → ℤ) → ((r : Range) → AreValues r → IsValue (end r)) → IsThere c.scene t → (t ≡ text_type → ⊥)
      → OperandOk names c.scene (end_value c t end (range_of c.scene t))
  end_ok c sound t end values h n = by_range (range_of c.scene t) refl
    where
      by_range : (o : Option Range) → range_of c.scene t ≡ o → OperandOk names c.scene (end_value c t end o)
      by_range None e = tt
      by_range (Some r) e = (h, values r (range_of_meaning names (stands_for c.scene t) r (kind_of c.scene t) (kind_fits sound t) e), n)

  pub min_ok : (c : Context) → Sound names c.scene → (at : ℕ) (o : Operand) → OperandOk names c.scene o → GivesOk names c (min_of c at o)
  min_ok c sound at o h =
      let plain = ordinal_type_argument_plain c sound at o h in
      end_ok c sound (ordinal_type_argument c at o).value (λ r. r.low) (λ r k. k.0) plain.0 plain.1

  pub max_ok : (c : Context) → Sound names c.scene → (at : ℕ) (o : Operand) → OperandOk names c.scene o → GivesOk names c (max_of c at o)
  max_ok c sound at o h =
      let plain = ordinal_type_argument_plain c sound at o h in
      end_ok c sound (ordinal_type_argument c at o).value (λ r. r.high) (λ r k. k.1) plain.0 plain.1

  size_small : (p : Place) (m : RowMeaning) → Fits names p m → size_by m < 2 ^ 32
  size_small p (Array i t s) h = h.2
  size_small p (Record f s) h = h.1
  size_small p m h = omega arith

  pub size_ok : (c : Context) → Sound names c.scene → (at : ℕ) (o : Operand) → OperandOk names c.scene o → GivesOk names c (size_value c at o)
  size_ok c sound at (NamedType t) h =
      standard_constant sound 1 _ (omega arith) (λ e. omega (arith, e)) (natural-value _ (size_small (stands_for c.scene t) (kind_of c.scene t) (kind_fits sound t)))
  size_ok c sound at (Variable t) h =
      either (GivesOk names c) (is_open_array c.scene t) (wrong_at c at) (gives (Computed cardinal)) tt (standard-there sound 1 (omega arith))
  size_ok c sound at InError h = tt
  size_ok c sound at NotConstant h = tt
  size_ok c sound at o h = tt

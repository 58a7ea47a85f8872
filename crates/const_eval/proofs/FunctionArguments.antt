-- Arguments of standard functions, by what they are.
use Rattle.std.proofs.Common.{◌≡◌, ◌∙◌, ℕ, Bool, true, false, sym, ap, if◌then◌else◌}
use Rattle.std.specs.Prelude.{◌&&◌, is_none, not}
use Rattle.m2_base.specs.Gives.{Gives, gives}
use Rattle.m2_base.specs.Rows.{is_same_place}
use Rattle.m2_base.specs.Standard.{broken, character}
use Rattle.m2_base.specs.Statics.Compatible.{is_number_type}
use Rattle.m2_base.specs.Statics.Contexts.{Context, refuse}
use Rattle.m2_base.specs.Statics.Diagnostics.{wrong_argument}
use Rattle.m2_base.specs.Statics.Functions.{cap_of, capital, converted, number_argument, ordinal_argument, ordinal_type, val_as, wrong_at}
use Rattle.m2_base.specs.Statics.Operands.{char_or_same, is_bad}
use Rattle.m2_base.specs.Statics.Operations.{base_type, is_ordinal}
use Rattle.m2_base.specs.Statics.Ranges.{Range}
use Rattle.m2_base.specs.Statics.Types.{is_broken, range_of}
use Rattle.m2_base.specs.declared.operands.Operand.{Operand}
use Rattle.m2_base.specs.declared.operands.Operand.TheVariants.{InError}
use Rattle.m2_base.specs.declared.rows.Place.{Place}
use Rattle.std.specs.Prelude.{Option}

module _ (c : Context) (at : ℕ) (x : Operand) where
  -- a number
  pub number_bad : is_bad x ≡ true → gives x ≡ number_argument c at x
  number_bad bad = sym (ap (λ b. if b then gives x else if is_number_type (base_type c x) then gives x else wrong_at c at) bad)

  pub number_by : (b : Bool) → is_bad x ≡ false → b ≡ is_number_type (base_type c x) → (if b then gives x else wrong_at c at) ≡ number_argument c at x
  number_by b good e =
      ap (λ t. if t then gives x else wrong_at c at) e
      ∙ sym (ap (λ t. if t then gives x else if is_number_type (base_type c x) then gives x else wrong_at c at) good)

  -- an ordinal
  abbrev as_ordinal : Operand → Gives Operand
  as_ordinal v = if is_ordinal c v then gives v else wrong_at c at

  pub ordinal_bad : is_bad x ≡ true → gives x ≡ ordinal_argument c at x
  ordinal_bad bad = sym (ap (λ b. if b then gives x else as_ordinal (char_or_same c.source x)) bad)

  pub ordinal_by : (v : Operand) (b : Bool) → is_bad x ≡ false → v ≡ char_or_same c.source x → b ≡ is_ordinal c v → (if b then gives v else wrong_at c at) ≡ ordinal_argument c at x
  ordinal_by v b good same e =
      ap (λ t. if t then gives v else wrong_at c at) e
      ∙ ap as_ordinal same
      ∙ sym (ap (λ t. if t then gives x else as_ordinal (char_or_same c.source x)) good)

  -- a character
  abbrev as_capital : Operand → Gives Operand
  as_capital v = if is_same_place (base_type c v) character then gives (capital v) else wrong_at c at

  pub cap_bad : is_bad x ≡ true → gives x ≡ cap_of c at x
  cap_bad bad = sym (ap (λ b. if b then gives x else as_capital (char_or_same c.source x)) bad)

  pub cap_by : (v : Operand) (t : Place) → is_bad x ≡ false → v ≡ char_or_same c.source x → t ≡ base_type c v → (if is_same_place t character then gives (capital v) else wrong_at c at) ≡ cap_of c at x
  cap_by v t good same e =
      ap (λ u. if is_same_place u character then gives (capital v) else wrong_at c at) e
      ∙ ap as_capital same
      ∙ sym (ap (λ b. if b then gives x else as_capital (char_or_same c.source x)) good)

-- a type, by whether it is in error and its range
pub type_by_range : (c : Context) (at : ℕ) (t : Place) (b : Bool) (r : Option Range) → b ≡ is_broken c.scene t → r ≡ range_of c.scene t
    → (if not b && is_none r then refuse c at wrong_argument broken else gives t) ≡ ordinal_type c at t
type_by_range c at t b r e f =
    ap (λ u. if not u && is_none r then refuse c at wrong_argument broken else gives t) e
    ∙ ap (λ u. if not (is_broken c.scene t) && is_none u then refuse c at wrong_argument broken else gives t) f

-- a value as one of a type
pub val_by : (c : Context) (at : ℕ) (t : Place) (x : Operand) (b : Bool) → b ≡ is_broken c.scene t → (if b then gives InError else converted c at t x) ≡ val_as c at t x
val_by c at t x b e = ap (λ u. if u then gives InError else converted c at t x) e

-- The code of a set between brackets. A set whose elements are all constant is a constant. Any other begins as the
-- empty set, to which each element, the constant ones too, and each range is added in order.
use Rattle.std.specs.Prelude.{ℕ, pos, [], ◌∷◌}
use Rattle.m2_base.specs.Gives.{Gives, gives, and_then}
use Rattle.m2_base.specs.declared.rows.Place.{Place}
use Rattle.m2_base.specs.Statics.Contexts.{Context}
use Rattle.m2_base.specs.Statics.Sets.{element_of, no_elements, with_elements}
use Rattle.m2_base.specs.declared.operands.Operand.TheVariants.{Computed, Constant, InError}
use Rattle.m2_base.specs.declared.operands.Operand.{Operand}
use Rattle.code_form.specs.declared.instr.Instr.TheVariants.{Push, Union, Bit, Span}
use Rattle.block_code.specs.Coded.{Coded, coded, bare, in_error, taken, value_code}
use Rattle.block_code.specs.Parts.{Part, plain, none, ◌⨟◌}

-- What the elements make so far: the set by the static rule, and the code that adds each
-- of them to the set on the stack.
pub record Elements : Type 0 where
  pub set : Operand
  pub code : Part

-- no element yet of a set of this type
abbrev pub no_elements_yet : Context → Place → Elements
no_elements_yet c t = record { set = no_elements c t; code = none }

-- with one more element
abbrev pub add_element : Context → Elements → Coded → Elements
add_element c es x = record {
  set = with_elements es.set x.operand x.operand;
  code = es.code ⨟ value_code c x ⨟ plain (Bit ∷ Union ∷ []);
}

-- with the elements of one more range
abbrev pub add_range : Context → Elements → (low high : Coded) → Elements
add_range c es x y = record {
  set = with_elements es.set x.operand y.operand;
  code = es.code ⨟ value_code c x ⨟ value_code c y ⨟ plain (Span ∷ Union ∷ []);
}

-- an element or a bound, as the static rule takes it
abbrev pub element_as : Coded → Operand → Coded
element_as x InError = in_error
element_as x o = taken o x

-- an element or a bound, as it is taken into a set with this base
abbrev pub element_coded : Context → (base : Place) → (at : ℕ) → Coded → Gives Coded
element_coded c base at x = and_then (element_of c base at x.operand) (λ o. gives (element_as x o))

-- a set of this type, by the static rule's set and the code that adds its elements
abbrev pub set_by : Place → Part → Operand → Coded
set_by t code (Constant u s) = bare (Constant t s)
set_by t code InError = in_error
set_by t code other = coded (Computed t) (plain (Push (pos 0) ∷ []) ⨟ code)

-- the set of this type that the elements make
abbrev pub set_coded : Place → Elements → Coded
set_coded t es = set_by t es.code es.set

-- Cases of what statements do by exclusion.
use Rattle.std.proofs.Common.{◌≡◌, ℕ, ℤ, Some, None, refl}
use Rattle.m2_base.specs.Statics.Contexts.{Context, refuse}
use Rattle.m2_base.specs.Statics.Diagnostics.{wrong_operands, not_a_variable}
use Rattle.m2_base.specs.declared.operands.Operand.{Operand}
use Rattle.m2_base.specs.declared.operands.Operand.TheVariants.{Constant, InError, StringConstant, Variable}
use Rattle.m2_base.specs.declared.rows.Place.{Place}
use Rattle.block_code.specs.Coded.{in_error, Coded}
use Rattle.block_code.specs.Parts.{Part}
use Rattle.block_code.specs.Assignments.{store_by, store_value}
use Rattle.block_code.specs.Counting.{by_constant, controls_by}
use Rattle.m2_base.specs.Statics.Lookup.{Entry}

pub store_other : (c : Context) (t : Place) (to : Part) (x : Coded) (o : Operand) → (o ≡ InError → ⊥) → ((n l : ℕ) → o ≡ StringConstant n l → ⊥) → store_value c t to x ≡ store_by c t to x o
store_other c t to x InError a b = absurd (a refl)
store_other c t to x (StringConstant n l) a b = absurd (b n l refl)
store_other c t to x o a b = refl

pub controls_other : (c : Context) (at : ℕ) (e : Entry) (x : Coded) (o : Operand) → (o ≡ InError → ⊥) → ((t : Place) → o ≡ Variable t → ⊥) → refuse c at not_a_variable in_error ≡ controls_by c at e x o
controls_other c at e x InError a b = absurd (a refl)
controls_other c at e x (Variable t) a b = absurd (b t refl)
controls_other c at e x o a b = refl

pub by_other : (c : Context) (at : ℕ) (o : Operand) → ((t : Place) (v : ℤ) → o ≡ Constant t v → ⊥) → refuse c at wrong_operands None ≡ by_constant c at (Some o)
by_other c at (Constant t v) a = absurd (a t v refl)
by_other c at o a = refl

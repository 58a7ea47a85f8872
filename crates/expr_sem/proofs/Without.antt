-- Cases of operators and sets by exclusion.
use Rattle.std.proofs.Common.{◌≡◌, ◌∙◌, ◌∷◌, [], ℤ, pos, w64, ap, arith, refl, sym}
use Rattle.std.specs.Prelude.{FitsSigned}
use Rattle.std.proofs.lemmas.Int.{ints}
use Rattle.m2_base.specs.Rows.{IsValue}
use Rattle.m2_base.specs.Statics.Contexts.{Scene}
use Rattle.m2_base.specs.declared.operands.Operand.{Operand}
use Rattle.m2_base.specs.declared.operands.Operand.TheVariants.{Computed, Constant, InError}
use Rattle.m2_base.specs.declared.rows.Place.{Place}
use Rattle.m2_base.specs.declared.trees.operators.Operator.{Operator}
use Rattle.m2_base.specs.declared.trees.operators.Operator.TheVariants.{And, Or}
use Rattle.block_code.specs.Coded.{Coded, coded, in_error, taken}
use Rattle.block_code.specs.Operators.{made, operation_code, two_instr}
use Rattle.block_code.specs.Parts.{Part, plain, ◌⨟◌}
use Rattle.block_code.specs.SetElements.{element_as, set_by}
use Rattle.code_form.specs.declared.instr.Instr.TheVariants.{Push}

-- of a result that isn't computed no code counts
pub made_without : (o : Operand) (p q : Part) → ((t : Place) → o ≡ Computed t → ⊥) → made o p ≡ made o q
made_without (Computed t) p q other = absurd (other t refl)
made_without o p q other = refl

-- of a computed one the code counts
pub made_computed : (o : Operand) (t : Place) (p : Part) → o ≡ Computed t → coded o p ≡ made o p
made_computed o t p e = ap (λ (x : Operand). coded x p) e ∙ ap (λ (x : Operand). made x p) (sym e)

pub made_other : (o : Operand) (p : Part) → ((t : Place) → o ≡ Computed t → ⊥) → ((t : Place) (v : ℤ) → o ≡ Constant t v → ⊥) → in_error ≡ made o p
made_other (Computed t) p computed constant = absurd (computed t refl)
made_other (Constant t v) p computed constant = absurd (constant t v refl)
made_other o p computed constant = refl

-- an operator that is neither AND nor OR has an instruction behind both operands
pub instructed_by : (scene : Scene) (op : Operator) (r t : Place) (x y : Part) → (op ≡ And → ⊥) → (op ≡ Or → ⊥) → (x ⨟ y ⨟ plain (two_instr scene op r t ∷ [])) ≡ operation_code scene op r t x y
instructed_by scene And r t x y and or = absurd (and refl)
instructed_by scene Or r t x y and or = absurd (or refl)
instructed_by scene op r t x y and or = refl

pub taken_as : (x : Coded) (o : Operand) → (o ≡ InError → ⊥) → taken o x ≡ element_as x o
taken_as x InError other = absurd (other refl)
taken_as x o other = refl

-- a set that is neither constant nor in error begins as the empty one
pub computed_set : (t : Place) (code : Part) (o : Operand) → ((u : Place) (v : ℤ) → o ≡ Constant u v → ⊥) → (o ≡ InError → ⊥) → coded (Computed t) (plain (Push (pos 0) ∷ []) ⨟ code) ≡ set_by t code o
computed_set t code (Constant u v) constant error = absurd (constant u v refl)
computed_set t code InError constant error = absurd (error refl)
computed_set t code o constant error = refl

-- a value of a row has room in 64 bits
pub value_fits : (v : ℤ) → IsValue v → FitsSigned w64 v
value_fits v h = omega (arith, ints, h.0, h.1)

-- What operators give, by what their operands' types are.
use Rattle.std.proofs.Common.{◌≡◌, ◌≢◌, ◌∙◌, ℕ, Bool, true, false, refl, sym, ap, if◌then◌else◌, ℤ}
use Rattle.std.specs.Prelude.{◌&&◌, ◌||◌, is_some}
use Rattle.m2_base.specs.Gives.{Gives, gives}
use Rattle.m2_base.specs.Rows.{is_same_place}
use Rattle.m2_base.specs.Standard.{boolean}
use Rattle.m2_base.specs.Statics.Compatible.{is_pointer, is_pointer_kind}
use Rattle.m2_base.specs.Statics.Contexts.{Context, Scene}
use Rattle.m2_base.specs.Statics.Folding.{is_arithmetic, is_equality, is_relation, number_kind, number_type}
use Rattle.m2_base.specs.Statics.Operands.{is_bad, is_procedure, worse}
use Rattle.m2_base.specs.Statics.Operations.{apply_one, apply_one_by, base_type, gives_result, logical, number_operation, on_alike, on_scalars, operate, operate_by, wrong, with_sign}
use Rattle.m2_base.specs.Statics.Types.{kind_of, range_by, range_of}
use Rattle.m2_base.specs.declared.trees.operators.Operator.{Operator}
use Rattle.m2_base.specs.declared.trees.operators.Operator.TheVariants.{And, Div, In, Minus, Mod, Or, Plus, Times}
use Rattle.m2_base.specs.declared.operands.FoldKind.TheVariants as kinds
use Rattle.m2_base.specs.declared.operands.Operand.{Operand}
use Rattle.m2_base.specs.declared.rows.Place.{Place}
use Rattle.m2_base.specs.declared.rows.RowMeaning.{RowMeaning}
use Rattle.m2_base.specs.Statics.Ranges.{Range}
use Rattle.m2_base.specs.declared.operands.Operand.TheVariants.{Computed, Constant}
use Rattle.const_eval.proofs.Refusals.{and_false, or_true}

-- before one operand
pub apply_by : (c : Context) (op : Operator) (at : ℕ) (x : Operand) (b : Bool) → b ≡ is_bad x → (if b then gives x else apply_one_by c op at x) ≡ apply_one c op at x
apply_by c op at x b e = ap (λ t. if t then gives x else apply_one_by c op at x) e

module _ (c : Context) (op : Operator) (at : ℕ) (x y : Operand) (l r : Place) (left : l ≡ base_type c x) (right : r ≡ base_type c y) where
  -- AND and OR
  pub logical_by : (b : Bool) → b ≡ (is_same_place l boolean && is_same_place r boolean) → (if b then gives_result c at kinds.Ordinal op boolean x y else wrong c at) ≡ logical c op at x y
  logical_by b e =
      ap (λ t. if t then gives_result c at kinds.Ordinal op boolean x y else wrong c at)
      (e ∙ ap (λ t. is_same_place t boolean && is_same_place r boolean) left ∙ ap (λ t. is_same_place (base_type c x) boolean && is_same_place t boolean) right)

  -- two scalars
  pub scalars_by : (b : Bool) → b ≡ ((is_relation op && (is_some (range_of c.scene l) && is_some (range_of c.scene r))) || (is_equality op && (is_pointer c.scene l || is_pointer c.scene r)))
      → (if b then gives_result c at kinds.Ordinal op boolean x y else wrong c at) ≡ on_scalars c op at x y
  scalars_by b e =
      ap (λ t. if t then gives_result c at kinds.Ordinal op boolean x y else wrong c at)
      (e
      ∙ ap (λ t. (is_relation op && (is_some (range_of c.scene t) && is_some (range_of c.scene r))) || (is_equality op && (is_pointer c.scene t || is_pointer c.scene r))) left
      ∙ ap (λ t. (is_relation op && (is_some (range_of c.scene (base_type c x)) && is_some (range_of c.scene t))) || (is_equality op && (is_pointer c.scene (base_type c x) || is_pointer c.scene t))) right)

-- whether an operator compares two types, by what their rows say
abbrev pub compares : Operator → RowMeaning → RowMeaning → Bool
compares op m n = (is_relation op && (is_some (range_by m) && is_some (range_by n))) || (is_equality op && (is_pointer_kind m || is_pointer_kind n))

pub compared : (scene : Scene) (op : Operator) (l r : Place) (m n : RowMeaning) → m ≡ kind_of scene l → n ≡ kind_of scene r → compares op m n ≡ compares op (kind_of scene l) (kind_of scene r)
compared scene op l r m n left right = ap (λ k. compares op k n) left ∙ ap (λ k. compares op (kind_of scene l) k) right

-- neither AND, OR nor IN
pub other_operator : (c : Context) (op : Operator) (at : ℕ) (x : Operand) (x_at : ℕ) (y : Operand) (y_at : ℕ) → op ≢ And → op ≢ Or → op ≢ In → on_alike c op at x x_at y y_at ≡ operate_by c op at x x_at y y_at
other_operator c And at x x_at y y_at no_and no_or no_in = absurd (no_and refl)
other_operator c Or at x x_at y y_at no_and no_or no_in = absurd (no_or refl)
other_operator c In at x x_at y y_at no_and no_or no_in = absurd (no_in refl)
other_operator c _ at x x_at y y_at no_and no_or no_in = refl

-- what is given without a look at types, and otherwise
pub operate_on : (c : Context) (op : Operator) (at : ℕ) (x : Operand) (x_at : ℕ) (y : Operand) (y_at : ℕ) → is_bad x ≡ false → is_bad y ≡ false → is_procedure x ≡ false → is_procedure y ≡ false
    → operate_by c op at x x_at y y_at ≡ operate c op at x x_at y y_at
operate_on c op at x x_at y y_at left right one other =
    sym (ap (λ b. given (b || is_bad y) (is_procedure x || is_procedure y)) left ∙ ap (λ b. given b (is_procedure x || is_procedure y)) right ∙ ap (λ b. given false (b || is_procedure y)) one ∙ ap (given false) other)
  where
    given : (bad procedure : Bool) → Gives Operand
    given bad procedure = if bad then gives (worse x y) else if procedure then wrong c at else operate_by c op at x x_at y y_at

-- two tests that hold, or one of them that doesn't
pub both_hold : (a b : Bool) → a ≡ true → b ≡ true → true ≡ (a && b)
both_hold true true e h = refl
both_hold true false e h = absurd (cc)
both_hold false b e h = absurd (cc)

pub first_fails : (a b : Bool) → a ≡ false → (a && b) ≡ false
first_fails a b e = ap (λ t. t && b) e

pub second_fails : (a b : Bool) → b ≡ false → (a && b) ≡ false
second_fails a b e = ap (λ t. a && t) e ∙ and_false a

-- an operator on numbers
pub arithmetic_is : (op : Operator) → is_arithmetic op ≡ true → (is_arithmetic op || is_relation op) ≡ true
arithmetic_is op e = ap (λ b. b || is_relation op) e

pub relation_is : (op : Operator) → is_relation op ≡ true → (is_arithmetic op || is_relation op) ≡ true
relation_is op e = ap (λ b. is_arithmetic op || b) e ∙ or_true (is_arithmetic op)

relation_alone : (op : Operator) → is_relation op ≡ true → is_arithmetic op ≡ false
relation_alone Plus e = absurd (cc)
relation_alone Minus e = absurd (cc)
relation_alone Times e = absurd (cc)
relation_alone Div e = absurd (cc)
relation_alone Mod e = absurd (cc)
relation_alone op e = refl

-- the result of two numbers, of which the left has this base
pub arithmetic_result : (c : Context) (op : Operator) (at : ℕ) (x y : Operand) (base : Place) → base ≡ base_type c x → is_arithmetic op ≡ true
    → gives_result c at (number_kind base) op (number_type (number_kind base)) x y ≡ number_operation c op at x y
arithmetic_result c op at x y base same is =
    ap (λ t. gives_result c at (number_kind t) op (number_type (number_kind t)) x y) same
    ∙ sym (ap (λ b. let k = number_kind (base_type c x) in if b then gives_result c at k op (number_type k) x y else if is_relation op then gives_result c at k op boolean x y else wrong c at) is)

pub relation_result : (c : Context) (op : Operator) (at : ℕ) (x y : Operand) (base : Place) → base ≡ base_type c x → is_relation op ≡ true
    → gives_result c at (number_kind base) op boolean x y ≡ number_operation c op at x y
relation_result c op at x y base same is =
    ap (λ t. gives_result c at (number_kind t) op boolean x y) same
    ∙ sym (ap (λ b. let k = number_kind (base_type c x) in if b then gives_result c at k op (number_type k) x y else if is_relation op then gives_result c at k op boolean x y else wrong c at) (relation_alone op is)
    ∙ ap (λ b. let k = number_kind (base_type c x) in if b then gives_result c at k op boolean x y else wrong c at) is)

-- a sign on what is no constant
pub unsigned : (c : Context) (op : Operator) (at : ℕ) (t : Place) (r : Range) (x : Operand) → ((u : Place) (v : ℤ) → x ≡ Constant u v → ⊥) → gives (Computed t) ≡ with_sign c op at t r x
unsigned c op at t r (Constant u v) other = absurd (other u v refl)
unsigned c op at t r x other = refl

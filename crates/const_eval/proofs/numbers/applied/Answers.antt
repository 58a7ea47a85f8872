use Rattle.std.proofs.Common.{◌≡◌, ◌≢◌, ◌∙◌, ℕ, Bool, ap, false, if◌then◌else◌, refl, sym, true}
use Rattle.m2_base.specs.Gives.{gives}
use Rattle.m2_base.specs.Rows.{is_same_place}
use Rattle.m2_base.specs.Standard.{boolean, integer, whole}
use Rattle.m2_base.specs.Statics.Contexts.{Context}
use Rattle.m2_base.specs.Statics.Operations.{apply_one_by, base_type, negated, sign_of, with_sign, wrong}
use Rattle.m2_base.specs.Statics.Ranges.{integer_range, whole_range}
use Rattle.m2_base.specs.declared.operands.Operand.{Operand}
use Rattle.m2_base.specs.declared.rows.Place.{Place}
use Rattle.m2_base.specs.declared.trees.operators.Operator.{Operator}
use Rattle.m2_base.specs.declared.trees.operators.Operator.TheVariants.{Not}
use Rattle.m2_base.proofs.SoundOperands.{integer_values, whole_values}
use Rattle.const_eval.proofs.numbers.applied.Goals as goal

-- an operator that isn't NOT is a sign
signs : (c : Context) (op : Operator) (at : ℕ) (o : Operand) → op ≢ Not → sign_of c op at o ≡ apply_one_by c op at o
signs c Not at o other = absurd (other refl)
signs c _ at o other = refl

-- a sign, by whether its operand is an INTEGER or a whole constant
signed : (c : Context) (op : Operator) (at : ℕ) (o : Operand) (base : Place) (a b : Bool) → op ≢ Not → base ≡ base_type c o → a ≡ is_same_place base integer → b ≡ is_same_place base whole
    → (if a then with_sign c op at integer integer_range o else if b then with_sign c op at whole whole_range o else wrong c at) ≡ apply_one_by c op at o
signed c op at o base a b other same first second =
    ap (λ (t : Bool). if t then with_sign c op at integer integer_range o else if b then with_sign c op at whole whole_range o else wrong c at) (first ∙ ap (λ (t : Place). is_same_place t integer) same)
    ∙ ap (λ (t : Bool). if is_same_place (base_type c o) integer then with_sign c op at integer integer_range o else if t then with_sign c op at whole whole_range o else wrong c at)
    (second ∙ ap (λ (t : Place). is_same_place t whole) same)
    ∙ signs c op at o other

pub with_sign-requires : goal.with_sign-requires
with_sign-requires c = integer_values

pub with_sign-requires-in_default-2 : goal.with_sign-requires-in_default-2
with_sign-requires-in_default-2 c = whole_values

pub returns-in_default-clause-told : goal.returns-in_default-clause-told
returns-in_default-clause-told c now same =
    c.with_sign.ensures.told now
    ∙ signed now c.args.operator.operator c.args.operator.at c.args.operand c.args.base true (is_same_place c.args.base whole) c.in_default.not-Not same c.if-eq-2.ensures refl

pub returns-in_default-clause-there : goal.returns-in_default-clause-there
returns-in_default-clause-there c f i w b = c.with_sign.ensures.there f i

pub returns-in_default-2-clause-there : goal.returns-in_default-2-clause-there
returns-in_default-2-clause-there c f i w b = c.with_sign-in_default-2.ensures.there f w

pub returns-in_default-3-clause-there : goal.returns-in_default-3-clause-there
returns-in_default-3-clause-there c f i w b = tt

pub returns-in-Not-2-clause-there : goal.returns-in-Not-2-clause-there
returns-in-Not-2-clause-there c f i w b = tt

pub returns-in_default-operand-clause-there : goal.returns-in_default-operand-clause-there
returns-in_default-operand-clause-there c f i w b = b

pub returns-in-Not-2-clause-told : goal.returns-in-Not-2-clause-told
returns-in-Not-2-clause-told c now same =
    ap (λ (t : Bool). if t then gives (negated c.args.operand) else wrong now c.args.operator.at) (c.if-eq.ensures ∙ ap (λ (t : Place). is_same_place t boolean) same)
    ∙ ap (λ (op : Operator). apply_one_by now op c.args.operator.at c.args.operand) (sym c.in-Not-2.is)

pub returns-in_default-2-clause-told : goal.returns-in_default-2-clause-told
returns-in_default-2-clause-told c now same =
    c.with_sign-in_default-2.ensures.told now
    ∙ signed now c.args.operator.operator c.args.operator.at c.args.operand c.args.base false true c.in_default.not-Not same c.if-eq-2.ensures c.if-eq-3.ensures

pub returns-in_default-3-clause-told : goal.returns-in_default-3-clause-told
returns-in_default-3-clause-told c now same =
    signed now c.args.operator.operator c.args.operator.at c.args.operand c.args.base false false c.in_default.not-Not same c.if-eq-2.ensures c.if-eq-3.ensures

pub eq-requires : goal.eq-requires
eq-requires c = tt

pub eq-requires-in-Equal-1 : goal.eq-requires-in-Equal-1
eq-requires-in-Equal-1 c = tt

pub eq-requires-in-Equal-2 : goal.eq-requires-in-Equal-2
eq-requires-in-Equal-2 c = tt

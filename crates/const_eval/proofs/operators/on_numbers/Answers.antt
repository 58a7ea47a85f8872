use Rattle.std.proofs.Common.{◌≡◌, ◌∙◌, ◌||◌, ap, rules, sym, true, subst}
use Rattle.m2_base.specs.Standard.{boolean}
use Rattle.m2_base.specs.Statics.Folding.{is_arithmetic, is_relation, number_type}
use Rattle.m2_base.specs.Statics.Operations.{as_number, base_type, gives_result, number_operation}
use Rattle.m2_base.specs.declared.operands.FoldKind.{FoldKind}
use Rattle.m2_base.specs.declared.rows.Place.{Place}
use Rattle.const_eval.proofs.Besides.{number_kept, number_taken}
use Rattle.const_eval.proofs.Judging.{after_ok}
use Rattle.const_eval.proofs.Operating.{arithmetic_is, arithmetic_result, relation_is, relation_result}
use Rattle.const_eval.proofs.Refusals.{refused_left, stands_left, refused_right}
use Rattle.const_eval.proofs.Standard.{number_base, whole_base}
use Rattle.type_rules.specs.Scenes.{IsThere}
use Rattle.const_eval.proofs.TypesThere.{number_there, standard_there}
use Rattle.const_eval.proofs.operators.on_numbers.Goals as goal
use Rattle.const_eval.proofs.operators.on_numbers.Goals.{else-takes_base, in-Plus, in_default, then-takes_base}

pub returns-in-Err-clause-told : goal.returns-in-Err-clause-told
returns-in-Err-clause-told c k there left right =
    let op = c.args.operator.operator in
    let number : is_arithmetic op || is_relation op ≡ true = elim c.match-operator.branch [
      | in-Plus w ↦ arithmetic_is op (search rules)
      | in_default w ↦ relation_is op (sym w.is_relation.ensures ∙ w.if-is_relation.true)
    ] in
    refused_left k op c.args.operator.at c.args.x.operand c.args.x.at c.args.y.operand c.args.y.at c.in-Err.fault (whole_base k there) number
    (c.in-Err.ensures.told k there ∙ ap (λ t. as_number k c.args.x.at t c.args.x.operand) right)

pub returns-in-Ok-as_number-clause-told : goal.returns-in-Ok-as_number-clause-told
returns-in-Ok-as_number-clause-told c k there left right =
    let op = c.args.operator.operator in
    let number : is_arithmetic op || is_relation op ≡ true = elim c.match-operator.branch [
      | in-Plus w ↦ arithmetic_is op (search rules)
      | in_default w ↦ relation_is op (sym w.is_relation.ensures ∙ w.if-is_relation.true)
    ] in
    let at = c.args.operator.at in
    let x = c.in-Ok.left in
    let y = c.in-Ok-as_number.right in
    let base = c.if-takes_base.base in
    let kind = c.number_kind-kind.result in
    let same : base ≡ base_type k x = elim c.if-takes_base.branch [
      | then-takes_base w ↦ w.base-is ∙ number_taken k c.args.x.at c.args.y.base c.args.x.operand x (number_base k there c.args.y.base) (sym c.takes_base.ensures ∙ w.if-takes_base.true) (c.in-Ok.ensures.told k there)
      | else-takes_base w ↦ w.base-is ∙ left ∙ ap (base_type k) (number_kept k c.args.x.at c.args.y.base c.args.x.operand x (sym c.takes_base.ensures ∙ w.if-takes_base.false) (c.in-Ok.ensures.told k there))
    ] in
    let result : gives_result k at kind op c.match-operator.of x y ≡ number_operation k op at x y = elim c.match-operator.branch [
      | in-Plus w ↦ ap (λ (t : Place). gives_result k at kind op t x y) (w.of-is ∙ w.number_type-of.ensures)
          ∙ ap (λ (n : FoldKind). gives_result k at n op (number_type n) x y) c.number_kind-kind.ensures
          ∙ arithmetic_result k op at x y base same (search rules)
      | in_default w ↦ ap (λ (t : Place). gives_result k at kind op t x y) w.of-is
          ∙ ap (λ (n : FoldKind). gives_result k at n op boolean x y) c.number_kind-kind.ensures
          ∙ relation_result k op at x y base same (sym w.is_relation.ensures ∙ w.if-is_relation.true)
    ] in
    c.combined.ensures.told k ∙ result
    ∙ after_ok _ y (λ v. number_operation k op at x v) (c.in-Ok-as_number.ensures.told k there ∙ ap (λ t. as_number k c.args.y.at t c.args.y.operand) left)
    ∙ stands_left k op at c.args.x.operand x c.args.x.at c.args.y.operand c.args.y.at number (c.in-Ok.ensures.told k there ∙ ap (λ t. as_number k c.args.x.at t c.args.x.operand) right)

pub returns-in-Err-clause-there : goal.returns-in-Err-clause-there
returns-in-Err-clause-there c f a suits left right = tt

pub as_number-requires : goal.as_number-requires
as_number-requires c = tt

pub as_number-requires-2 : goal.as_number-requires-2
as_number-requires-2 c = tt

pub combined-requires : goal.combined-requires
combined-requires c = tt

pub number_kind-kind-requires : goal.number_kind-kind-requires
number_kind-kind-requires c = tt

pub number_type-of-requires : goal.number_type-of-requires
number_type-of-requires c = tt

pub takes_base-requires : goal.takes_base-requires
takes_base-requires c = tt

pub returns-in-Err-as_number-clause-there : goal.returns-in-Err-as_number-clause-there
returns-in-Err-as_number-clause-there c f a suits x y = tt

pub is_relation-requires : goal.is_relation-requires
is_relation-requires c = tt

pub returns-in-Ok-as_number-clause-there : goal.returns-in-Ok-as_number-clause-there
returns-in-Ok-as_number-clause-there c f a suits x y =
    c.combined.ensures.there f (elim c.match-operator.branch [
      | in-Plus w ↦ subst (λ (t : Place). IsThere f t) (sym (w.of-is ∙ w.number_type-of.ensures)) (number_there suits c.number_kind-kind.result)
      | in_default w ↦ subst (λ (t : Place). IsThere f t) (sym w.of-is) (standard_there suits 3)
    ])

pub returns-in-Err-as_number-clause-told : goal.returns-in-Err-as_number-clause-told
returns-in-Err-as_number-clause-told c k there left right =
    let op = c.args.operator.operator in
    let number : is_arithmetic op || is_relation op ≡ true = elim c.match-operator.branch [
      | in-Plus w ↦ arithmetic_is op (search rules)
      | in_default w ↦ relation_is op (sym w.is_relation.ensures ∙ w.if-is_relation.true)
    ] in
    refused_right k op c.args.operator.at c.args.x.operand c.in-Ok.left c.args.x.at c.args.y.operand c.args.y.at c.in-Err-as_number.fault number
    (c.in-Ok.ensures.told k there ∙ ap (λ t. as_number k c.args.x.at t c.args.x.operand) right)
    (c.in-Err-as_number.ensures.told k there ∙ ap (λ t. as_number k c.args.y.at t c.args.y.operand) left)

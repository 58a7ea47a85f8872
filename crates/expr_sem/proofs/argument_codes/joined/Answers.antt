use Rattle.std.proofs.Common.{◌≡◌, ◌∙◌, None, Option, Some, ap, sym, refl}
use Rattle.m2_base.specs.Gives.{gives}
use Rattle.expr_sem.specs.ArgumentCodes.{IsArgument, argument_in}
use Rattle.block_code.specs.Arguments.{after_argument}
use Rattle.expr_sem.specs.Fragments.{part}
use Rattle.expr_sem.specs.declared.fragments.Fragment.{Fragment}
use Rattle.expr_sem.proofs.Operating.{described, value_alone}
use Rattle.expr_sem.proofs.argument_codes.joined.Goals as goal

none_of : {T : Type 0} (o : Option T) → ((v : T) → o ≡ Some v → ⊥) → None ≡ o
none_of None h = refl
none_of (Some v) h = absurd (h v refl)

pub returns-in_default : goal.returns-in_default
returns-in_default c state notes site =
    let ns = c.args.fragments.now.nodes.items in
    value_alone state notes ns site None IsArgument argument_in (λ k. after_argument (argument_in ns c.args.code) (argument_in ns c.args.argument)) tt
    (λ k. ap (λ (o : Option Fragment). after_argument (argument_in ns o) (argument_in ns c.args.argument)) (none_of c.args.code c.in_default.not-Some))

pub returns-in_default-argument : goal.returns-in_default-argument
returns-in_default-argument c state notes site =
    let ns = c.args.fragments.now.nodes.items in
    value_alone state notes ns site None IsArgument argument_in (λ k. after_argument (argument_in ns c.args.code) (argument_in ns c.args.argument)) tt
    (λ k. ap (λ (o : Option Fragment). after_argument (Some (part ns c.in-Some.first)) (argument_in ns o)) (none_of c.args.argument c.in_default-argument.not-Some)
    ∙ ap (λ (o : Option Fragment). after_argument (argument_in ns o) (argument_in ns c.args.argument)) (sym c.in-Some.is))

pub returns : goal.returns
returns c state notes site =
    let ns = c.args.fragments.now.nodes.items in
    described c.passed_as.result (c.passed_as.ensures state notes site _ _ _ c.then.ensures.made)
    (λ k. ap (λ (o : Option Fragment). gives (after_argument (Some (part ns c.in-Some.first)) (argument_in ns o))) (sym c.in-Some-argument.is)
    ∙ ap (λ (o : Option Fragment). gives (after_argument (argument_in ns o) (argument_in ns c.args.argument))) (sym c.in-Some.is))

use Rattle.std.proofs.Common.{◌∙◌, ℕ, List, Result, Ok, Err, ap, get_or}
use Rattle.std.specs.Prelude.{IfOk, IsErr}
use Rattle.std.proofs.lemmas.List.{take_all}
use Rattle.object_file.specs.Running.{picked}
use Rattle.object_file.proofs.Picked.{picks_start, waits, waits_some, picks_next}
use Rattle.object_file.proofs.picking.pick.Goals as goal

-- where memory ran out, nothing is asked of the result
none_asked : {T E : Type 0} (r : Result T E) (P : T → Type 0) → IsErr r → IfOk r P
none_asked (Ok x) P is = absurd (cc)
none_asked (Err e) P is = tt

pub take_out-requires : goal.take_out-requires
take_out-requires c = (waits c.args.objects.items c.args.order.now c.loop-number.number-index c.loop-number.places.items c.loop-number.chosen.items c.requires.numbers c.requires.differ c.loop-number-test.true c.loop-number.invariant).within

pub unreachable-requires : goal.unreachable-requires
unreachable-requires c =
    let i = c.loop-number.number-index in
    let w = waits c.args.objects.items c.args.order.now i c.loop-number.places.items c.loop-number.chosen.items c.requires.numbers c.requires.differ c.loop-number-test.true c.loop-number.invariant in
    c.in_default.not-Some w.o (waits_some c.args.objects.items c.loop-number.places.items c.args.order.now i (get_or c.args.order.now i 0) c.take_out.result w c.take_out.ensures.value)

pub loop-number-preserved : goal.loop-number-preserved
loop-number-preserved c =
    picks_next c.args.objects.items c.args.order.now c.loop-number.number-index c.loop-number.places.items c.take_out.new.places.items c.loop-number.chosen.items c.push.new.self.items c.take_out.result c.in-Some.object
    c.requires.numbers c.requires.differ c.loop-number-test.true c.loop-number.invariant c.take_out.ensures.value c.in-Some.is c.take_out.ensures.after c.in_ok-push.ensures.items c.validity.ensures

pub loop-number-init : goal.loop-number-init
loop-number-init c = picks_start _ _ _ _ c.in_ok-places.ensures c.in_ok-chosen.ensures.items

pub returns-clause-picked : goal.returns-clause-picked
returns-clause-picked c = c.loop-number.invariant.chosen_are ∙ ap (λ (ks : List ℕ). picked c.args.objects.items ks) (take_all _ _ c.loop-number-test.false)

pub returns-in_err-push-clause-picked : goal.returns-in_err-push-clause-picked
returns-in_err-push-clause-picked c = none_asked c.from_residual-in_err-push.result _ c.from_residual-in_err-push.ensures.0

pub returns-in_err-push-clause-valid : goal.returns-in_err-push-clause-valid
returns-in_err-push-clause-valid c = none_asked c.from_residual-in_err-push.result _ c.from_residual-in_err-push.ensures.0

use Rattle.std.proofs.Common.{◌∙◌, refl, sym}
use Rattle.scope_core.proofs.Runs.{part_all, part_step, part_stays, part_countable}
use Rattle.scope_core.proofs.tables.settle.Goals as goal

pub step-requires-clause-countable : goal.step-requires-clause-countable
step-requires-clause-countable c = part_countable _ c.loop-event.tables _ _ _ c.in-Some.event c.loop-event.invariant c.in-Some.ensures.steps.0

pub loop-event-preserved : goal.loop-event-preserved
loop-event-preserved c =
    part_step _ c.loop-event.tables _ _ _ _ c.in-Some.event c.loop-event.invariant c.in-Some.ensures.steps.0 c.in_ok-step.ensures.ok

pub returns-in_err-step-clause-stays : goal.returns-in_err-step-clause-stays
returns-in_err-step-clause-stays c =
    part_stays _ c.loop-event.tables _ _ _ c.args.chain.now c.args.name c.loop-event.invariant c.in_err-step.ensures.err

pub returns-clause-stays : goal.returns-clause-stays
returns-clause-stays c =
    part_stays _ c.loop-event.tables _ _ _ c.args.chain.now c.args.name c.loop-event.invariant refl

pub returns-clause-ok : goal.returns-clause-ok
returns-clause-ok c =
    part_all _ c.loop-event.tables _ _ c.loop-event.invariant (sym c.loop-event.event-iterator.rest.ok.0 ∙ c.in-None.ensures.steps.0)

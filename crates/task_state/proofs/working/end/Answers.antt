use Rattle.std.proofs.Common.{refl, sym, ◌∙◌}
use Rattle.task_state.proofs.AtWork.{forgotten, if_ok_then, placed_first, to_stating}
use Rattle.task_state.proofs.working.end.Goals as goal

pub returns-clause-far : goal.returns-clause-far
returns-clause-far c st texts far = forgotten st c.args.around.now c.args.begun.now c.take.new.self c.take.ensures.after far

pub returns-clause-left : goal.returns-clause-left
returns-clause-left c =
    let w = c.args.begun.now in
    let some = sym c.take.ensures.value ∙ c.in-Some.is in
    if_ok_then c.output_of.result _ _
    (λ output h st texts far. h st (to_stating _ w refl st texts far (placed_first st c.args.around.now w far c.requires.closed) c.in-Some.stating some))
    c.output_of.ensures

use Rattle.std.proofs.Common.{true, refl}
use Rattle.m2_base.proofs.Kept.{Turns-keeps}
use Rattle.task_state.proofs.Placing.{at_work_still, placed_now, suits_unplaced}
use Rattle.task_state.proofs.working.place.Goals as goal

pub first_cell-requires : goal.first_cell-requires
first_cell-requires g c = record { suits = suits_unplaced (g.S.Scopes.state c.args.scopes.now) c.args.around.now c.args.begun.now c.requires.far c.if-begun.false }

pub returns-in-Known-clause-turns : goal.returns-in-Known-clause-turns
returns-in-Known-clause-turns g c = Turns-keeps c.first_cell.ensures.reads.keeps

pub returns-in-Known-clause-far : goal.returns-in-Known-clause-far
returns-in-Known-clause-far g c =
    let w = c.args.begun.now in
    placed_now c.args.around.now w (record { tree = w.tree; collected = c.place.new.self; placed = true; closed = w.closed; stating = w.stating }) c.in-Known.cell
    c.first_cell.ensures.reads.keeps c.requires.far c.if-begun.false
    (record { tree = refl; collected = c.place.ensures; placed = refl; closed = refl; stating = refl })
    c.in-Known.ensures.cell c.in-Known.ensures.told

pub returns-in-DontKnowYet-clause-turns : goal.returns-in-DontKnowYet-clause-turns
returns-in-DontKnowYet-clause-turns g c = Turns-keeps c.first_cell.ensures.reads.keeps

pub returns-in-DontKnowYet-clause-far : goal.returns-in-DontKnowYet-clause-far
returns-in-DontKnowYet-clause-far g c = at_work_still c.args.around.now c.args.begun.now c.first_cell.ensures.reads.keeps c.requires.far

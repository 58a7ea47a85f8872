use Rattle.std.proofs.Common.{refl}
use Rattle.task_state.proofs.AtWork.{placed_first, to_stating}
use Rattle.task_state.proofs.working.state_rest.Goals as goal

pub state_all-requires : goal.state_all-requires
state_all-requires g c =
    let st = g.S.Scopes.state c.args.scopes.now in
    let w = c.args.begun.now in
    record { far = to_stating _ w refl st c.requires.texts c.requires.far (placed_first st c.args.around.now w c.requires.far c.requires.closed) c.in-Some.stating c.in-Some.is }

use Rattle.std.proofs.Common.{refl}
use Rattle.task_state.proofs.AtWork.{placed_first, to_complete}
use Rattle.task_state.proofs.working.begin_rest.Goals as goal

pub begin-requires : goal.begin-requires
begin-requires g c =
    let st = g.S.Scopes.state c.args.scopes.now in
    let w = c.args.begun.now in
    record { complete = to_complete _ w refl st c.requires.texts c.requires.far (placed_first st c.args.around.now w c.requires.far c.requires.closed) c.requires.closed }

use Rattle.std.proofs.Common.{◌<◌, refl, sym, subst}
use Rattle.std.specs.Prelude.{vec_capacity}
use Rattle.relay.specs.Places.{ComesFrom}
use Rattle.relay.proofs.Carrying.{still, keeps, listed, room_left}
use Rattle.relay.proofs.hand.Relay.keep.Goals as goal

pub returns-clause-hand : goal.returns-clause-hand
returns-clause-hand g c =
    let is = c.requires.hand in let number = g.J.Job.number in let stays = g.J.Job.stays in
    let of = subst (λ js. ComesFrom stays js c.args.job) (sym is.jobs) c.requires.job in
    still number stays _ _ _ is (refl, refl, refl) refl refl
    (listed number stays _ _ _ _ _ _ c.push_reserved.ensures.items c.push_reserved.ensures.capacity (keeps number stays _ _ _ _ _ c.requires.held of is.carries))

pub push_reserved-requires : goal.push_reserved-requires
push_reserved-requires g c =
    let kept = c.args.hand.now.kept in
    subst (λ n. n < vec_capacity kept) (sym kept.ok.0) (room_left g.J.Job.number g.J.Job.stays _ _ _ _ _ c.requires.held c.requires.hand.carries)

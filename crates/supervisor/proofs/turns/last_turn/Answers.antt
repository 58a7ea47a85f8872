use Rattle.supervisor.proofs.Standing.{never_parks}
use Rattle.supervisor.proofs.turns.last_turn.Goals as goal

pub unreachable-requires : goal.unreachable-requires
unreachable-requires c =
    never_parks c.args.texts.now c.args.scopes.now c.args.tasks.now c.requires.stand c.turn_of.new.scopes c.args.place c.turn_of.new.tasks c.turn_of.result c.in-Parked.field-0 c.in-Parked.is
    c.requires.there c.turn_of.ensures.stand c.requires.over c.turn_of.ensures.turned

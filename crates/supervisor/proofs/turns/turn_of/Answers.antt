use Rattle.supervisor.proofs.Standing.{still_standing, turned}
use Rattle.supervisor.proofs.turns.turn_of.Goals as goal

pub returns-clause-stand : goal.returns-clause-stand
returns-clause-stand c = still_standing c.args.texts.now c.args.scopes.now c.turn_at.new.scopes c.args.tasks.now c.args.place c.turn_at.new.task c.requires.stand c.turn_at.ensures.turns c.turn_at.ensures.far c.turn_at.ensures.front

pub returns-clause-turned : goal.returns-clause-turned
returns-clause-turned c = turned c.args.scopes.now c.turn_at.new.scopes c.args.tasks.now c.args.place c.turn_at.new.task c.turn_at.result c.turn_at.ensures.ends

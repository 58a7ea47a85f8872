use Rattle.relay.proofs.hand.Relay.give_back.Goals as goal

pub returns-then-is_done-clause-hand : goal.returns-then-is_done-clause-hand
returns-then-is_done-clause-hand g c = (c.keep.ensures.hand.0, c.keep.ensures.free)

pub returns-else-is_done-clause-hand : goal.returns-else-is_done-clause-hand
returns-else-is_done-clause-hand g c = (c.put.ensures.hand.0, c.put.ensures.free)

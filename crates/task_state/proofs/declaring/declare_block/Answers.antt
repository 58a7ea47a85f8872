use Rattle.m2_base.proofs.Kept.{Turns-completed, Turns-trans}
use Rattle.task_state.proofs.Stepping.{completed, completes}
use Rattle.task_state.proofs.declaring.declare_block.Goals as goal

pub declare_items-requires : goal.declare_items-requires
declare_items-requires g c = record { far = c.requires.far }

pub returns-in-Err-clause-turns : goal.returns-in-Err-clause-turns
returns-in-Err-clause-turns g c = c.declare_items.ensures.turns

pub returns-in-Err-clause-far : goal.returns-in-Err-clause-far
returns-in-Err-clause-far g c = c.declare_items.ensures.far

pub returns-in-Err-clause-stops : goal.returns-in-Err-clause-stops
returns-in-Err-clause-stops g c = c.in-Err.ensures.stops

pub complete-requires : goal.complete-requires
complete-requires g c = completes (g.S.Scopes.state c.declare_items.new.scopes) c.args.block.now c.declare_items.new.collected c.declare_items.ensures.far c.in-Ok.ensures.all

pub returns-clause-turns : goal.returns-clause-turns
returns-clause-turns g c = Turns-trans c.declare_items.ensures.turns (Turns-completed c.complete.ensures)

pub returns-clause-complete : goal.returns-clause-complete
returns-clause-complete g c = completed c.args.block.now c.declare_items.new.collected c.declare_items.ensures.far c.in-Ok.ensures.all c.complete.ensures

use Rattle.supervisor.specs.Stands.{AreOverBefore, HasGrown, IsStand}
use Rattle.supervisor.proofs.turns.last_turns.Given as goal

-- the tasks before this place are done
abbrev pub invariant-loop-place : goal.invariant-loop-place
invariant-loop-place l = record {
  stand : IsStand l.texts l.scopes l.tasks;
  grown : HasGrown l.fn.scopes l.scopes;
  over : AreOverBefore l.place l.tasks;
}

use Rattle.supervisor.specs.Stands.{HasGrown, IsStand}
use Rattle.supervisor.proofs.turns.turns_named.Given as goal

abbrev pub invariant-loop-stream : goal.invariant-loop-stream
invariant-loop-stream l = record {
  stand : IsStand l.texts l.scopes l.tasks;
  grown : HasGrown l.fn.scopes l.scopes;
}

use Rattle.decl_sem.proofs.Parameters.{FormalsGo}
use Rattle.decl_sem.proofs.formals.formals_in.Given as goal

abbrev pub invariant-loop-formal : goal.invariant-loop-formal
invariant-loop-formal g l = FormalsGo (g.S.Scopes.state l.fn.scopes) (g.S.Scopes.state l.scopes) l.fn.made l.made l.site l.own l.formals l.formal-index

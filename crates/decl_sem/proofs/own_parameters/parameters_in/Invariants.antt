use Rattle.decl_sem.proofs.OwnParameterLists.{ParametersGo}
use Rattle.decl_sem.proofs.own_parameters.parameters_in.Given as goal

abbrev pub invariant-loop-name : goal.invariant-loop-name
invariant-loop-name g l = ParametersGo (g.S.Scopes.state l.fn.scopes) (g.S.Scopes.state l.scopes) l.fn.made l.made l.site l.section l.elem l.of l.fn.from l.names l.name-index l.next

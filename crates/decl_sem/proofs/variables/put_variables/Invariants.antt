use Rattle.decl_sem.proofs.VariableLists.{HasVariables}
use Rattle.decl_sem.proofs.variables.put_variables.Given as goal

abbrev pub invariant-loop-name : goal.invariant-loop-name
invariant-loop-name g l = HasVariables (g.S.Scopes.state l.scopes) l.site l.fn.made l.made l.of l.size l.cell l.names l.name-index l.next

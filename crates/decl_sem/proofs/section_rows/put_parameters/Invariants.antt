use Rattle.decl_sem.proofs.ParameterLists.{HasParameters}
use Rattle.decl_sem.proofs.section_rows.put_parameters.Given as goal

abbrev pub invariant-loop-name : goal.invariant-loop-name
invariant-loop-name g l = HasParameters (g.S.Scopes.state l.scopes) l.site l.fn.made l.made l.own l.by_ref l.of l.names l.name-index

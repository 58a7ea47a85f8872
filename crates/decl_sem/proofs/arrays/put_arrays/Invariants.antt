use Rattle.decl_sem.proofs.ArrayLists.{ArraysGo}
use Rattle.decl_sem.proofs.arrays.put_arrays.Given as goal

abbrev pub invariant-loop-index : goal.invariant-loop-index
invariant-loop-index g l = ArraysGo (g.S.Scopes.state l.fn.scopes) (g.S.Scopes.state l.scopes) l.fn.made l.made l.site l.at l.indexes l.index-iterator.iter.rest.now l.fn.of l.array

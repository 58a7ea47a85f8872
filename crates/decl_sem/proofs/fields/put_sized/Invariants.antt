use Rattle.decl_sem.proofs.FieldLists.{HasFields}
use Rattle.decl_sem.proofs.fields.put_sized.Given as goal

abbrev pub invariant-loop-name : goal.invariant-loop-name
invariant-loop-name g l = HasFields (g.S.Scopes.state l.scopes) l.site l.fn.made l.made l.own l.of l.size l.offset l.names l.name-index l.next

use Rattle.std.specs.Prelude.{unwrap_or}
use Rattle.decl_sem.proofs.PutMembers.{ArePut}
use Rattle.decl_sem.proofs.imports.put_members.Given as goal

-- the aliases of those members that are put
abbrev pub invariant-loop-member : goal.invariant-loop-member
invariant-loop-member l = ArePut l.at (unwrap_or l.site.item 0) l.fn.made l.made l.brought.items l.members l.member-index

use Rattle.decl_sem.proofs.OwnHeadings.{OwnSectionsGo}
use Rattle.decl_sem.proofs.own_headings.sections_in.Given as goal

abbrev pub invariant-loop-section : goal.invariant-loop-section
invariant-loop-section g l = OwnSectionsGo (g.S.Scopes.state l.fn.scopes) (g.S.Scopes.state l.scopes) l.fn.made l.made l.site l.fn.from l.sections l.section-index l.next

use Rattle.decl_sem.proofs.SectionLists.{SectionsGo}
use Rattle.decl_sem.proofs.section_rows.sections_rows.Given as goal

abbrev pub invariant-loop-section : goal.invariant-loop-section
invariant-loop-section g l = SectionsGo (g.S.Scopes.state l.fn.scopes) (g.S.Scopes.state l.scopes) l.fn.made l.made l.site l.own l.sections l.section-index

use Rattle.std.proofs.Common.{◌≡◌, length, subst, arith}
use Rattle.decl_sem.proofs.Asking.{first_made}
use Rattle.decl_sem.proofs.Pieces.{goes_start}
use Rattle.decl_sem.proofs.SectionLists.{SectionsGo, all_sections, next_making, one_more_section, section_read, sections_failed, sections_waiting}
use Rattle.decl_sem.proofs.section_rows.sections_rows.Goals as goal

pub loop-section-init : goal.loop-section-init
loop-section-init g c = goes_start c.requires.making

pub section_in-requires-clause-making : goal.section_in-requires-clause-making
section_in-requires-clause-making g c = next_making c.args.own c.args.sections.now c.loop-section.section-index c.section-item.result c.loop-section-test.true c.section-item.is c.loop-section.invariant

pub section_in-requires-clause-read : goal.section_in-requires-clause-read
section_in-requires-clause-read g c = section_read c.args.site.now.texts.now.names c.args.sections.now c.loop-section.section-index c.section-item.result c.loop-section-test.true c.section-item.is c.requires.read

pub returns-in-Err : goal.returns-in-Err
returns-in-Err g c = sections_failed c.args.own c.args.sections.now c.loop-section.section-index c.section-item.result c.loop-section-test.true c.section-item.is c.in-Err.memory c.loop-section.invariant c.in-Err.ensures

pub returns-in-DontKnowYet : goal.returns-in-DontKnowYet
returns-in-DontKnowYet g c = sections_waiting c.args.own c.args.sections.now c.loop-section.section-index c.section-item.result c.loop-section-test.true c.section-item.is c.loop-section.invariant (rw c.in-DontKnowYet.is at c.in-Ok.ensures)

pub loop-section-preserved : goal.loop-section-preserved
loop-section-preserved g c = one_more_section c.args.own c.args.sections.now c.loop-section.section-index c.section-item.result c.loop-section-test.true c.section-item.is c.loop-section.invariant (first_made c.in-Ok.is c.in-Known.is c.section_in.ensures)

pub returns : goal.returns
returns g c =
    let all : c.loop-section.section-index ≡ length c.args.sections.now = let h = c.loop-section-test.false in let e = c.loop-section.auto.section-index-end in omega arith in
    all_sections c.args.own c.args.sections.now (subst (λ k. SectionsGo (g.S.Scopes.state c.args.scopes.now) (g.S.Scopes.state c.loop-section.scopes) c.args.made.now c.loop-section.made c.args.site.now c.args.own c.args.sections.now k) all c.loop-section.invariant)

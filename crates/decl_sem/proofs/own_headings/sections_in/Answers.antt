use Rattle.std.proofs.Common.{arith}
use Rattle.decl_sem.proofs.Asking.{first_made}
use Rattle.decl_sem.proofs.OwnHeadings.{all_sections, no_sections, one_section, section_making, sections_failed, sections_waiting}
use Rattle.decl_sem.proofs.SectionLists.{section_read}
use Rattle.decl_sem.proofs.own_headings.sections_in.Goals as goal

pub loop-section-init : goal.loop-section-init
loop-section-init g c = no_sections c.args.from c.requires.making c.requires.cells

pub section_in-requires-clause-making : goal.section_in-requires-clause-making
section_in-requires-clause-making g c = section_making c.loop-section.section-index c.section-item.result c.loop-section-test.true c.section-item.is c.loop-section.invariant

pub section_in-requires-clause-read : goal.section_in-requires-clause-read
section_in-requires-clause-read g c = section_read c.args.site.now.texts.now.names c.args.sections.now c.loop-section.section-index c.section-item.result c.loop-section-test.true c.section-item.is c.requires.read

pub section_in-requires-clause-cells : goal.section_in-requires-clause-cells
section_in-requires-clause-cells g c = c.loop-section.invariant.cells

pub returns-in-Err : goal.returns-in-Err
returns-in-Err g c = sections_failed c.loop-section.section-index c.section-item.result c.loop-section-test.true c.section-item.is c.loop-section.invariant c.in-Err.memory c.in-Err.ensures

pub returns-in-DontKnowYet : goal.returns-in-DontKnowYet
returns-in-DontKnowYet g c = sections_waiting c.loop-section.section-index c.section-item.result c.loop-section-test.true c.section-item.is c.loop-section.invariant (rw c.in-DontKnowYet.is at c.in-Ok.ensures)

pub loop-section-preserved : goal.loop-section-preserved
loop-section-preserved g c = one_section c.loop-section.section-index c.section-item.result c.loop-section-test.true c.section-item.is c.loop-section.invariant (first_made c.in-Ok.is c.in-Known.is c.section_in.ensures)

pub returns : goal.returns
returns g c = all_sections c.loop-section.section-index (let h = c.loop-section-test.false in let e = c.loop-section.auto.section-index-end in omega arith) c.loop-section.invariant

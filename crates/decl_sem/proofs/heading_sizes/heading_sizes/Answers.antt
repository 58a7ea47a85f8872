use Rattle.std.proofs.Common.{◌+◌, ◌<◌, ◌^◌, length, subst, sym}
use Rattle.m2_base.specs.Statics.ProcedureRows.{section_cells}
use Rattle.m2_base.specs.Views.{section_view}
use Rattle.m2_base.specs.declared.trees.declarations.Section.{Section}
use Rattle.decl_sem.proofs.HeadingSums.{room_for_cells, room_for_count}
use Rattle.decl_sem.proofs.heading_sizes.heading_sizes.Goals as goal

pub with_section-sizes-requires-clause-cells : goal.with_section-sizes-requires-clause-cells
with_section-sizes-requires-clause-cells c =
    subst (λ (d : Section). c.loop-section.sizes.cells + section_cells (section_view d) < 2 ^ 32) (sym c.section-item.is)
    (room_for_cells c.loop-section.sizes c.args.sections.now c.loop-section.section-index c.section-item.result c.loop-section-test.true c.requires c.loop-section.invariant)

pub with_section-sizes-requires-clause-count : goal.with_section-sizes-requires-clause-count
with_section-sizes-requires-clause-count c =
    subst (λ (d : Section). c.loop-section.sizes.count + length d.names.items < 2 ^ 32) (sym c.section-item.is)
    (room_for_count c.loop-section.sizes c.args.sections.now c.loop-section.section-index c.section-item.result c.loop-section-test.true c.requires c.loop-section.invariant)

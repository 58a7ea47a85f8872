use Rattle.std.proofs.Common.{◌≡◌, ◌++◌, take}
use Rattle.std.specs.Prelude.{flat_map}
use Rattle.m2_base.specs.Statics.Shapes.{section_shapes}
use Rattle.m2_base.specs.Views.{section_view}
use Rattle.decl_sem.proofs.shapes.put_sections.Given as goal

abbrev pub invariant-loop-section : goal.invariant-loop-section
invariant-loop-section l = l.shapes ≡ l.fn.shapes ++ flat_map (λ s. section_shapes (section_view s)) (take l.section-index l.sections)

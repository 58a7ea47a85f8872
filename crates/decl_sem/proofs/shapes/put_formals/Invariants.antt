use Rattle.std.proofs.Common.{◌≡◌, ◌++◌, take}
use Rattle.std.specs.Prelude.{flat_map}
use Rattle.m2_base.specs.Statics.Shapes.{formal_shapes}
use Rattle.decl_sem.proofs.shapes.put_formals.Given as goal

abbrev pub invariant-loop-formal : goal.invariant-loop-formal
invariant-loop-formal l = l.shapes ≡ l.fn.shapes ++ flat_map formal_shapes (take l.formal-index l.formals)
